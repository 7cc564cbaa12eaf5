-- The revision of a key where the walk to it ends.
use Rattle.std.proofs.Common.{false, ◌≡◌, ◌≢◌, ℕ, List, ◌∷◌, ◌++◌, Some, None, sym, ap, ap₂, ◌∙◌}
use Rattle.avl_words.specs.Lines.{word_of}
use Rattle.index_validation.specs.Layout.{IsIndex}
use Rattle.index_validation.specs.Reading.{revised_in}
use Rattle.index_validation.proofs.Revisions.{triples_of, triples_read}
use Rattle.word_index.specs.Answers.{IsFoundIn}
use Rattle.word_index.specs.Walk.{AtEnd}
use Rattle.word_index.proofs.KeyPlaces.{spot_none, spot_place, spot_missing, spot_found}
use Rattle.word_index.proofs.Triples.{revision_missing, revision_there}

-- where the walk to a key ended at no node, the store has no pair of the key, and the words no revision of it
pub found_none : (ws key : List ℕ) (node above : ℕ) → IsIndex ws → AtEnd false key node above ws → node ≡ 0 → IsFoundIn ws key None
found_none ws key node above i e z =
    let s = i.stands in
    let m = spot_none ws key e.nodes e.sides e.depth node above 2 i.store s (e.at 2 i.store s) z in
    record {
      node = spot_missing ws key e.nodes e.sides e.depth node above e.at z;
      revision = revision_missing ws key m.split.front m.split.rest m.split.lower m.split.others m.split.placed_front m.below m.above (revised_in ws)
          (triples_read ws 2 i.store s ∙ ap₂ triples_of m.split.places_are m.split.store_is);
    }

-- where the walk to a key ended at a node, that is the node of the key's pair, and its word 7 is the key's revision
pub found_there : (ws key : List ℕ) (node above : ℕ) → IsIndex ws → AtEnd false key node above ws → node ≢ 0 → IsFoundIn ws key (Some node)
found_there ws key node above i e n =
    let s = i.stands in
    let h = spot_place ws key 2 i.store s e.nodes e.sides e.depth node above (e.at 2 i.store s) n in
    let is : i.store ≡ h.at.lower ++ (key, h.document) ∷ h.at.after = h.at.store_is ∙ ap (λ p. h.at.lower ++ p ∷ h.at.after) h.pair_is in
    record {
      node = spot_found ws key e.nodes e.sides e.depth node above e.at n;
      revision = revision_there ws key h.at.front h.at.rest h.at.lower h.at.after h.at.placed_front h.below h.above h.document h.at.place (revised_in ws)
          (triples_read ws 2 i.store s ∙ ap₂ triples_of h.at.places_are is) ∙ ap Some (sym (ap (λ k. word_of ws k 7) h.at.node_is ∙ h.at.is.revised));
    }
