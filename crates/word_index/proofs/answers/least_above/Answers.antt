use Rattle.std.proofs.Common.{◌≡◌, ℕ, List, [], ◌∷◌, refl, arith, rules}
use Rattle.cx_base.specs.Packing.{unpacked}
use Rattle.cx_base.specs.Store.{Store}
use Rattle.doc_model.specs.Meaning.{pairs_above}
use Rattle.cx_base.proofs.ReadLemmas.{Reads-weaker, Reads-then, always_read}
use Rattle.avl_words.proofs.Memories.{always_kept, found, loadable}
use Rattle.word_index.specs.Answers.{IsNodeOf, IsPackOf}
use Rattle.word_index.specs.Walk.{IsFirstNode}
use Rattle.word_index.proofs.KeyPlaces.{spot_above, there_first}
use Rattle.word_index.proofs.answers.least_above.Goals as goal

none_there : (ws : List ℕ) (node : ℕ) (pairs : Store) → node ≡ 0 → IsFirstNode ws node pairs → pairs ≡ []
none_there ws node [] e is = refl
none_there ws node (pair ∷ pairs) e is = absurd (let some = is.0 in omega arith)

key_of_first : (ws : List ℕ) (node len : ℕ) (words : List ℕ) (pairs : Store) → (node ≡ 0 → ⊥) → IsFirstNode ws node pairs →
    ((pair : List ℕ × List ℕ) → IsNodeOf ws node pair → IsPackOf 8 len words pair.0) → (pair : List ℕ × List ℕ) × (after : Store) × (pairs ≡ pair ∷ after) × IsPackOf 8 len words pair.0
key_of_first ws node len words [] some is packs = absurd (some is)
key_of_first ws node len words (pair ∷ pairs) some is packs = (pair, pairs, refl, packs pair is.1)

pub returns-then-end-eq0 : goal.returns-then-end-eq0
returns-then-end-eq0 g c =
    let end = c.in_ok-end.end in
    let key = unpacked c.args.key.now.len c.args.key.now.words in
    record {
      finds = found (Reads-weaker c.in_ok-end.ensures.finds.done (λ ws f version store s. none_there ws end.above (pairs_above key store) c.if-end-eq0.true (spot_above ws key f.nodes f.sides f.depth end.node end.above f.at version store s))) (search rules) (search rules) (search rules);
      visits = search rules;
    }

pub key_at-requires : goal.key_at-requires
key_at-requires g c =
    let end = c.in_ok-end.end in
    let key = unpacked c.args.key.now.len c.args.key.now.words in
    loadable (search rules) (always_read c.requires.all c.in_ok-end.ensures.finds.done
    (λ ws i f. there_first ws end.above (pairs_above key i.store) (spot_above ws key f.nodes f.sides f.depth end.node end.above f.at 2 i.store i.stands) c.if-end-eq0.false))

pub returns : goal.returns
returns g c =
    let end = c.in_ok-end.end in
    let key = unpacked c.args.key.now.len c.args.key.now.words in
    let least = c.in_ok-key.key in
    record {
      finds = found (Reads-then c.in_ok-end.ensures.finds.done c.in_ok-key.ensures.done
          (λ ws f k version store s. key_of_first ws end.above least.len least.words (pairs_above key store) c.if-end-eq0.false (spot_above ws key f.nodes f.sides f.depth end.node end.above f.at version store s) k)) (search rules) (search rules) (search rules);
      visits = always_kept c.in_ok-end.ensures.visits c.in_ok-key.ensures.kept;
    }

pub returns-in_err-key : goal.returns-in_err-key
returns-in_err-key g c =
    record {
      finds = search rules;
      visits = always_kept c.in_ok-end.ensures.visits c.in_err-key.ensures.kept;
    }
