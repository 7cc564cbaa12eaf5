-- What a removal leaves are the exact words of its meaning.
use Rattle.std.proofs.Common.{◌≡◌, ℕ, Bool, true, false, cond, List, is_some, inl, inr, refl, sym, ap, ap₂, subst, ◌∙◌}
use Rattle.std.proofs.lemmas.Bool.{cases_eq}
use Rattle.cx_base.specs.Store.{Store}
use Rattle.doc_model.specs.Meaning.{document_at, without_key}
use Rattle.doc_model.specs.Revisions.{RevisedStore, removed}
use Rattle.doc_model.proofs.Stores.{IsStore-without_key}
use Rattle.avl_words.specs.Words.{root}
use Rattle.index_validation.specs.Layout.{head_of, IsRevision, StandsFor, IsIndex}
use Rattle.index_validation.specs.Reading.{revised_in}
use Rattle.index_validation.proofs.LawfulWords.{store_is}
use Rattle.index_validation.proofs.Revisions.{triples_of}
use Rattle.word_index.specs.Changes.{IsRemoved}
use Rattle.word_index.specs.Exact.{order_in, node_at, with_node_cut, with_pair_given, is_key_in, with_key_removed}
use Rattle.word_index.proofs.Cutting.{cut_is, removed_stands}
use Rattle.word_index.proofs.Inserting.{missing_key, here_key, node_at_is}
use Rattle.word_index.proofs.Splits.{without_nothing}
use Rattle.word_index.proofs.KeyPlaces.{walk_end, none_at, place_is_at}
use Rattle.word_index.proofs.Triples.{StandsWith, removed_at, triples_apart, stands_with, stands_again, removed_revisions, revisions_of}

module _ (key x : List ℕ) (store : Store) (s : StandsFor x 2 store) where
  abbrev RepresentsTree : List ℕ → Type 0
  RepresentsTree w = StandsWith w s.last (without_key key store) (removed_at key (triples_of s.places store))

  -- the words after a removal stand for the store without the key, whether it was there or not
  without_by : (b : Bool) → is_some (document_at key store) ≡ b → RepresentsTree (cond b (with_pair_given (node_at key x) (with_node_cut key x)) x)
  without_by b e =
      let node = root (walk_end (order_in key x) s.tree).1 in
      elim (cases_eq node 0) [
        | inl z ↦
            let m = none_at x key 2 store s (sym z) in
            let f : false ≡ b = sym (missing_key x key key 2 store s m) ∙ e in
            let same : store ≡ without_key key store = m.split.store_is ∙ without_nothing key m.split.lower m.split.others m.below m.above ∙ ap (without_key key) (sym m.split.store_is) in
            let are = ap₂ triples_of m.split.places_are m.split.store_is in
            let triples_stay : triples_of s.places store ≡ removed_at key (triples_of s.places store) =
            are ∙ triples_apart x key m.split.front m.split.rest m.split.lower m.split.others m.split.placed_front m.below m.above ∙ ap (removed_at key) (sym are) in
            subst (λ b. RepresentsTree (cond b (with_pair_given (node_at key x) (with_node_cut key x)) x)) f
            (subst (λ st. StandsWith x s.last st (removed_at key (triples_of s.places store))) same (subst (StandsWith x s.last store) triples_stay (stands_with x store s)))
        | inr n ↦
            let h = place_is_at x key 2 store s node refl n in
            let t : true ≡ b = sym (here_key x key key 2 store s node h) ∙ e in
            let w = with_pair_given (node_at key x) (with_node_cut key x) in
            subst (λ b. RepresentsTree (cond b w x)) t
            (stands_again w s.last (without_key key store) (removed_at key (triples_of s.places store))
            (removed_stands x key 2 store s node h w (ap (λ n. with_pair_given n (with_node_cut key x)) (sym (node_at_is x key key 2 store s)) ∙ ap (with_pair_given node) (cut_is x key 2 store s)))
            (IsStore-without_key key store s.lawful) (removed_revisions (IsRevision (head_of 2 s.last)) key (triples_of s.places store) (revisions_of x store s)))
      ]

  pub without_stands : RepresentsTree (with_key_removed key x)
  unfolding is_key_in with_key_removed
  without_stands = without_by (is_key_in key x) (ap (λ st. is_some (document_at key st)) (sym (store_is x 2 store s)))

pub removed_is : (key x : List ℕ) → IsRemoved key (is_key_in key x) x (with_key_removed key x)
unfolding is_key_in
removed_is key x store s = record { after = (without_stands key x store s).stands; there = ap (λ st. is_some (document_at key st)) (store_is x 2 store s) }

pub removed_revised : (key x : List ℕ) → IsIndex x → revised_in (with_key_removed key x) ≡ removed key (revised_in x)
removed_revised key x i =
    let make : RevisedStore → RevisedStore = λ r. removed key r in
    (without_stands key x i.store i.stands).revised ∙ ap make (sym (stands_with x i.store i.stands).revised)
