-- The revisions of the pairs that words stand for.
use Rattle.std.proofs.Common.{◌≡◌, ◌^◌, ◌<◌, ◌≤◌, ℕ, List, [], ◌∷◌, map, refl, sym, ap, subst, ◌∙◌, arith}
use Rattle.std.specs.List.{All}
use Rattle.std.proofs.lemmas.List.Elements.{All-nil, All-cons, All-head, All-tail, All-weaker}
use Rattle.cx_base.specs.Memory.{Words}
use Rattle.cx_base.specs.Store.{Store, IsStore}
use Rattle.cx_base.proofs.WordLemmas.{Words-at}
use Rattle.doc_model.specs.Revisions.{IsRevisedStore, pairs_in}
use Rattle.avl_words.specs.Tree.{items}
use Rattle.avl_words.specs.Exact.{tree_in}
use Rattle.avl_words.specs.Lines.{word_of}
use Rattle.index_validation.specs.Lawful.{IsLawful}
use Rattle.index_validation.specs.Layout.{PairLayout, Placed, nodes_of, head_of, IsRevision, StandsFor}
use Rattle.index_validation.specs.Reading.{pair_at, triple_at, store_in, revised_in, StandsForRevised, HasOneRevisedStore}
use Rattle.index_validation.proofs.LawfulWords.{nodes_read, store_is}

-- pairs at places, each with its revision
abbrev pub triples_of : List PairLayout → Store → List ((List ℕ × List ℕ) × ℕ)
triples_of [] store = []
triples_of (place ∷ places) [] = []
triples_of (place ∷ places) (pair ∷ store) = (pair, place.revision) ∷ triples_of places store

-- what holds of each revision
pub all_triples : (P : ℕ → Type 0) (places : List PairLayout) (store : Store) → All (λ place. P place.revision) places → All (λ t. P t.1) (triples_of places store)
all_triples P [] store all = All-nil _
all_triples P (place ∷ places) [] all = All-nil _
all_triples P (place ∷ places) (pair ∷ store) all =
    All-cons (λ t. P t.1) (pair, place.revision) (triples_of places store) (All-head (λ p. P p.revision) place places all) (all_triples P places store (All-tail (λ p. P p.revision) place places all))

pub all_places : (P : ℕ → Type 0) (ws : List ℕ) (places : List PairLayout) (store : Store) → Placed ws places store → All (λ t. P t.1) (triples_of places store) → All (λ place. P place.revision) places
all_places P ws [] store n all = All-nil _
all_places P ws (place ∷ places) [] n all = absurd n
all_places P ws (place ∷ places) (pair ∷ store) n all =
    All-cons (λ p. P p.revision) place places (All-head (λ t. P t.1) (pair, place.revision) (triples_of places store) all)
    (all_places P ws places store n.1 (All-tail (λ t. P t.1) (pair, place.revision) (triples_of places store) all))

-- the pairs with their revisions that are read off words are those that stand there
triples_are : (ws : List ℕ) (places : List PairLayout) (store : Store) → Placed ws places store → map (pair_at ws) (nodes_of places) ≡ store → map (triple_at ws) (nodes_of places) ≡ triples_of places store
triples_are ws [] store n e = refl
triples_are ws (p ∷ places) [] n e = absurd n
triples_are ws (p ∷ places) (q ∷ store) n e =
    let make : List ℕ × List ℕ → ℕ → (List ℕ × List ℕ) × ℕ = λ a r. (a, r) in
    let here : pair_at ws p.node ≡ q = cc in
    let rest : map (pair_at ws) (nodes_of places) ≡ store = cc in
    ap (λ x. x ∷ map (triple_at ws) (nodes_of places)) (ap (λ a. make a (word_of ws p.node 7)) here ∙ ap (make q) n.0.revised) ∙ ap (λ ts. (q, p.revision) ∷ ts) (triples_are ws places store n.1 rest)

pub triples_read : (ws : List ℕ) (version : ℕ) (store : Store) (s : StandsFor ws version store) → (revised_in ws).triples ≡ triples_of s.places store
unfolding revised_in store_in
triples_read ws version store s =
    let nodes = nodes_read ws version store s in
    ap (map (triple_at ws)) nodes ∙ triples_are ws s.places store s.arranged.nodes.pairs (ap (map (pair_at ws)) (sym nodes) ∙ store_is ws version store s)

pub last_read : (ws : List ℕ) (version : ℕ) (store : Store) (s : StandsFor ws version store) → (revised_in ws).last ≡ s.last
unfolding revised_in
last_read ws version store s = s.arranged.last_word

-- the pairs without their revisions
pairs_read : (ws nodes : List ℕ) → map (λ (t : (List ℕ × List ℕ) × ℕ). t.0) (map (triple_at ws) nodes) ≡ map (pair_at ws) nodes
pairs_read ws [] = refl
pairs_read ws (node ∷ nodes) = ap (λ ps. pair_at ws node ∷ ps) (pairs_read ws nodes)

pub pairs_are_read : (ws : List ℕ) → pairs_in (revised_in ws) ≡ store_in ws
unfolding revised_in store_in
pairs_are_read ws = pairs_read ws (items (tree_in ws))

pub pairs_are : (ws : List ℕ) (version : ℕ) (store : Store) → StandsFor ws version store → pairs_in (revised_in ws) ≡ store
pairs_are ws version store s = pairs_are_read ws ∙ store_is ws version store s

-- the store with its revisions
pub stands_revised : (ws : List ℕ) (store : Store) → StandsFor ws 2 store → StandsForRevised ws (revised_in ws)
stands_revised ws store s = record { pairs = subst (StandsFor ws 2) (sym (pairs_are ws 2 store s)) s; revised = refl }

pub has_one_revised_store : (ws : List ℕ) → IsLawful ws 2 → HasOneRevisedStore ws
has_one_revised_store ws l = record { stands = stands_revised ws l.0 l.1; only = λ other s. sym s.revised }

given_in : (last revision : ℕ) → IsRevision (head_of 2 last) revision → (1 ≤ revision) × (revision ≤ last)
given_in last revision r = (let from = r.0 in omega arith, r.1)

-- the store read off lawful words of version 2 is one with revisions from 1 to the last one given
pub is_revised_store : (ws : List ℕ) (n : ℕ) → IsLawful ws 2 → Words n ws → IsRevisedStore (revised_in ws)
is_revised_store ws n l w =
    let s = l.1 in
    let last = last_read ws 2 l.0 s in
    let all = all_triples (IsRevision (head_of 2 s.last)) s.places l.0 s.revisions in
    record {
      pairs = subst IsStore (sym (pairs_are ws 2 l.0 s)) s.lawful;
      fits = subst (λ k. k < 2 ^ 64) (s.arranged.last_word ∙ sym last) (Words-at n ws 6 w);
      given = subst (λ k. All (λ t. (1 ≤ t.1) × (t.1 ≤ k)) (revised_in ws).triples) (sym last)
          (subst (All (λ t. (1 ≤ t.1) × (t.1 ≤ s.last))) (sym (triples_read ws 2 l.0 s)) (All-weaker (λ t. IsRevision (head_of 2 s.last) t.1) (λ t. (1 ≤ t.1) × (t.1 ≤ s.last)) (λ t r. given_in s.last t.1 r) _ all));
    }
