-- Nodes of the pairs of a store, one after the other in the order of a tree.
use Rattle.std.proofs.Common.{◌≡◌, ◌≤◌, ℕ, Bool, List, [], ◌∷◌, ◌++◌, length, refl, sym, ap, subst, ◌∙◌, arith}
use Rattle.std.specs.List.{All, flat_map}
use Rattle.std.specs.declared.cmp.Ordering.TheVariants.{Less}
use Rattle.std.proofs.lemmas.List.{append_assoc, append-nil, map-append}
use Rattle.std.proofs.lemmas.List.Concat.{flat_map-append}
use Rattle.std.proofs.lemmas.List.Elements.{All-nil, All-cons, All-head, All-tail, All-push, All-weaker}
use Rattle.cx_base.specs.Store.{Store, IsStore, IsKey, IsDocument, KeysRise, key_cmp}
use Rattle.doc_model.proofs.Order.{below_both}
use Rattle.avl_words.specs.Lines.{word_of}
use Rattle.index_validation.specs.Order.{nodes_in_order}
use Rattle.index_validation.specs.Layout.{PairLayout, lines_at, Placed, nodes_of, IsRevision, AreRevisions}
use Rattle.index_validation.specs.Lawful.{head_in, Marks, CanMark, HasPair, NoPair, NoNodes}
use Rattle.index_validation.proofs.Lines.{all_middle}
use Rattle.index_validation.proofs.Marking.{marks_none, marks_then, marks_same, can_mark_rest, can_mark_front}
use Rattle.index_validation.proofs.OneStore.{IsPair, pairs_of, IsFront, placed_front, placed_append}

-- a key is above the last one exactly where it is above all before
pub record IsLast (last : List ℕ) (lower : Store) : Type 0 where
  pub above : (key : List ℕ) → key_cmp last key ≡ Less → All (λ p. key_cmp p.0 key ≡ Less) lower
  pub below : (key : List ℕ) → 1 ≤ length key → All (λ p. key_cmp p.0 key ≡ Less) lower → key_cmp last key ≡ Less

first_above : (key : List ℕ) → 1 ≤ length key → key_cmp [] key ≡ Less
first_above [] some = absurd (omega arith)
first_above (b ∷ key) some = refl

last_none : IsLast [] []
last_none = record { above = λ key h. All-nil _; below = λ key some h. first_above key some }

last_more : (last : List ℕ) (lower : Store) (key document : List ℕ) → IsLast last lower → key_cmp last key ≡ Less → IsLast key (lower ++ (key, document) ∷ [])
last_more last lower key document l rises = record {
  above = λ other h. (
      All-push (λ p. key_cmp p.0 other ≡ Less) lower (key, document)
      (All-weaker (λ p. key_cmp p.0 key ≡ Less) (λ p. key_cmp p.0 other ≡ Less) (λ p b. below_both p.0 key other b h) lower (l.above key rises)) h);
  below = λ other some h. all_middle (λ p. key_cmp p.0 other ≡ Less) lower [] (key, document) h;
}

rises_push : (lower : Store) (pair : List ℕ × List ℕ) → KeysRise lower → All (λ p. key_cmp p.0 pair.0 ≡ Less) lower → KeysRise (lower ++ pair ∷ [])
rises_push [] pair r below = (All-nil _, tt)
rises_push (p ∷ lower) pair r below = (
  All-push (λ q. key_cmp p.0 q.0 ≡ Less) lower pair r.0 (All-head (λ q. key_cmp q.0 pair.0 ≡ Less) p lower below),
  rises_push lower pair r.1 (All-tail (λ q. key_cmp q.0 pair.0 ≡ Less) p lower below),
)

rises_at : (lower others : Store) (pair : List ℕ × List ℕ) → KeysRise (lower ++ pair ∷ others) → All (λ p. key_cmp p.0 pair.0 ≡ Less) lower
rises_at [] others pair r = All-nil _
rises_at (p ∷ lower) others pair r =
    All-cons (λ q. key_cmp q.0 pair.0 ≡ Less) p lower (all_middle (λ q. key_cmp p.0 q.0 ≡ Less) lower others pair r.0) (rises_at lower others pair r.1)

-- the pairs of the first nodes are found, and the other nodes are to come
pub record FoundSoFar (ws more : List ℕ) (last : List ℕ) (old now : List Bool) : Type 0 where
  pub front : List PairLayout
  pub lower : Store
  pub placed : Placed ws front lower
  pub nodes : nodes_of front ++ more ≡ nodes_in_order (word_of ws 0 1) ws
  pub lawful : IsStore lower
  pub revisions : AreRevisions (head_in ws) front
  pub is_last : IsLast last lower
  pub marks : Marks old (flat_map lines_at front) now

pub found_none : (ws more : List ℕ) (marks : List Bool) → more ≡ nodes_in_order (word_of ws 0 1) ws → FoundSoFar ws more [] marks marks
found_none ws more marks e = record {
  front = [];
  lower = [];
  placed = tt;
  nodes = e;
  lawful = record { rising = tt; keys = All-nil _; documents = All-nil _ };
  revisions = All-nil _;
  is_last = last_none;
  marks = marks_none marks;
}

nodes_push : (front : List PairLayout) (place : PairLayout) (more : List ℕ) → nodes_of (front ++ place ∷ []) ++ more ≡ nodes_of front ++ place.node ∷ more
nodes_push front place more = ap (λ u. u ++ more) (map-append (λ (p : PairLayout). p.node) front (place ∷ [])) ∙ append_assoc (nodes_of front) (place.node ∷ []) more

pub found_more : (ws more : List ℕ) (node : ℕ) (last key : List ℕ) (old now after : List Bool) → FoundSoFar ws (node ∷ more) last old now → HasPair ws node last now after key → FoundSoFar ws more key old after
found_more ws more node last key old now after f h =
    let pair : List ℕ × List ℕ = (key, h.document) in
    record {
      front = f.front ++ h.place ∷ [];
      lower = f.lower ++ pair ∷ [];
      placed = placed_append ws f.front (h.place ∷ []) f.lower (pair ∷ []) f.placed (h.is, tt);
      nodes = nodes_push f.front h.place more ∙ ap (λ n. nodes_of f.front ++ n ∷ more) (sym h.here) ∙ f.nodes;
      lawful = record {
        rising = rises_push f.lower pair f.lawful.rising (f.is_last.above key h.rises);
        keys = All-push (λ p. IsKey p.0) f.lower pair f.lawful.keys h.is_key;
        documents = All-push (λ p. IsDocument p.1) f.lower pair f.lawful.documents h.is_document;
      };
      revisions = All-push (λ (p : PairLayout). IsRevision (head_in ws) p.revision) f.front h.place f.revisions h.is_revision;
      is_last = last_more last f.lower key h.document f.is_last h.rises;
      marks = marks_same old after (flat_map lines_at f.front ++ (lines_at h.place ++ [])) (flat_map lines_at (f.front ++ h.place ∷ [])) (sym (flat_map-append lines_at f.front (h.place ∷ [])))
          (marks_then old now after (flat_map lines_at f.front) (lines_at h.place ++ []) f.marks (marks_same now after (lines_at h.place) (lines_at h.place ++ []) (sym (append-nil (lines_at h.place))) h.marks));
    }

-- what stands behind the nodes found, of any pairs at the tree's nodes
next_is_no_pair : (ws more : List ℕ) (node : ℕ) (last : List ℕ) (old now : List Bool) (f : FoundSoFar ws (node ∷ more) last old now) → NoPair ws node last now → (places : List PairLayout) (store : Store) → IsStore store → AreRevisions (head_in ws) places → CanMark old (flat_map lines_at places) →
    (b : IsFront ws (node ∷ more) f.front places f.lower store) (rest : List PairLayout) (others : Store) → rest ≡ b.rest → others ≡ b.others → nodes_of rest ≡ node ∷ more → Placed ws rest others → ⊥
next_is_no_pair ws more node last old now f none places store lawful revisions can b [] others e g n p = absurd (omega (arith, ap length n))
next_is_no_pair ws more node last old now f none places store lawful revisions can b (place ∷ rest) [] e g n p = absurd p
next_is_no_pair ws more node last old now f none places store lawful revisions can b (place ∷ rest) (pair ∷ others) e g n p =
    let here : place.node ≡ node = cc in
    let places_are : places ≡ f.front ++ place ∷ rest = b.places_are ∙ ap (λ u. f.front ++ u) (sym e) in
    let store_is : store ≡ f.lower ++ pair ∷ others = b.store_is ∙ ap (λ u. f.lower ++ u) (sym g) in
    let is = all_middle IsPair f.lower others pair (subst (All IsPair) store_is (pairs_of store lawful)) in
    let lines = subst (CanMark old) (flat_map-append lines_at f.front (place ∷ rest)) (subst (λ ps. CanMark old (flat_map lines_at ps)) places_are can) in
    let left = can_mark_rest old now (flat_map lines_at f.front) (lines_at place ++ flat_map lines_at rest) f.marks lines in
    let revision = all_middle (λ (p : PairLayout). IsRevision (head_in ws) p.revision) f.front rest place (subst (AreRevisions (head_in ws)) places_are revisions) in
    none place pair (sym here) p.0 revision is.0 is.1 (f.is_last.below pair.0 is.0.some (rises_at f.lower others pair (subst KeysRise store_is lawful.rising))) (can_mark_front now (lines_at place) (flat_map lines_at rest) left)

pub no_nodes_next : (ws more : List ℕ) (node : ℕ) (last : List ℕ) (old now : List Bool) → FoundSoFar ws (node ∷ more) last old now → NoPair ws node last now → NoNodes ws old
no_nodes_next ws more node last old now f none places store placed nodes lawful revisions can =
    let b = placed_front ws (node ∷ more) f.front places f.lower store f.placed placed (nodes ∙ sym f.nodes) (pairs_of f.lower f.lawful) (pairs_of store lawful) in
    next_is_no_pair ws more node last old now f none places store lawful revisions can b b.rest b.others refl refl b.nodes b.placed
