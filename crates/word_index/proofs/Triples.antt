-- The pairs at places with their revisions, and what a change of a pair does to them.
use Rattle.std.proofs.Common.{◌≡◌, ◌≢◌, ◌/◌, ◌≤◌, ℕ, cond, ltb, leb, ◌&&◌, List, [], ◌∷◌, ◌++◌, length, get_or, inr, Some, None, refl, sym, ap, ap₂, subst, ◌∙◌, arith}
use Rattle.std.specs.List.{flat_map, All, find}
use Rattle.std.specs.Option.{option_map}
use Rattle.std.specs.Ordering.{is_eq}
use Rattle.std.specs.declared.cmp.Ordering.TheVariants.{Less}
use Rattle.std.proofs.lemmas.Bool.Decides.{nat_tests}
use Rattle.std.proofs.lemmas.List.{get_or-set_same, get_or-set_other, length-set}
use Rattle.std.proofs.lemmas.List.Elements.{All-nil, All-cons, All-head, All-tail, All-append, All-filter, All-weaker}
use Rattle.cx_base.specs.Store.{Store, IsStore, key_cmp}
use Rattle.doc_model.specs.Revisions.{RevisedStore, revision_at, next_revision, triples_below, triples_above}
use Rattle.avl_words.specs.Tree.{Tree}
use Rattle.avl_words.specs.Lines.{word_of, with_word, IsPartLength}
use Rattle.index_validation.specs.Layout.{IsChain, PairLayout, lines_at, Placed, Nodes, RevisionHead, head_of, IsRevision, IsLaidOut, StandsFor}
use Rattle.index_validation.specs.Lawful.{head_in}
use Rattle.index_validation.specs.Reading.{revised_in}
use Rattle.index_validation.proofs.Revisions.{triples_of, all_triples, all_places, triples_read, last_read}
use Rattle.word_index.specs.Changes.{SameLine}
use Rattle.word_index.proofs.Frames.{chain_same, nodes_same}
use Rattle.word_index.proofs.Splits.{missing_in, there_in, over_split, under_split, over_behind, under_behind}
use Rattle.word_index.proofs.Taking.{from_one, header_stored}

abbrev pub Triple : Type 0
Triple = (List ℕ × List ℕ) × ℕ

abbrev pub key_of_triple : Triple → List ℕ
key_of_triple t = t.0.0

-- the pairs with a document written at a key with a revision, and the pairs without a key
abbrev pub written_at : List ℕ → List ℕ → ℕ → List Triple → List Triple
written_at key document revision triples = triples_below key triples ++ ((key, document), revision) ∷ triples_above key triples

abbrev pub removed_at : List ℕ → List Triple → List Triple
removed_at key triples = triples_below key triples ++ triples_above key triples

-- the pairs with their revisions in two parts are those of the one part and then those of the other
triples_append : (ws : List ℕ) (front rest : List PairLayout) (lower others : Store) → Placed ws front lower → triples_of (front ++ rest) (lower ++ others) ≡ triples_of front lower ++ triples_of rest others
triples_append ws [] rest [] others n = refl
triples_append ws [] rest (q ∷ lower) others n = absurd n
triples_append ws (p ∷ front) rest [] others n = absurd n
triples_append ws (p ∷ front) rest (q ∷ lower) others n = ap (λ ts. (q, p.revision) ∷ ts) (triples_append ws front rest lower others n.1)

all_keys : (P : List ℕ → Type 0) (places : List PairLayout) (store : Store) → All (λ p. P p.0) store → All (λ (t : Triple). P t.0.0) (triples_of places store)
all_keys P [] store all = All-nil _
all_keys P (p ∷ places) [] all = All-nil _
all_keys P (p ∷ places) (q ∷ store) all =
    All-cons (λ (t : Triple). P t.0.0) (q, p.revision) (triples_of places store) (All-head (λ p. P p.0) q store all) (all_keys P places store (All-tail (λ p. P p.0) q store all))

-- around a key, at which there is a pair or none
module _ (ws key : List ℕ) (front rest : List PairLayout) (lower others : Store) (placed : Placed ws front lower) (below : All (λ p. key_cmp p.0 key ≡ Less) lower) (above : All (λ p. key_cmp key p.0 ≡ Less) others) where
  abbrev left : List Triple
  left = triples_of front lower

  abbrev right : List Triple
  right = triples_of rest others

  left_under : All (λ (t : Triple). key_cmp t.0.0 key ≡ Less) left
  left_under = all_keys (λ k. key_cmp k key ≡ Less) front lower below

  right_over : All (λ (t : Triple). key_cmp key t.0.0 ≡ Less) right
  right_over = all_keys (λ k. key_cmp key k ≡ Less) rest others above

  -- where there is no pair at the key
  apart_below : triples_below key (triples_of (front ++ rest) (lower ++ others)) ≡ left
  apart_below = ap (triples_below key) (triples_append ws front rest lower others placed) ∙ under_split key_of_triple key left right left_under right_over

  apart_above : triples_above key (triples_of (front ++ rest) (lower ++ others)) ≡ right
  apart_above = ap (triples_above key) (triples_append ws front rest lower others placed) ∙ over_split key_of_triple key left right left_under right_over

  pub triples_apart : triples_of (front ++ rest) (lower ++ others) ≡ removed_at key (triples_of (front ++ rest) (lower ++ others))
  triples_apart = triples_append ws front rest lower others placed ∙ sym (ap₂ (λ a b. a ++ b) apart_below apart_above)

  pub triples_added : (document : List ℕ) (place : PairLayout) (revision : ℕ) → place.revision ≡ revision →
      triples_of (front ++ place ∷ rest) (lower ++ (key, document) ∷ others) ≡ written_at key document revision (triples_of (front ++ rest) (lower ++ others))
  triples_added document place revision e =
      let make : ℕ → Triple = λ r. ((key, document), r) in
      triples_append ws front (place ∷ rest) lower ((key, document) ∷ others) placed ∙ ap (λ r. left ++ make r ∷ right) e ∙ sym (ap₂ (λ a b. a ++ make revision ∷ b) apart_below apart_above)

  pub revision_missing : (store : RevisedStore) → store.triples ≡ triples_of (front ++ rest) (lower ++ others) → revision_at key store ≡ None
  revision_missing store e =
      ap (λ (ts : List Triple). option_map (λ (t : Triple). t.1) (find (λ (t : Triple). is_eq (key_cmp t.0.0 key)) ts)) (e ∙ triples_append ws front rest lower others placed)
      ∙ ap (λ o. option_map (λ (t : Triple). t.1) o) (missing_in key_of_triple key left right left_under right_over)

  -- where the pair at the key has this document
  module _ (old : List ℕ) (place : PairLayout) where
    abbrev whole : List Triple
    whole = triples_of (front ++ place ∷ rest) (lower ++ (key, old) ∷ others)

    abbrev here : Triple
    here = ((key, old), place.revision)

    behind_below : triples_below key whole ≡ left
    behind_below = ap (triples_below key) (triples_append ws front (place ∷ rest) lower ((key, old) ∷ others) placed) ∙ under_behind key_of_triple key here refl left right left_under right_over

    behind_above : triples_above key whole ≡ right
    behind_above = ap (triples_above key) (triples_append ws front (place ∷ rest) lower ((key, old) ∷ others) placed) ∙ over_behind key_of_triple key here refl left right left_under right_over

    pub triples_without : triples_of (front ++ rest) (lower ++ others) ≡ removed_at key whole
    triples_without = triples_append ws front rest lower others placed ∙ sym (ap₂ (λ a b. a ++ b) behind_below behind_above)

    pub revision_there : (store : RevisedStore) → store.triples ≡ whole → revision_at key store ≡ Some place.revision
    revision_there store e =
        ap (λ (ts : List Triple). option_map (λ (t : Triple). t.1) (find (λ (t : Triple). is_eq (key_cmp t.0.0 key)) ts)) (e ∙ triples_append ws front (place ∷ rest) lower ((key, old) ∷ others) placed)
        ∙ ap (λ o. option_map (λ (t : Triple). t.1) o) (there_in key_of_triple key here refl left right left_under)

    -- where one pair is replaced by one with another document and revision, these are written at its key, and the other pairs are as they were
    pub triples_replaced : (document : List ℕ) (other : PairLayout) → triples_of (front ++ other ∷ rest) (lower ++ (key, document) ∷ others) ≡ written_at key document other.revision whole
    triples_replaced document other =
        triples_append ws front (other ∷ rest) lower ((key, document) ∷ others) placed ∙ sym (ap₂ (λ a b. a ++ ((key, document), other.revision) ∷ b) behind_below behind_above)

-- words in which the pairs of a store stand, which are these with their revisions
pub record HasTriples (words : List ℕ) (head : RevisionHead) (store : Store) (triples : List Triple) : Type 0 where
  pub tree : Tree ℕ
  pub places : List PairLayout
  pub given : List ℕ
  pub arranged : IsLaidOut words head store tree places given []
  pub triples_are : triples_of places store ≡ triples

-- no word changed but those of the header that have the version and the last revision
pub record IsHeaded (before now : List ℕ) : Type 0 where
  pub long : length now ≡ length before
  pub header : (i : ℕ) → i ≢ 0 → i ≢ 6 → get_or now i 0 ≡ get_or before i 0
  pub lines : (lines : List ℕ) → All (λ x. 1 ≤ x) lines → All (SameLine before now) lines

-- another version or last revision in the header leaves the pairs, the tree and the lines given back as they were
pub headed_arranged : (x y : List ℕ) (head : RevisionHead) (store : Store) (tree : Tree ℕ) (places : List PairLayout) (given loose : List ℕ) → IsHeaded x y → IsLaidOut x head store tree places given loose → IsLaidOut y (head_in y) store tree places given loose
headed_arranged x y head store tree places given loose h a =
    let some = from_one x head store tree places given loose a in
    let end = h.header 3 (omega arith) (omega arith) in
    record {
      sized = subst IsPartLength (sym h.long) a.sized;
      version_word = refl;
      nodes = subst (λ r. Nodes y r tree places store) (sym (h.header 1 (omega arith) (omega arith))) (nodes_same x y (word_of x 0 1) tree places store h.long (h.lines (flat_map lines_at places) some.0) a.nodes);
      given_back = subst (λ f. IsChain y f given) (sym (h.header 2 (omega arith) (omega arith))) (chain_same x y given (word_of x 0 2) (h.lines given some.1) a.given_back);
      end_from = subst (λ e. 1 ≤ e) (sym end) a.end_from;
      end_to = subst (λ n. word_of y 0 3 ≤ n / 8) (sym h.long) (subst (λ e. e ≤ length x / 8) (sym end) a.end_to);
      once = λ k. a.once k ∙ ap (λ e. cond (leb 1 k && ltb k e) 1 0) (sym end);
      given_count = h.header 4 (omega arith) (omega arith) ∙ a.given_count;
      pair_count = h.header 5 (omega arith) (omega arith) ∙ a.pair_count;
      last_word = refl;
      no_seventh = h.header 7 (omega arith) (omega arith) ∙ a.no_seventh;
    }

-- another last revision in the header leaves the pairs, the tree and the lines given back as they were
raised_arranged : (x : List ℕ) (head : RevisionHead) (store : Store) (tree : Tree ℕ) (places : List PairLayout) (given loose : List ℕ) (last : ℕ) → IsLaidOut x head store tree places given loose →
    IsLaidOut (with_word 0 6 last x) (head_of head.version last) store tree places given loose
raised_arranged x head store tree places given loose last a =
    let y = with_word 0 6 last x in
    let version : word_of y 0 0 ≡ head.version = get_or-set_other x 6 0 last 0 (omega arith) ∙ a.version_word in
    let raised : word_of y 0 6 ≡ last = get_or-set_same x 6 last 0 (let whole = a.sized.whole in let some = a.sized.some in omega arith) in
    subst (λ h. IsLaidOut y h store tree places given loose) (ap₂ head_of version raised) (headed_arranged x y head store tree places given loose
    (record { long = length-set x 6 last; header = λ i zero six. get_or-set_other x 6 i last 0 six; lines = λ lines some. header_stored x 6 last lines (omega arith) some }) a)

-- words with pairs and revisions have the same ones with another last revision in the header
pub raised : (x : List ℕ) (head : RevisionHead) (store : Store) (triples : List Triple) (last : ℕ) → HasTriples x head store triples → HasTriples (with_word 0 6 last x) (head_of head.version last) store triples
raised x head store triples last h = record { tree = h.tree; places = h.places; given = h.given; arranged = raised_arranged x head store h.tree h.places h.given [] last h.arranged; triples_are = h.triples_are }

-- words that stand for a store in version 2, and the revisions that are read off them
pub record StandsWith (words : List ℕ) (last : ℕ) (store : Store) (triples : List Triple) : Type 0 where
  pub stands : StandsFor words 2 store
  pub revised : revised_in words ≡ record { last = last; triples = triples }

abbrev revised_of : ℕ → List Triple → RevisedStore
revised_of last triples = record { last = last; triples = triples }

-- words that stand for a store in version 2 do so with the revisions that its places have
pub stands_with : (x : List ℕ) (store : Store) (s : StandsFor x 2 store) → StandsWith x s.last store (triples_of s.places store)
stands_with x store s = record { stands = s; revised = ap₂ revised_of (last_read x 2 store s) (triples_read x 2 store s) }

-- words in which the pairs of a lawful store stand, with revisions that may be, stand for the store in version 2 with these
pub stands_again : (x : List ℕ) (last : ℕ) (store : Store) (triples : List Triple) → HasTriples x (head_of 2 last) store triples → IsStore store → All (λ t. IsRevision (head_of 2 last) t.1) triples → StandsWith x last store triples
stands_again x last store triples h lawful all =
    let s : StandsFor x 2 store = record {
      tree = h.tree;
      places = h.places;
      given = h.given;
      last = last;
      arranged = h.arranged;
      lawful = lawful;
      known = inr refl;
      revisions = all_places (IsRevision (head_of 2 last)) x h.places store h.arranged.nodes.pairs (subst (All (λ t. IsRevision (head_of 2 last) t.1)) (sym h.triples_are) all);
    } in
    record { stands = s; revised = ap₂ revised_of (last_read x 2 store s) (triples_read x 2 store s ∙ h.triples_are) }

-- what holds of each revision holds of each that is left without a key
pub removed_revisions : (P : ℕ → Type 0) (key : List ℕ) (triples : List Triple) → All (λ t. P t.1) triples → All (λ t. P t.1) (removed_at key triples)
removed_revisions P key triples all = All-append (λ t. P t.1) (triples_below key triples) (triples_above key triples) (All-filter _ (λ t. P t.1) triples all) (All-filter _ (λ t. P t.1) triples all)

pub next_some : (last : ℕ) → 1 ≤ next_revision last
next_some last = grind (arith, nat_tests)

pub next_least : (last : ℕ) → last ≤ next_revision last
next_least last = grind (arith, nat_tests)

later : (last revision : ℕ) → IsRevision (head_of 2 last) revision → IsRevision (head_of 2 (next_revision last)) revision
later last revision r = (r.0, (let more = next_least last in let to = r.1 in omega arith))

-- where each revision may be, each may be once a document is written with the next revision
pub written_revisions : (key document : List ℕ) (last : ℕ) (triples : List Triple) → All (λ t. IsRevision (head_of 2 last) t.1) triples →
    All (λ t. IsRevision (head_of 2 (next_revision last)) t.1) (written_at key document (next_revision last) triples)
written_revisions key document last triples all =
    let P : Triple → Type 0 = λ t. IsRevision (head_of 2 (next_revision last)) t.1 in
    let here : IsRevision (head_of 2 (next_revision last)) (next_revision last) = ((let some = next_some last in omega arith), omega arith) in
    let more = All-weaker (λ t. IsRevision (head_of 2 last) t.1) P (λ t r. later last t.1 r) triples all in
    All-append P (triples_below key triples) (((key, document), next_revision last) ∷ triples_above key triples) (All-filter _ P triples more)
    (All-cons P ((key, document), next_revision last) (triples_above key triples) here (All-filter _ P triples more))

-- the revisions of words that stand for a store
pub revisions_of : (x : List ℕ) (store : Store) (s : StandsFor x 2 store) → All (λ t. IsRevision (head_of 2 s.last) t.1) (triples_of s.places store)
revisions_of x store s = all_triples (IsRevision (head_of 2 s.last)) s.places store s.revisions
