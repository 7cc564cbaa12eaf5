-- What stands before a key's place, and what behind it.
use Rattle.std.proofs.Common.{◌≡◌, ℕ, ◌+◌, ◌<◌, ◌≤◌, Bool, true, false, List, [], ◌∷◌, ◌++◌, length, get_or, take, drop, Some, None, Result, Ok, Err, refl, sym, ap, ◌∙◌, arith, subst, inl, inr, IfOk, IfErr}
use Rattle.std.specs.List.{All, AllPairs, HoldsAt, find}
use Rattle.std.specs.List.Sorted.{IsSearchInRange, IsBinarySearchResult, IsNonDecreasingBy, IsPartitionPoint}
use Rattle.std.specs.Option.{option_map}
use Rattle.std.specs.Ordering.{ordering_index, is_lt, is_eq}
use Rattle.std.specs.declared.cmp.Ordering.{Ordering}
use Rattle.std.specs.declared.cmp.Ordering.TheVariants.{Less, Equal, Greater}
use Rattle.std.proofs.lemmas.Bool.{cases_order}
use Rattle.std.proofs.lemmas.List.{take-append-drop, drop_more, get_or-take, get_or-drop, get_or-map, length-take, length-drop, length-map}
use Rattle.std.proofs.lemmas.List.Elements.{All-head, All-tail, filter-append}
use Rattle.std.proofs.lemmas.List.Folds.{find-append}
use Rattle.std.proofs.lemmas.List.Sorted.{IsNonDecreasingBy-from_default}
use Rattle.cx_base.specs.Store.{KeysRise, key_cmp}
use Rattle.doc_model.specs.Place.{IsAtPlace, IsGapFor, pairs_of}
use Rattle.doc_model.specs.Revisions.{triples_below, triples_above}
use Rattle.doc_model.proofs.Revised.{document_of_found}
use Rattle.doc_model.proofs.Order.{IsBelow, IsAbove, same_key, ties_itself, above_from_greater, greater_from_above, below_both, keys_apart, filter_all, filter_none}

-- what is said of triples by the key
abbrev Below : List ℕ → (List ℕ × List ℕ) × ℕ → Type 0
Below key t = IsBelow key t.0

abbrev Above : List ℕ → (List ℕ × List ℕ) × ℕ → Type 0
Above key t = IsAbove key t.0

-- the tests of the definitions, of a triple whose key is below, above or the same
below_is_below : (key : List ℕ) (t : (List ℕ × List ℕ) × ℕ) → Below key t → is_lt (key_cmp t.0.0 key) ≡ true
below_is_below key t h = ap is_lt h

above_is_not_below : (key : List ℕ) (t : (List ℕ × List ℕ) × ℕ) → Above key t → is_lt (key_cmp t.0.0 key) ≡ false
above_is_not_below key t h = ap is_lt (greater_from_above t.0.0 key h)

above_is_above : (key : List ℕ) (t : (List ℕ × List ℕ) × ℕ) → Above key t → is_lt (key_cmp key t.0.0) ≡ true
above_is_above key t h = ap is_lt h

below_is_not_above : (key : List ℕ) (t : (List ℕ × List ℕ) × ℕ) → Below key t → is_lt (key_cmp key t.0.0) ≡ false
below_is_not_above key t h = ap is_lt (greater_from_above key t.0.0 h)

below_is_other : (key : List ℕ) (t : (List ℕ × List ℕ) × ℕ) → Below key t → is_eq (key_cmp t.0.0 key) ≡ false
below_is_other key t h = ap is_eq h

above_is_other : (key : List ℕ) (t : (List ℕ × List ℕ) × ℕ) → Above key t → is_eq (key_cmp t.0.0 key) ≡ false
above_is_other key t h = ap is_eq (greater_from_above t.0.0 key h)

-- a fact of each triple from another
each : (P Q : (List ℕ × List ℕ) × ℕ → Type 0) → ((t : (List ℕ × List ℕ) × ℕ) → P t → Q t) → (triples : List ((List ℕ × List ℕ) × ℕ)) → All P triples → All Q triples
each P Q f triples h = λ k d lt. f (get_or triples k d) (h k d lt)

find_none : (test : (List ℕ × List ℕ) × ℕ → Bool) (triples : List ((List ℕ × List ℕ) × ℕ)) → All (λ t. test t ≡ false) triples → find test triples ≡ None
find_none test [] h = refl
find_none test (t ∷ triples) h = rw (All-head (λ t. test t ≡ false) t triples h) (find_none test triples (All-tail (λ t. test t ≡ false) t triples h))

module _ (key : List ℕ) (front back : List ((List ℕ × List ℕ) × ℕ)) (below : All (Below key) front) (above : All (Above key) back) where
  front_below : triples_below key front ≡ front
  front_below = filter_all (λ t. is_lt (key_cmp t.0.0 key)) front (each (Below key) (λ t. is_lt (key_cmp t.0.0 key) ≡ true) (below_is_below key) front below)

  back_below : triples_below key back ≡ []
  back_below = filter_none (λ t. is_lt (key_cmp t.0.0 key)) back (each (Above key) (λ t. is_lt (key_cmp t.0.0 key) ≡ false) (above_is_not_below key) back above)

  front_above : triples_above key front ≡ []
  front_above = filter_none (λ t. is_lt (key_cmp key t.0.0)) front (each (Below key) (λ t. is_lt (key_cmp key t.0.0) ≡ false) (below_is_not_above key) front below)

  back_above : triples_above key back ≡ back
  back_above = filter_all (λ t. is_lt (key_cmp key t.0.0)) back (each (Above key) (λ t. is_lt (key_cmp key t.0.0) ≡ true) (above_is_above key) back above)

  front_find : find (λ t. is_eq (key_cmp t.0.0 key)) front ≡ None
  front_find = find_none (λ t. is_eq (key_cmp t.0.0 key)) front (each (Below key) (λ t. is_eq (key_cmp t.0.0 key) ≡ false) (below_is_other key) front below)

  back_find : find (λ t. is_eq (key_cmp t.0.0 key)) back ≡ None
  back_find = find_none (λ t. is_eq (key_cmp t.0.0 key)) back (each (Above key) (λ t. is_eq (key_cmp t.0.0 key) ≡ false) (above_is_other key) back above)

  -- where no triple has the key
  gap_below : triples_below key (front ++ back) ≡ front
  gap_below = filter-append (λ t. is_lt (key_cmp t.0.0 key)) front back ∙ rw (front_below, back_below) (Rattle.std.proofs.lemmas.List.append-nil front)

  gap_above : triples_above key (front ++ back) ≡ back
  gap_above = filter-append (λ t. is_lt (key_cmp key t.0.0)) front back ∙ rw (front_above, back_above) refl

  gap_missing : find (λ t. is_eq (key_cmp t.0.0 key)) (front ++ back) ≡ None
  gap_missing = find-append (λ t. is_eq (key_cmp t.0.0 key)) front back ∙ rw (front_find, back_find) refl

  -- where one has it
  module _ (triple : (List ℕ × List ℕ) × ℕ) (same : triple.0.0 ≡ key) where
    tie : key_cmp triple.0.0 key ≡ Equal
    tie = ap (λ k. key_cmp k key) same ∙ ties_itself key

    tie_back : key_cmp key triple.0.0 ≡ Equal
    tie_back = ap (λ k. key_cmp key k) same ∙ ties_itself key

    here_below : triples_below key (front ++ triple ∷ back) ≡ front
    here_below =
        filter-append (λ t. is_lt (key_cmp t.0.0 key)) front (triple ∷ back)
        ∙ rw (front_below, tie, back_below) (Rattle.std.proofs.lemmas.List.append-nil front)

    here_above : triples_above key (front ++ triple ∷ back) ≡ back
    here_above =
        filter-append (λ t. is_lt (key_cmp key t.0.0)) front (triple ∷ back)
        ∙ rw (front_above, tie_back, back_above) refl

    here_found : find (λ t. is_eq (key_cmp t.0.0 key)) (front ++ triple ∷ back) ≡ Some triple
    here_found = find-append (λ t. is_eq (key_cmp t.0.0 key)) front (triple ∷ back) ∙ rw (front_find, tie) refl

-- by places
triples_apart : (triples : List ((List ℕ × List ℕ) × ℕ)) → KeysRise (pairs_of triples) → AllPairs (λ t u. key_cmp t.0.0 u.0.0 ≡ Less) triples
triples_apart triples rising = λ i j d lt within.
    let long = length-map triples (λ t. t.0) in
    let first = get_or-map (λ t. t.0) triples i d d.0 (omega arith) in
    let second = get_or-map (λ t. t.0) triples j d d.0 within in
    subst (λ p. key_cmp p.0 (get_or triples j d).0.0 ≡ Less) first (subst (λ p. key_cmp (get_or (pairs_of triples) i d.0).0 p.0 ≡ Less) second (keys_apart (pairs_of triples) rising i j d.0 lt (omega arith)))

module _ (triples : List ((List ℕ × List ℕ) × ℕ)) (rising : KeysRise (pairs_of triples)) (key : List ℕ) where
  -- by places, around a triple that has the key
  before_it : (at : ℕ) → at < length triples → HoldsAt (λ t. t.0.0 ≡ key) triples at → All (Below key) (take at triples)
  before_it at within same k d lt =
      let long = length-take at triples in
      let early : k < at = omega arith in
      rw (get_or-take at triples k d early) (subst (λ q. key_cmp (get_or triples k d).0.0 q ≡ Less) (same d) (triples_apart triples rising k at d early within))

  behind_it : (at : ℕ) → at < length triples → HoldsAt (λ t. t.0.0 ≡ key) triples at → All (Above key) (drop (at + 1) triples)
  behind_it at within same k d lt =
      let long = length-drop (at + 1) triples in
      let late : at < at + 1 + k = omega arith in
      let inside : at + 1 + k < length triples = omega arith in
      rw (get_or-drop (at + 1) triples k d) (subst (λ q. key_cmp q (get_or triples (at + 1 + k) d).0.0 ≡ Less) (same d) (triples_apart triples rising at (at + 1 + k) d late inside))

  -- a triple that has the key is at the key's place
  pub is_at : (at : ℕ) → at < length triples → HoldsAt (λ t. key_cmp t.0.0 key ≡ Equal) triples at → IsAtPlace triples key at
  is_at at within ties =
      let same : HoldsAt (λ t. t.0.0 ≡ key) triples at = λ d. same_key (get_or triples at d).0.0 key (ties d) in
      let below = before_it at within same in
      let above = behind_it at within same in
      let parts : (t : (List ℕ × List ℕ) × ℕ) → take at triples ++ get_or triples at t ∷ drop (at + 1) triples ≡ triples = λ t. ap (λ s. take at triples ++ s) (sym (drop_more triples at t within)) ∙ take-append-drop at triples in
      let found : (t : (List ℕ × List ℕ) × ℕ) → find (λ u. is_eq (key_cmp u.0.0 key)) triples ≡ Some (get_or triples at t) = λ t.
      subst (λ s. find (λ u. is_eq (key_cmp u.0.0 key)) s ≡ Some (get_or triples at t)) (parts t) (here_found key (take at triples) (drop (at + 1) triples) below above (get_or triples at t) (same t)) in
      record {
        within = within;
        below = subst (λ s. triples_below key s ≡ take at triples) (parts (([], []), 0)) (here_below key (take at triples) (drop (at + 1) triples) below above (get_or triples at (([], []), 0)) (same (([], []), 0)));
        above = subst (λ s. triples_above key s ≡ drop (at + 1) triples) (parts (([], []), 0)) (here_above key (take at triples) (drop (at + 1) triples) below above (get_or triples at (([], []), 0)) (same (([], []), 0)));
        has_key = same;
        has_document = λ t. document_of_found key triples (Some (get_or triples at t)) (found t);
        has_revision = λ t. ap (option_map (λ u. u.1)) (found t);
      }

  -- a place between the keys below and those above is the key's gap
  pub is_gap : (at : ℕ) → at ≤ length triples → IsPartitionPoint (λ t. key_cmp t.0.0 key ≡ Less) (λ t. key_cmp t.0.0 key ≡ Greater) triples at → IsGapFor triples key at
  is_gap at within parted =
      let below : All (Below key) (take at triples) = λ k d lt.
      let long = length-take at triples in
      let early : k < at = omega arith in
      rw (get_or-take at triples k d early) (parted.0 k d (omega arith) early) in
      let above : All (Above key) (drop at triples) = λ k d lt.
      let long = length-drop at triples in
      rw (get_or-drop at triples k d) (above_from_greater (get_or triples (at + k) d).0.0 key (parted.1 (at + k) d (omega arith) (omega arith))) in
      let parts = take-append-drop at triples in
      let none = subst (λ s. find (λ t. is_eq (key_cmp t.0.0 key)) s ≡ None) parts (gap_missing key (take at triples) (drop at triples) below above) in
      record {
        within = within;
        below = subst (λ s. triples_below key s ≡ take at triples) parts (gap_below key (take at triples) (drop at triples) below above);
        above = subst (λ s. triples_above key s ≡ drop at triples) parts (gap_above key (take at triples) (drop at triples) below above);
        missing = document_of_found key triples None none;
        has_none = ap (option_map (λ t. t.1)) none;
      }

  -- the comparisons with a key rise along the list, as a binary search asks
  below_first : (a b : List ℕ) → key_cmp a b ≡ Less → ordering_index (key_cmp a key) ≤ ordering_index (key_cmp b key)
  below_first a b lt = by (key_cmp b key) refl
    where
      by : (o : Ordering) → key_cmp b key ≡ o → ordering_index (key_cmp a key) ≤ ordering_index o
      by Less e = rw (below_both a b key lt e) (omega arith)
      by Equal e = rw (subst (λ q. key_cmp a q ≡ Less) (same_key b key e) lt) (omega arith)
      by Greater e = most (key_cmp a key)
        where
          most : (o : Ordering) → ordering_index o ≤ 2
          most Less = omega arith
          most Equal = omega arith
          most Greater = omega arith

  comparisons_rise : IsNonDecreasingBy (λ t. ordering_index (key_cmp t.0.0 key)) triples
  comparisons_rise = IsNonDecreasingBy-from_default (λ t. ordering_index (key_cmp t.0.0 key)) triples (([], []), 0) (λ i j le within.
      elim (cases_order i j) [
        | inl same ↦ rw same (omega arith)
        | inr (inl lt) ↦ below_first (get_or triples i (([], []), 0)).0.0 (get_or triples j (([], []), 0)).0.0 (triples_apart triples rising i j (([], []), 0) lt within)
        | inr (inr gt) ↦ absurd (omega arith)
      ])

  -- what a binary search by the keys finds
  pub searched : (r : Result ℕ ℕ) → IsSearchInRange r (length triples) → IsBinarySearchResult (λ t. key_cmp t.0.0 key) triples r → IfOk r (IsAtPlace triples key) × IfErr r (IsGapFor triples key)
  searched (Ok at) within ties = (is_at at within ties, tt)
  searched (Err at) within parted = (tt, is_gap at within (parted comparisons_rise))
