-- Pairs of a store below and above a key.
use Rattle.std.proofs.Common.{◌≡◌, ℕ, true, false, cond, List, [], ◌∷◌, ◌++◌, Some, None, refl, sym, ap, ◌∙◌}
use Rattle.std.specs.Option.{option_map}
use Rattle.std.specs.List.{All, find, filter}
use Rattle.std.specs.Ordering.{is_lt, is_eq}
use Rattle.std.specs.declared.cmp.Ordering.TheVariants.{Less}
use Rattle.std.proofs.lemmas.List.{append-nil}
use Rattle.std.proofs.lemmas.List.Elements.{All-head, All-tail, All-weaker, filter-append}
use Rattle.cx_base.specs.Store.{Store, key_cmp}
use Rattle.doc_model.specs.Meaning.{document_at, pairs_below, pairs_above, without_key}
use Rattle.doc_model.proofs.Order.{filter_all, filter_none, ties_itself, greater_from_above}

-- A list of what has keys, such as pairs, that is split at a key.
module _ {X : Type 0} (key_of : X → List ℕ) (key : List ℕ) where
  abbrev pub IsUnder : X → Type 0
  IsUnder x = key_cmp (key_of x) key ≡ Less

  abbrev pub IsOver : X → Type 0
  IsOver x = key_cmp key (key_of x) ≡ Less

  none_over : (lower : List X) → All IsUnder lower → filter (λ x. is_lt (key_cmp key (key_of x))) lower ≡ []
  none_over lower below =
      filter_none (λ x. is_lt (key_cmp key (key_of x))) lower (All-weaker IsUnder (λ x. is_lt (key_cmp key (key_of x)) ≡ false) (λ x h. ap is_lt (greater_from_above key (key_of x) h)) lower below)

  pub all_over : (others : List X) → All IsOver others → filter (λ x. is_lt (key_cmp key (key_of x))) others ≡ others
  all_over others above = filter_all (λ x. is_lt (key_cmp key (key_of x))) others (All-weaker IsOver (λ x. is_lt (key_cmp key (key_of x)) ≡ true) (λ x h. ap is_lt h) others above)

  none_under : (others : List X) → All IsOver others → filter (λ x. is_lt (key_cmp (key_of x) key)) others ≡ []
  none_under others above =
      filter_none (λ x. is_lt (key_cmp (key_of x) key)) others (All-weaker IsOver (λ x. is_lt (key_cmp (key_of x) key) ≡ false) (λ x h. ap is_lt (greater_from_above (key_of x) key h)) others above)

  all_under : (lower : List X) → All IsUnder lower → filter (λ x. is_lt (key_cmp (key_of x) key)) lower ≡ lower
  all_under lower below = filter_all (λ x. is_lt (key_cmp (key_of x) key)) lower (All-weaker IsUnder (λ x. is_lt (key_cmp (key_of x) key) ≡ true) (λ x h. ap is_lt h) lower below)

  pub over_split : (lower others : List X) → All IsUnder lower → All IsOver others → filter (λ x. is_lt (key_cmp key (key_of x))) (lower ++ others) ≡ others
  over_split lower others below above =
      filter-append (λ x. is_lt (key_cmp key (key_of x))) lower others ∙ ap (λ s. s ++ filter (λ x. is_lt (key_cmp key (key_of x))) others) (none_over lower below) ∙ all_over others above

  pub under_split : (lower others : List X) → All IsUnder lower → All IsOver others → filter (λ x. is_lt (key_cmp (key_of x) key)) (lower ++ others) ≡ lower
  under_split lower others below above =
      filter-append (λ x. is_lt (key_cmp (key_of x) key)) lower others ∙ ap (λ s. s ++ filter (λ x. is_lt (key_cmp (key_of x) key)) others) (all_under lower below)
      ∙ ap (λ s. lower ++ s) (none_under others above) ∙ append-nil lower

  passes_over : (lower others : List X) → All IsUnder lower → find (λ x. is_eq (key_cmp (key_of x) key)) (lower ++ others) ≡ find (λ x. is_eq (key_cmp (key_of x) key)) others
  passes_over [] others below = refl
  passes_over (x ∷ lower) others below =
      ap (λ o. cond (is_eq o) (Some x) (find (λ y. is_eq (key_cmp (key_of y) key)) (lower ++ others))) (All-head IsUnder x lower below) ∙ passes_over lower others (All-tail IsUnder x lower below)

  not_over : (others : List X) → All IsOver others → find (λ x. is_eq (key_cmp (key_of x) key)) others ≡ None
  not_over [] above = refl
  not_over (x ∷ others) above =
      ap (λ o. cond (is_eq o) (Some x) (find (λ y. is_eq (key_cmp (key_of y) key)) others)) (greater_from_above (key_of x) key (All-head IsOver x others above)) ∙ not_over others (All-tail IsOver x others above)

  pub missing_in : (lower others : List X) → All IsUnder lower → All IsOver others → find (λ x. is_eq (key_cmp (key_of x) key)) (lower ++ others) ≡ None
  missing_in lower others below above = passes_over lower others below ∙ not_over others above

  -- what has the key itself is neither below nor above
  module _ (x : X) (same : key_of x ≡ key) where
    not_less : (after : List X) → cond (is_lt (key_cmp (key_of x) key)) (x ∷ after) after ≡ after
    not_less after = ap (λ o. cond (is_lt o) (x ∷ after) after) (ap (λ k. key_cmp k key) same ∙ ties_itself key)

    not_more : (after : List X) → cond (is_lt (key_cmp key (key_of x))) (x ∷ after) after ≡ after
    not_more after = ap (λ o. cond (is_lt o) (x ∷ after) after) (ap (key_cmp key) same ∙ ties_itself key)

    pub over_behind : (lower after : List X) → All IsUnder lower → All IsOver after → filter (λ y. is_lt (key_cmp key (key_of y))) (lower ++ x ∷ after) ≡ after
    over_behind lower after below above =
        filter-append (λ y. is_lt (key_cmp key (key_of y))) lower (x ∷ after) ∙ ap (λ s. s ++ filter (λ y. is_lt (key_cmp key (key_of y))) (x ∷ after)) (none_over lower below)
        ∙ not_more (filter (λ y. is_lt (key_cmp key (key_of y))) after) ∙ all_over after above

    pub under_behind : (lower after : List X) → All IsUnder lower → All IsOver after → filter (λ y. is_lt (key_cmp (key_of y) key)) (lower ++ x ∷ after) ≡ lower
    under_behind lower after below above =
        filter-append (λ y. is_lt (key_cmp (key_of y) key)) lower (x ∷ after) ∙ ap (λ s. s ++ filter (λ y. is_lt (key_cmp (key_of y) key)) (x ∷ after)) (all_under lower below)
        ∙ ap (λ s. lower ++ s) (not_less (filter (λ y. is_lt (key_cmp (key_of y) key)) after) ∙ none_under after above) ∙ append-nil lower

    pub there_in : (lower after : List X) → All IsUnder lower → find (λ y. is_eq (key_cmp (key_of y) key)) (lower ++ x ∷ after) ≡ Some x
    there_in lower after below =
        passes_over lower (x ∷ after) below ∙ ap (λ o. cond (is_eq o) (Some x) (find (λ y. is_eq (key_cmp (key_of y) key)) after)) (ap (λ k. key_cmp k key) same ∙ ties_itself key)

-- the key of a pair, by which the laws of lists split at a key speak of the pairs of a store
abbrev pub key_of_pair : List ℕ × List ℕ → List ℕ
key_of_pair pair = pair.0

-- where each key is above another, the pairs above that are all of them
pub all_above : (key : List ℕ) (others : Store) → All (λ p. key_cmp key p.0 ≡ Less) others → pairs_above key others ≡ others
all_above key = all_over key_of_pair key

-- the pairs above a key that is missing are those behind its place
pub above_split : (key : List ℕ) (lower others : Store) → All (λ p. key_cmp p.0 key ≡ Less) lower → All (λ p. key_cmp key p.0 ≡ Less) others → pairs_above key (lower ++ others) ≡ others
above_split key = over_split key_of_pair key

-- the pairs above a key that is there are those behind its pair
pub above_behind : (key document : List ℕ) (lower after : Store) → All (λ p. key_cmp p.0 key ≡ Less) lower → All (λ p. key_cmp key p.0 ≡ Less) after → pairs_above key (lower ++ (key, document) ∷ after) ≡ after
above_behind key document = over_behind key_of_pair key (key, document) refl

-- the document of a key that is there is that of its pair
pub document_there : (key document : List ℕ) (lower after : Store) → All (λ p. key_cmp p.0 key ≡ Less) lower → document_at key (lower ++ (key, document) ∷ after) ≡ Some document
document_there key document lower after below = ap (λ o. option_map (λ p. p.1) o) (there_in key_of_pair key (key, document) refl lower after below)

-- a key that is missing has no document
pub document_missing : (key : List ℕ) (lower others : Store) → All (λ p. key_cmp p.0 key ≡ Less) lower → All (λ p. key_cmp key p.0 ≡ Less) others → document_at key (lower ++ others) ≡ None
document_missing key lower others below above = ap (λ o. option_map (λ p. p.1) o) (missing_in key_of_pair key lower others below above)

-- the pairs below a key that is there are those before its pair
pub below_behind : (key document : List ℕ) (lower after : Store) → All (λ p. key_cmp p.0 key ≡ Less) lower → All (λ p. key_cmp key p.0 ≡ Less) after → pairs_below key (lower ++ (key, document) ∷ after) ≡ lower
below_behind key document = under_behind key_of_pair key (key, document) refl

-- the pairs below a key that is missing are those before its place
pub below_split : (key : List ℕ) (lower others : Store) → All (λ p. key_cmp p.0 key ≡ Less) lower → All (λ p. key_cmp key p.0 ≡ Less) others → pairs_below key (lower ++ others) ≡ lower
below_split key = under_split key_of_pair key

-- the store without a key that is there has the pairs before and behind its pair
pub without_itself : (key document : List ℕ) (lower after : Store) → All (λ p. key_cmp p.0 key ≡ Less) lower → All (λ p. key_cmp key p.0 ≡ Less) after → lower ++ after ≡ without_key key (lower ++ (key, document) ∷ after)
without_itself key document lower after below above =
    ap (λ s. s ++ after) (sym (below_behind key document lower after below above)) ∙ ap (λ s. pairs_below key (lower ++ (key, document) ∷ after) ++ s) (sym (above_behind key document lower after below above))

-- the store without a key that is missing is the store
pub without_nothing : (key : List ℕ) (lower others : Store) → All (λ p. key_cmp p.0 key ≡ Less) lower → All (λ p. key_cmp key p.0 ≡ Less) others → lower ++ others ≡ without_key key (lower ++ others)
without_nothing key lower others below above =
    ap (λ s. s ++ others) (sym (below_split key lower others below above)) ∙ ap (λ s. pairs_below key (lower ++ others) ++ s) (sym (above_split key lower others below above))
