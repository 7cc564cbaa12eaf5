-- The lines of a store: within the words, and each in one place.
use Rattle.std.proofs.Common.{◌≡◌, ◌+◌, ◌*◌, ◌/◌, ◌<◌, ◌≤◌, ℕ, cond, eqb, ltb, leb, ◌&&◌, List, ◌∷◌, ◌++◌, length, get_or, count_by, subst, arith}
use Rattle.std.specs.List.{flat_map, All}
use Rattle.std.proofs.lemmas.Bool.Decides.{nat_tests}
use Rattle.std.proofs.lemmas.List.{length-append, get_or_append_left, get_or-append-add}
use Rattle.std.proofs.lemmas.List.Concat.{flat_map-append}
use Rattle.std.proofs.lemmas.List.Elements.{All-head, All-weaker}
use Rattle.std.proofs.lemmas.List.Sums.{get_or-le-sum_by}
use Rattle.cx_base.specs.Store.{Store}
use Rattle.avl_words.specs.Tree.{Tree}
use Rattle.avl_words.specs.Lines.{IsWithin, word_of}
use Rattle.index_validation.specs.Layout.{PairLayout, lines_at, RevisionHead, IsLaidOut}

-- parts of a list
pub all_left : {X : Type 0} (P : X → Type 0) (xs ys : List X) → All P (xs ++ ys) → All P xs
all_left P xs ys h = λ k d l. subst P (get_or_append_left xs ys d k l) (h k d (omega (arith, length-append xs ys)))

pub all_right : {X : Type 0} (P : X → Type 0) (xs ys : List X) → All P (xs ++ ys) → All P ys
all_right P xs ys h = λ k d l. subst P (get_or-append-add xs ys k d) (h (length xs + k) d (omega (arith, length-append xs ys)))

pub all_middle : {X : Type 0} (P : X → Type 0) (xs ys : List X) (y : X) → All P (xs ++ y ∷ ys) → P y
all_middle P xs ys y h = All-head P y ys (all_right P xs (y ∷ ys) h)

-- a line that stands somewhere in the lists is from 1 to below the end
counted_once : (line end n : ℕ) → cond (eqb line line) 1 0 ≤ n → n ≡ cond (leb 1 line && ltb line end) 1 0 → (1 ≤ line) × (line < end)
counted_once line end n least e = (grind (arith, nat_tests), grind (arith, nat_tests))

-- in words that are laid out, each line of a pair, given back or loose is from 1 to below the end
pub lines_there : (ws : List ℕ) (head : RevisionHead) (store : Store) (tree : Tree ℕ) (places : List PairLayout) (given loose : List ℕ) → IsLaidOut ws head store tree places given loose →
    All (λ line. (1 ≤ line) × (line < word_of ws 0 3)) (flat_map lines_at places ++ given ++ loose)
lines_there ws head store tree places given loose a k d l =
    let lines = flat_map lines_at places ++ given ++ loose in
    let line = get_or lines k d in
    counted_once line (word_of ws 0 3) (count_by (λ x. eqb x line) lines) (get_or-le-sum_by (λ x. cond (eqb x line) 1 0) lines k d l) (a.once line)

-- a line below an end that is at most the number of lines in `n` words is within these words
below_end : (n end line : ℕ) → n ≡ 8 * (n / 8) → end ≤ n / 8 → line < end → 8 * line + 8 ≤ n
below_end n end line whole e l = omega arith

pub lines_within : (ws : List ℕ) (head : RevisionHead) (store : Store) (tree : Tree ℕ) (places : List PairLayout) (given loose : List ℕ) → IsLaidOut ws head store tree places given loose →
    All (IsWithin ws) (flat_map lines_at places ++ given ++ loose)
lines_within ws head store tree places given loose a =
    All-weaker (λ line. (1 ≤ line) × (line < word_of ws 0 3)) (IsWithin ws) (λ line h. below_end (length ws) (word_of ws 0 3) line a.sized.whole a.end_to h.1) _ (lines_there ws head store tree places given loose a)

-- the lines of one place among others
pub place_lines : (P : ℕ → Type 0) (front rest : List PairLayout) (place : PairLayout) → All P (flat_map lines_at (front ++ place ∷ rest)) → All P (lines_at place)
place_lines P front rest place h =
    let split = subst (All P) (flat_map-append lines_at front (place ∷ rest)) h in
    all_left P (lines_at place) (flat_map lines_at rest) (all_right P (flat_map lines_at front) (lines_at place ++ flat_map lines_at rest) split)
