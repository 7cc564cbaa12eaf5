-- Chains of lines that are marked one by one.
use Rattle.std.proofs.Common.{◌≡◌, ◌≢◌, ◌+◌, ◌<◌, ◌≤◌, ℕ, Bool, List, [], ◌∷◌, ◌++◌, length, length-append, refl, sym, ap, subst, ◌∙◌, arith}
use Rattle.avl_words.specs.Lines.{word_of}
use Rattle.index_validation.specs.Layout.{IsChain}
use Rattle.index_validation.specs.Lawful.{count_of, Marks, CanMark, IsLineMarked, HasChain, NoChain}
use Rattle.avl_words.proofs.Frames.{times_self}
use Rattle.index_validation.proofs.Counts.{count_cons}
use Rattle.index_validation.proofs.Marking.{marks_then, can_mark_rest}

-- word 0 of each of these lines names the next one: the first line is `first`, and the last one names `to`
abbrev pub IsPath : List ℕ → ℕ → List ℕ → ℕ → Type 0
IsPath ws first [] to = first ≡ to
IsPath ws first (line ∷ lines) to = (first ≡ line) × IsPath ws (word_of ws line 0) lines to

-- a path to a line is one further with this line, to the line that it names
path_push : (ws lines : List ℕ) (first line next : ℕ) → IsPath ws first lines line → word_of ws line 0 ≡ next → IsPath ws first (lines ++ line ∷ []) next
path_push ws [] first line next p e = (p, e)
path_push ws (l ∷ lines) first line next p e = (p.0, path_push ws lines (word_of ws l 0) line next p.1 e)

-- a path that leads to 0 is a chain
path_ends : (ws lines : List ℕ) (first line : ℕ) → IsPath ws first lines line → line ≡ 0 → IsChain ws first lines
path_ends ws [] first line p e = p ∙ e
path_ends ws (l ∷ lines) first line p e = (p.0, path_ends ws lines (word_of ws l 0) line p.1 e)

-- lines begin with these, and those behind them are a chain from a line
record IsBegun (ws : List ℕ) (line : ℕ) (front lines : List ℕ) : Type 0 where
  pub rest : List ℕ
  pub lines_are : lines ≡ front ++ rest
  pub chain : IsChain ws line rest

-- a path begins each chain from the same line that is no shorter, and the rest of the chain goes on where the path ends
path_front : (ws front lines : List ℕ) (first line : ℕ) → IsPath ws first front line → IsChain ws first lines → length front ≤ length lines → IsBegun ws line front lines
path_front ws [] lines first line p c l = record { rest = lines; lines_are = refl; chain = subst (λ x. IsChain ws x lines) p c }
path_front ws (x ∷ front) [] first line p c l = absurd (omega arith)
path_front ws (x ∷ front) (y ∷ lines) first line p c l =
    let same : x ≡ y = sym p.0 ∙ c.0 in
    let b = path_front ws front lines (word_of ws x 0) line p.1 (subst (λ z. IsChain ws (word_of ws z 0) lines) (sym same) c.1) (omega arith) in
    record {
      rest = b.rest;
      lines_are = ap (λ ls. y ∷ ls) b.lines_are ∙ ap (λ z. z ∷ (front ++ b.rest)) (sym same);
      chain = b.chain;
    }

-- the first `n` lines on a path from `first` are marked beside those that were, and it leads to `line`
pub record MarkedSoFar (ws : List ℕ) (first n line : ℕ) (old now : List Bool) : Type 0 where
  pub front : List ℕ
  pub path : IsPath ws first front line
  pub counted : length front ≡ n
  pub marks : Marks old front now

-- with the line behind the first `n` of a chain marked too, its first `n + 1` lines are marked, and `next` is the one behind them
pub marked_more : (ws : List ℕ) (first n line next : ℕ) (old now after : List Bool) → MarkedSoFar ws first n line old now → Marks now (line ∷ []) after → word_of ws line 0 ≡ next →
    MarkedSoFar ws first (n + 1) next old after
marked_more ws first n line next old now after s m e = record {
  front = s.front ++ line ∷ [];
  path = path_push ws s.front first line next s.path e;
  counted = omega (arith, length-append s.front (line ∷ []), s.counted);
  marks = marks_then old now after s.front (line ∷ []) s.marks m;
}

-- where the first `n` lines, as many as were asked for, are marked and no line is behind them, they are the whole chain
pub marked_all : (ws : List ℕ) (first n count line : ℕ) (old now : List Bool) → MarkedSoFar ws first n line old now → n ≡ count → line ≡ 0 → HasChain ws first count old now
marked_all ws first n count line old now s e last = record {
  lines = s.front;
  chain = path_ends ws s.front first line s.path last;
  counted = s.counted ∙ e;
  marks = s.marks;
}

-- the line at which a chain of some lines begins is one of them
starts_with : (ws rest : List ℕ) (line : ℕ) → IsChain ws line rest → 1 ≤ length rest → 1 ≤ count_of line rest
starts_with ws [] line c l = absurd (omega arith)
starts_with ws (x ∷ rest) line c l = subst (λ y. 1 ≤ count_of y (x ∷ rest)) (sym c.0) (omega (arith, count_cons x x rest, times_self x))

-- where fewer than `count` lines are marked and the line behind these `n` cannot be, there is no chain of `count` lines to mark
pub no_chain_taken : (ws : List ℕ) (first n count line : ℕ) (old now : List Bool) → MarkedSoFar ws first n line old now → n < count → IsLineMarked now line → NoChain ws first count old
no_chain_taken ws first n count line old now s l taken lines c counted can =
    let b = path_front ws s.front lines first line s.path c (omega (arith, s.counted)) in
    let rest = can_mark_rest old now s.front b.rest s.marks (subst (CanMark old) b.lines_are can) in
    let long = ap length b.lines_are in
    let some = starts_with ws b.rest line b.chain (omega (arith, long, length-append s.front b.rest, s.counted)) in
    omega (arith, some, taken b.rest rest)

-- a chain of no lines begins at 0
ends_here : (ws rest : List ℕ) (line : ℕ) → IsChain ws line rest → length rest ≡ 0 → line ≡ 0
ends_here ws [] line c l = c
ends_here ws (x ∷ rest) line c l = absurd (omega arith)

-- where a line is left behind the first `n`, which are `count` already, there is no chain of `count` lines to mark
pub no_chain_longer : (ws : List ℕ) (first n count line : ℕ) (old now : List Bool) → MarkedSoFar ws first n line old now → n ≡ count → line ≢ 0 → NoChain ws first count old
no_chain_longer ws first n count line old now s e more lines c counted can =
    let b = path_front ws s.front lines first line s.path c (omega (arith, s.counted)) in
    let long = ap length b.lines_are in
    more (ends_here ws b.rest line b.chain (omega (arith, long, length-append s.front b.rest, s.counted)))
