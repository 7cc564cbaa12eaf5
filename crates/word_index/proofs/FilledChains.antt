-- The blocks of a chain get other words.
use Rattle.std.proofs.Common.{◌≡◌, ◌≢◌, ◌+◌, ◌-◌, ◌*◌, ◌/◌, ◌%◌, ◌<◌, ◌≤◌, ℕ, zero, suc, List, [], ◌∷◌, length, get_or, inl, inr, refl, sym, ap, subst, ◌∙◌, arith}
use Rattle.std.specs.List.{All}
use Rattle.std.proofs.lemmas.Bool.{cases_lt, cases_eq}
use Rattle.std.proofs.lemmas.List.Elements.{All-head, All-tail}
use Rattle.cx_base.specs.Memory.{overwritten}
use Rattle.cx_base.proofs.WordLemmas.{length-overwritten}
use Rattle.avl_words.specs.Lines.{word_of, IsWithin}
use Rattle.index_validation.specs.Layout.{IsChain}
use Rattle.word_index.specs.Changes.{SameLine}
use Rattle.word_index.specs.Exact.{block_words, with_chain_filled}
use Rattle.word_index.specs.Fresh.{LineFilled, IsBlock}
use Rattle.word_index.specs.Rewriting.{HasLines}
use Rattle.word_index.proofs.ExactRuns.{block_exact}
use Rattle.word_index.proofs.ExactTaking.{block_is, row_is_filled}
use Rattle.word_index.proofs.Frames.{times, times_cons, times_self, same_then}

-- each line goes on naming the next
abbrev pub SameNext : List ℕ → List ℕ → Type 0
SameNext before now = (k : ℕ) → word_of now k 0 ≡ word_of before k 0

-- a line that is filled with a content which begins with its own word 0 leaves each line naming the next line that it named
pub next_kept : (x y content : List ℕ) (line : ℕ) → LineFilled line content x y → get_or content 0 0 ≡ word_of x line 0 → SameNext x y
next_kept x y content line f e k =
    elim (cases_eq k line) [
      | inl same ↦ subst (λ n. word_of y n 0 ≡ word_of x n 0) (sym same) (f.here 0 (omega arith) ∙ e)
      | inr ne ↦ f.others k ne 0 (omega arith)
    ]

-- a chain is one of the same lines still, where each line names the next line that it named
pub chain_on : (x y lines : List ℕ) (first : ℕ) → SameNext x y → IsChain x first lines → IsChain y first lines
chain_on x y [] first same c = c
chain_on x y (line ∷ lines) first same c = (c.0, subst (λ n. IsChain y n lines) (sym (same line)) (chain_on x y lines (word_of x line 0) same c.1))

-- lines that are there are there still, where the words are as many
within_on : (x y lines : List ℕ) → length y ≡ length x → All (IsWithin x) lines → All (IsWithin y) lines
within_on x y lines long w = λ k d l. subst (λ n. 8 * get_or lines k d + 8 ≤ n) (sym long) (w k d l)

-- the lines of a chain hold a text from `from` on, and what else the words had is as it was
pub record IsFilled (x now lines text : List ℕ) (from : ℕ) : Type 0 where
  pub long : length now ≡ length x
  pub next : SameNext x now
  pub others : (k : ℕ) → times k lines ≡ 0 → SameLine x now k
  pub content : (i : ℕ) → i < 7 * length lines → word_of now (get_or lines (i / 7) 0) (1 + i % 7) ≡ get_or text (from + i) 0

-- filling the lines of a chain with a text from `from` on has 7 of its words in each, and leaves their next lines and all other lines as they were
pub chain_filled : (text lines x : List ℕ) (from first : ℕ) → IsChain x first lines → All (IsWithin x) lines → ((k : ℕ) → times k lines ≤ 1) → IsFilled x (with_chain_filled text (length lines) from first x) lines text from
chain_filled text [] x from first c w once = record {
  long = refl;
  next = λ k. refl;
  others = λ k z i l. refl;
  content = λ i l. absurd (omega arith);
}
chain_filled text (line ∷ lines) x from first c w once =
    let next = word_of x first 0 in
    let content = block_words next text from in
    let y = overwritten (8 * first) content x in
    let now = with_chain_filled text (length lines) (from + 7) next y in
    let b = block_is next text from in
    let f = subst (λ l. LineFilled l content x y) c.0 (row_is_filled first content x b.long (subst (IsWithin x) (sym c.0) (All-head (IsWithin x) line lines w))) in
    let kept = next_kept x y content line f (b.first ∙ ap (λ l. word_of x l 0) c.0) in
    let behind : IsChain x next lines = subst (λ l. IsChain x (word_of x l 0) lines) (sym c.0) c.1 in
    let r = chain_filled text lines y (from + 7) next (chain_on x y lines next kept behind) (within_on x y lines f.long (All-tail (IsWithin x) line lines w)) (λ k. (let o = once k in let t = times_cons k line lines in omega (arith, o, t))) in
    let alone : times line lines ≡ 0 = (let o = once line in let t = times_cons line line lines in let s = times_self line in omega (arith, o, t, s)) in
    record {
      long = r.long ∙ f.long;
      next = λ k. r.next k ∙ kept k;
      others = λ k z. (
          let t = times_cons k line lines in
          let ne : k ≢ line = (λ e. absurd (let s = times_self k in let y = subst (λ n. times k (n ∷ lines) ≡ 0) (sym e) z in let u = times_cons k k lines in omega (arith, s, y, u))) in
          same_then x y now k (f.others k ne) (r.others k (omega (arith, t, z))));
      content = λ i l. (
          elim (cases_lt i 7) [
            | inl small ↦
                let here : i / 7 ≡ 0 = omega arith in
                let within : i % 7 ≡ i = omega arith in
                ap (λ n. word_of now (get_or (line ∷ lines) n 0) (1 + i % 7)) here ∙ ap (λ n. word_of now line (1 + n)) within ∙ r.others line alone (1 + i) (omega arith) ∙ f.here (1 + i) (omega arith) ∙ b.rest i small
            | inr large ↦
                let place : i / 7 ≡ suc ((i - 7) / 7) = omega arith in
                let within : i % 7 ≡ (i - 7) % 7 = omega arith in
                let at : from + 7 + (i - 7) ≡ from + i = omega arith in
                ap (λ n. word_of now (get_or (line ∷ lines) n 0) (1 + i % 7)) place ∙ ap (λ n. word_of now (get_or lines ((i - 7) / 7) 0) (1 + n)) within ∙ r.content (i - 7) (omega (arith, l)) ∙ ap (λ n. get_or text n 0) at
          ]);
    }

-- filling the blocks of a chain leaves the number of the words
pub filled_long : (text : List ℕ) (n from line : ℕ) (ws : List ℕ) → length (with_chain_filled text n from line ws) ≡ length ws
filled_long text zero from line ws = refl
filled_long text (suc n) from line ws =
    let y = overwritten (8 * line) (block_words (word_of ws line 0) text from) ws in
    filled_long text n (from + 7) (word_of ws line 0) y ∙ length-overwritten (block_words (word_of ws line 0) text from) ws (8 * line)

-- the first line of a chain of one line or more, all of whose lines are there, is there
pub line_there : (x : List ℕ) (line n count : ℕ) → HasLines x line n → n ≡ suc count → IsWithin x line
line_there x line n count h e = by_lines h.lines h.chain h.within (sym h.counted ∙ e)
  where
    -- the first line of a chain of one line or more is there
    by_lines : (lines : List ℕ) → IsChain x line lines → All (IsWithin x) lines → length lines ≡ suc count → IsWithin x line
    by_lines [] c w e = absurd (omega arith)
    by_lines (l ∷ lines) c w e = subst (IsWithin x) (sym c.0) (All-head (IsWithin x) l lines w)

-- once the first line of a chain is filled, the `count` lines behind it are a chain from `next` on, and are there
pub lines_on : (x y content text : List ℕ) (line n count next from : ℕ) → HasLines x line n → n ≡ suc count → word_of x line 0 ≡ next → IsBlock next text from content → LineFilled line content x y → HasLines y next count
lines_on x y content text line n count next from h e word b f = by_lines h.lines h.chain h.within (sym h.counted ∙ e)
  where
    -- behind the first line of these the other `count` lines are a chain from `next` on, and are there
    by_lines : (lines : List ℕ) → IsChain x line lines → All (IsWithin x) lines → length lines ≡ suc count → HasLines y next count
    by_lines [] c w e = absurd (omega arith)
    by_lines (l ∷ lines) c w e = record {
      lines = lines;
      chain = chain_on x y lines next (next_kept x y content line f (b.first ∙ sym word)) (subst (λ m. IsChain x m lines) (ap (λ m. word_of x m 0) (sym c.0) ∙ word) c.1);
      counted = omega (arith, e);
      within = within_on x y lines f.long (All-tail (IsWithin x) l lines w);
    }

-- at the beginning all of the chain is left to fill, from the line `first` on
pub fill_begins : (text : List ℕ) (count first : ℕ) (x y : List ℕ) → x ≡ y → with_chain_filled text (count - 0) (7 * 0) first y ≡ with_chain_filled text count 0 first x
fill_begins text count first x y e = (let z : count - 0 ≡ count = omega arith in ap (λ n. with_chain_filled text n 0 first y) z ∙ ap (with_chain_filled text count 0 first) (sym e))

-- where the code fills one line more and goes on to `next`, the rest of the chain still leads to the defined words `target`
pub fill_goes_on : (text : List ℕ) (count j line next : ℕ) (content y z target : List ℕ) → j < count → with_chain_filled text (count - j) (7 * j) line y ≡ target → word_of y line 0 ≡ next → IsBlock next text (7 * j) content → z ≡ overwritten (8 * line) content y →
    with_chain_filled text (count - (j + 1)) (7 * (j + 1)) next z ≡ target
fill_goes_on text count j line next content y z target l r word b f =
    let less : count - j ≡ suc (count - (j + 1)) = omega arith in
    let at : 7 * (j + 1) ≡ 7 * j + 7 = omega arith in
    let row : z ≡ overwritten (8 * line) (block_words (word_of y line 0) text (7 * j)) y = f ∙ ap (λ s. overwritten (8 * line) s y) (block_exact next text (7 * j) content b) ∙ ap (λ n. overwritten (8 * line) (block_words n text (7 * j)) y) (sym word) in
    ap (λ m. with_chain_filled text (count - (j + 1)) m next z) at ∙ ap (λ m. with_chain_filled text (count - (j + 1)) (7 * j + 7) m z) (sym word)
    ∙ ap (with_chain_filled text (count - (j + 1)) (7 * j + 7) (word_of y line 0)) row ∙ ap (λ n. with_chain_filled text n (7 * j) line y) (sym less) ∙ r

-- once the code filled all `count` lines of a chain, its words are the defined ones, `target`
pub fill_ends : (text : List ℕ) (count j line : ℕ) (y target : List ℕ) → j ≡ count → with_chain_filled text (count - j) (7 * j) line y ≡ target → y ≡ target
fill_ends text count j line y target e r = (let none : count - j ≡ 0 = omega arith in ap (λ n. with_chain_filled text n (7 * j) line y) (sym none) ∙ r)
