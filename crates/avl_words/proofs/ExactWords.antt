-- The words after a change are the only ones that stand for the tree after it.
use Rattle.std.proofs.Common.{◌≡◌, ◌≢◌, ◌+◌, ◌*◌, ◌/◌, ◌%◌, ◌<◌, ◌≤◌, inl, inr, ℕ, zero, suc, cond, eqb, List, length, get_or, map, refl, sym, ap, subst, ◌∙◌, arith}
use Rattle.std.specs.List.{range_with_len}
use Rattle.std.proofs.lemmas.Bool.{cases_eq, cases_lt, cond-true, cond-false, eq-eqb, ne_eqb}
use Rattle.std.proofs.lemmas.List.{ext_get_or}
use Rattle.std.proofs.lemmas.List.FromFn.{get_or-map-range_with_len, length-map-range_with_len}
use Rattle.avl_words.specs.Tree.{Tree, Empty, Node, height}
use Rattle.avl_words.specs.Lines.{word_of}
use Rattle.avl_words.specs.Words.{root, times, RepresentsTree, IsTree}
use Rattle.avl_words.specs.Links.{SameExcept}
use Rattle.avl_words.specs.Exact.{tree_at, tree_in, node_word, link_of, with_links}
use Rattle.avl_words.proofs.Depth.{depth_bound}
use Rattle.avl_words.proofs.Frames.{times_self, times_other}

-- the tree below a link
pub tree_at_is : (ws : List ℕ) (t : Tree ℕ) (n : ℕ) → RepresentsTree ws t → height t ≤ n → tree_at n (root t) ws ≡ t
tree_at_is ws Empty zero s h = refl
tree_at_is ws Empty (suc n) s h = refl
tree_at_is ws (Node l x r) zero s h = absurd (omega arith)
tree_at_is ws (Node l x r) (suc n) s h =
    cond-false (eqb x 0) Empty (Node (tree_at n (word_of ws x 0) ws) x (tree_at n (word_of ws x 1) ws))
    (ne_eqb x 0 (λ e. absurd (let some = s.0.some in omega arith)))
    ∙ ap (λ u. Node u x (tree_at n (word_of ws x 1) ws)) (ap (λ k. tree_at n k ws) s.0.left_is ∙ tree_at_is ws l n s.1 (omega arith))
    ∙ ap (λ u. Node l x u) (ap (λ k. tree_at n k ws) s.0.right_is ∙ tree_at_is ws r n s.2 (omega arith))

pub tree_in_is : (ws : List ℕ) (t : Tree ℕ) → IsTree ws t → tree_in ws ≡ t
unfolding tree_in
tree_in_is ws t i = ap (λ k. tree_at 64 k ws) i.root_is ∙ tree_at_is ws t 64 i.stands (depth_bound t i.balanced i.few)

-- words of lines
far_word : (left right high i old : ℕ) → 3 ≤ i → node_word left right high i old ≡ old
far_word left right high zero old h = absurd (omega arith)
far_word left right high (suc zero) old h = absurd (omega arith)
far_word left right high (suc (suc zero)) old h = absurd (omega arith)
far_word left right high (suc (suc (suc i))) old h = refl

pub link_far : (t : Tree ℕ) (line i old : ℕ) → 3 ≤ i → link_of t line i old ≡ old
link_far Empty line i old h = refl
link_far (Node l x r) line i old h =
    elim (cases_eq x line) as (λ _. link_of (Node l x r) line i old ≡ old) [
      | inl e ↦ cond-true (eqb x line) (node_word (root l) (root r) (height (Node l x r)) i old) (link_of l line i (link_of r line i old)) (eq-eqb x line e) ∙ far_word (root l) (root r) (height (Node l x r)) i old h
      | inr n ↦ cond-false (eqb x line) (node_word (root l) (root r) (height (Node l x r)) i old) (link_of l line i (link_of r line i old)) (ne_eqb x line n)
          ∙ link_far l line i (link_of r line i old) h ∙ link_far r line i old h
    ]

pub link_none : (t : Tree ℕ) (line i old : ℕ) → times line t ≡ 0 → link_of t line i old ≡ old
link_none Empty line i old z = refl
link_none (Node l x r) line i old z =
    elim (cases_eq x line) as (λ _. link_of (Node l x r) line i old ≡ old) [
      | inl e ↦ absurd (let o = subst (λ k. ◌≡◌ {A = ℕ} (cond (eqb x k) 1 0) 1) e (times_self x) in omega (arith, o, z))
      | inr n ↦ cond-false (eqb x line) (node_word (root l) (root r) (height (Node l x r)) i old) (link_of l line i (link_of r line i old)) (ne_eqb x line n)
          ∙ link_none l line i (link_of r line i old) (omega (arith, z)) ∙ link_none r line i old (omega (arith, z))
    ]

-- where words stand for the node `x` over `l` and `r`, the first three words of its line are its children and its height
here_word : (ws : List ℕ) (l : Tree ℕ) (x : ℕ) (r : Tree ℕ) (i old : ℕ) → RepresentsTree ws (Node l x r) → i < 3 → node_word (root l) (root r) (height (Node l x r)) i old ≡ word_of ws x i
here_word ws l x r zero old s h = sym s.0.left_is
here_word ws l x r (suc zero) old s h = sym s.0.right_is
here_word ws l x r (suc (suc zero)) old s h = sym s.0.height_is
here_word ws l x r (suc (suc (suc i))) old s h = absurd (omega arith)

-- where words stand for `t`, what its links make of one of the first three words of a line of its own is the word that is there
link_there : (ws : List ℕ) (t : Tree ℕ) (line i old : ℕ) → RepresentsTree ws t → times line t ≢ 0 → i < 3 → link_of t line i old ≡ word_of ws line i
link_there ws Empty line i old s n h = absurd (n refl)
link_there ws (Node l x r) line i old s n h =
    elim (cases_eq x line) as (λ _. link_of (Node l x r) line i old ≡ word_of ws line i) [
      | inl e ↦ cond-true (eqb x line) (node_word (root l) (root r) (height (Node l x r)) i old) (link_of l line i (link_of r line i old)) (eq-eqb x line e)
          ∙ here_word ws l x r i old s h ∙ ap (λ k. word_of ws k i) e
      | inr ne ↦ cond-false (eqb x line) (node_word (root l) (root r) (height (Node l x r)) i old) (link_of l line i (link_of r line i old)) (ne_eqb x line ne)
          ∙ elim (cases_eq (times line l) 0) as (λ _. link_of l line i (link_of r line i old) ≡ word_of ws line i) [
            | inl z ↦ link_none l line i (link_of r line i old) z ∙ link_there ws r line i old s.2 (λ y. n (let o = times_other x line ne in omega (arith, z, y, o))) h
            | inr m ↦ link_there ws l line i (link_of r line i old) s.1 m h
          ]
    ]

split_place : (p : ℕ) → 8 * (p / 8) + p % 8 ≡ p
split_place p = omega arith

-- where only links of `t` have changed and words stand for it now, each word `p` is what the links of `t` make of the old one
one_word : (ws now : List ℕ) (t : Tree ℕ) (p : ℕ) → SameExcept ws now t → RepresentsTree now t → get_or now p 0 ≡ link_of t (p / 8) (p % 8) (get_or ws p 0)
one_word ws now t p but s =
    let e = split_place p in
    let now_is : get_or now p 0 ≡ word_of now (p / 8) (p % 8) = ap (λ k. get_or now k 0) (sym e) in
    let ws_is : word_of ws (p / 8) (p % 8) ≡ get_or ws p 0 = ap (λ k. get_or ws k 0) e in
    now_is ∙ elim (cases_lt (p % 8) 3) as (λ _. word_of now (p / 8) (p % 8) ≡ link_of t (p / 8) (p % 8) (get_or ws p 0)) [
      | inr far ↦ but.same (p / 8) (p % 8) (omega arith) (inr far) ∙ ws_is ∙ sym (link_far t (p / 8) (p % 8) (get_or ws p 0) far)
      | inl near ↦ elim (cases_eq (times (p / 8) t) 0) as (λ _. word_of now (p / 8) (p % 8) ≡ link_of t (p / 8) (p % 8) (get_or ws p 0)) [
        | inl z ↦ but.same (p / 8) (p % 8) (omega arith) (inl z) ∙ ws_is ∙ sym (link_none t (p / 8) (p % 8) (get_or ws p 0) z)
        | inr n ↦ sym (link_there now t (p / 8) (p % 8) (get_or ws p 0) s n near)
      ]
    ]

-- words that stand for a tree, and are otherwise as before, are those before with the tree's links
pub only_words : (ws now : List ℕ) (t : Tree ℕ) → SameExcept ws now t → RepresentsTree now t → now ≡ with_links t ws
unfolding with_links
only_words ws now t but s =
    ext_get_or 0 now (map (λ p. link_of t (p / 8) (p % 8) (get_or ws p 0)) (range_with_len 0 (length ws)))
    (but.long ∙ sym (length-map-range_with_len (λ p. link_of t (p / 8) (p % 8) (get_or ws p 0)) 0 (length ws)))
    (λ p l. one_word ws now t p but s ∙ sym (get_or-map-range_with_len (λ p. link_of t (p / 8) (p % 8) (get_or ws p 0)) 0 (length ws) p p 0 (let long = but.long in omega arith) (omega arith)))
