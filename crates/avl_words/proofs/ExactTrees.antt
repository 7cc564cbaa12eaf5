-- Words with the links of a tree stand for it.
use Rattle.std.proofs.Common.{◌≡◌, ◌≢◌, ◌+◌, ◌*◌, ◌/◌, ◌%◌, ◌<◌, ◌≤◌, inl, inr, ℕ, cond, eqb, List, length, get_or, refl, sym, ap, subst, ◌∙◌, zero-add, get_or-set_same, get_or-set_other, arith, lit<}
use Rattle.std.proofs.Math.ListN.{length-set}
use Rattle.std.proofs.lemmas.Bool.{cases_eq, cond-true, cond-false, eq-eqb, ne_eqb}
use Rattle.std.proofs.lemmas.List.FromFn.{get_or-map-range_with_len, length-map-range_with_len}
use Rattle.avl_words.specs.Tree.{Tree, Empty, Node, height}
use Rattle.avl_words.specs.Lines.{word_of, IsWithin}
use Rattle.avl_words.specs.Words.{root, times, RepresentsTree}
use Rattle.avl_words.specs.Exact.{node_word, link_of, with_links, with_tree}
use Rattle.avl_words.proofs.ExactWords.{link_far, link_none}
use Rattle.avl_words.proofs.Frames.{times_self, stands_same}

pub links_long : (t : Tree ℕ) (ws : List ℕ) → length (with_links t ws) ≡ length ws
unfolding with_links
links_long t ws = length-map-range_with_len (λ p. link_of t (p / 8) (p % 8) (get_or ws p 0)) 0 (length ws)

-- word i of a line, with the links of a tree
pub link_word : (t : Tree ℕ) (ws : List ℕ) (line i : ℕ) → i < 8 → IsWithin ws line → word_of (with_links t ws) line i ≡ link_of t line i (word_of ws line i)
unfolding with_links
link_word t ws line i l within =
    let at : (8 * line + i) / 8 ≡ line = omega arith in
    let rest : (8 * line + i) % 8 ≡ i = omega arith in
    get_or-map-range_with_len (λ p. link_of t (p / 8) (p % 8) (get_or ws p 0)) 0 (length ws) (8 * line + i) (8 * line + i) 0 (omega arith) (zero-add (8 * line + i))
    ∙ ap (λ k. link_of t k ((8 * line + i) % 8) (word_of ws line i)) at ∙ ap (λ k. link_of t line k (word_of ws line i)) rest

-- the lines of a tree are there
abbrev pub AreThere : List ℕ → Tree ℕ → Type 0
AreThere ws t = (k : ℕ) → times k t ≢ 0 → (1 ≤ k) × IsWithin ws k

-- Words that say of each of its lines what a tree says stand for it.
module _ (now : List ℕ) (old : ℕ → ℕ → ℕ) where
  abbrev Says : Tree ℕ → Type 0
  Says t = (k i : ℕ) → times k t ≢ 0 → i < 3 → word_of now k i ≡ link_of t k i (old k i)

  -- of words that say what a tree says, the first three of the line of its root `x` are that node's children and height
  link_here : (l : Tree ℕ) (x : ℕ) (r : Tree ℕ) (i : ℕ) → Says (Node l x r) → i < 3 → word_of now x i ≡ node_word (root l) (root r) (height (Node l x r)) i (old x i)
  link_here l x r i s h =
      s x i (λ z. absurd (let o = times_self x in omega (arith, o, z))) h
      ∙ cond-true (eqb x x) (node_word (root l) (root r) (height (Node l x r)) i (old x i)) (link_of l x i (link_of r x i (old x i))) (eq-eqb x x refl)

  pub says_stands : (t : Tree ℕ) → Says t → ((k : ℕ) → times k t ≤ 1) → AreThere now t → RepresentsTree now t
  says_stands Empty s once there = tt
  says_stands (Node l x r) s once there =
      let here = there x (λ z. absurd (let o = times_self x in omega (arith, o, z))) in (
        record {
          some = here.0;
          within = here.1;
          left_is = link_here l x r 0 s (lit< tt);
          right_is = link_here l x r 1 s (lit< tt);
          height_is = link_here l x r 2 s (lit< tt);
        },
        says_stands l (λ k i n h. (
            let o = once k in
            let apart : x ≢ k = λ e. absurd (let c = subst (λ j. ◌≡◌ {A = ℕ} (cond (eqb x j) 1 0) 1) e (times_self x) in let m : times k l ≢ 0 = n in omega (arith, o, c, m)) in
            let none : times k r ≡ 0 = (let m : times k l ≢ 0 = n in omega (arith, o, m)) in
            s k i (λ z. absurd (let m : times k l ≢ 0 = n in omega (arith, z, m))) h
            ∙ cond-false (eqb x k) (node_word (root l) (root r) (height (Node l x r)) i (old k i)) (link_of l k i (link_of r k i (old k i))) (ne_eqb x k apart)
            ∙ ap (link_of l k i) (link_none r k i (old k i) none)))
            (λ k. (let o = once k in omega (arith, o))) (λ k n. there k (λ z. absurd (let m : times k l ≢ 0 = n in omega (arith, z, m)))),
        says_stands r (λ k i n h. (
            let o = once k in
            let apart : x ≢ k = λ e. absurd (let c = subst (λ j. ◌≡◌ {A = ℕ} (cond (eqb x j) 1 0) 1) e (times_self x) in let m : times k r ≢ 0 = n in omega (arith, o, c, m)) in
            let none : times k l ≡ 0 = (let m : times k r ≢ 0 = n in omega (arith, o, m)) in
            s k i (λ z. absurd (let m : times k r ≢ 0 = n in omega (arith, z, m))) h
            ∙ cond-false (eqb x k) (node_word (root l) (root r) (height (Node l x r)) i (old k i)) (link_of l k i (link_of r k i (old k i))) (ne_eqb x k apart)
            ∙ link_none l k i (link_of r k i (old k i)) none))
            (λ k. (let o = once k in omega (arith, o))) (λ k n. there k (λ z. absurd (let m : times k r ≢ 0 = n in omega (arith, z, m)))),
      )

module _ (t : Tree ℕ) (ws : List ℕ) (header : 8 ≤ length ws) (once : (k : ℕ) → times k t ≤ 1) (there : AreThere ws t) where
  pub links_stand : RepresentsTree (with_links t ws) t
  links_stand = says_stands (with_links t ws) (λ k i. word_of ws k i) t (λ k i n h. link_word t ws k i (omega arith) (there k n).1) once
      (λ k n. ((there k n).0, subst (λ m. 8 * k + 8 ≤ m) (sym (links_long t ws)) (there k n).1))

  pub no_header : times 0 t ≡ 0
  no_header = elim (cases_eq (times 0 t) 0) as (λ _. times 0 t ≡ 0) [ inl z ↦ z | inr n ↦ absurd (let some = (there 0 n).0 in omega arith) ]

  -- what is as it was
  pub tree_long : length (with_tree t ws) ≡ length ws
  unfolding with_tree
  tree_long = length-set (with_links t ws) (8 * 0 + 1) (root t) ∙ links_long t ws

  pub tree_header : (i : ℕ) → i < 8 → i ≢ 1 → word_of (with_tree t ws) 0 i ≡ word_of ws 0 i
  unfolding with_tree
  tree_header i l ne = get_or-set_other (with_links t ws) (8 * 0 + 1) (8 * 0 + i) (root t) 0 (omega arith) ∙ link_word t ws 0 i l header ∙ link_none t 0 i (word_of ws 0 i) no_header

  pub tree_words_far : (line i : ℕ) → 1 ≤ line → IsWithin ws line → i < 8 → 3 ≤ i → word_of (with_tree t ws) line i ≡ word_of ws line i
  unfolding with_tree
  tree_words_far line i some within l far =
      get_or-set_other (with_links t ws) (8 * 0 + 1) (8 * line + i) (root t) 0 (omega arith) ∙ link_word t ws line i l within ∙ link_far t line i (word_of ws line i) far

  pub tree_words_other : (line i : ℕ) → 1 ≤ line → IsWithin ws line → i < 8 → times line t ≡ 0 → word_of (with_tree t ws) line i ≡ word_of ws line i
  unfolding with_tree
  tree_words_other line i some within l none =
      get_or-set_other (with_links t ws) (8 * 0 + 1) (8 * line + i) (root t) 0 (omega arith) ∙ link_word t ws line i l within ∙ link_none t line i (word_of ws line i) none

  pub tree_root : word_of (with_tree t ws) 0 1 ≡ root t
  unfolding with_tree
  tree_root = get_or-set_same (with_links t ws) (8 * 0 + 1) (root t) 0 (let l = links_long t ws in omega (arith, l))

  pub tree_stands : RepresentsTree (with_tree t ws) t
  unfolding with_tree
  tree_stands = stands_same (with_links t ws) (with_tree t ws) t (length-set (with_links t ws) (8 * 0 + 1) (root t))
      (λ line n i l. get_or-set_other (with_links t ws) (8 * 0 + 1) (8 * line + i) (root t) 0 (let some = (there line n).0 in omega arith)) links_stand
