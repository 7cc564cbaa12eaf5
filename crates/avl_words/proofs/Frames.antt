-- What a node's new links leave as it was, and what stands then.
use Rattle.std.proofs.Common.{◌≡◌, ◌≢◌, ◌+◌, ◌-◌, ◌*◌, ◌<◌, ◌≤◌, ◌⊎◌, inl, inr, max, ℕ, zero, suc, cond, eqb, List, length, refl, sym, ap, subst, ◌∙◌, get_or-set_other, get_or-set_same, arith, lit<}
use Rattle.std.proofs.Math.ListN.{length-set}
use Rattle.std.proofs.lemmas.Bool.Decides.{nat_tests}
use Rattle.avl_words.specs.Tree.{Tree, Empty, Node, height, node_on}
use Rattle.avl_words.specs.Lines.{word_of, IsWithin, with_word}
use Rattle.avl_words.specs.Words.{root, times, IsNode, RepresentsTree}
use Rattle.avl_words.specs.Links.{high_of, with_node, SameExcept}

pub times_self : (line : ℕ) → ◌≡◌ {A = ℕ} (cond (eqb line line) 1 0) 1
times_self line = grind (arith, nat_tests)

pub times_most : (x line : ℕ) → cond {A = ℕ} (eqb x line) 1 0 ≤ 1
times_most x line = grind (arith, nat_tests)

pub times_other : (x line : ℕ) → x ≢ line → ◌≡◌ {A = ℕ} (cond (eqb x line) 1 0) 0
times_other x line n = grind (arith, nat_tests)

-- how often a line is in a node `x` over `a` and `b`, at either side: the sum of both and of the node's own line
pub times_on : (line side : ℕ) (a : Tree ℕ) (x : ℕ) (b : Tree ℕ) → times line (node_on side a x b) ≡ times line a + cond (eqb x line) 1 0 + times line b
times_on line zero a x b = refl
times_on line (suc k) a x b = omega arith

-- the root of the node `x` over `a` and `b` is `x`, whichever side `a` is at
pub root_on : (side : ℕ) (a : Tree ℕ) (x : ℕ) (b : Tree ℕ) → root (node_on side a x b) ≡ x
root_on zero a x b = refl
root_on (suc k) a x b = refl

-- giving a node its children and its height leaves as many words
pub with_node_long : (line side a b : ℕ) (ws : List ℕ) → length (with_node line side a b ws) ≡ length ws
unfolding with_node
with_node_long line side a b ws =
    length-set (with_word line (1 - side) b (with_word line side a ws)) (8 * line + 2) (1 + max (high_of a ws) (high_of b ws))
    ∙ length-set (with_word line side a ws) (8 * line + (1 - side)) b ∙ length-set ws (8 * line + side) a

-- giving a node its children and its height changes no other line, and none of its own words from 3 on
pub with_node_same : (line side a b : ℕ) (ws : List ℕ) (k i : ℕ) → side < 2 → i < 8 → (k ≢ line) ⊎ (3 ≤ i) → word_of (with_node line side a b ws) k i ≡ word_of ws k i
unfolding with_node
with_node_same line side a b ws k i s l (inl ne) =
    get_or-set_other (with_word line (1 - side) b (with_word line side a ws)) (8 * line + 2) (8 * k + i) (1 + max (high_of a ws) (high_of b ws)) 0 (omega arith)
    ∙ get_or-set_other (with_word line side a ws) (8 * line + (1 - side)) (8 * k + i) b 0 (omega arith) ∙ get_or-set_other ws (8 * line + side) (8 * k + i) a 0 (omega arith)
with_node_same line side a b ws k i s l (inr h) =
    get_or-set_other (with_word line (1 - side) b (with_word line side a ws)) (8 * line + 2) (8 * k + i) (1 + max (high_of a ws) (high_of b ws)) 0 (omega arith)
    ∙ get_or-set_other (with_word line side a ws) (8 * line + (1 - side)) (8 * k + i) b 0 (omega arith) ∙ get_or-set_other ws (8 * line + side) (8 * k + i) a 0 (omega arith)

with_node_height : (line side a b : ℕ) (ws : List ℕ) → IsWithin ws line → word_of (with_node line side a b ws) line 2 ≡ 1 + max (high_of a ws) (high_of b ws)
unfolding with_node
with_node_height line side a b ws w =
    get_or-set_same (with_word line (1 - side) b (with_word line side a ws)) (8 * line + 2) (1 + max (high_of a ws) (high_of b ws)) 0
    (omega (arith, length-set (with_word line side a ws) (8 * line + (1 - side)) b, length-set ws (8 * line + side) a))

with_node_other : (line side a b : ℕ) (ws : List ℕ) → side < 2 → IsWithin ws line → word_of (with_node line side a b ws) line (1 - side) ≡ b
unfolding with_node
with_node_other line side a b ws s w =
    get_or-set_other (with_word line (1 - side) b (with_word line side a ws)) (8 * line + 2) (8 * line + (1 - side)) (1 + max (high_of a ws) (high_of b ws)) 0 (omega arith)
    ∙ get_or-set_same (with_word line side a ws) (8 * line + (1 - side)) b 0 (omega (arith, length-set ws (8 * line + side) a))

with_node_side : (line side a b : ℕ) (ws : List ℕ) → side < 2 → IsWithin ws line → word_of (with_node line side a b ws) line side ≡ a
unfolding with_node
with_node_side line side a b ws s w =
    get_or-set_other (with_word line (1 - side) b (with_word line side a ws)) (8 * line + 2) (8 * line + side) (1 + max (high_of a ws) (high_of b ws)) 0 (omega arith)
    ∙ get_or-set_other (with_word line side a ws) (8 * line + (1 - side)) (8 * line + side) b 0 (omega arith)
    ∙ get_or-set_same ws (8 * line + side) a 0 (omega arith)

-- no word of a line has changed
abbrev pub SameLine : List ℕ → List ℕ → ℕ → Type 0
SameLine before now line = (i : ℕ) → i < 8 → word_of now line i ≡ word_of before line i

node_same : (ws now : List ℕ) (line left right high : ℕ) → length now ≡ length ws → SameLine ws now line → IsNode ws line left right high → IsNode now line left right high
node_same ws now line left right high long same n = record {
  some = n.some;
  within = subst (λ k. 8 * line + 8 ≤ k) (sym long) n.within;
  left_is = same 0 (lit< tt) ∙ n.left_is;
  right_is = same 1 (lit< tt) ∙ n.right_is;
  height_is = same 2 (lit< tt) ∙ n.height_is;
}

-- a tree stands after a change that left each of its lines as it was
pub stands_same : (ws now : List ℕ) (t : Tree ℕ) → length now ≡ length ws → ((line : ℕ) → times line t ≢ 0 → SameLine ws now line) → RepresentsTree ws t → RepresentsTree now t
stands_same ws now Empty long same s = tt
stands_same ws now (Node l x r) long same s = (
  node_same ws now x (root l) (root r) (height (Node l x r)) long (same x (λ z. absurd (omega (arith, times_self x, z)))) s.0,
  stands_same ws now l long (λ line n. same line (λ z. n (omega (arith, z)))) s.1,
  stands_same ws now r long (λ line n. same line (λ z. n (omega (arith, z)))) s.2,
)

-- words that stand for `t` still do after the links of a line that is not in `t` are set
pub stands_set : (line side a b : ℕ) (ws : List ℕ) (t : Tree ℕ) → side < 2 → times line t ≡ 0 → RepresentsTree ws t → RepresentsTree (with_node line side a b ws) t
stands_set line side a b ws t s none h =
    stands_same ws (with_node line side a b ws) t (with_node_long line side a b ws)
    (λ k n i l. with_node_same line side a b ws k i s l (inl (λ e. n (subst (λ j. times j t ≡ 0) (sym e) none)))) h

-- the height below a link
high_some : (n : ℕ) (ws : List ℕ) → 1 ≤ n → high_of n ws ≡ word_of ws n 2
high_some zero ws l = absurd (omega arith)
high_some (suc n) ws l = refl

-- the height below the link to a tree that stands is the tree's height
pub high_is : (ws : List ℕ) (t : Tree ℕ) → RepresentsTree ws t → high_of (root t) ws ≡ height t
high_is ws Empty s = refl
high_is ws (Node l x r) s = high_some x ws s.0.some ∙ s.0.height_is

-- a line that is there
pub record IsThere (ws : List ℕ) (x : ℕ) : Type 0 where
  pub some : 1 ≤ x
  pub within : IsWithin ws x

-- a line `x` that is within the words is so after the links of a node are set
pub there_set : (line side a b : ℕ) (ws : List ℕ) (x : ℕ) → side < 2 → IsThere ws x → IsThere (with_node line side a b ws) x
there_set line side a b ws x s h = record {
  some = h.some;
  within = subst (λ k. 8 * x + 8 ≤ k) (sym (with_node_long line side a b ws)) h.within;
}

-- after the links of a node `x` are set to two standing trees that do not hold it, words stand for the node over them
pub stands_on : (side : ℕ) (ta : Tree ℕ) (x : ℕ) (tb : Tree ℕ) (ws : List ℕ) → side < 2 → IsThere ws x → RepresentsTree ws ta → RepresentsTree ws tb → times x ta ≡ 0 → times x tb ≡ 0 →
    RepresentsTree (with_node x side (root ta) (root tb) ws) (node_on side ta x tb)
stands_on zero ta x tb ws s h p q m n =
    let t = there_set x zero (root ta) (root tb) ws x s h in (
      record {
        some = h.some;
        within = t.within;
        left_is = with_node_side x 0 (root ta) (root tb) ws s h.within;
        right_is = with_node_other x 0 (root ta) (root tb) ws s h.within;
        height_is = with_node_height x 0 (root ta) (root tb) ws h.within ∙ ap (λ k. 1 + max k (high_of (root tb) ws)) (high_is ws ta p) ∙ ap (λ k. 1 + max (height ta) k) (high_is ws tb q);
      },
      stands_set x 0 (root ta) (root tb) ws ta s m p,
      stands_set x 0 (root ta) (root tb) ws tb s n q,
    )
stands_on (suc zero) ta x tb ws s h p q m n =
    let t = there_set x 1 (root ta) (root tb) ws x s h in
    let g = with_node_height x 1 (root ta) (root tb) ws h.within ∙ ap (λ k. 1 + max k (high_of (root tb) ws)) (high_is ws ta p) ∙ ap (λ k. 1 + max (height ta) k) (high_is ws tb q) in (
      record {
        some = h.some;
        within = t.within;
        left_is = with_node_other x 1 (root ta) (root tb) ws s h.within;
        right_is = with_node_side x 1 (root ta) (root tb) ws s h.within;
        height_is = omega (arith, g);
      },
      stands_set x 1 (root ta) (root tb) ws tb s n q,
      stands_set x 1 (root ta) (root tb) ws ta s m p,
    )
stands_on (suc (suc k)) ta x tb ws s h p q m n = absurd (omega arith)

-- links of a tree's nodes only
pub except_set : (line side a b : ℕ) (ws : List ℕ) (t : Tree ℕ) → side < 2 → 1 ≤ times line t → SameExcept ws (with_node line side a b ws) t
except_set line side a b ws t s there = record {
  long = with_node_long line side a b ws;
  same = λ k i l h. with_node_same line side a b ws k i s l (elim h as (λ _. (k ≢ line) ⊎ (3 ≤ i)) [
    | inl none ↦ inl (λ e. absurd (let f = subst (λ j. times j t ≡ 0) e none in omega arith))
    | inr more ↦ inr more
  ]);
}

-- two changes one after the other, from `a` to `b` and on to `c`, both of links of `t` only, are one change of links of `t` only
pub except_then : (a b c : List ℕ) (t : Tree ℕ) → SameExcept a b t → SameExcept b c t → SameExcept a c t
except_then a b c t p q = record { long = q.long ∙ p.long; same = λ k i l h. q.same k i l h ∙ p.same k i l h }

-- a change from `a` to `b` of links of `s` only is one of links of `t` only, where no line is in `s` more often than in `t`
pub except_more : (a b : List ℕ) (s t : Tree ℕ) → ((line : ℕ) → times line s ≤ times line t) → SameExcept a b s → SameExcept a b t
except_more a b s t le p = record {
  long = p.long;
  same = λ k i l h. p.same k i l (elim h as (λ _. (times k s ≡ 0) ⊎ (3 ≤ i)) [ inl none ↦ inl (let m = le k in omega arith) | inr more ↦ inr more ]);
}

-- a tree that stands apart from the changed one
pub stands_apart : (a b : List ℕ) (s t : Tree ℕ) → SameExcept a b t → ((line : ℕ) → times line s + times line t ≤ 1) → RepresentsTree a s → RepresentsTree b s
stands_apart a b s t but apart h = stands_same a b s but.long (λ k n i l. but.same k i l (inl (let m = apart k in let o : times k s ≢ 0 = n in omega arith))) h

-- one link of a node
pub link_but : (ws : List ℕ) (m j v : ℕ) → j < 3 → SameExcept ws (with_word m j v ws) (Node Empty m Empty)
link_but ws m j v small = record {
  long = length-set ws (8 * m + j) v;
  same = λ k i l h. get_or-set_other ws (8 * m + j) (8 * k + i) v 0 (elim h as (λ _. 8 * k + i ≢ 8 * m + j) [
    | inl none ↦ (λ e. absurd (let s : k ≡ m = omega arith in let n = subst (λ j. times j (Node Empty m Empty) ≡ 0) s none in let o = times_self m in omega (arith, n, o)))
    | inr far ↦ (λ e. absurd (omega arith))
  ]);
}
