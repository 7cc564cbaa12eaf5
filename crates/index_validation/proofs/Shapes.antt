-- What a look at one node says of all that is pending.
use Rattle.std.proofs.Common.{◌≡◌, ◌≢◌, ◌+◌, ◌-◌, ◌<◌, ◌≤◌, inl, inr, max, ℕ, zero, suc, eqb, List, [], ◌∷◌, length, get_or, set, refl, sym, ap, subst, ◌∙◌, get_or-set_other, get_or-set_same, add-one, arith}
use Rattle.std.proofs.lemmas.Bool.{cases_eq, eq-eqb, ne_eqb}
use Rattle.std.specs.Bool.{MatchBool}
use Rattle.avl_words.specs.Tree.{Tree, Empty, Node, height, size, Balanced}
use Rattle.avl_words.specs.Lines.{word_of, IsWithin}
use Rattle.avl_words.specs.Words.{root, RepresentsTree}
use Rattle.avl_words.specs.Links.{high_of}
use Rattle.index_validation.specs.Shape.{HasShape, IsGood}
use Rattle.avl_words.proofs.Frames.{high_is}

-- the lines that are still to be looked at, the last one first
abbrev pub pending : ℕ → List ℕ → List ℕ
pending zero stack = []
pending (suc depth) stack = get_or stack depth 0 ∷ pending depth stack

-- trees below these lines, with the given number of nodes in all
abbrev pub Forest : List ℕ → List ℕ → ℕ → Type 0
Forest words [] count = count ≡ 0
Forest words (line ∷ lines) count = (n : ℕ) × (m : ℕ) × (n + m ≡ count) × HasShape words line n × Forest words lines m

-- what is left to look at is as good as all of it
pub record IsPending (words : List ℕ) (line count : ℕ) (lines : List ℕ) (rest : ℕ) : Type 0 where
  pub on : HasShape words line count → Forest words lines rest
  pub back : Forest words lines rest → HasShape words line count

-- pending lines are lines, and their heights leave room for what is below them
abbrev pub IsRoomy : List ℕ → ℕ → List ℕ → Type 0
IsRoomy words depth stack = (p : ℕ) → p < depth → (1 ≤ get_or stack p 0) × (high_of (get_or stack p 0) words + p ≤ 64)

-- a node that is good, and the shapes below it
pub node_of : (ws : List ℕ) (line n m : ℕ) → IsGood ws line → HasShape ws (word_of ws line 0) n → HasShape ws (word_of ws line 1) m → HasShape ws line (n + (1 + m))
node_of ws line n m g l r =
    let hl : high_of (word_of ws line 0) ws ≡ height l.tree = ap (λ k. high_of k ws) (sym l.root_is) ∙ high_is ws l.tree l.stands in
    let hr : high_of (word_of ws line 1) ws ≡ height r.tree = ap (λ k. high_of k ws) (sym r.root_is) ∙ high_is ws r.tree r.stands in
    let level = g.level in
    record {
      tree = Node l.tree line r.tree;
      stands = (record { some = g.some; within = g.within; left_is = sym l.root_is; right_is = sym r.root_is; height_is = g.height_is ∙ ap (λ k. 1 + max k (high_of (word_of ws line 1) ws)) hl ∙ ap (λ k. 1 + max (height l.tree) k) hr }, l.stands, r.stands);
      balanced = (record { left = omega arith; right = omega arith }, l.balanced, r.balanced);
      root_is = refl;
      counted = (let a = l.counted in let b = r.counted in omega arith);
    }

pub record IsSplit (ws : List ℕ) (line count : ℕ) : Type 0 where
  pub good : IsGood ws line
  pub n : ℕ
  pub m : ℕ
  pub sum_is : n + (1 + m) ≡ count
  pub left : HasShape ws (word_of ws line 0) n
  pub right : HasShape ws (word_of ws line 1) m

-- a balanced tree `t` whose root is a line other than 0 is a good node and two balanced trees with all its other nodes
split : (ws : List ℕ) (line count : ℕ) (t : Tree ℕ) → RepresentsTree ws t → Balanced t → root t ≡ line → size t ≡ count → line ≢ 0 → IsSplit ws line count
split ws line count Empty s b e c n = absurd (n (sym e))
split ws line count (Node l x r) s b e c n =
    let p : word_of ws line 0 ≡ root l = ap (λ k. word_of ws k 0) (sym e) ∙ s.0.left_is in
    let q : word_of ws line 1 ≡ root r = ap (λ k. word_of ws k 1) (sym e) ∙ s.0.right_is in
    let hl : high_of (word_of ws line 0) ws ≡ height l = ap (λ k. high_of k ws) p ∙ high_is ws l s.1 in
    let hr : high_of (word_of ws line 1) ws ≡ height r = ap (λ k. high_of k ws) q ∙ high_is ws r s.2 in
    let level = b.0 in
    record {
      good = record {
        some = subst (λ k. 1 ≤ k) e s.0.some;
        within = subst (IsWithin ws) e s.0.within;
        height_is = ap (λ k. word_of ws k 2) (sym e) ∙ s.0.height_is ∙ ap (λ k. 1 + max k (height r)) (sym hl) ∙ ap (λ k. 1 + max (high_of (word_of ws line 0) ws) k) (sym hr);
        level = record { left = omega arith; right = omega arith };
      };
      n = size l;
      m = size r;
      sum_is = c;
      left = record { tree = l; stands = s.1; balanced = b.1; root_is = sym p; counted = refl };
      right = record { tree = r; stands = s.2; balanced = b.2; root_is = sym q; counted = refl };
    }

pub split_of : (ws : List ℕ) (line count : ℕ) → HasShape ws line count → line ≢ 0 → IsSplit ws line count
split_of ws line count h n = split ws line count h.tree h.stands h.balanced h.root_is h.counted n

-- a tree `t` whose root is 0 has no nodes: the number given for it is 0
none_counts : (ws : List ℕ) (count : ℕ) (t : Tree ℕ) → RepresentsTree ws t → root t ≡ 0 → size t ≡ count → count ≡ 0
none_counts ws count Empty s e c = sym c
none_counts ws count (Node l x r) s e c = absurd (let some = s.0.some in omega arith)

pub none_of : (ws : List ℕ) (line count : ℕ) → line ≡ 0 → HasShape ws line count → count ≡ 0
none_of ws line count z h = none_counts ws count h.tree h.stands (h.root_is ∙ z) h.counted

pub nothing : (ws : List ℕ) (line : ℕ) → line ≡ 0 → HasShape ws line 0
nothing ws line z = record { tree = Empty; stands = tt; balanced = tt; root_is = sym z; counted = refl }

-- a line on the stack
pub pending_set : (stack : List ℕ) (d e v : ℕ) → d ≤ e → pending d (set stack e v) ≡ pending d stack
pending_set stack zero e v le = refl
pending_set stack (suc d) e v le = ap (λ k. k ∷ pending d (set stack e v)) (get_or-set_other stack e d v 0 (omega arith)) ∙ ap (λ u. get_or stack d 0 ∷ u) (pending_set stack d e v (omega arith))

-- with a line `v` pushed at depth `d`, it is the first of those pending, before the ones that were
pub pending_push : (stack : List ℕ) (d v : ℕ) → d < length stack → pending (d + 1) (set stack d v) ≡ v ∷ pending d stack
pending_push stack d v l =
    ap (λ k. pending k (set stack d v)) (add-one d) ∙ ap (λ k. k ∷ pending d (set stack d v)) (get_or-set_same stack d v 0 l) ∙ ap (λ u. v ∷ u) (pending_set stack d d v (omega arith))

-- what is pushed, one or none, is a forest as that line and the rest are
pub record IsPushed (old now : List ℕ) (depth result line : ℕ) : Type 0 where
  pub none : line ≡ 0 → (result ≡ depth) × (now ≡ old)
  pub some : line ≢ 0 → (result ≡ depth + 1) × (now ≡ set old depth line)

-- with a line pushed, unless it is 0, its tree of `n` nodes and a forest of `m` below the others are a forest of all `n + m`
pub push_on : (ws old now : List ℕ) (depth result line n m : ℕ) → depth < length old → IsPushed old now depth result line → HasShape ws line n → Forest ws (pending depth old) m → Forest ws (pending result now) (n + m)
push_on ws old now depth result line n m l p h f =
    elim (cases_eq line 0) as (λ _. Forest ws (pending result now) (n + m)) [
      | inl z ↦ (let q = p.none z in let c = none_of ws line n z h in let e : pending depth old ≡ pending result now = ap (λ k. pending k old) (sym q.0) ∙ ap (pending result) (sym q.1) in
          subst (λ k. Forest ws (pending result now) k) (let s : m ≡ n + m = omega arith in s) (subst (λ u. Forest ws u m) e f))
      | inr ne ↦ (let q = p.some ne in let e : line ∷ pending depth old ≡ pending result now = sym (ap (λ k. pending k now) q.0 ∙ ap (pending (depth + 1)) q.1 ∙ pending_push old depth line l) in
          subst (λ u. Forest ws u (n + m)) e (n, m, refl, h, f))
    ]

pub record IsBack (ws : List ℕ) (line : ℕ) (lines : List ℕ) (count : ℕ) : Type 0 where
  pub n : ℕ
  pub m : ℕ
  pub sum_is : n + m ≡ count
  pub shape : HasShape ws line n
  pub rest : Forest ws lines m

-- a forest below all lines pending after a push is a tree below the pushed line, or none below 0, and a forest below the others
pub push_back : (ws old now : List ℕ) (depth result line count : ℕ) → depth < length old → IsPushed old now depth result line → Forest ws (pending result now) count → IsBack ws line (pending depth old) count
push_back ws old now depth result line count l p f =
    elim (cases_eq line 0) as (λ _. IsBack ws line (pending depth old) count) [
      | inl z ↦ (let q = p.none z in let e : pending result now ≡ pending depth old = ap (pending result) q.1 ∙ ap (λ k. pending k old) q.0 in
          record { n = 0; m = count; sum_is = omega arith; shape = nothing ws line z; rest = subst (λ u. Forest ws u count) e f })
      | inr ne ↦ (let q = p.some ne in let e : pending result now ≡ line ∷ pending depth old = ap (λ k. pending k now) q.0 ∙ ap (pending (depth + 1)) q.1 ∙ pending_push old depth line l in
          let g : Forest ws (line ∷ pending depth old) count = subst (λ u. Forest ws u count) e f in
          record { n = g.0; m = g.1; sum_is = g.2; shape = g.3; rest = g.4 })
    ]

-- one look
pub record IsLook (ws stack one two : List ℕ) (depth first second : ℕ) : Type 0 where
  pub some : 1 ≤ depth
  pub good : IsGood ws (get_or stack (depth - 1) 0)
  pub right : IsPushed stack one (depth - 1) first (word_of ws (get_or stack (depth - 1) 0) 1)
  pub left : IsPushed one two first second (word_of ws (get_or stack (depth - 1) 0) 0)
  pub long : depth ≤ length stack
  pub one_long : first < length one

top_of : (stack : List ℕ) (depth : ℕ) → 1 ≤ depth → pending depth stack ≡ get_or stack (depth - 1) 0 ∷ pending (depth - 1) stack
top_of stack depth some = ap (λ k. pending k stack) (let e : depth ≡ suc (depth - 1) = omega arith in e)

pub look_left : (ws stack one two : List ℕ) (line count depth first second rest : ℕ) → IsLook ws stack one two depth first second → 1 ≤ rest → IsPending ws line count (pending depth stack) rest →
    IsPending ws line count (pending second two) (rest - 1)
look_left ws stack one two line count depth first second rest l more p = record {
  on = λ h. (
      let f = subst (λ u. Forest ws u rest) (top_of stack depth l.some) (p.on h) in
      let s = split_of ws (get_or stack (depth - 1) 0) f.0 f.3 (λ z. absurd (let g = l.good.some in omega arith)) in
      let a = push_on ws stack one (depth - 1) first (word_of ws (get_or stack (depth - 1) 0) 1) s.m f.1 (let q = l.long in let r = l.some in omega arith) l.right s.right f.4 in
      let b = push_on ws one two first second (word_of ws (get_or stack (depth - 1) 0) 0) s.n (s.m + f.1) l.one_long l.left s.left a in
      subst (Forest ws (pending second two)) (let x = s.sum_is in let y = f.2 in omega arith) b);
  back = λ f. (
      let a = push_back ws one two first second (word_of ws (get_or stack (depth - 1) 0) 0) (rest - 1) l.one_long l.left f in
      let b = push_back ws stack one (depth - 1) first (word_of ws (get_or stack (depth - 1) 0) 1) a.m (let q = l.long in let r = l.some in omega arith) l.right a.rest in
      let h = node_of ws (get_or stack (depth - 1) 0) a.n b.n l.good a.shape b.shape in
      p.back (subst (λ u. Forest ws u rest) (sym (top_of stack depth l.some)) (a.n + (1 + b.n), b.m, (let x = a.sum_is in let y = b.sum_is in omega arith), h, b.rest)));
}

-- with a line pushed whose height and depth `d` are at most 64 together, the heights of all pending lines leave room as before
roomy_push : (ws old now : List ℕ) (d r line : ℕ) → d < length old → IsPushed old now d r line → high_of line ws + d ≤ 64 → IsRoomy ws d old → IsRoomy ws r now
roomy_push ws old now d r line l p low room q less =
    elim (cases_eq line 0) as (λ _. (1 ≤ get_or now q 0) × (high_of (get_or now q 0) ws + q ≤ 64)) [
      | inl z ↦ (let s = p.none z in subst (λ u. (1 ≤ get_or u q 0) × (high_of (get_or u q 0) ws + q ≤ 64)) (sym s.1) (room q (let e = s.0 in omega arith)))
      | inr ne ↦ (let s = p.some ne in
          subst (λ u. (1 ≤ get_or u q 0) × (high_of (get_or u q 0) ws + q ≤ 64)) (sym s.1)
          (elim (cases_eq q d) as (λ _. (1 ≤ get_or (set old d line) q 0) × (high_of (get_or (set old d line) q 0) ws + q ≤ 64)) [
            | inl e ↦ (let here : line ≡ get_or (set old d line) q 0 = sym (get_or-set_same old d line 0 l) ∙ ap (λ k. get_or (set old d line) k 0) (sym e) in
                subst (λ k. (1 ≤ k) × (high_of k ws + q ≤ 64)) here ((let n : line ≢ 0 = ne in omega arith), omega (arith, low, e)))
            | inr other ↦ (let there : get_or old q 0 ≡ get_or (set old d line) q 0 = sym (get_or-set_other old d q line 0 other) in
                subst (λ k. (1 ≤ k) × (high_of k ws + q ≤ 64)) there (room q (let e = s.0 in let o : q ≢ d = other in omega arith)))
          ]))
    ]

-- a push makes the depth `d` at most one more
pub pushed_most : (old now : List ℕ) (d r line : ℕ) → IsPushed old now d r line → r ≤ d + 1
pushed_most old now d r line p = elim (cases_eq line 0) as (λ _. r ≤ d + 1) [ inl z ↦ (let e = (p.none z).0 in omega arith) | inr n ↦ (let e = (p.some n).0 in omega arith) ]

high_some : (n : ℕ) (ws : List ℕ) → 1 ≤ n → high_of n ws ≡ word_of ws n 2
high_some zero ws l = absurd (omega arith)
high_some (suc n) ws l = refl

pub look_room : (ws stack one two : List ℕ) (depth first second : ℕ) → IsLook ws stack one two depth first second → IsRoomy ws depth stack → IsRoomy ws second two
look_room ws stack one two depth first second l room =
    let node = get_or stack (depth - 1) 0 in
    let some = l.some in
    let h = high_some (get_or stack (depth - 1) 0) ws l.good.some ∙ l.good.height_is in
    let r = (room (depth - 1) (omega arith)).1 in
    let m = pushed_most stack one (depth - 1) first (word_of ws (get_or stack (depth - 1) 0) 1) l.right in
    roomy_push ws one two first second (word_of ws (get_or stack (depth - 1) 0) 0) l.one_long l.left (omega arith)
    (roomy_push ws stack one (depth - 1) first (word_of ws (get_or stack (depth - 1) 0) 1) (let q = l.long in omega arith) l.right (omega arith) (λ q less. room q (omega arith)))

pub room_shallow : (ws stack : List ℕ) (depth : ℕ) → IsRoomy ws depth stack → depth ≤ 65
room_shallow ws stack zero room = omega arith
room_shallow ws stack (suc d) room = (let r = (room d (omega arith)).1 in omega arith)

-- a look that finds the node wrong
pub bad_look : (ws stack : List ℕ) (line count depth rest : ℕ) → 1 ≤ depth → IsRoomy ws depth stack → IsPending ws line count (pending depth stack) rest → (IsGood ws (get_or stack (depth - 1) 0) → ⊥) → HasShape ws line count → ⊥
bad_look ws stack line count depth rest some room p bad h =
    let f = subst (λ u. Forest ws u rest) (top_of stack depth some) (p.on h) in
    let r = (room (depth - 1) (omega arith)).0 in
    bad (split_of ws (get_or stack (depth - 1) 0) f.0 f.3 (λ z. absurd (omega arith))).good

-- the end
more_left : (ws stack : List ℕ) (line count depth : ℕ) → 1 ≤ depth → IsRoomy ws depth stack → IsPending ws line count (pending depth stack) 0 → HasShape ws line count → ⊥
more_left ws stack line count depth some room p h =
    let f = subst (λ u. Forest ws u 0) (top_of stack depth some) (p.on h) in
    let r = (room (depth - 1) (omega arith)).0 in
    let s = split_of ws (get_or stack (depth - 1) 0) f.0 f.3 (λ z. absurd (omega arith)) in
    let e = s.sum_is in
    let g = f.2 in
    absurd (omega arith)

pub look_ends : (ws stack : List ℕ) (line count depth : ℕ) → IsRoomy ws depth stack → IsPending ws line count (pending depth stack) 0 → MatchBool (eqb depth 0) (HasShape ws line count) (HasShape ws line count → ⊥)
look_ends ws stack line count depth room p =
    elim (cases_eq depth 0) as (λ _. MatchBool (eqb depth 0) (HasShape ws line count) (HasShape ws line count → ⊥)) [
      | inl z ↦ subst (λ b. MatchBool b (HasShape ws line count) (HasShape ws line count → ⊥)) (sym (eq-eqb depth 0 z)) (p.back (subst (λ k. Forest ws (pending k stack) 0) (sym z) refl))
      | inr n ↦ subst (λ b. MatchBool b (HasShape ws line count) (HasShape ws line count → ⊥)) (sym (ne_eqb depth 0 n)) (more_left ws stack line count depth (omega arith) room p)
    ]

-- the beginning
pub look_begins : (ws old now : List ℕ) (line count result : ℕ) → 0 < length old → IsPushed old now 0 result line → IsPending ws line count (pending result now) count
look_begins ws old now line count result l p = record {
  on = λ h. subst (Forest ws (pending result now)) (let e : count + 0 ≡ count = omega arith in e) (push_on ws old now 0 result line count 0 l p h refl);
  back = λ f. (let b = push_back ws old now 0 result line count l p f in subst (HasShape ws line) (let z : b.m ≡ 0 = b.rest in let s = b.sum_is in omega arith) b.shape);
}

pub begins_room : (ws old now : List ℕ) (line result : ℕ) → 0 < length old → IsPushed old now 0 result line → high_of line ws ≤ 64 → IsRoomy ws result now
begins_room ws old now line result l p low = roomy_push ws old now 0 result line l p (omega arith) (λ q less. absurd (omega arith))
