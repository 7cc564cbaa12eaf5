use Rattle.std.proofs.Common.{◌≡◌, ◌^◌, ◌+◌, ◌≤◌, ℕ, List, slice_index, sym, ap, ◌∙◌, arith, rules}
use Rattle.cx_base.proofs.MemoryLemmas.{Becomes-same, Becomes-store, Becomes-loaded, always_at_most}
use Rattle.cx_base.proofs.ReadLemmas.{Reads-none, Reads-loaded}
use Rattle.avl_words.specs.Lines.{with_word, word_of}
use Rattle.word_index.specs.Changes.{with_line_given, CanGive}
use Rattle.avl_words.proofs.Memories.{changed}
use Rattle.word_index.proofs.given_back.give_back.Goals as goal

small : (ws : List ℕ) (line number : ℕ) → CanGive ws line → word_of ws 0 4 ≡ number → number ≤ 2 ^ 32
small ws line number can e = omega (arith, can.few)

pub overflow_add-number : goal.overflow_add-number
overflow_add-number g c =
    let m = c.word-2.new.mem in
    let r = Reads-loaded (Reads-loaded (Reads-none _ c.requires.all) c.in_ok-head.ensures.done) c.in_ok-number.ensures.done in
    let few : c.in_ok-number.number ≤ 2 ^ 32 = always_at_most (g.M.Memory.stands m) (g.met.M.Memory.some_stands m) c.in_ok-number.number (2 ^ 32)
    (λ first now s. (let p = r.from first now s in small now c.args.line c.in_ok-number.number p.1.0.0 p.1.1)) in
    omega arith

-- the words after each store
record AfterFirst (line head number : ℕ) (x z : List ℕ) : Type 0 where
  pub is : z ≡ with_word line 0 head x
  pub head_is : word_of x 0 2 ≡ head
  pub number_is : word_of x 0 4 ≡ number

record AfterSecond (line head number : ℕ) (x z : List ℕ) : Type 0 where
  pub is : z ≡ with_word 0 2 line (with_word line 0 head x)
  pub head_is : word_of x 0 2 ≡ head
  pub number_is : word_of x 0 4 ≡ number

first_store : (line head number : ℕ) (x y : List ℕ) → ((x ≡ y) × (slice_index y 2 ≡ head)) × (slice_index y 4 ≡ number) → AfterFirst line head number x (with_word line 0 head y)
first_store line head number x y r = record {
  is = ap (with_word line 0 head) (sym r.0.0);
  head_is = ap (λ w. word_of w 0 2) r.0.0 ∙ r.0.1;
  number_is = ap (λ w. word_of w 0 4) r.0.0 ∙ r.1;
}

second_store : (line head number : ℕ) (x y : List ℕ) → AfterFirst line head number x y → AfterSecond line head number x (with_word 0 2 line y)
second_store line head number x y r = record { is = ap (with_word 0 2 line) r.is; head_is = r.head_is; number_is = r.number_is }

third_store : (line head number : ℕ) (x y : List ℕ) → AfterSecond line head number x y → with_word 0 4 (number + 1) y ≡ with_line_given line x
unfolding with_line_given
third_store line head number x y r = (let a = r.is in let b = r.head_is in let d = r.number_is in cc)

pub returns : goal.returns
returns g c =
    let line = c.args.line in
    let head = c.in_ok-head.head in
    let number = c.in_ok-number.number in
    let b = Becomes-loaded (Becomes-loaded (Becomes-same _) c.in_ok-head.ensures.done) c.in_ok-number.ensures.done in
    let p = Becomes-store {S = AfterFirst line head number} b c.in_ok-put.ensures.done (λ first x y s r. first_store line head number x y r) in
    let q = Becomes-store {S = AfterSecond line head number} p c.in_ok-put-2.ensures.done (λ first x y s r. second_store line head number x y r) in
    changed (Becomes-store q c.in_ok-put-3.ensures.done (λ first x y s r. third_store line head number x y r)) (search rules) (search rules)
