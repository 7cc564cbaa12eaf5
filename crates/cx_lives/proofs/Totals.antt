-- How many entries the callers of a life have, where each has at most one for each command of its client.
use Rattle.std.proofs.Common.{◌≡◌, ◌≢◌, ℕ, zero, suc, ◌+◌, ◌<◌, ◌≤◌, ◌==◌, cond, List, [], ◌∷◌, length, map, filter, slice_get, Some, ap, subst, refl, inl, inr, arith, length-append}
use Rattle.std.proofs.lemmas.Bool.{cases_eq, eq-eqb, ne_eqb}
use Rattle.std.proofs.lemmas.Option.{same_Some}
use Rattle.cx_core.specs.declared.local.Local.{Local}
use Rattle.cx_core.specs.Merge.{all_own}
use Rattle.life_records.specs.declared.script.Command.{Command}
use Rattle.life_records.specs.Scripts.{own_ops}

-- how many commands so many clients have together, from the client `from` on
total : {Op : Type 0} → ℕ → ℕ → List (Command Op) → ℕ
total from zero commands = 0
total from (suc n) commands = length (own_ops from commands) + total (from + 1) n commands

module _ {Op : Type 0} where
  own_mine : (client : ℕ) (c : Command Op) (cs : List (Command Op)) → c.client ≡ client → length (own_ops client (c ∷ cs)) ≡ length (own_ops client cs) + 1
  own_mine client c cs same =
      let is : own_ops client (c ∷ cs) ≡ c.op ∷ own_ops client cs = ap (λ b. map (λ (x : Command Op). x.op) (cond b (c ∷ filter (λ x. x.client == client) cs) (filter (λ x. x.client == client) cs))) (eq-eqb c.client client same) in
      omega (arith, ap length is)

  own_other : (client : ℕ) (c : Command Op) (cs : List (Command Op)) → c.client ≢ client → length (own_ops client (c ∷ cs)) ≡ length (own_ops client cs)
  own_other client c cs other =
      let is : own_ops client (c ∷ cs) ≡ own_ops client cs = ap (λ b. map (λ (x : Command Op). x.op) (cond b (c ∷ filter (λ x. x.client == client) cs) (filter (λ x. x.client == client) cs))) (ne_eqb c.client client other) in
      ap length is

total_past : {Op : Type 0} → (from n : ℕ) (c : Command Op) (cs : List (Command Op)) → c.client < from → total from n (c ∷ cs) ≡ total from n cs
unfolding total
total_past from zero c cs below = refl
total_past from (suc n) c cs below = omega (arith, own_other from c cs (λ same. omega (arith, same, below)), total_past (from + 1) n c cs (omega (arith, below)))

total_one : {Op : Type 0} → (from n : ℕ) (c : Command Op) (cs : List (Command Op)) → total from n (c ∷ cs) ≤ total from n cs + 1
unfolding total
total_one from zero c cs = omega arith
total_one from (suc n) c cs =
    elim (cases_eq c.client from) [
      | inl same ↦ omega (arith, own_mine from c cs same, total_past (from + 1) n c cs (omega (arith, same)))
      | inr other ↦ omega (arith, own_other from c cs other, total_one (from + 1) n c cs)
    ]

total_none : (Op : Type 0) (from n : ℕ) → total {Op = Op} from n [] ≡ 0
unfolding total
total_none Op from zero = refl
total_none Op from (suc n) = omega (arith, total_none Op (from + 1) n)

total_most : {Op : Type 0} → (from n : ℕ) (commands : List (Command Op)) → total from n commands ≤ length commands
total_most {Op = Op} from n [] = omega (arith, total_none Op from n)
total_most from n (c ∷ cs) = omega (arith, total_one from n c cs, total_most from n cs)

module _ {Op : Type 0} (commands : List (Command Op)) where
  abbrev pub AreFew : ℕ → List Local → Type 0
  AreFew from locals = (i : ℕ) (l : Local) → slice_get locals i ≡ Some l → length l.own ≤ length (own_ops (from + i) commands)

  few_later : (from : ℕ) (l : Local) (ls : List Local) → AreFew from (l ∷ ls) → AreFew (from + 1) ls
  few_later from l ls few i x at =
      let same : from + suc i ≡ from + 1 + i = omega arith in
      subst (λ k. length x.own ≤ length (own_ops k commands)) same (few (suc i) x at)

  few_first : (from : ℕ) (l : Local) (ls : List Local) → AreFew from (l ∷ ls) → length l.own ≤ length (own_ops from commands)
  few_first from l ls few =
      let same : from + 0 ≡ from = omega arith in
      subst (λ k. length l.own ≤ length (own_ops k commands)) same (few 0 l refl)

  all_few : (from : ℕ) (locals : List Local) → AreFew from locals → length (all_own locals) ≤ total from (length locals) commands
  unfolding total
  all_few from [] few = omega arith
  all_few from (l ∷ ls) few = omega (arith, length-append l.own (all_own ls), few_first from l ls few, all_few (from + 1) ls (few_later from l ls few))

  -- where one caller has fewer entries than its client has commands, all callers together have fewer than their clients
  all_fewer : (from : ℕ) (locals : List Local) (i : ℕ) (l : Local) → AreFew from locals → slice_get locals i ≡ Some l → length l.own < length (own_ops (from + i) commands) → length (all_own locals) < total from (length locals) commands
  unfolding total
  all_fewer from [] i l few at less = cc
  all_fewer from (x ∷ xs) zero l few at less =
      let same : from + 0 ≡ from = omega arith in
      let first : length l.own < length (own_ops from commands) = subst (λ k. length l.own < length (own_ops k commands)) same less in
      omega (arith, length-append x.own (all_own xs), ap (λ (y : Local). length y.own) (same_Some x l at), first, all_few (from + 1) xs (few_later from x xs few))
  all_fewer from (x ∷ xs) (suc i) l few at less =
      let same : from + suc i ≡ from + 1 + i = omega arith in
      omega (arith, length-append x.own (all_own xs), few_first from x xs few, all_fewer (from + 1) xs i l (few_later from x xs few) at (subst (λ k. length l.own < length (own_ops k commands)) same less))

  -- where one caller has fewer entries than its client has commands, a life has fewer entries than commands
  pub entries_fewer : (locals : List Local) (client : ℕ) (l : Local) → AreFew 0 locals → slice_get locals client ≡ Some l → length l.own < length (own_ops client commands) → length (all_own locals) < length commands
  entries_fewer locals client l few at less =
      let same : client ≡ 0 + client = omega arith in
      omega (arith, total_most 0 (length locals) commands, all_fewer 0 locals client l few at (subst (λ k. length l.own < length (own_ops k commands)) same less))
