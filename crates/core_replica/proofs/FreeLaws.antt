-- A caller that holds none has a free replica. The rights of the others, at most two each, and CUR's pin are fewer than the
-- replicas: counted over replicas and callers, one replica has a count of 0.
use Rattle.std.proofs.Common.{◌≡◌, ◌+◌, ◌*◌, ◌<◌, ◌≤◌, inl, inr, ℕ, zero, suc, List, [], ◌∷◌, Option, Some, None, length, slice_index, refl, ap, arith}
use Rattle.std.proofs.lemmas.Bool.{cases_eq}
use Rattle.std.proofs.lemmas.Option.{same_Some, none-some}
use Rattle.std.specs.List.{slice_get}
use Rattle.std.specs.Option.{option_map}
use Rattle.cx_base.specs.Codes.{root_replica_of}
use Rattle.cx_core.specs.declared.local.HeldDowngraded.{HeldDowngraded}
use Rattle.cx_core.specs.declared.local.HeldExclusive.{HeldExclusive}
use Rattle.cx_core.specs.declared.local.HeldShared.{HeldShared}
use Rattle.cx_core.specs.declared.local.Local.{Local}
use Rattle.cx_core.specs.declared.local.WonCode.{WonCode}
use Rattle.cx_core.specs.Free.{HoldsNone, SomeFree}
use Rattle.cx_core.specs.Lawful.{Shape}
use Rattle.cx_core.specs.LawfulLocks.{Locks, marks, pin, total}
use Rattle.cx_core.specs.Layout.{cur_at}
use Rattle.cx_core.specs.Rights.{claims, downgraded_on, exclusive_on, has, holds, is_on, rights, rights_on, shared_on, won_on}
use Rattle.cx_core.specs.State.{Instance}
use Rattle.cx_core.proofs.Sums.{on_other, on_same}

-- a sum over the replicas below n
abbrev over : (ℕ → ℕ) → ℕ → ℕ
over f zero = 0
over f (suc n) = over f n + f n

over_two : (f g : ℕ → ℕ) (n : ℕ) → over (λ r. f r + g r) n ≡ over f n + over g n
over_two f g zero = omega arith
over_two f g (suc n) = let rest = over_two f g n in omega arith

over_nothing : (n : ℕ) → over (λ _. 0) n ≡ 0
over_nothing zero = refl
over_nothing (suc n) = let rest = over_nothing n in omega arith

-- a right is on at most one replica
over_on : (q n : ℕ) → (over (λ r. is_on r (Some q)) n ≤ 1) × (n ≤ q → over (λ r. is_on r (Some q)) n ≡ 0)
over_on q zero = (omega arith, λ _. refl)
over_on q (suc n) =
    let rest = over_on q n in
    elim (cases_eq q n) [
      | inl e ↦ (let here = on_same q n e in let none = rest.1 (omega arith) in (omega arith, λ le. absurd (omega arith)))
      | inr ne ↦ (let here = on_other q n ne in let some = rest.0 in (omega arith, λ le. (let none = rest.1 (omega arith) in omega arith)))
    ]

over_has : (o : Option ℕ) (n : ℕ) → over (λ r. is_on r o) n ≤ has o
over_has None n = let none = over_nothing n in omega arith
over_has (Some q) n = (over_on q n).0

-- a caller's rights, counted replica by replica, are at most as many as it has
over_rights : (callers : ℕ) (l : Local) (n : ℕ) → over (λ r. rights_on callers r l) n ≤ rights callers l
over_rights callers l n =
    let a = over_two (λ r. holds r l + claims callers r l) (λ r. is_on r l.passer) n in
    let b = over_two (λ r. holds r l) (λ r. claims callers r l) n in
    let c = over_two (λ r. is_on r (shared_on l) + is_on r (downgraded_on l)) (λ r. is_on r (won_on callers l)) n in
    let d = over_two (λ r. is_on r (shared_on l)) (λ r. is_on r (downgraded_on l)) n in
    omega (arith, a, b, c, d, over_has (exclusive_on l) n, over_has (shared_on l) n, over_has l.passer n, over_has (downgraded_on l) n, over_has (won_on callers l) n)

-- the sums may be taken the other way round
over_total : (callers : ℕ) (ls : List Local) (n : ℕ) → over (λ r. total (rights_on callers r) ls) n ≡ total (λ l. over (λ r. rights_on callers r l) n) ls
over_total callers [] n = over_nothing n
over_total callers (l ∷ ls) n =
    let rest = over_total callers ls n in
    let two = over_two (λ r. rights_on callers r l) (λ r. total (rights_on callers r) ls) n in
    omega arith

-- callers with at most two each, and one of them with none
at_most_two : (f : Local → ℕ) (ls : List Local) → ((i : ℕ) (l : Local) → slice_get ls i ≡ Some l → f l ≤ 2) → total f ls ≤ 2 * length ls
at_most_two f [] each = omega arith
at_most_two f (x ∷ xs) each = let rest = at_most_two f xs (λ i l at. each (suc i) l at) in omega (arith, each 0 x refl)

-- where `f` is at most 2 for each caller and 0 for the one at `i`, its total is at least 2 less than 2 for each caller
one_with_none : (f : Local → ℕ) (ls : List Local) (i : ℕ) (l : Local) → ((k : ℕ) (x : Local) → slice_get ls k ≡ Some x → f x ≤ 2) → slice_get ls i ≡ Some l → f l ≡ 0 → total f ls + 2 ≤ 2 * length ls
one_with_none f [] i l each at none = absurd (none-some l at)
one_with_none f (x ∷ xs) zero l each at none =
    let e : f x ≡ f l = ap f (same_Some x l at) in
    let rest = at_most_two f xs (λ k y there. each (suc k) y there) in omega arith
one_with_none f (x ∷ xs) (suc i) l each at none =
    let rest = one_with_none f xs i l (λ k y there. each (suc k) y there) at none in omega (arith, each 0 x refl)

-- n numbers with a sum below n have a 0 among them
find_zero : (f : ℕ → ℕ) (n : ℕ) → over f n < n → (r : ℕ) × (r < n) × (f r ≡ 0)
find_zero f zero less = absurd (omega arith)
find_zero f (suc n) less =
    elim (cases_eq (f n) 0) [
      | inl e ↦ (n, omega arith, e)
      | inr ne ↦ (let p = find_zero f n (omega arith) in let small = p.1 in (p.0, omega arith, p.2))
    ]

-- no right on a replica, no mark there
no_marks : (callers r : ℕ) (ls : List Local) → total (rights_on callers r) ls ≡ 0 → total (marks callers r) ls ≡ 0
no_marks callers r [] none = refl
no_marks callers r (l ∷ ls) none = let rest = no_marks callers r ls (omega arith) in omega arith

no_rights : (callers : ℕ) (l : Local) → HoldsNone l → rights callers l ≡ 0
no_rights callers l none =
    let a : has (exclusive_on l) ≡ 0 = ap (λ o. has (option_map (λ (x : HeldExclusive). x.replica) o)) none.exclusive in
    let b : has (shared_on l) ≡ 0 = ap (λ o. has (option_map (λ (x : HeldShared). x.replica) o)) none.shared in
    let c : has (downgraded_on l) ≡ 0 = ap (λ o. has (option_map (λ (x : HeldDowngraded). x.replica) o)) none.downgraded in
    let d : has (won_on callers l) ≡ 0 = ap (λ o. has (option_map (λ (x : WonCode). root_replica_of callers x.before) o)) none.won in
    let e : has l.passer ≡ 0 = ap has none.passer in
    omega arith

pub some_free : (instance : Instance) (words : List ℕ) (locals : List Local) (caller : ℕ) (l : Local) → Shape instance words locals → Locks instance.callers words locals →
    slice_get locals caller ≡ Some l → HoldsNone l → SomeFree instance.callers words
some_free instance words locals caller l shape locks at none =
    let callers = instance.callers in
    let n = 2 * callers in
    let cur = slice_index words cur_at in
    let mine : over (λ r. rights_on callers r l) n ≡ 0 = omega (arith, over_rights callers l n, no_rights callers l none) in
    let others : total (λ x. over (λ r. rights_on callers r x) n) locals + 2 ≤ 2 * length locals =
    one_with_none (λ x. over (λ r. rights_on callers r x) n) locals caller l
    (λ k x there. (let two = (locks.few k x there).two in omega (arith, over_rights callers x n))) at mine in
    let f : ℕ → ℕ = λ r. total (rights_on callers r) locals + pin callers r cur in
    let split = over_two (λ r. total (rights_on callers r) locals) (λ r. pin callers r cur) n in
    let turned = over_total callers locals n in
    let pins = over_has (Some (root_replica_of callers cur)) n in
    let p = find_zero f n (omega (arith, split, turned, pins, others, shape.count)) in
    let sum : total (rights_on callers p.0) locals + pin callers p.0 cur ≡ 0 = p.2 in
    let marked = no_marks callers p.0 locals (omega arith) in
    record { replica = p.0; below = p.1; free = omega (arith, (locks.each p.0 p.1).counted) }
