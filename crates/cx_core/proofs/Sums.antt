-- Sums over the local states of callers, and what one right adds.
use Rattle.std.proofs.Common.{◌≡◌, ◌≢◌, ◌+◌, ◌*◌, ◌^◌, ◌≤◌, ℕ, zero, suc, List, [], ◌∷◌, Option, Some, None, length, map, set, refl, ap, arith, cond, eq-eqb, true, false, ◌==◌}
use Rattle.std.proofs.lemmas.Bool.{ne_eqb}
use Rattle.std.proofs.lemmas.Option.{same_Some, none-some}
use Rattle.std.specs.List.{slice_get}
use Rattle.cx_core.specs.declared.local.Local.{Local}
use Rattle.cx_core.specs.LawfulLocks.{marks, total}
use Rattle.cx_core.specs.Rights.{claims, downgraded_on, exclusive_on, holds, is_on, shared_on, won_on}

-- a sum after one local state was put in another's place
pub total_set : (f : Local → ℕ) (ls : List Local) (i : ℕ) (l l' : Local) → slice_get ls i ≡ Some l → total f (set ls i l') + f l ≡ total f ls + f l'
total_set f [] i l l' at = absurd (none-some l at)
total_set f (x ∷ xs) zero l l' at = let e : f x ≡ f l = ap f (same_Some x l at) in omega arith
total_set f (x ∷ xs) (suc i) l l' at = let rest = total_set f xs i l l' at in omega arith

-- one of the numbers is at most the sum
pub total_member : (f : Local → ℕ) (ls : List Local) (i : ℕ) (l : Local) → slice_get ls i ≡ Some l → f l ≤ total f ls
total_member f [] i l at = absurd (none-some l at)
total_member f (x ∷ xs) zero l at = let e : f x ≡ f l = ap f (same_Some x l at) in omega arith
total_member f (x ∷ xs) (suc i) l at = let rest = total_member f xs i l at in omega arith

-- what two different callers add is together at most the sum
pub total_two : (f : Local → ℕ) (ls : List Local) (i j : ℕ) (a b : Local) → slice_get ls i ≡ Some a → slice_get ls j ≡ Some b → i ≢ j → f a + f b ≤ total f ls
total_two f [] i j a b at bt apart = absurd (none-some a at)
total_two f (x ∷ xs) zero zero a b at bt apart = absurd (apart refl)
total_two f (x ∷ xs) zero (suc j) a b at bt apart = let e : f x ≡ f a = ap f (same_Some x a at) in let m = total_member f xs j b bt in omega arith
total_two f (x ∷ xs) (suc i) zero a b at bt apart = let e : f x ≡ f b = ap f (same_Some x b bt) in let m = total_member f xs i a at in omega arith
total_two f (x ∷ xs) (suc i) (suc j) a b at bt apart = let rest = total_two f xs i j a b at bt (λ e. apart (ap suc e)) in omega arith

pub total_most : (f : Local → ℕ) (most : ℕ) (ls : List Local) → ((l : Local) → f l ≤ most) → total f ls ≤ most * length ls
total_most f most [] each = omega arith
total_most f most (x ∷ xs) each = let rest = total_most f most xs each in omega (arith, each x)

-- a sum of nothing
pub total_nothing : (f : Local → ℕ) (g : ℕ → Local) (xs : List ℕ) → ((x : ℕ) → f (g x) ≡ 0) → total f (map g xs) ≡ 0
total_nothing f g [] each = refl
total_nothing f g (x ∷ xs) each = let rest = total_nothing f g xs each in omega (arith, each x)

-- the marks are those of exclusive rights, of claims and of passers
pub total_parts : (callers r : ℕ) (ls : List Local) → total (marks callers r) ls ≡ 2 ^ 32 * total (holds r) ls + total (claims callers r) ls + total (λ l. is_on r l.passer) ls
total_parts callers r [] = omega arith
total_parts callers r (l ∷ ls) = let rest = total_parts callers r ls in omega arith

-- a right on the replica `q` counts one for the replica `r`, where both are the same
pub on_same : (q r : ℕ) → q ≡ r → is_on r (Some q) ≡ 1
on_same q r e = ap (λ b. cond b 1 0) (eq-eqb q r e)

pub on_other : (q r : ℕ) → q ≢ r → is_on r (Some q) ≡ 0
on_other q r ne = ap (λ b. cond b 1 0) (ne_eqb q r ne)

bit : (b : _) → cond b 1 0 ≤ 1
bit true = omega arith
bit false = omega arith

pub on_most : (r : ℕ) (o : Option ℕ) → is_on r o ≤ 1
on_most r None = omega arith
on_most r (Some q) = bit (q == r)

pub marks_most : (callers r : ℕ) (l : Local) → marks callers r l ≤ 2 ^ 32 + 4
marks_most callers r l =
    omega (arith, on_most r (exclusive_on l), on_most r (shared_on l), on_most r (downgraded_on l), on_most r (won_on callers l), on_most r l.passer)
