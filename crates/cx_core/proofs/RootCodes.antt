-- Root codes: what they name, and that a code at a higher place is higher.
use Rattle.std.proofs.Common.{◌≡◌, ◌*◌, ◌<◌, ◌≤◌, inl, inr, ℕ, Option, None, Some, refl, arith}
use Rattle.std.proofs.lemmas.Bool.{cases_lt}
use Rattle.std.proofs.lemmas.Nat.{div-add-mod', div-mul-add, le-div, mod-mul-add}
use Rattle.cx_base.specs.Codes.{root_code_of, root_place_of, root_replica_of}
use Rattle.cx_core.specs.declared.local.HeldDowngraded.{HeldDowngraded}
use Rattle.cx_core.specs.declared.local.WonCode.{WonCode}
use Rattle.cx_core.specs.RootEvents.{CanRetire, IsAbove, IsWonCode}

-- the code of a replica that there is names it, at its place
pub code_replica : (callers place replica : ℕ) → replica < 2 * callers → root_replica_of callers (root_code_of callers place replica) ≡ replica
code_replica callers place replica small = mod-mul-add place (2 * callers) replica small

-- the place that is read off a root code is the one that the code was made of
pub code_place : (callers place replica : ℕ) → replica < 2 * callers → root_place_of callers (root_code_of callers place replica) ≡ place
code_place callers place replica small = div-mul-add place (2 * callers) replica small

-- places rise with codes
pub place_up : (callers a b : ℕ) → 1 ≤ callers → a ≤ b → root_place_of callers a ≤ root_place_of callers b
place_up callers a b some up = le-div (root_place_of callers a) b (2 * callers) (omega arith) (let back = div-add-mod' a (2 * callers) in omega arith)

-- codes rise with places
pub code_up : (callers a b : ℕ) → 1 ≤ callers → root_place_of callers a < root_place_of callers b → a < b
code_up callers a b some up =
    elim (cases_lt a b) [
      | inl below ↦ below
      | inr above ↦ (let falls = place_up callers b a some above in absurd (omega arith))
    ]

-- what a publication, a raise and a retirement ask, of the rights that there are
pub above_parts : (callers code : ℕ) (o : Option HeldDowngraded) → IsAbove callers code o → (h : HeldDowngraded) × (o ≡ Some h) × (root_place_of callers code < h.place)
above_parts callers code None above = absurd above
above_parts callers code (Some h) above = (h, refl, above)

pub won_parts : (code : ℕ) (o : Option WonCode) → IsWonCode code o → (w : WonCode) × (o ≡ Some w) × (code ≡ w.code)
won_parts code None is = absurd is
won_parts code (Some w) is = (w, refl, is)

pub retire_parts : (raised : ℕ) (o : Option WonCode) → CanRetire raised o → (w : WonCode) × (o ≡ Some w) × (w.code ≤ raised)
retire_parts raised None can = absurd can
retire_parts raised (Some w) can = (w, refl, can)
