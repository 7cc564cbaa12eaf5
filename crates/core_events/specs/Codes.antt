-- What a core keeps so that each code it stores fits a word.
use Rattle.std.specs.Prelude.{◌≡◌, ◌*◌, ◌^◌, ◌<◌, ◌≤◌, ℕ, Option, Some}
use Rattle.cx_core.specs.declared.local.HeldDowngraded.{HeldDowngraded}
use Rattle.cx_core.specs.State.{Core, EachLocal, IsWhole}

-- what is downgraded is a replica that there is, at a place that a root code may have
abbrev pub HasCode : ℕ → Option HeldDowngraded → Type 0
HasCode callers downgraded = (h : HeldDowngraded) → downgraded ≡ Some h → (h.replica < 2 * callers) × (h.place ≤ 2 ^ 40)

-- a core is whole, and what its callers have downgraded has a root code
pub record IsSoundCore (core : Core) : Type 0 where
  pub whole : IsWhole core
  pub codes : EachLocal core.state.locals (λ _ l. HasCode core.callers l.downgraded)
