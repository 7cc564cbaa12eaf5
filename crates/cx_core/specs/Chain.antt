-- The chain of root codes from DUR to CUR. Going back from CUR by the wins that are not retired reaches DUR.
use Rattle.std.specs.Prelude.{◌≡◌, ◌<◌, ℕ, List, [], ◌∷◌, Some, slice_get, slice_index}
use Rattle.cx_base.specs.Codes.{root_place_of}
use Rattle.cx_core.specs.declared.local.Local.{Local}
use Rattle.cx_core.specs.declared.local.WonCode.{WonCode}
use Rattle.cx_core.specs.Layout.{cur_at, dur_at}

-- some caller won with a code over the one before, and has not retired it
pub record HasWon (locals : List Local) (before code : ℕ) : Type 0 where
  pub caller : ℕ
  pub local : Local
  pub of_caller : slice_get locals caller ≡ Some local
  pub won : local.won ≡ Some (record { code = code; before = before })

-- codes that rise, each won over the one before
abbrev pub Leads : List Local → ℕ → List ℕ → ℕ → Type 0
Leads locals from [] to = from ≡ to
Leads locals from (code ∷ codes) to = (from < code) × HasWon locals from code × Leads locals code codes to

-- the chain of codes from DUR to CUR, both among them
abbrev pub IsCodeChain : List ℕ → List Local → List ℕ → Type 0
IsCodeChain words locals [] = ⊥
IsCodeChain words locals (code ∷ codes) = (slice_index words dur_at ≡ code) × Leads locals code codes (slice_index words cur_at)

-- codes that rise in place
abbrev pub RiseInPlace : ℕ → ℕ → List ℕ → Type 0
RiseInPlace callers from [] = Unit {0}
RiseInPlace callers from (code ∷ codes) = (root_place_of callers from < root_place_of callers code) × RiseInPlace callers code codes

-- no two callers have wins over the same code, so there is one chain
abbrev pub WinsApart : List Local → Type 0
WinsApart locals =
    (a b : ℕ) (la lb : Local) (wa wb : WonCode) → slice_get locals a ≡ Some la → slice_get locals b ≡ Some lb →
    la.won ≡ Some wa → lb.won ≡ Some wb → wa.before ≡ wb.before → a ≡ b
