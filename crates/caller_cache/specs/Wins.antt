-- The chain of codes, read off the wins that are not retired.
use Rattle.std.specs.Prelude.{◌≡◌, ◌≢◌, ◌+◌, ◌<◌, ◌++◌, ℕ, List, [], ◌∷◌, Contains, Option, Some, None, length}
use Rattle.std.specs.Option.{option_to_list}
use Rattle.cx_core.specs.declared.local.Local.{Local}
use Rattle.cx_core.specs.declared.local.WonCode.{WonCode}

-- the wins of callers that are not retired, of caller 0 first
abbrev pub wins_of : List Local → List WonCode
wins_of [] = []
wins_of (l ∷ ls) = option_to_list l.won ++ wins_of ls

-- codes that rise, for each a win over the one before
abbrev pub LeadsBy : List WonCode → ℕ → List ℕ → ℕ → Type 0
LeadsBy wins from [] to = from ≡ to
LeadsBy wins from (code ∷ codes) to = (from < code) × Contains wins (record { code = code; before = from }) × LeadsBy wins code codes to

-- wins lead from a code to a code, there is no other way, and none leads on
pub record IsWayBy (wins : List WonCode) (from : ℕ) (above : List ℕ) (to : ℕ) : Type 0 where
  pub leads : LeadsBy wins from above to
  pub apart : (v w : WonCode) → Contains wins v → Contains wins w → v.before ≡ w.before → v.code ≡ w.code
  pub ends : (w : WonCode) → Contains wins w → w.before ≢ to

-- of wins, one over a code was taken out
pub record IsWinTaken (before code : ℕ) (old new : List WonCode) : Type 0 where
  pub among : Contains old (record { code = code; before = before })
  pub fewer : length new + 1 ≡ length old
  pub others : (w : WonCode) → Contains old w → w.before ≢ before → Contains new w
  pub still : (w : WonCode) → Contains new w → Contains old w

-- of wins, one over a code was taken out, or none is over that code and all are left
abbrev pub TakesWin : ℕ → List WonCode → List WonCode → Option ℕ → Type 0
TakesWin before old new (Some code) = IsWinTaken before code old new
TakesWin before old new None = (new ≡ old) × ((w : WonCode) → Contains old w → w.before ≢ before)
