-- How many callers there are.
use Rattle.std.specs.Prelude.{◌≤◌, ℕ}

-- there may be this number of callers
pub record AreCallers (callers : ℕ) : Type 0 where
  pub some : 1 ≤ callers
  pub few : callers ≤ 8
