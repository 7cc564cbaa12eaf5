-- The limits of a script that is run.
use Rattle.std.specs.Prelude.{◌≡◌, ◌<◌, ◌≤◌, ◌^◌, ℕ, All, AllPairs, length}
use Rattle.life_records.specs.Scripts.{command_count}
use Rattle.life_records.specs.Records.{Command, Cut, Life, Script}

-- a command of a client of the life, with an operation within the limits
pub record IsCommandOf {Op : Type 0} (is_op : Op → Type 0) (life : Life Op) (c : Command Op) : Type 0 where
  pub client : c.client < life.clients
  pub op : is_op c.op

-- a cut of a client of the life
pub record IsCutOf {Op : Type 0} (life : Life Op) (cut : Cut) : Type 0 where
  pub client : cut.client < life.clients
  pub steps : cut.steps < 2 ^ 64

-- no client has two cuts
abbrev pub AreOfTwo : Cut → Cut → Type 0
AreOfTwo a b = a.client ≡ b.client → ⊥

-- at least one client and no more than this many, whose cuts and commands are theirs, one cut a client at the most
pub record IsLifeInLimits {Op : Type 0} (is_op : Op → Type 0) (most : ℕ) (life : Life Op) : Type 0 where
  pub some : 1 ≤ life.clients
  pub few : life.clients ≤ most
  pub choice : life.choice < 2 ^ 64
  pub commands : All (IsCommandOf is_op life) life.commands
  pub cuts : All (IsCutOf life) life.cuts
  pub apart : AllPairs AreOfTwo life.cuts

-- 64 to 16,384 lines where there is a life, 1,000 lives and 100,000 commands at the most, and lives within their limits
pub record KeepsLimits {Op : Type 0} (is_op : Op → Type 0) (most : ℕ) (script : Script Op) : Type 0 where
  pub lines : 0 < length script.lives → (64 ≤ script.lines) × (script.lines ≤ 16384)
  pub lives : length script.lives ≤ 1000
  pub commands : command_count script.lives ≤ 100000
  pub each : All (IsLifeInLimits is_op most) script.lives
