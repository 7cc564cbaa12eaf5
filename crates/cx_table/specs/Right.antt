-- What contracts see of a token: the replica that it is a right on, and the caller that has it.
use Rattle.std.specs.Prelude.{ℕ}

-- a right on a replica, and the caller that has it
pub record Right : Type 0 where
  pub replica : ℕ
  pub caller : ℕ

-- What contracts see of the token of a win: the code that won, the code before it, and the caller that has it.
pub record WonRight : Type 0 where
  pub code : ℕ
  pub before : ℕ
  pub caller : ℕ
