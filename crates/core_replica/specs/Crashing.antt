-- What a crash rests on beside the parts on regions and answers.
use Rattle.std.specs.Prelude.{◌≤◌, ℕ, List}
use Rattle.std.specs.List.{Contains}
use Rattle.cx_base.specs.Codes.{root_place_of, root_replica_of}
use Rattle.cx_core.specs.Chain.{IsCodeChain}
use Rattle.cx_core.specs.LawfulAnswers.{durable_place}
use Rattle.cx_core.specs.LawfulRegions.{IsUnheld}
use Rattle.cx_core.specs.LawfulRoot.{IsPlaced}
use Rattle.cx_core.specs.State.{Instance, State}

-- the replica that a code names has the code's place, which is at or above DUR's, and nobody holds it exclusively
pub record CodeStands (instance : Instance) (s : State) (code : ℕ) : Type 0 where
  pub placed : IsPlaced instance s.words code
  pub unheld : IsUnheld s.locals (root_replica_of instance.callers code)
  pub durable : durable_place instance s.words ≤ root_place_of instance.callers code

-- Each code of a chain from DUR to CUR stands: its replica has its place, at or above DUR's, and nobody holds it exclusively. It follows from the parts on
-- locks and on the root.
pub record ChainStands (instance : Instance) (s : State) : Type 0 where
  pub each : (chain : List ℕ) (code : ℕ) → IsCodeChain s.words s.locals chain → Contains chain code → CodeStands instance s code
