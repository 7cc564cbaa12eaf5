-- What a change of a caller's local state has to leave so that a lawful state stays lawful.
use Rattle.core_replica.specs.AnswerFrames.{SameAnswers}
use Rattle.core_queue.specs.Frames.{SameQueue}
use Rattle.core_replica.specs.Frames.{SameHeld, SameRights}
use Rattle.core_replica.specs.RootFrames.{SameRoot}
use Rattle.cx_core.specs.declared.local.Local.{Local}

-- the fields that any part of the lawful state names
pub record SameLawful (l l' : Local) : Type 0 where
  pub queue : SameQueue l l'
  pub rights : SameRights l l'
  pub held : SameHeld l l'
  pub root : SameRoot l l'
  pub answers : SameAnswers l l'
