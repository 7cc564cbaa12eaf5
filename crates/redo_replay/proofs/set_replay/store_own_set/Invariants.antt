use Rattle.std.proofs.Common.{◌≡◌, ◌≤◌, slice_index}
use Rattle.cx_base.specs.Memory.{Becomes}
use Rattle.cx_core.specs.QueueEvents.{cell_of}
use Rattle.cx_core.specs.WriteSet.{stored}
use Rattle.table_invariant.specs.Stores.{FitsIn}
use Rattle.replica.specs.Replays.{IsAfterFullStep}
use Rattle.redo_replay.proofs.set_replay.store_own_set.Given as goal

abbrev pub invariant-loop-m : goal.invariant-loop-m
invariant-loop-m g l = record {
  end : l.m-end ≡ slice_index (cell_of l.fn.seat.known.local l.cell).set 0;
  few : l.m-end ≤ 256;
  done : Becomes (FitsIn g.O.Object l.shared l.fn.seat.known) (FitsIn g.O.Object l.shared l.seat.known) (λ before now. now ≡ stored l.m (cell_of l.fn.seat.known.local l.cell).set before);
  leaves : IsAfterFullStep g.O.Object l.shared l.held l.fn.seat l.seat;
}
