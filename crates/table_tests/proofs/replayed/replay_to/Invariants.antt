use Rattle.replica.specs.Replays.{IsReady}
use Rattle.table_tests.specs.Replaying.{Keeps}
use Rattle.table_tests.proofs.replayed.replay_to.Given as goal

-- before the entry with `ticket`, the replica is the image after as many entries
abbrev pub invariant-loop-ticket : goal.invariant-loop-ticket
invariant-loop-ticket g l = record {
  ready : IsReady g.O.Object l.shared l.held l.ticket l.seat;
  keeps : Keeps l.fn.seat l.seat;
}
