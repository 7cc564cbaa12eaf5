use Rattle.std.proofs.Common.{◌≡◌, ◌<◌, ◌≤◌, ℕ, IsTrue}
use Rattle.cx_core.specs.RingEvents.{Protects}
use Rattle.table_invariant.specs.Seats.{StepsOn}
use Rattle.cx_attempts.specs.Bringing.{CountsEntries}
use Rattle.cx_attempts.specs.Replaying.{unchanged_by_replay}
use Rattle.replica.specs.Replays.{IsReady, ShowsReplyIn}
use Rattle.cx_attempts.proofs.replay.replay_to.Given as goal

abbrev pub invariant-loop-at : goal.invariant-loop-at
invariant-loop-at g l = record {
  ready : IsReady g.O.Object l.shared l.held l.at l.seat;
  later : l.shared.base.place ≤ l.at;
  linked : l.ticket < l.seat.known.local.front;
  protected : (t : ℕ) → l.at ≤ t → t ≤ l.ticket → Protects t l.seat.known.local.protection;
  replied : IsTrue l.own → ShowsReplyIn g.O.Object l.shared l.seat.known l.seat.known.local.number l.reply;
  counted : CountsEntries l.fn.scratch.taken l.fn.seat l.scratch.taken l.seat;
  since : StepsOn l.fn.seat l.seat;
  work : unchanged_by_replay l.seat ≡ unchanged_by_replay l.fn.seat;
}
