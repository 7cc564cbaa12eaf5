use Rattle.std.proofs.Common.{◌≡◌, ◌+◌, ◌*◌, ◌<◌, ◌≤◌}
use Rattle.cx_base.specs.Codes.{root_place_of}
use Rattle.mutation_queue.specs.Links.{LinksNone, LosesTries}
use Rattle.mutation_queue.proofs.links.link.Given as goal

-- each try so far found another's link
abbrev pub invariant-loop-tried : goal.invariant-loop-tried
invariant-loop-tried g l = record {
  none : LinksNone l.fn.seat l.seat;
  lost : LosesTries l.shared.callers l._tried l.fn.seat l.seat;
  front : l.fn.seat.known.local.front + l._tried ≤ l.seat.known.local.front;
  at_first : l._tried ≡ 0 → l.seat ≡ l.fn.seat;
  cur : 0 < l._tried → root_place_of l.shared.callers l.fn.seat.known.local.seen_cur ≤ l.fn.seat.known.local.front;
  steps : l.seat.known.local.steps ≤ l.fn.seat.known.local.steps + 2 * l._tried;
}
