use Rattle.std.proofs.Common.{◌≡◌, ◌≤◌, [], drop, map, vec_capacity, vec_len}
use Rattle.std.specs.List.{range_with_len}
use Rattle.cx_table.specs.Remains.{opening_seat}
use Rattle.table_invariant.specs.Seats.{opening_view}
use Rattle.cx_table.proofs.shared.Shared.seated.Given as goal

-- the first callers have their seats, and the first seat has the others
abbrev pub invariant-loop-number : goal.invariant-loop-number
invariant-loop-number g l = record {
  table : l.first.table_id ≡ l.self.table;
  left : l.first.me ≡ (drop l.number (opening_view l.self.callers l.self.base.place l.limits), []);
  made : l.seats.items ≡ map (opening_seat l.self l.limits) (range_with_len 0 l.number);
  room : l.self.callers ≤ vec_capacity l.seats;
  long : vec_len l.seats ≡ l.number;
}
