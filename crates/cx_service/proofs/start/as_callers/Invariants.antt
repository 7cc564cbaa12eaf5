use Rattle.std.proofs.Common.{◌≡◌, ◌++◌, ◌+◌, ◌≤◌, length, vec_capacity, vec_len}
use Rattle.std.specs.Vec.Iter.{into_iter_items, into_iter_len}
use Rattle.cx_service.proofs.start.as_callers.Given as goal

-- the first callers are made, and there is room for the others
abbrev pub invariant-loop-seat : goal.invariant-loop-seat
invariant-loop-seat l = record {
  made : l.callers.items ≡ l.yielded;
  all : l.yielded ++ into_iter_items l.seat-iterator ≡ l.fn.seats.items;
  left : into_iter_len l.seat-iterator ≡ length (into_iter_items l.seat-iterator);
  room : vec_len l.callers + into_iter_len l.seat-iterator ≤ vec_capacity l.callers;
}
