use Rattle.std.proofs.Common.{◌≡◌, ◌++◌, ◌+◌, ◌≤◌, length, vec_capacity, vec_len}
use Rattle.std.specs.Vec.Iter.{into_iter_items, into_iter_len}
use Rattle.cx_service.specs.Closes.{seats_of}
use Rattle.cx_service.proofs.close.as_seats.Given as goal

-- the first callers' seats are taken out, and there is room for the others
abbrev pub invariant-loop-handed : goal.invariant-loop-handed
invariant-loop-handed l = record {
  made : l.seats.items ≡ seats_of l.yielded;
  all : l.yielded ++ into_iter_items l.handed-iterator ≡ l.fn.callers.items;
  left : into_iter_len l.handed-iterator ≡ length (into_iter_items l.handed-iterator);
  room : vec_len l.seats + into_iter_len l.handed-iterator ≤ vec_capacity l.seats;
}
