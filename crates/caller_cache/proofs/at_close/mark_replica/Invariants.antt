use Rattle.std.proofs.Common.{◌≡◌, vec_len}
use Rattle.caller_cache.specs.Marks.{MarksMore}
use Rattle.caller_cache.proofs.at_close.mark_replica.Given as goal

abbrev pub invariant-loop-i : goal.invariant-loop-i
invariant-loop-i l = record {
  len : vec_len l.dirty ≡ vec_len l.fn.dirty;
  marked : MarksMore l.marks l.from l.i l.fn.dirty.items l.dirty.items;
}
