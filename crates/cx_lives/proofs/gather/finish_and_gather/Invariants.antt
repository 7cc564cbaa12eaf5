use Rattle.std.proofs.Common.{◌≡◌, ◌+◌, ◌++◌, length}
use Rattle.std.specs.Prelude.{vec_len}
use Rattle.cx_lives.specs.Gathering.{AreGathered}
use Rattle.cx_lives.specs.Works.{AreResultsFrom, ServedOf, stops_left}
use Rattle.cx_lives.proofs.Leaving.{HoldersStopped}
use Rattle.cx_lives.proofs.gather.finish_and_gather.Given as goal

-- the works of the first clients are put together, and the results of the other workers are left
abbrev pub invariant-loop-alloc : goal.invariant-loop-alloc
invariant-loop-alloc g l = record {
  gathered : AreGathered (g.O.TypedObject.meaning l.service.object) l.life l.service l.all;
  rest : AreResultsFrom (ServedOf (g.O.TypedObject.meaning l.service.object) l.life l.service) (length l.all.handed.items) l.works.items;
  count : length l.all.handed.items + length l.works.items ≡ vec_len l.fn.works;
  stopped : HoldersStopped (l.all.ends.stops.items ++ stops_left l.works.items) l.all.ends.fulls.items;
}

abbrev pub decreases-loop-alloc : goal.decreases-loop-alloc
decreases-loop-alloc g l = length l.works.items
