use Rattle.std.specs.List.{AllWithin, AllZip}
use Rattle.life_records.specs.Ended.{IsFlagged, IsSameStop}
use Rattle.life_records.proofs.kept.flag_stops.Given as goal

-- all are the same stops, and the first ones have their flags
abbrev pub invariant-loop-stop : goal.invariant-loop-stop
invariant-loop-stop g l = record {
  same : AllZip IsSameStop l.fn.stops l.stops;
  flags : AllWithin (IsFlagged l.place l.kept l.journal) l.stops 0 l.stop-index;
}
