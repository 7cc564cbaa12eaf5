use Rattle.std.proofs.Common.{◌≡◌, ◌++◌, flat_map, take}
use Rattle.script_text.specs.Report.{stop_text}
use Rattle.script_text.proofs.printer.write_stops.Given as goal

abbrev pub invariant-loop-line : goal.invariant-loop-line
invariant-loop-line l = l.out.items ≡ l.initial.out.items ++ flat_map stop_text (take l.line-index l.stops)
