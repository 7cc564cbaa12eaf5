use Rattle.std.proofs.Common.{◌≡◌, ◌++◌, flat_map, take}
use Rattle.script_text.specs.Report.{full_text}
use Rattle.script_text.proofs.printer.write_fulls.Given as goal

abbrev pub invariant-loop-line : goal.invariant-loop-line
invariant-loop-line l = l.out.items ≡ l.initial.out.items ++ flat_map full_text (take l.line-index l.fulls)
