use Rattle.std.proofs.Common.{◌≡◌, ◌++◌, flat_map, take}
use Rattle.script_text.specs.Report.{read_text}
use Rattle.script_text.proofs.printer.write_reads.Given as goal

abbrev pub invariant-loop-line : goal.invariant-loop-line
invariant-loop-line g l = l.out.items ≡ l.initial.out.items ++ flat_map (read_text g.W.ReportWriter.wording l.life) (take l.line-index l.reads)
