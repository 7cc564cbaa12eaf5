use Rattle.std.proofs.Common.{◌≡◌, take}
use Rattle.script_text.specs.Report.{records_text}
use Rattle.script_text.proofs.printer.report.Given as goal

abbrev pub invariant-loop-number : goal.invariant-loop-number
invariant-loop-number g l = l.out.items ≡ records_text g.W.ReportWriter.wording 0 (take l.number l.lives) (take l.number l.records)
