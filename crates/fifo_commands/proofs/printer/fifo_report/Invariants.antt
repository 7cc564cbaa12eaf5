use Rattle.std.proofs.Common.{◌≡◌, map, take}
use Rattle.fifo_commands.specs.FifoLives.{uncut}
use Rattle.fifo_commands.specs.Leaving.{with_no_stops}
use Rattle.script_text.specs.Report.{records_text}
use Rattle.fifo_commands.specs.Report.{queue_wording}
use Rattle.fifo_commands.proofs.printer.fifo_report.Given as goal

abbrev pub invariant-loop-number : goal.invariant-loop-number
invariant-loop-number l = l.out.items ≡ records_text queue_wording 0 (take l.number (map uncut l.lives)) (take l.number (map with_no_stops l.records))
