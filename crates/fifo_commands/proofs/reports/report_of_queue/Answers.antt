use Rattle.std.proofs.Common.{◌∙◌, ap, sym, subst, List, []}
use Rattle.fifo_commands.specs.declared.record.FifoRecord.{FifoRecord}
use Rattle.fifo_commands.specs.Report.{NameFifoCommands, queue_report_of}
use Rattle.fifo_commands.proofs.Naming.{legal_named}
use Rattle.fifo_commands.proofs.Limits.{fifo_limits}
use Rattle.fifo_commands.proofs.reports.report_of_queue.Goals as goal

pub run_fifo-requires-after_bounds : goal.run_fifo-requires-after_bounds
run_fifo-requires-after_bounds g c κs within = fifo_limits c.args.script.now c.requires

pub fifo_report-requires : goal.fifo_report-requires
fifo_report-requires g c =
    let script = c.args.script.now in
    subst (λ (records : List FifoRecord). NameFifoCommands script records) (sym c.as_slice.ensures)
    (legal_named script.lines 0 [] script.lives c.in_ok-lived.lived.records c.in_ok-lived.ensures.legal)

pub returns : goal.returns
returns g c = record {
  records = c.in_ok-lived.lived.records;
  lives = c.in_ok-lived.ensures.legal;
  witness = c.in_ok-lived.ensures.witness;
  report = c.in_ok-text.ensures ∙ ap (λ (records : List FifoRecord). queue_report_of c.args.script.now records) c.as_slice.ensures;
}
