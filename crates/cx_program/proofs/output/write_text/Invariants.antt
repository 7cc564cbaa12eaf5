use Rattle.std.proofs.Common.{◌≤◌, ◌-◌, length}
use Rattle.cx_program.proofs.Transfer.{HasWritten}
use Rattle.cx_program.proofs.output.write_text.Given as goal

abbrev pub invariant-loop-at : goal.invariant-loop-at
invariant-loop-at g l = record {
  within : l.at ≤ length l.text;
  written : HasWritten l.at l.text (g.K.Sink.written l.fn.sink) (g.K.Sink.written l.sink);
  count : g.K.Sink.faults l.fn.sink ≤ g.K.Sink.faults l.sink;
}

abbrev pub decreases-loop-at : goal.decreases-loop-at
decreases-loop-at g l = length l.text - l.at
