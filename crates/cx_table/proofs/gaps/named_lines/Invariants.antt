use Rattle.cx_table.specs.GapWords.{ReadsTo}
use Rattle.cx_table.proofs.gaps.named_lines.Given as goal

abbrev pub invariant-loop-m : goal.invariant-loop-m
invariant-loop-m l = ReadsTo l.callers l.slot l.ticket l.words l.m l.at
