use Rattle.std.proofs.Common.{◌≤◌, ◌+◌, ◌-◌, vec_len, ◌≡◌}
use Rattle.cx_program.proofs.Transfer.{HasRead}
use Rattle.cx_program.proofs.input.read_input.Given as goal

abbrev pub invariant-loop-bytes : goal.invariant-loop-bytes
invariant-loop-bytes g l = record {
  read : HasRead (g.S.Source.left l.fn.source) (g.S.Source.left l.source) l.bytes.items;
  buffer : vec_len l.buffer ≡ 65536;
  few : vec_len l.bytes ≤ 16777217;
  reads : g.S.Source.reads l.source ≤ g.S.Source.reads l.fn.source + vec_len l.bytes;
  count : g.S.Source.faults l.fn.source ≤ g.S.Source.faults l.source;
}

abbrev pub decreases-loop-bytes : goal.decreases-loop-bytes
decreases-loop-bytes g l = 16777217 - vec_len l.bytes
