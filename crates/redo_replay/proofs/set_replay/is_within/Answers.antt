use Rattle.std.proofs.Common.{◌+◌, ◌*◌, ◌<◌, slice_index, below_more, arith}
use Rattle.cx_core.specs.QueueEvents.{cell_of}
use Rattle.redo_replay.proofs.set_replay.is_within.Goals as goal

pub loop-m-preserved : goal.loop-m-preserved
loop-m-preserved g c =
    let set = (cell_of c.args.seat.now.known.local c.args.cell).set in
    below_more (λ k. slice_index set (2 * k + 1) < 8 * (146 + c.lines.result)) c.loop-m.m c.loop-m.invariant (let is = c.set_word.ensures in let less = c.if-set_word-region.false in omega (arith, is, less))
