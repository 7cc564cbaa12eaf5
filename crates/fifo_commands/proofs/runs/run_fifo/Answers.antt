use Rattle.std.proofs.Common.{map, subst, sym}
use Rattle.cx_lives.specs.Lives.{HaveLived}
use Rattle.fifo_commands.specs.FifoLives.{uncut}
use Rattle.fifo_object.specs.Fifo.{IsFifo, fifo_reads, fifo_step}
use Rattle.fifo_object.specs.FifoMeaning.{fifo_meaning}
use Rattle.fifo_commands.proofs.RunLives.{both_hold, lived_is, none_lived_of}
use Rattle.fifo_commands.specs.Runs.{HaveFifoLived}
use Rattle.fifo_commands.proofs.runs.run_fifo.Goals as goal

pub returns : goal.returns
returns g c =
    let script = c.args.script.now in
    let lived = c.in_ok-lived.lived in
    let has_lines = c.of-fifo.result.lines in
    let of_all = subst (λ ls. HaveLived (fifo_meaning has_lines) has_lines 16 (IsFifo has_lines) (fifo_step has_lines) fifo_reads (map uncut ls) lived) c.as_slice.ensures c.in_ok-lived.ensures in
    let have = subst (λ n. HaveLived (fifo_meaning n) n 16 (IsFifo n) (fifo_step n) fifo_reads (map uncut script.lives) lived) c.of-fifo.ensures of_all in
    both_hold c.leave_out_cuts.result _ _ _ (λ left records trails. lived_is script.lines script.lives lived left have records trails) c.leave_out_cuts.ensures.records c.leave_out_cuts.ensures.trails

pub returns-then-is_empty : goal.returns-then-is_empty
returns-then-is_empty g c =
    let lines = c.args.script.now.lines in
    let none = c.is_empty.ensures.0 c.if-is_empty.true in
    subst (λ ls. HaveFifoLived lines ls (record { records = c.new.result; trails = c.new-then-is_empty.result })) (sym none) (none_lived_of lines c.new.result c.new-then-is_empty.result c.new.ensures c.new-then-is_empty.ensures)
