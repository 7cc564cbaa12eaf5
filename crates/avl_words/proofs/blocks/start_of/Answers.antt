use Rattle.std.proofs.Common.{arith}
use Rattle.avl_words.proofs.Memories.{line_inside}
use Rattle.avl_words.proofs.blocks.start_of.Goals as goal

pub overflow_mul-result : goal.overflow_mul-result
overflow_mul-result g c =
    let i = line_inside (g.M.Memory.stands c.args.mem.now) (g.M.Memory.size c.args.mem.now) c.args.line (g.met.M.Memory.some_stands c.args.mem.now) (g.met.M.Memory.words c.args.mem.now) c.requires.sized c.requires.all in
    omega (arith, i.0, i.1)

pub returns-clause-within : goal.returns-clause-within
returns-clause-within g c = (line_inside (g.M.Memory.stands c.args.mem.now) (g.M.Memory.size c.args.mem.now) c.args.line (g.met.M.Memory.some_stands c.args.mem.now) (g.met.M.Memory.words c.args.mem.now) c.requires.sized c.requires.all).0

pub returns-clause-small : goal.returns-clause-small
returns-clause-small g c =
    let i = line_inside (g.M.Memory.stands c.args.mem.now) (g.M.Memory.size c.args.mem.now) c.args.line (g.met.M.Memory.some_stands c.args.mem.now) (g.met.M.Memory.words c.args.mem.now) c.requires.sized c.requires.all in
    omega (arith, i.0, i.1)
