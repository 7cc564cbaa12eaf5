use Rattle.std.proofs.Common.{◌-◌, ◌<◌, arith}
use Rattle.cx_base.proofs.MemoryLemmas.{Always-loaded, loaded_below}
use Rattle.fifo_object.specs.Fifo.{IsFifo}
use Rattle.fifo_object.proofs.fifo.Fifo.ends.Goals as goal

pub returns-clause-bounds : goal.returns-clause-bounds
returns-clause-bounds g c =
    let lines = c.args.self.now.lines in
    let some = c.args.self.now.some in
    let mid = Always-loaded (IsFifo lines) c.in_ok-head.ensures.stands c.requires.lawful in
    let head : c.in_ok-head.head < lines - 1 = loaded_below 1 c.in_ok-head.head (lines - 1) (g.met.M.Memory.some_stands c.load.new.self) c.in_ok-head.ensures.stands (λ first now s. (c.requires.lawful first now s).header.head) in
    let count : c.in_ok-count.count < lines = loaded_below 2 c.in_ok-count.count lines (g.met.M.Memory.some_stands c.load-2.new.self) c.in_ok-count.ensures.stands (λ first now s. (let n = (mid first now s).header.count in omega (arith, n, some))) in
    (head, omega (arith, count))
