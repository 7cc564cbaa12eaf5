use Rattle.std.proofs.Common.{◌<◌, arith}
use Rattle.cx_base.proofs.MemoryLemmas.{loaded_below}
use Rattle.cx_base.proofs.accesses.load_below.Goals as goal

pub prove-unreachable-requires : goal.prove-unreachable-requires
prove-unreachable-requires g c =
    let below : c.in_ok-word.word < c.args.bound = loaded_below c.args.at c.in_ok-word.word c.args.bound (g.met.M.Memory.some_stands c.load.new.self) c.in_ok-word.ensures.stands c.requires.below in
    omega arith
