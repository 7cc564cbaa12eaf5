use Rattle.cx_core.proofs.StepLemmas.{store_inside}
use Rattle.cx_core.proofs.step.PartMemory.store.Goals as goal

pub returns-clause-stands : goal.returns-clause-stands
returns-clause-stands g c =
    let p = c.args.self.now in
    store_inside (g.M.Memory.stands p.inner.now) (g.M.Memory.stands c.store.new.self) c.store.result p.from p.len c.args.at c.args.v c.requires.at c.store.ensures.stands
