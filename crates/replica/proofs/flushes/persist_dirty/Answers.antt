use Rattle.std.proofs.Common.{subst}
use Rattle.cx_core.specs.declared.kinds.Kind.TheVariants.{Persist}
use Rattle.table_invariant.specs.Steps.{Steps}
use Rattle.replica.proofs.Persisting.{fewer_persisted, persists}
use Rattle.replica.proofs.flushes.persist_dirty.Goals as goal

-- the step
stepped : (g : _) (c : goal.In_ok-persist g) → Steps c.args.shared.now g.O.Object.step g.O.Object.only_reads (Persist c.args.held.now.replica c.args.at) 0 c.args.seat.now c.persist.new.seat
stepped g c = subst (λ q. Steps c.args.shared.now g.O.Object.step g.O.Object.only_reads (Persist q c.args.at) 0 c.args.seat.now c.persist.new.seat) c.replica.ensures c.in_ok-persist.ensures.made

pub returns-clause-persists : goal.returns-clause-persists
returns-clause-persists g c = persists g.O.Object c.args.shared.now c.args.held.now c.args.at c.args.seat.now c.persist.new.seat (stepped g c) c.requires.held

pub returns-clause-fewer : goal.returns-clause-fewer
returns-clause-fewer g c = fewer_persisted g.O.Object c.args.shared.now c.args.held.now c.args.at c.args.seat.now c.persist.new.seat (stepped g c) c.requires.dirty
