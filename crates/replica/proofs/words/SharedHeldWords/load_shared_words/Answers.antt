use Rattle.std.proofs.Common.{arith}
use Rattle.cx_table.specs.Runs.{loads_from}
use Rattle.replica.specs.Held.{LoadsShared}
use Rattle.replica.proofs.Access.{shared_guard, loads_of_run}
use Rattle.replica.proofs.Runs.{loaded_run}
use Rattle.replica.proofs.words.SharedHeldWords.load_shared_words.Goals as goal

pub load_run-requires-clause-guard : goal.load_run-requires-clause-guard
load_run-requires-clause-guard g c = λ i below. shared_guard _ c.args.self.now _ c.args.held.now c.replica.result _ c.args.seat.now c.replica.ensures c.requires.held (let within = c.requires.within in omega (arith, within, below))

pub returns-clause-loaded : goal.returns-clause-loaded
returns-clause-loaded g c =
    let t = c.args.self.now in
    loaded_run g.O.Object t (loads_from c.replica.result c.args.from) (LoadsShared (g.O.Object.line_count t.object) t (g.O.Object.lawful t.object) c.args.held.now) c.args.from c.load_run.result c.load_run.new.into c.args.seat.now c.load_run.new.seat
    (λ ws. loads_of_run (g.O.Object.line_count t.object) t g.O.Object.step g.O.Object.only_reads (g.O.Object.lawful t.object) c.args.held.now c.replica.result c.args.from ws c.args.seat.now c.load_run.new.seat c.replica.ensures c.requires.held)
    c.load_run.ensures.made c.load_run.ensures.halted
