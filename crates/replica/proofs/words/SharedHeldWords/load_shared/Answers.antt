use Rattle.std.proofs.Common.{ℕ, Ok, IfOk, false, subst}
use Rattle.cx_core.specs.declared.kinds.Kind.TheVariants.{LoadWord}
use Rattle.table_invariant.specs.Steps.{Steps}
use Rattle.replica.proofs.Access.{made_by_shared_load, shared_guard}
use Rattle.replica.proofs.words.SharedHeldWords.load_shared.Goals as goal

pub load_at_once-requires-clause-may : goal.load_at_once-requires-clause-may
load_at_once-requires-clause-may g c = record { seat = c.requires.held.of; guard = shared_guard _ c.args.self.now _ c.args.held.now c.replica.result c.args.at c.args.seat.now c.replica.ensures c.requires.held c.requires.at }

pub returns-in-Some-clause-made : goal.returns-in-Some-clause-made
returns-in-Some-clause-made g c =
    made_by_shared_load {E = ℕ} (g.O.Object.line_count c.args.self.now.object) c.args.self.now g.O.Object.step g.O.Object.only_reads (g.O.Object.lawful c.args.self.now.object) c.args.held.now c.replica.result c.args.at c.args.seat.now c.load_at_once.new.seat (Ok c.in-Some.found) c.replica.ensures c.requires.held c.in-Some.ensures.made c.in-Some.ensures.fits

pub returns-in-None-clause-made : goal.returns-in-None-clause-made
returns-in-None-clause-made g c =
    let t = c.args.self.now in
    let after = c.load_alone.new.seat in
    let made = subst (λ s. IfOk c.load_alone.result (λ v. Steps t g.O.Object.step g.O.Object.only_reads (LoadWord c.replica-in-None.result c.args.at false) v s after)) c.in-None.ensures.none c.load_alone.ensures.made in
    made_by_shared_load (g.O.Object.line_count t.object) t g.O.Object.step g.O.Object.only_reads (g.O.Object.lawful t.object) c.args.held.now c.replica-in-None.result c.args.at c.args.seat.now after c.load_alone.result c.replica-in-None.ensures c.requires.held made c.load_alone.ensures.fits
