use Rattle.std.proofs.Common.{ℕ, Ok, false, subst}
use Rattle.cx_core.specs.declared.kinds.Kind.TheVariants.{LoadWord}
use Rattle.table_invariant.specs.Steps.{Steps}
use Rattle.replica.proofs.Access.{load_guard, made_by_load}
use Rattle.replica.proofs.words.SharedHeldWords.load_held.Goals as goal

pub load_at_once-requires-clause-may : goal.load_at_once-requires-clause-may
load_at_once-requires-clause-may g c = record { seat = c.requires.held.of; guard = load_guard _ c.args.self.now _ (g.O.Object.step c.args.self.now.object) c.args.held.now c.replica.result c.args.at c.args.seat.now c.replica.ensures c.requires.held c.requires.at }

pub returns-in-Some-clause-made : goal.returns-in-Some-clause-made
returns-in-Some-clause-made g c =
    made_by_load {E = ℕ} (g.O.Object.line_count c.args.self.now.object) c.args.self.now g.O.Object.step g.O.Object.only_reads (g.O.Object.lawful c.args.self.now.object) c.args.held.now c.replica.result c.args.at c.args.seat.now c.load_at_once.new.seat (Ok c.in-Some.found) c.replica.ensures c.requires.held c.in-Some.ensures.made c.in-Some.ensures.fits

pub returns-in_ok-load_alone-in-None-clause-made : goal.returns-in_ok-load_alone-in-None-clause-made
returns-in_ok-load_alone-in-None-clause-made g c =
    let t = c.args.self.now in
    let v = c.in_ok-load_alone-in-None.field-0 in
    let after = c.load_alone.new.seat in
    let made = subst (λ s. Steps t g.O.Object.step g.O.Object.only_reads (LoadWord c.replica-in-None.result c.args.at false) v s after) c.in-None.ensures.none c.in_ok-load_alone-in-None.ensures.made in
    made_by_load {E = ℕ} (g.O.Object.line_count t.object) t g.O.Object.step g.O.Object.only_reads (g.O.Object.lawful t.object) c.args.held.now c.replica-in-None.result c.args.at c.args.seat.now after (Ok v) c.replica-in-None.ensures c.requires.held made c.in_ok-load_alone-in-None.ensures.fits
