use Rattle.std.proofs.Common.{◌+◌, ◌<◌, List, ℕ, length, take, refl, ap, sym, ◌∙◌, subst, arith}
use Rattle.std.proofs.lemmas.List.{length-set, length-take}
use Rattle.cx_core.specs.declared.kinds.Kind.TheVariants.{ReadSet}
use Rattle.cx_core.specs.Events.{Guard}
use Rattle.table_invariant.specs.Running.{instance_at}
use Rattle.table_invariant.specs.Seats.{Seated, unseen}
use Rattle.table_invariant.proofs.Stepping.{on_then_one}
use Rattle.cx_table.proofs.Runs.{take_set}
use Rattle.redo_set.specs.Taking.{KeepsTaking, ReadsSetWords}
use Rattle.redo_set.proofs.Results.{on_err}
use Rattle.redo_set.proofs.Takings.{fewer_so, leaves_read, words_more, words_none}
use Rattle.redo_set.proofs.taken.read_each.Goals as goal

pub loop-i-init : goal.loop-i-init
loop-i-init g c = record { read = words_none g.O.Object c.args.shared.now c.args.ticket 1 c.args.seat.now c.args.seat.now refl; long = refl; of = c.requires.may.of; since = omega arith }

pub read_set-requires : goal.read_set-requires
read_set-requires g c = record {
  seat = c.loop-i.invariant.of;
  guard = subst (λ (x : Seated). Guard (instance_at c.args.shared.now g.O.Object.step g.O.Object.only_reads) unseen (ReadSet c.args.cell c.args.ticket (1 + c.loop-i.i)) x.known.local) (sym c.loop-i.invariant.read.seat)
      (c.requires.may.guard (1 + c.loop-i.i) (omega (arith, c.loop-i-test.true, c.loop-i.invariant.long, c.requires.few)));
}

pub loop-i-preserved : goal.loop-i-preserved
loop-i-preserved g c =
    let i = c.loop-i.i in
    let v = c.in_ok-into.field-0 in
    let ok = c.in_ok-into.ensures in
    let below : i < length c.loop-i.into = omega (arith, c.loop-i-test.true, c.loop-i.invariant.long) in
    record {
      read = subst (λ (ws : List ℕ). ReadsSetWords g.O.Object c.args.shared.now c.args.ticket 1 ws c.args.seat.now c.read_set.new.seat) (sym (take_set c.loop-i.into i v below))
          (words_more g.O.Object c.args.shared.now c.args.cell c.args.ticket 1 (take i c.loop-i.into) v (1 + i) c.args.seat.now c.loop-i.seat c.read_set.new.seat c.loop-i.invariant.read (omega (arith, length-take i c.loop-i.into, below)) ok.made.made ok.fits);
      long = length-set c.loop-i.into i v ∙ c.loop-i.invariant.long;
      of = ok.made.seat;
      since = on_then_one c.args.seat.now c.loop-i.seat c.read_set.new.seat c.loop-i.invariant.since (ap (λ (s : Seated). s.known.local.steps) ok.made.made);
    }

pub returns-in_err-into-clause-halted : goal.returns-in_err-into-clause-halted
returns-in_err-into-clause-halted g c =
    let i = c.loop-i.i in
    let below : i < length c.args.into.now = c.loop-i-test.true in
    let inv = c.loop-i.invariant in
    on_err c.from_residual.result _
    (fewer_so c.args.shared.now c.args.ticket 1 (length c.args.into.now) (take i c.loop-i.into) c.args.seat.now c.loop-i.seat c.read_set.new.seat (omega (arith, length-take i c.loop-i.into, below, inv.long)) inv.read.seat c.in_err-into.ensures.halted)

pub returns-in_err-into-clause-leaves : goal.returns-in_err-into-clause-leaves
returns-in_err-into-clause-leaves g c =
    let inv = c.loop-i.invariant in
    subst (KeepsTaking c.args.shared.now c.args.seat.now) (sym c.in_err-into.ensures.halted.same)
    (leaves_read g.O.Object c.args.shared.now c.args.ticket 1 (take c.loop-i.i c.loop-i.into) c.args.seat.now c.loop-i.seat inv.read inv.of inv.since)

pub returns-clause-leaves : goal.returns-clause-leaves
returns-clause-leaves g c =
    let inv = c.loop-i.invariant in
    leaves_read g.O.Object c.args.shared.now c.args.ticket 1 (take c.loop-i.i c.loop-i.into) c.args.seat.now c.loop-i.seat inv.read inv.of inv.since
