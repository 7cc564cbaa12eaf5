use Rattle.std.proofs.Common.{inl, inr, refl, ◌∙◌, arith}
use Rattle.table_invariant.specs.Running.{instance_at}
use Rattle.cx_table.proofs.GapLoads.{has_still, leaves_more, leaves_none}
use Rattle.cx_table.proofs.GapWalks.{changed_more, changed_none}
use Rattle.cx_table.proofs.gaps.mark_changed.Goals as goal

pub loop-ticket-init : goal.loop-ticket-init
loop-ticket-init g c = record {
  marks = changed_none (instance_at c.args.shared.now g.O.Object.step g.O.Object.only_reads) c.args.lines c.args.from c.args.marks.now c.args.seat.now.known;
  leaves = leaves_none g.O.Object c.args.shared.now c.args.seat.now c.args.seat.now c.requires refl;
  steps = omega arith;
  long = refl;
  order = inl refl;
}

pub loop-ticket-preserved : goal.loop-ticket-preserved
loop-ticket-preserved g c =
    let t = c.args.shared.now in
    let instance = instance_at t g.O.Object.step g.O.Object.only_reads in
    let was = c.loop-ticket.invariant in
    let mid = c.loop-ticket.seat in
    let after = c.mark_ticket.new.seat in
    let made = c.if-not-mark_ticket.ensures in
    let one = made.steps in
    let most = was.steps in
    record {
      marks = changed_more instance c.args.lines c.args.from c.loop-ticket.ticket c.loop-ticket.marks c.mark_ticket.new.marks mid.known after.known (has_still g.O.Object t instance mid after made.leaves) made.kept was.marks (made.marks refl);
      leaves = leaves_more g.O.Object t c.args.seat.now mid after was.leaves made.leaves;
      steps = omega (arith, one, most);
      long = made.long ∙ was.long;
      order = inr (omega (arith, c.loop-ticket-test.true));
    }

pub returns-clause-steps : goal.returns-clause-steps
returns-clause-steps g c =
    let most = c.loop-ticket.invariant.steps in
    elim c.loop-ticket.invariant.order [
      | inl none ↦ omega (arith, most, none)
      | inr few ↦ omega (arith, most, few)
    ]
