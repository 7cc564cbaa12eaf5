use Rattle.std.proofs.Common.{◌∙◌, ap, subst}
use Rattle.table_invariant.specs.Seats.{Seated}
use Rattle.cx_attempts.specs.Keeping.{TriesKeep}
use Rattle.cx_attempts.specs.Taking.{TakesAny}
use Rattle.cx_attempts.proofs.Bringing.{counts_around}
use Rattle.cx_attempts.proofs.Renewed.{finished}
use Rattle.cx_attempts.proofs.preparation.prepare.Goals as goal

pub returns-clause-prepared : goal.returns-clause-prepared
returns-clause-prepared g c =
    let t = c.args.shared.now in
    let taken = subst (TakesAny g.O.Object t c.args.seat.now c.take_any.new.seat) c.in-Some.is c.in_ok-held.ensures.taken in
    let kept_seat = c.keep.new.seat in
    let kept = subst (TriesKeep g.O.Object t c.args.ticket c.begin.new.seat kept_seat) c.in-Some-2.is c.in_ok-held-2.ensures.kept in
    let e = c.in_ok-bring_up.ensures in
    let at = kept.at_image in
    finished g.O.Object t c.args.ticket c.args.seat.now kept_seat c.bring_up.new.seat c.downgrade.new.seat c.in-Some-2.held c.in_ok-held-3.held c.bring_up.new.reply
    (kept.met ∙ ap (λ (s : Seated). s.known.local.met) c.begin.ensures.leaves.rest ∙ taken.met) at.alone at.is_held.right.holds e.brought e.keeps.rest c.in_ok-held-3.ensures.made

pub returns-clause-counted : goal.returns-clause-counted
returns-clause-counted g c =
    let sets = λ (s : Seated). s.known.sets in
    let was = counts_around c.args.scratch.now.taken c.bring_up.new.scratch.taken c.args.seat.now c.keep.new.seat c.bring_up.new.seat c.downgrade.new.seat
    (ap sets c.keep.ensures.attempts.rest ∙ ap sets c.begin.ensures.leaves.rest ∙ ap sets c.take_any.ensures.keeps.rest) c.in_ok-bring_up.ensures.counted (ap sets c.in_ok-held-3.ensures.made.made.made) in
    record { counted = was.counted; by_sets = was.by_sets }
