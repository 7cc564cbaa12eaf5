use Rattle.std.proofs.Common.{◌∙◌, refl, subst}
use Rattle.redo_set.specs.Taking.{CountsTaken}
use Rattle.cx_attempts.proofs.Bringing.{counted_same}
use Rattle.cx_attempts.proofs.Working.{counted_more}
use Rattle.cx_attempts.proofs.replay.replay_another.Goals as goal

pub returns-then-taken-clause-applied : goal.returns-then-taken-clause-applied
returns-then-taken-clause-applied g c =
    let last = c.apply_another.new.seat in
    let a = c.in_ok-taken.ensures.applied in
    record {
      ready = a.ready;
      counted = λ was. c.saturating_add-scratch.ensures ∙ counted_more c.args.scratch.now.taken c.args.seat.now last (subst (CountsTaken c.args.seat.now last) c.if-taken.true a.counted) was;
      by_sets = a.by_sets;
    }

pub returns-else-taken-clause-applied : goal.returns-else-taken-clause-applied
returns-else-taken-clause-applied g c =
    let last = c.apply_another.new.seat in
    let taken = c.args.scratch.now.taken in
    let a = c.in_ok-taken.ensures.applied in
    record {
      ready = a.ready;
      counted = counted_same taken taken c.args.seat.now last refl (subst (CountsTaken c.args.seat.now last) c.if-taken.false a.counted);
      by_sets = a.by_sets;
    }
