use Rattle.std.proofs.Common.{inl, refl, subst, sym}
use Rattle.cx_core.specs.declared.kinds.Kind.TheVariants.{BackOff}
use Rattle.cx_core.specs.Layout.{lock_at}
use Rattle.cx_core.specs.LockEvents.{CanBackOff}
use Rattle.table_invariant.specs.Running.{instance_at}
use Rattle.table_invariant.specs.Seats.{Seated, known_of}
use Rattle.table_invariant.specs.Steps.{MayReleaseKnowing, StepsCopied}
use Rattle.table_invariant.proofs.Keeps.{allows_copied}
use Rattle.cx_table.specs.Words.{put_by}
use Rattle.cx_table.specs.declared.events.Instruction.TheVariants.{Subtract}
use Rattle.caller_cache.proofs.Copying.{copied_fits, moved_made, region_some}
use Rattle.caller_cache.proofs.SummaryLaws.{IsSeat, seated}
use Rattle.cx_table.proofs.Handing.{laws_at, still_held}
use Rattle.cx_table.proofs.shared.Shared.release_moved.Goals as goal

pub give_back-requires-clause-right : goal.give_back-requires-clause-right
give_back-requires-clause-right g c = subst (λ (s : Seated). CanBackOff c.args.self.now.callers c.args.source.replica s.known.local) (sym c.seat.view_is) (c.requires.moved.source.few, inl c.requires.moved.source.holds)

pub give_back-requires-clause-allows : goal.give_back-requires-clause-allows
give_back-requires-clause-allows g c = λ learn.
    let t = c.args.self.now in
    let instance = instance_at t g.O.Object.step g.O.Object.only_reads in
    let r = c.args.source.replica in
    allows_copied instance (BackOff r) (known_of c.seat.inside.seat.me.0) _ _ _ _ (put_by (Subtract 1)) c.seat.invariant.0.one learn
    (subst (λ (s : Seated). MayReleaseKnowing instance (BackOff r) s.known (lock_at t.callers r) (put_by (Subtract 1))) (sym c.seat.view_is) c.requires.moved.learned)

-- what the release makes
released : (g : _) (c : goal.After-give_back g) →
    IsSeat c.give_back.new.seat.me c.give_back.new.summary c.seat.inside.before c.seat.inside.copy
    × StepsCopied c.args.self.now g.O.Object.step g.O.Object.only_reads c.args.source.replica c.give_back.result c.args.seat.now (seated c.give_back.new.seat.table_id c.give_back.new.seat.me c.seat.inside.before c.seat.inside.copy)
released g c =
    moved_made c.args.self.now g.O.Object.step g.O.Object.only_reads c.args.source.replica c.give_back.result _ _ _ _ c.seat.inside.copy _ _ _ _ _ c.seat.invariant c.seat.view_is c.in_ok-check.ensures c.requires.seat
    (c.requires.moved.source.few, inl c.requires.moved.source.holds) c.give_back.ensures.taught.table c.give_back.ensures.taught.taught refl c.give_back.ensures.summary
    (c.requires.moved.dirty (region_some c.table_is_running.ensures))

pub invariant_of-seat : goal.invariant_of-seat
invariant_of-seat g c = (released g c).0

pub returns-clause-step : goal.returns-clause-step
returns-clause-step g c =
    let running = c.table_is_running.ensures in
    record {
      made = (released g c).1;
      fits = copied_fits g.O.Object.line_count g.O.Object.lawful g.O.Object.step g.O.Object.only_reads c.args.self.now _ _ _ _ running
          (laws_at g.O.Object.line_count g.O.Object.lawful g.O.Object.step c.args.self.now running g.met.O.Object.keeps (λ o image law. (g.met.O.Object.shape o image law).0) g.met.O.Object.replies)
          c.give_back.ensures.taught.taught;
      halted = tt;
    }

pub returns-clause-held : goal.returns-clause-held
returns-clause-held g c =
    still_held c.args.self.now g.O.Object.step g.O.Object.only_reads c.args.source.replica c.give_back.result c.args.seat.now _ c.args.held.now (released g c).1 c.requires.moved.held
