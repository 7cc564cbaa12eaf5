use Rattle.std.proofs.Common.{Some, ◌≡◌, inl, refl, subst, sym, length}
use Rattle.cx_core.specs.declared.kinds.Kind.TheVariants.{BackOff}
use Rattle.cx_core.specs.LockEvents.{CanBackOff}
use Rattle.cx_core.specs.Rights.{shared_on}
use Rattle.table_invariant.specs.Fitting.{TellsWords}
use Rattle.table_invariant.specs.Running.{instance_at}
use Rattle.table_invariant.specs.Seats.{Seated, known_of}
use Rattle.table_invariant.specs.Steps.{StepsTaking}
use Rattle.table_invariant.proofs.Copying.{learns_taking}
use Rattle.table_invariant.proofs.Keeps.{allows_taking}
use Rattle.cx_table.specs.Words.{put_by}
use Rattle.cx_table.specs.declared.events.Instruction.TheVariants.{Subtract}
use Rattle.caller_cache.proofs.SummaryLaws.{IsSeat, seated}
use Rattle.cx_table.proofs.Handing.{laws_at}
use Rattle.cx_table.proofs.Taking.{taken_base, taken_fits, taken_made}
use Rattle.cx_table.proofs.shared.Shared.release_with_image.Goals as goal

pub give_back-requires-clause-right : goal.give_back-requires-clause-right
give_back-requires-clause-right g c = subst (λ (s : Seated). CanBackOff c.args.self.now.callers c.args.source.replica s.known.local) (sym c.seat.view_is) (c.requires.taken.source.few, inl c.requires.taken.source.holds)

pub give_back-requires-clause-allows : goal.give_back-requires-clause-allows
give_back-requires-clause-allows g c = λ learn.
    let t = c.args.self.now in
    let r = c.args.source.replica in
    let taken = c.requires.taken in
    allows_taking (instance_at t g.O.Object.step g.O.Object.only_reads) (BackOff r) c.args.image.now (known_of c.seat.inside.seat.me.0) _ _ _ _ (put_by (Subtract 1)) c.seat.invariant.0.one learn
    (learns_taking (instance_at t g.O.Object.step g.O.Object.only_reads) r c.args.image.now (known_of c.seat.inside.seat.me.0) _ taken.source.few
    (subst (λ (s : Seated). shared_on s.known.local ≡ Some r) (sym c.seat.view_is) taken.source.holds) refl
    (subst (λ (s : Seated). TellsWords s.known (length t.base.words) c.args.image.now) (sym c.seat.view_is) (subst (λ n. TellsWords c.args.seat.now.known n c.args.image.now) c.requires.seat.region taken.tells)))

-- what the release makes
released : (g : _) (c : goal.After-give_back g) →
    IsSeat c.give_back.new.seat.me c.give_back.new.summary c.seat.inside.before c.seat.inside.copy
    × StepsTaking c.args.self.now g.O.Object.step g.O.Object.only_reads c.args.source.replica c.give_back.result c.args.image.now c.args.seat.now (seated c.give_back.new.seat.table_id c.give_back.new.seat.me c.seat.inside.before c.seat.inside.copy)
released g c =
    taken_made c.args.self.now g.O.Object.step g.O.Object.only_reads c.args.source.replica c.give_back.result c.args.image.now _ _ _ _ c.seat.inside.copy _ _ _ _ _ c.seat.invariant c.seat.view_is c.in_ok-check.ensures c.requires.seat
    (c.requires.taken.source.few, inl c.requires.taken.source.holds) c.give_back.ensures.taught.table c.give_back.ensures.taught.taught refl c.give_back.ensures.summary

pub invariant_of-seat : goal.invariant_of-seat
invariant_of-seat g c = (released g c).0

pub returns-clause-step : goal.returns-clause-step
returns-clause-step g c =
    let running = c.table_is_running.ensures in
    record {
      made = (released g c).1;
      fits = taken_fits g.O.Object.line_count g.O.Object.lawful g.O.Object.step g.O.Object.only_reads c.args.self.now _ _ _ _ _ running
          (laws_at g.O.Object.line_count g.O.Object.lawful g.O.Object.step c.args.self.now running g.met.O.Object.keeps (λ o image law. (g.met.O.Object.shape o image law).0) g.met.O.Object.replies)
          c.give_back.ensures.taught.taught;
      halted = tt;
    }

pub returns-clause-base : goal.returns-clause-base
returns-clause-base g c =
    let running = c.table_is_running.ensures in
    taken_base g.O.Object.line_count g.O.Object.lawful g.O.Object.step g.O.Object.only_reads c.args.self.now _ _ _ _ _ running
    (laws_at g.O.Object.line_count g.O.Object.lawful g.O.Object.step c.args.self.now running g.met.O.Object.keeps (λ o image law. (g.met.O.Object.shape o image law).0) g.met.O.Object.replies)
    c.give_back.ensures.taught.taught
