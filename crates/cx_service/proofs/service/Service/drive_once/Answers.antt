use Rattle.std.proofs.Common.{◌≡◌, arith, subst, sym, Some, ◌∙◌, ap}
use Rattle.cx_core.specs.declared.local.Answer.{Answer}
use Rattle.table_invariant.specs.Running.{IsSeatOf, Running}
use Rattle.table_invariant.specs.Seats.{Seated, unanswered_ticket}
use Rattle.cx_service.specs.Callers.{IsLinkedOf, StoppedSeat}
use Rattle.cx_service.specs.Drives.{DriveDone, DriveDue, DriveHalted, DrivePending, MeetsAtMost}
use Rattle.cx_service.specs.declared.callers.CallerState.{CallerState}
use Rattle.cx_service.proofs.Attempting.{attempt_done, attempt_halted, attempt_refused}
use Rattle.cx_attempts.specs.Answering.{HaltsFor, IsUpdateAttempt}
use Rattle.cx_attempts.specs.Bringing.{BringsInAttempt}
use Rattle.cx_service.proofs.service.Service.drive_once.Goals as goal

pub returns-in-Ok-true : goal.returns-in-Ok-true
returns-in-Ok-true g c =
    let s = c.deref_mut.result.now.seat in
    let is = ap (λ (d : CallerState). d.seat) c.deref_mut.ensures.value ∙ c.linked.view_is in
    let v = c.try_update_once.new.seat in
    let ticket = c.ticket-ticket.result in
    let answer : Answer = record { ticket = ticket; reply = c.try_update_once.new.reply } in
    let answers = subst (IsUpdateAttempt ticket c.try_update_once.new.reply s v) c.in-Ok-true.field-0-test c.in-Ok-true.ensures.attempted.attempted in
    subst (λ (x : Seated). DriveDone c.args.self.now x v answer × MeetsAtMost 1 x v) is (
      attempt_done c.args.self.now s v (subst (IsLinkedOf c.args.self.now) (sym is) c.requires) c.try_update_once.ensures.attempts.rest c.try_update_once.ensures.attempts.front (subst (λ (t : Running _). IsSeatOf t v) c.self.view_is c.try_update_once.ensures.attempts.seat) c.try_update_once.ensures.attempts.since
          ticket c.try_update_once.new.reply (subst (λ (x : Seated). unanswered_ticket x.known.local ≡ Some ticket) (sym is) c.ticket-ticket.ensures)
          c.in-Ok-true.ensures.attempted.allowed (subst (BringsInAttempt s v) c.in-Ok-true.field-0-test c.in-Ok-true.ensures.counted.by_sets) answers,
      answers.most,
    )

pub returns-in-Ok-false : goal.returns-in-Ok-false
returns-in-Ok-false g c =
    let s = c.deref_mut.result.now.seat in
    let is = ap (λ (d : CallerState). d.seat) c.deref_mut.ensures.value ∙ c.linked.view_is in
    let v = c.try_update_once.new.seat in
    subst (λ (x : Seated). DrivePending c.args.self.now 1 x v) is
    (attempt_refused c.args.self.now s v (subst (IsLinkedOf c.args.self.now) (sym is) c.requires) c.try_update_once.ensures.attempts.rest c.try_update_once.ensures.attempts.front (subst (λ (t : Running _). IsSeatOf t v) c.self.view_is c.try_update_once.ensures.attempts.seat) c.try_update_once.ensures.attempts.since
    c.in-Ok-false.ensures.attempted.allowed (omega (arith, c.refusals_fit.ensures)) (subst (BringsInAttempt s v) c.in-Ok-false.field-0-test c.in-Ok-false.ensures.counted.by_sets) (subst (IsUpdateAttempt c.ticket-ticket.result c.try_update_once.new.reply s v) c.in-Ok-false.field-0-test c.in-Ok-false.ensures.attempted.attempted))

pub returns-in-Err : goal.returns-in-Err
returns-in-Err g c =
    let s = c.deref_mut.result.now.seat in
    let is = ap (λ (d : CallerState). d.seat) c.deref_mut.ensures.value ∙ c.linked.view_is in
    let v = c.try_update_once.new.seat in
    let ticket = c.ticket-ticket.result in
    let h : StoppedSeat = record { seat = v; linked = Some ticket } in
    subst (λ (x : Seated). DriveHalted c.args.self.now x h × DriveDue c.args.self.now 1 x h) is
    (attempt_halted c.args.self.now s v (subst (IsLinkedOf c.args.self.now) (sym is) c.requires) c.try_update_once.ensures.attempts.rest c.try_update_once.ensures.attempts.front (subst (λ (t : Running _). IsSeatOf t v) c.self.view_is c.try_update_once.ensures.attempts.seat) c.try_update_once.ensures.attempts.since
    ticket (subst (λ (x : Seated). unanswered_ticket x.known.local ≡ Some ticket) (sym is) c.ticket-ticket.ensures) (subst (λ (t : Running _). HaltsFor t.callers ticket s v) c.self.view_is c.in-Err.ensures.halted))
