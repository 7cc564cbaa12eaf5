use Rattle.std.proofs.Common.{subst, sym, ◌∙◌, ap, arith}
use Rattle.table_invariant.specs.Running.{IsSeatOf, Running}
use Rattle.table_invariant.specs.Seats.{Seated}
use Rattle.cx_service.specs.Callers.{IsCallerOf}
use Rattle.cx_service.specs.Checkpoints.{CheckpointTaken}
use Rattle.cx_service.specs.Drives.{MeetsFewer}
use Rattle.cx_service.specs.Lookups.{ReadPending}
use Rattle.cx_service.specs.declared.callers.CallerState.{CallerState}
use Rattle.cx_service.proofs.Imaging.{image_refused, image_taken}
use Rattle.cx_attempts.specs.Checkpointing.{IsCheckpointAttempt}
use Rattle.cx_service.proofs.service.Service.checkpoint_once.Goals as goal

pub returns-in-Ok-Some-clause-taken : goal.returns-in-Ok-Some-clause-taken
returns-in-Ok-Some-clause-taken g c =
    let s = c.deref_mut.result.now.seat in
    let is = ap (λ (d : CallerState). d.seat) c.deref_mut.ensures.value ∙ c.caller.view_is in
    let v = c.try_checkpoint_once.new.seat in
    let words = c.try_checkpoint_once.new.into in
    let o = g.O.Object in
    let e = c.in-Ok-Some.ensures in
    let attempted = subst (λ t. IsCheckpointAttempt o t words s v c.in-Ok-Some.field-0) c.self.view_is e.attempted.attempted in
    subst (λ (x : Seated). CheckpointTaken o c.args.self.now words c.in-Ok-Some.place x v × MeetsFewer 1 x v) is
    (image_taken o c.args.self.now s v (subst (IsCallerOf c.args.self.now) (sym is) c.requires.caller) e.attempts.attempts.rest e.attempts.attempts.front (subst (λ (t : Running _). IsSeatOf t v) c.self.view_is e.attempts.attempts.seat) e.attempts.rises e.attempts.attempts.since
    words c.in-Ok-Some.place e.attempted.allowed (subst (IsCheckpointAttempt o c.args.self.now words s v) c.in-Ok-Some.field-0-is attempted))

pub returns-in-Ok-None-clause-taken : goal.returns-in-Ok-None-clause-taken
returns-in-Ok-None-clause-taken g c =
    let s = c.deref_mut.result.now.seat in
    let is = ap (λ (d : CallerState). d.seat) c.deref_mut.ensures.value ∙ c.caller.view_is in
    let v = c.try_checkpoint_once.new.seat in
    let words = c.try_checkpoint_once.new.into in
    let o = g.O.Object in
    let e = c.in-Ok-None.ensures in
    subst (λ (x : Seated). ReadPending c.args.self.now 1 x v) is
    (image_refused o c.args.self.now s v (subst (IsCallerOf c.args.self.now) (sym is) c.requires.caller) e.attempts.attempts.rest e.attempts.attempts.front (subst (λ (t : Running _). IsSeatOf t v) c.self.view_is e.attempts.attempts.seat) e.attempts.rises e.attempts.attempts.since
    e.attempted.allowed (omega (arith, c.refusals_fit.ensures)) (subst (IsCheckpointAttempt o c.self.inside.shared words s v) c.in-Ok-None.field-0-is e.attempted.attempted))
