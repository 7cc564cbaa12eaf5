use Rattle.std.proofs.Common.{◌≡◌, ◌≤◌, ℕ, arith, subst, sym, ◌∙◌, None, ap, IfSome}
use Rattle.cx_base.specs.Codes.{root_place_of}
use Rattle.table_invariant.specs.Running.{IsSeatOf, Running}
use Rattle.table_invariant.specs.Seats.{Seated}
use Rattle.cx_service.specs.Callers.{IsCallerOf}
use Rattle.cx_service.specs.Drives.{MeetsFewer}
use Rattle.cx_service.specs.Lookups.{ReadAnswered, ReadDue, ReadHalted, ReadPending}
use Rattle.cx_service.specs.declared.callers.CallerState.{CallerState}
use Rattle.cx_service.proofs.Attempting.{all_answered, read_done, read_ended, read_refused}
use Rattle.cx_attempts.specs.declared.lookup.Seen.{Seen}
use Rattle.cx_attempts.specs.Answering.{LooksUp, seen_at}
use Rattle.cx_service.proofs.service.Service.read_once.Goals as goal

pub returns-in-Ok-Some : goal.returns-in-Ok-Some
returns-in-Ok-Some g c =
    let s = c.deref_mut.result.now.seat in
    let is = ap (λ (d : CallerState). d.seat) c.deref_mut.ensures.value ∙ c.caller.view_is in
    let v = c.try_read_once.new.seat in
    let reply = c.try_read_once.new.reply in
    let seen : Seen = record { place = c.in-Ok-Some.place; reply = reply } in
    let answers = subst (λ o. LooksUp c.args.op.now s v (seen_at reply o)) c.in-Ok-Some.field-0-is c.in-Ok-Some.ensures.attempted.attempted in
    let here : c.in-Ok-Some.place ≡ root_place_of c.self.inside.shared.callers v.known.local.seen_cur =
    subst (λ o. IfSome o (λ (p : ℕ). p ≡ root_place_of c.self.inside.shared.callers v.known.local.seen_cur)) c.in-Ok-Some.field-0-is c.in-Ok-Some.ensures.attempted.place in
    let reached : c.in-Ok-Some.place ≤ v.known.local.front = subst (λ o. IfSome o (λ (p : ℕ). p ≤ v.known.local.front)) c.in-Ok-Some.field-0-is c.in-Ok-Some.ensures.attempted.reached in
    let placed = here ∙ ap (λ (t : Running _). root_place_of t.callers v.known.local.seen_cur) c.self.view_is in
    subst (λ (x : Seated). ReadAnswered c.args.self.now c.args.op.now x v seen × MeetsFewer 1 x v) is (
      read_done c.args.self.now c.args.op.now s v (subst (IsCallerOf c.args.self.now) (sym is) c.requires.caller) c.try_read_once.ensures.attempts.attempts.rest c.try_read_once.ensures.attempts.attempts.front (subst (λ (t : Running _). IsSeatOf t v) c.self.view_is c.try_read_once.ensures.attempts.attempts.seat) c.try_read_once.ensures.attempts.rises c.try_read_once.ensures.attempts.attempts.since
          seen c.in-Ok-Some.ensures.attempted.allowed answers placed reached,
      (let same = answers.met in omega (arith, same)),
    )

pub returns-in-Ok-None : goal.returns-in-Ok-None
returns-in-Ok-None g c =
    let s = c.deref_mut.result.now.seat in
    let is = ap (λ (d : CallerState). d.seat) c.deref_mut.ensures.value ∙ c.caller.view_is in
    let v = c.try_read_once.new.seat in
    subst (λ (x : Seated). ReadPending c.args.self.now 1 x v) is
    (read_refused c.args.self.now c.args.op.now s v (subst (IsCallerOf c.args.self.now) (sym is) c.requires.caller) c.try_read_once.ensures.attempts.attempts.rest c.try_read_once.ensures.attempts.attempts.front (subst (λ (t : Running _). IsSeatOf t v) c.self.view_is c.try_read_once.ensures.attempts.attempts.seat) c.try_read_once.ensures.attempts.rises c.try_read_once.ensures.attempts.attempts.since
    c.in-Ok-None.ensures.attempted.allowed (omega (arith, c.refusals_fit.ensures)) (subst (λ o. LooksUp c.args.op.now s v (seen_at c.try_read_once.new.reply o)) c.in-Ok-None.field-0-is c.in-Ok-None.ensures.attempted.attempted))

pub returns-in-Err : goal.returns-in-Err
returns-in-Err g c =
    let s = c.deref_mut.result.now.seat in
    let is = ap (λ (d : CallerState). d.seat) c.deref_mut.ensures.value ∙ c.caller.view_is in
    let v = c.try_read_once.new.seat in
    subst (λ (x : Seated). ReadHalted c.args.self.now c.args.op.now x (record { seat = v; linked = None }) × ReadDue 1 x v) is
    (read_ended c.args.self.now c.args.op.now s v (subst (IsCallerOf c.args.self.now) (sym is) c.requires.caller) c.try_read_once.ensures.attempts.attempts.rest c.try_read_once.ensures.attempts.attempts.front (subst (λ (t : Running _). IsSeatOf t v) c.self.view_is c.try_read_once.ensures.attempts.attempts.seat) c.try_read_once.ensures.attempts.rises c.try_read_once.ensures.attempts.attempts.since c.in-Err.ensures.halted)

pub try_read_once-requires-clause-ready : goal.try_read_once-requires-clause-ready
try_read_once-requires-clause-ready g c =
    let is = ap (λ (d : CallerState). d.seat) c.deref_mut.ensures.value ∙ c.caller.view_is in
    let caller = subst (IsCallerOf c.args.self.now) (sym is) c.requires.caller in
    record { of = subst (λ (t : Running _). IsSeatOf t c.deref_mut.result.now.seat) (sym c.self.view_is) caller.of; rest = caller.rest; answered = all_answered c.args.self.now c.deref_mut.result.now.seat caller }
