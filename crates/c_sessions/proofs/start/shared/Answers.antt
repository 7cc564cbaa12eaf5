use Rattle.std.proofs.Common.{rules, ◌≡◌, ◌∷◌, ℕ, List, All, ap, drop, length, map, subst, sym, ◌∙◌}
use Rattle.crossbeam_queue.specs.Passes.{view}
use Rattle.table_invariant.specs.Running.{Running}
use Rattle.c_sessions.specs.declared.rule.Knows.{Knows}
use Rattle.c_sessions.proofs.Endings.{own_due}
use Rattle.std.proofs.lemmas.List.Elements.{All-push, All-tail}
use Rattle.std.specs.Arc.{arc_value}
use Rattle.std.specs.Vec.Iter.{into_iter_items}
use Rattle.cx_service.specs.Callers.{IsCallerOf}
use Rattle.c_sessions.specs.Handing.{IsPassIn}
use Rattle.c_sessions.specs.Sessions.{IsOpenSessionOf}
use Rattle.c_sessions.proofs.Numbers.{ended, moved, number_of}
use Rattle.c_sessions.proofs.start.shared.Goals as goal

-- the pass is still to hand in the callers that are left, as the next session's pass is made of it
pub another-requires-clause-handover : goal.another-requires-clause-handover
another-requires-clause-handover g c =
    let handover = c.in_ok-handover.handover in let service = c.args.service in
    let made : arc_value c.in-Ok-new.handover ≡ handover = search rules in
    let of : c.deref.result.now ≡ service = search rules in
    let pass = own_due service (map number_of (into_iter_items c.loop-caller.caller-iterator)) (arc_value c.in-Ok-new.handover) c.loop-caller.pass c.loop-caller.invariant.pass in
    (search rules, subst (λ (r : Running _). IsPassIn r (view c.loop-caller.pass).due (arc_value c.in-Ok-new.handover) c.loop-caller.pass) (sym of) pass)

-- where one caller more goes into a session, the sessions made are open, and the pass is to hand in the callers left
pub loop-caller-preserved : goal.loop-caller-preserved
loop-caller-preserved g c =
    let kept = c.loop-caller.invariant in let step = c.in-Some.ensures.steps.0 in let service = c.args.service in
    let same : arc_value c.of-session.result.service ≡ service = search rules in
    let of : c.deref.result.now ≡ service = search rules in
    let due : (view c.loop-caller.pass).due ≡ number_of c.in-Some.caller ∷ map number_of (into_iter_items c.next.new.self) = ap (λ (v : Knows _). v.due) kept.pass.is ∙ ap (map number_of) step in
    record {
      pass = subst (λ (r : Running _). IsPassIn r (map number_of (into_iter_items c.next.new.self)) (arc_value c.in-Ok-new.handover) c.another.new.pass) of (subst (λ (ns : List ℕ). IsPassIn c.deref.result.now (drop 1 ns) (arc_value c.in-Ok-new.handover) c.another.new.pass) due c.in-Ok-another.ensures.1);
      opened = subst (All (IsOpenSessionOf service)) (sym c.in-Ok-push.ensures.items)
          (All-push (IsOpenSessionOf service) c.loop-caller.sessions.items c.of-session.result kept.opened (record { same = same; opened = c.of-session.ensures.opened }));
      left = All-tail (IsCallerOf service) c.in-Some.caller (into_iter_items c.next.new.self) (subst (All (IsCallerOf service)) step kept.left);
      numbers = moved c.loop-caller.sessions.items _ c.of-session.result c.in-Some.caller (into_iter_items c.next.new.self) (into_iter_items c.loop-caller.caller-iterator) (map number_of c.args.callers.items) c.in-Ok-push.ensures.items step c.of-session.ensures.of.1 kept.numbers;
    }

-- no callers are left at the end, so each has its session, in order
pub returns : goal.returns
returns g c =
    let kept = c.loop-caller.invariant in
    let none : length (into_iter_items c.loop-caller.caller-iterator) ≡ 0 = search rules in
    record {
      each = kept.opened;
      numbers = ended c.loop-caller.sessions.items (into_iter_items c.loop-caller.caller-iterator) (map number_of c.args.callers.items) none kept.numbers;
    }
