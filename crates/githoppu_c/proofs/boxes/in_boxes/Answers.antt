use Rattle.std.proofs.Common.{◌≡◌, ◌∙◌, length, map, rules}
use Rattle.std.specs.Vec.Iter.{into_iter_items}
use Rattle.githoppu_c.proofs.InBoxes.{ended, moved}
use Rattle.githoppu_c.proofs.boxes.in_boxes.Goals as goal

-- an iteration of the loop puts one more session into a box: what is in the boxes and the sessions left are still all, in order
pub loop-session-preserved : goal.loop-session-preserved
loop-session-preserved g c =
    let any = g.S.SessionOfC.as_any in
    moved any c.loop-session.boxes.items _ c.in_ok-new.field-0 c.in-Some.session (into_iter_items c.next.new.self) (into_iter_items c.loop-session.session-iterator) (map any c.args.sessions.items)
    c.in_ok-push.ensures.items c.in-Some.ensures.steps.0 (c.in_ok-new.ensures.ok ∙ c.any.ensures) c.loop-session.invariant

-- after the loop no session is left, so the boxes have what `as_any` makes of all sessions, in order
pub returns : goal.returns
returns g c =
    let any = g.S.SessionOfC.as_any in
    let none : length (into_iter_items c.loop-session.session-iterator) ≡ 0 = search rules in
    ended any c.loop-session.boxes.items (into_iter_items c.loop-session.session-iterator) (map any c.args.sessions.items) none c.loop-session.invariant
