use Rattle.std.proofs.Common.{◌≡◌, ◌++◌, map}
use Rattle.std.specs.Vec.Iter.{into_iter_items}
use Rattle.githoppu_c.proofs.InBoxes.{value_of}
use Rattle.githoppu_c.proofs.boxes.in_boxes.Given as goal

-- what is in the boxes that are made, and then what `as_any` makes of the sessions left, is what it makes of all sessions, in order
abbrev pub invariant-loop-session : goal.invariant-loop-session
invariant-loop-session g l =
    map value_of l.boxes.items ++ map g.S.SessionOfC.as_any (into_iter_items l.session-iterator) ≡ map g.S.SessionOfC.as_any l.fn.sessions.items
