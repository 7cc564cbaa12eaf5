use Rattle.std.proofs.Common.{◌≡◌, None, take}
use Rattle.cx_base.specs.VecMemory.{words_of}
use Rattle.cx_core.specs.History.{image_after}
use Rattle.cx_core.specs.Region.{object_part}
use Rattle.core_events.proofs.replies.part_after.Given as goal

abbrev pub invariant-loop-entry : goal.invariant-loop-entry
invariant-loop-entry g l =
    (words_of l.memory ≡ image_after (g.O.Object.step l.object) (object_part l.base.words) (take l.entry-index l.entries))
    × g.O.Object.lawful l.object (words_of l.memory)
    × (l.memory.left ≡ None)
