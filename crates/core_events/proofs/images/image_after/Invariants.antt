use Rattle.std.proofs.Common.{◌≡◌, ◌+◌, None, take}
use Rattle.cx_base.specs.VecMemory.{words_of}
use Rattle.core_events.specs.Images.{IsRegion}
use Rattle.cx_core.specs.History.{image_from}
use Rattle.cx_core.specs.Region.{place_of}
use Rattle.core_events.proofs.images.image_after.Given as goal

abbrev pub invariant-loop-entry : goal.invariant-loop-entry
invariant-loop-entry g l =
    (words_of l.memory ≡ image_from (g.O.Object.step l.object) l.base.words (take l.entry-index l.entries))
    × IsRegion (g.O.Object.line_count l.object) (g.O.Object.lawful l.object) (words_of l.memory)
    × (place_of (words_of l.memory) ≡ l.base.place + l.entry-index)
    × (l.memory.left ≡ None)
