use Rattle.std.proofs.Common.{◌≡◌, ◌<◌, ℕ, true}
use Rattle.fifo_object.specs.Words.{is_item}
use Rattle.fifo_object.specs.Fifo.{item_at, item_place}
use Rattle.fifo_object.proofs.fifo.Fifo.has_items.Given as goal

-- the items before the one that is looked at next are texts
abbrev pub invariant-loop-i : goal.invariant-loop-i
invariant-loop-i l = (k : ℕ) → k < l.i → is_item (item_at l.words (item_place l.self.lines l.words k)) ≡ true
