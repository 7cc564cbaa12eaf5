use Rattle.std.proofs.Common.{◌≡◌, true, sym, ◌∙◌, below_more}
use Rattle.fifo_object.specs.Words.{is_item}
use Rattle.fifo_object.specs.Fifo.{item_at, item_place}
use Rattle.fifo_object.proofs.fifo.Fifo.has_items.Goals as goal

pub loop-i-preserved : goal.loop-i-preserved
loop-i-preserved c =
    let words = c.args.words.now in
    below_more (λ k. is_item (item_at words (item_place c.args.self.now.lines words k)) ≡ true) c.loop-i.i c.loop-i.invariant (sym c.has_item.ensures ∙ c.if-not-has_item.false)
