use Rattle.std.proofs.Common.{ap, ◌∙◌, arith}
use Rattle.fifo_object.specs.Words.{is_item}
use Rattle.fifo_object.proofs.Runs.{part_of}
use Rattle.fifo_object.proofs.fifo.has_item.Goals as goal

pub returns : goal.returns
returns c = c.is_item.ensures ∙ ap is_item (part_of c.args.words.now c.args.place _ _ (omega arith) (omega arith) c.requires)
