use Rattle.std.proofs.Common.{◌∷◌, ◌++◌, List, ℕ, replicate, ap}
use Rattle.fifo_object.specs.Words.{words_of_item}
use Rattle.fifo_object.proofs.words.words_of.Goals as goal

pub returns : goal.returns
unfolding words_of_item
returns c = ap (λ (item : List ℕ). c.args.kind ∷ (item ++ replicate 135 0)) c.copy_from_slice.ensures.after
