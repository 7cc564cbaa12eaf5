use Rattle.std.proofs.Common.{◌∷◌, ◌++◌, List, ℕ, replicate, set, ap, ◌∙◌}
use borrow.Rule.Slice.PartMut.{put_mid}
use Rattle.fifo_object.specs.Words.{words_of_item}
use Rattle.fifo_object.proofs.fifo.put_words.Goals as goal

pub returns : goal.returns
unfolding words_of_item
returns c =
    let kind = c.args.kind in
    ap (λ (r : List ℕ). put_mid 1 8 (set r 0 kind) c.copy_from_slice.new.self) c.requires.zero ∙ ap (λ (item : List ℕ). kind ∷ (item ++ replicate 135 0)) c.copy_from_slice.ensures.after
