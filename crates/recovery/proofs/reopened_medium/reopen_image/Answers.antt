use Rattle.std.proofs.Common.{ℕ, List, ap, ◌∙◌}
use Rattle.recovery.specs.Images.{words_from}
use Rattle.recovery.proofs.ReopenedImages.{has_replicas, holds_region, words_fit}
use Rattle.recovery.proofs.reopened_medium.reopen_image.Goals as goal

pub of-requires : goal.of-requires
of-requires c =
    let image = c.args.image.now in
    words_fit image c.requires.readable c.requires.size c.in_ok-words.words.items (c.in_ok-words.ensures ∙ ap (λ (ps : List (ℕ × ℕ)). words_from ps 0 image.count) c.as_slice.ensures)

pub reopen-requires : goal.reopen-requires
reopen-requires c =
    let image = c.args.image.now in
    has_replicas image c.requires.readable c.requires.size c.in_ok-words.words.items c.in_ok-medium.medium
    (c.in_ok-words.ensures ∙ ap (λ (ps : List (ℕ × ℕ)). words_from ps 0 image.count) c.as_slice.ensures) c.in_ok-medium.ensures.words c.in_ok-medium.ensures.stores

pub returns : goal.returns
returns c =
    let image = c.args.image.now in
    let read = c.in_ok-words.ensures ∙ ap (λ (ps : List (ℕ × ℕ)). words_from ps 0 image.count) c.as_slice.ensures in
    holds_region image c.requires.readable c.requires.size c.in_ok-words.words.items c.in_ok-medium.medium c.reopen.new.medium read c.in_ok-medium.ensures.words
    (has_replicas image c.requires.readable c.requires.size c.in_ok-words.words.items c.in_ok-medium.medium read c.in_ok-medium.ensures.words c.in_ok-medium.ensures.stores)
    c.reopen.ensures
