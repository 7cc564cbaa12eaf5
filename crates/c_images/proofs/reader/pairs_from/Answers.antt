use Rattle.std.proofs.Common.{ℕ, List, ◌+◌, ◌∙◌, ap, sym, subst}
use Rattle.recovery.specs.Images.{Gives}
use Rattle.c_images.specs.Words.{word_from}
use Rattle.c_images.proofs.Placed.{places_none, places_word, places_zero}
use Rattle.c_images.proofs.reader.pairs_from.Goals as goal
use Rattle.c_images.proofs.reader.pairs_from.Goals.{then-word-ne0+in_ok-push, else-word-ne0}

-- no pairs put no words
pub loop-at-init : goal.loop-at-init
loop-at-init c =
    let words = c.args.words.now in
    subst (λ (pairs : List (ℕ × ℕ)). Gives (word_from c.args.start words) (c.args.start + 0) pairs) (sym c.new-pairs.ensures.items) (places_none c.args.start words)

-- a word that is not 0 is put by a pair more, and one that is 0 by none
pub loop-at-preserved : goal.loop-at-preserved
loop-at-preserved c =
    let l = c.loop-at in
    elim c.if-word-ne0.branch [
      | then-word-ne0+in_ok-push w ↦ places_word c.args.start c.args.words.now l.at l.pairs.items l.invariant c.if-word-ne0.pairs.items w.if-word-ne0.true (ap (λ v. v.items) w.pairs-is ∙ w.in_ok-push.ensures.items)
      | else-word-ne0 w ↦ places_zero c.args.start c.args.words.now l.at l.pairs.items l.invariant c.if-word-ne0.pairs.items w.if-word-ne0.false (ap (λ v. v.items) w.pairs-is)
    ]
