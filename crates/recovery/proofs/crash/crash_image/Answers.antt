use Rattle.std.proofs.Common.{ℕ, List, ap, sym, subst, ◌∙◌}
use Rattle.recovery.specs.Crashes.{left_word}
use Rattle.recovery.specs.Images.{Gives}
use Rattle.recovery.proofs.Pairs.{gives_none, gives_word, gives_zero}
use Rattle.recovery.proofs.crash.crash_image.Goals as goal
use Rattle.recovery.proofs.crash.crash_image.Goals.{then-word-ne0+in_ok-push, else-word-ne0}

pub loop-at-init : goal.loop-at-init
loop-at-init c =
    let word = left_word c.args.remains.now c.args.choice in
    subst (λ (pairs : List (ℕ × ℕ)). Gives word 0 pairs) (sym c.new-pairs.ensures.items) (gives_none word)

pub loop-at-preserved : goal.loop-at-preserved
loop-at-preserved c =
    let word = left_word c.args.remains.now c.args.choice in
    let is = c.word_left-word.ensures in
    elim c.if-word-ne0.branch [
      | then-word-ne0+in_ok-push w ↦ gives_word word c.loop-at.at c.loop-at.pairs.items c.loop-at.invariant c.word_left-word.result c.if-word-ne0.pairs.items is
          w.if-word-ne0.true (ap (λ v. v.items) w.pairs-is ∙ w.in_ok-push.ensures.items)
      | else-word-ne0 w ↦ gives_zero word c.loop-at.at c.loop-at.pairs.items c.loop-at.invariant c.word_left-word.result c.if-word-ne0.pairs.items is
          w.if-word-ne0.false (ap (λ v. v.items) w.pairs-is)
    ]
