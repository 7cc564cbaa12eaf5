use Rattle.std.proofs.Common.{◌++◌, List, ℕ, replicate, ap, sym, ◌∙◌, append_assoc, ◌∷◌, []}
use Rattle.cx_core.proofs.StateLemmas.{replicate_more}
use Rattle.core_events.proofs.state.push_many.Goals as goal

pub loop-preserved : goal.loop-preserved
loop-preserved c =
    let old = c.args.words.now.items in
    let so_far = replicate c.loop.counter c.args.word in
    c.in_ok-push.ensures.items
    ∙ ap (λ (xs : List ℕ). xs ++ c.args.word ∷ []) c.loop.invariant
    ∙ append_assoc old so_far (c.args.word ∷ [])
    ∙ ap (λ (xs : List ℕ). old ++ xs) (sym (replicate_more c.loop.counter c.args.word))
