use Rattle.std.proofs.Common.{◌++◌, List, ℕ, ap, sym, ◌∙◌, append_assoc}
use Rattle.cx_core.specs.State.{copies}
use Rattle.cx_core.proofs.StateLemmas.{copies_more}
use Rattle.core_events.proofs.state.push_copies.Goals as goal

pub loop-preserved : goal.loop-preserved
loop-preserved c =
    let old = c.args.words.now.items in
    let from = c.args.from.now in
    c.in_ok-extend_from_slice.ensures.items
    ∙ ap (λ (xs : List ℕ). xs ++ from) c.loop.invariant
    ∙ append_assoc old (copies c.loop.counter from) from
    ∙ ap (λ (xs : List ℕ). old ++ xs) (sym (copies_more c.loop.counter from))
