use Rattle.std.proofs.Common.{refl, sym, ◌∙◌}
use Rattle.std.proofs.lemmas.Result.{IfOk-weaker}
use Rattle.table_tests.proofs.OneOfEach.{one_of_each}
use Rattle.table_tests.proofs.links.closed_after_both.Goals as goal

-- each caller has one entry, so the history has these two and no others
pub returns : goal.returns
returns c =
    IfOk-weaker c.closed.result _ _
    (λ r merged. one_of_each c.args.shared.base.place r.trail.history _ _ merged.of_callers
    (sym (merged.own 0 c.args.first.known.local refl) ∙ c.requires.one)
    (sym (merged.own 1 c.args.second.known.local refl) ∙ c.requires.other))
    c.closed.ensures.merged
