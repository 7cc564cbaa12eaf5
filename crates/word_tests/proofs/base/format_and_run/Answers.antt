use Rattle.std.proofs.Common.{sym, subst}
use Rattle.cx_base.specs.Tally.{IsTally}
use Rattle.cx_base.specs.TallyLaws.{tally_opens}
use Rattle.cx_base.proofs.MemoryLemmas.{Becomes-always}
use Rattle.word_tests.proofs.base.format_and_run.Goals as goal

-- before the step, all that the memory may hold is a lawful image of Tally: it holds the opening image, which is lawful
pub run-requires-clause-lawful : goal.run-requires-clause-lawful
run-requires-clause-lawful g c =
    Becomes-always c.in_ok-format.ensures.done (λ x y e. subst IsTally (sym e) (tally_opens (tt {0})))
