use Rattle.std.proofs.Common.{ap, ◌∙◌, drop, sym, subst}
use Rattle.cx_base.specs.Tally.{IsTally, tally_step}
use Rattle.cx_base.proofs.MemoryLemmas.{known_after, known_always}
use Rattle.cx_core.specs.Region.{object_part}
use Rattle.cx_core.specs.Step.{full_step_of}
use Rattle.event_tests.proofs.full_steps.stepped.Goals as goal

-- before the full step, the words of the memory from 1168 on are an image of Tally
pub full_step-requires-clause-lawful : goal.full_step-requires-clause-lawful
unfolding object_part
full_step-requires-clause-lawful c =
    known_always (λ words. IsTally (drop 1168 words)) c.of-memory.result.words.items (subst (λ words. IsTally (drop 1168 words)) (sym c.of-memory.ensures.words) c.requires.lawful)

-- the words of the memory after the full step are those of the full step of the entry on the words given
pub returns : goal.returns
returns c =
    let memory = c.full_step.new.mem in
    c.into_words.ensures
    ∙ known_after c.of-memory.result.words.items memory.words.items memory.fit c.in_ok-full_step.ensures.done
    ∙ ap (full_step_of tally_step c.args.entry.now) c.of-memory.ensures.words
