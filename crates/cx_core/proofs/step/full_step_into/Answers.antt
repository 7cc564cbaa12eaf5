use Rattle.std.proofs.Common.{rules}
use Rattle.cx_base.proofs.MemoryLemmas.{Always-loaded}
use Rattle.cx_core.specs.Region.{object_part}
use Rattle.cx_core.proofs.StepLemmas.{full_step_done}
use Rattle.cx_core.proofs.step.full_step_into.Goals as goal

pub run_part-requires-clause-lawful : goal.run_part-requires-clause-lawful
run_part-requires-clause-lawful g c =
    Always-loaded (λ now. g.O.Object.lawful c.args.object.now (object_part now)) c.in_ok-place.ensures.done c.requires.lawful

pub returns : goal.returns
returns g c = record {
  done = full_step_done (g.O.Object.step c.args.object.now) c.args.entry.now c.in_ok-place.place c.slot_start-slot.result c.run_part.new.reply c.slot_start-slot.ensures
      c.in_ok-place.ensures.done c.in_ok-run_part.ensures.done c.in_ok-store_word.ensures.done c.in_ok-store_words.ensures.done c.in_ok-store.ensures.stands;
  halts = search rules;
  framed = search rules;
}
