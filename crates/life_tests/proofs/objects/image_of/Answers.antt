use Rattle.std.proofs.Common.{◌∙◌, IsTrue, List, ℕ, rules, subst, sym}
use Rattle.cx_base.proofs.MemoryLemmas.{known_always}
use Rattle.life_tests.proofs.objects.image_of.Goals as goal

-- the words that are checked are the memory's
pub returns-clause-lawful : goal.returns-clause-lawful
returns-clause-lawful g c =
    let Lawful : List ℕ → Type 0 = g.O.Object.lawful c.args.object.now in
    let passed : IsTrue c.in_ok-is_image.is_image = search rules in
    known_always Lawful c.of-memory.result.words.items (subst Lawful (c.deref.ensures.value ∙ sym c.of-memory.ensures.words) (c.in_ok-is_image.ensures.0 passed))
