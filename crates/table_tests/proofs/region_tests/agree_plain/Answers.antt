use Rattle.std.proofs.Common.{length, true, subst, sym}
use Rattle.cx_base.specs.Memory.{Known}
use Rattle.replica.specs.Stepping.{IsSteppable}
use Rattle.replica.proofs.Stepping.{plain_steppable}
use Rattle.table_tests.proofs.region_tests.agree_plain.Goals as goal

-- the words are a lawful base with room for `count` entries, so as many full steps can be done on the plain memory
pub agree_taken-requires-clause-plain : goal.agree_taken-requires-clause-plain
agree_taken-requires-clause-plain g c =
    let object = c.args.shared.now.object in
    let lines = g.O.Object.line_count object in
    let lawful = g.O.Object.lawful object in
    subst (λ ws. IsSteppable lines lawful (length ws) true (Known ws) c.args.count) (sym c.of-plain.ensures.words) (plain_steppable lines lawful c.args.words.items c.args.count c.requires.base c.requires.place)
