use Rattle.std.proofs.Common.{rules, arith}
use Rattle.std.proofs.lemmas.Grind.{common_steps}
use Rattle.plain_text.proofs.Numerals.{none_is_signed}
use Rattle.plain_text.proofs.numbers.integer_of.Goals as goal

pub returns-in-45-clause-none : goal.returns-in-45-clause-none
returns-in-45-clause-none c = none_is_signed c.args.doc.now _ (grind (arith, common_steps))

pub returns-in_default-clause-none : goal.returns-in_default-clause-none
returns-in_default-clause-none c = none_is_signed c.args.doc.now _ (search rules)
