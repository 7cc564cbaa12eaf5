use Rattle.std.proofs.Common.{None, rules}
use Rattle.plain_text.proofs.Numerals.{some_is_decimal, none_is_decimal}
use Rattle.plain_text.proofs.numbers.number_of.Goals as goal

pub returns-then-is_numeral-clause-some : goal.returns-then-is_numeral-clause-some
returns-then-is_numeral-clause-some c = some_is_decimal c.args.text.now _ (search rules)

pub returns-then-is_numeral-clause-none : goal.returns-then-is_numeral-clause-none
returns-then-is_numeral-clause-none c = none_is_decimal c.args.text.now _ (search rules)

pub returns-else-is_numeral-clause-none : goal.returns-else-is_numeral-clause-none
returns-else-is_numeral-clause-none c = none_is_decimal c.args.text.now None (search rules)
