use Rattle.std.proofs.Common.{◌∙◌}
use Rattle.plain_text.proofs.Numerals.{parsed_numeral, numeral_is_utf8}
use Rattle.plain_text.proofs.numbers.value_of.Goals as goal

pub returns-in-Ok : goal.returns-in-Ok
returns-in-Ok c = c.ok.ensures.value ∙ parsed_numeral c.args.text.now _ _ c.requires c.in-Ok.ensures.cases.0 c.parse.ensures.value.0

pub returns-in-Err : goal.returns-in-Err
returns-in-Err c = absurd (c.in-Err.ensures.cases.0 (numeral_is_utf8 c.args.text.now c.requires))
