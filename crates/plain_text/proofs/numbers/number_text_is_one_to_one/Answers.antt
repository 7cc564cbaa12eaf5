use Rattle.plain_text.proofs.Numerals.{number_of-decimal, decimal-number_of}
use Rattle.plain_text.proofs.numbers.number_text_is_one_to_one.Goals as goal

pub returns-clause-text_read : goal.returns-clause-text_read
returns-clause-text_read c = number_of-decimal

pub returns-clause-read_text : goal.returns-clause-read_text
returns-clause-read_text c = decimal-number_of
