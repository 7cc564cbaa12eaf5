use Rattle.plain_text.proofs.Numerals.{integer_of-signed_decimal, signed_decimal-integer_of}
use Rattle.plain_text.proofs.numbers.integer_text_is_one_to_one.Goals as goal

pub returns-clause-text_read : goal.returns-clause-text_read
returns-clause-text_read c = integer_of-signed_decimal

pub returns-clause-read_text : goal.returns-clause-read_text
returns-clause-read_text c = signed_decimal-integer_of
