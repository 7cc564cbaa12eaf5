use Rattle.std.proofs.Common.{sym, inl, inr}
use Rattle.std.specs.Str.{is_utf8}
use Rattle.std.proofs.lemmas.Bool.{cases_Bool}
use Rattle.std.proofs.lemmas.Str.{IsUtf8-from_is_utf8, is_utf8-from_IsUtf8}
use Rattle.script_text.proofs.reader.is_text.Goals as goal

pub returns-in-Ok-clause-value : goal.returns-in-Ok-clause-value
returns-in-Ok-clause-value c = sym (is_utf8-from_IsUtf8 c.args.bytes.now c.in-Ok.ensures.1)

pub returns-in-Err-clause-value : goal.returns-in-Err-clause-value
returns-in-Err-clause-value c =
    elim (cases_Bool (is_utf8 c.args.bytes.now)) [
      | inl hit ↦ absurd (c.in-Err.ensures (IsUtf8-from_is_utf8 c.args.bytes.now hit))
      | inr miss ↦ sym miss
    ]
