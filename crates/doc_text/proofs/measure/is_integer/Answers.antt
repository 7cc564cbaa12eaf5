use Rattle.std.proofs.Common.{◌≡◌, sym, ◌∙◌, Some, true, Option, None, refl}
use Rattle.std.specs.Prelude.{is_some}
use Rattle.doc_text.proofs.Measures.{unsigned_integer, signed_integer}
use Rattle.doc_text.proofs.measure.is_integer.Goals as goal

some_value : {A : Type 0} (o : Option A) → is_some o ≡ true → (x : A) × (o ≡ Some x)
some_value None e = absurd cc
some_value (Some x) e = (x, refl)

pub returns-in-Some : goal.returns-in-Some
returns-in-Some c = λ _. unsigned_integer c.args.text.now c.in-Some.field-0 (sym c.in-Some.ensures.value)

pub returns-in-None : goal.returns-in-None
returns-in-None c = λ hit. let z = some_value c.integer_of.result (sym c.is_some.ensures ∙ hit) in signed_integer c.args.text.now z.0 (sym c.integer_of.ensures.value ∙ z.1)
