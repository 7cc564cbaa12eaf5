use Rattle.std.proofs.Common.{◌≡◌, sym, ◌∙◌, false, true≢false, subst, rules, List, ℕ}
use Rattle.doc_text.specs.Measure.{ReadsNumber}
use Rattle.serde_json.specs.View.{view}
use Rattle.doc_text.proofs.Measures.{integer_measured, number_measured, number_refused}
use Rattle.doc_text.proofs.measure.measure_number.Goals as goal

pub returns-then-is_integer-clause-ok : goal.returns-then-is_integer-clause-ok
returns-then-is_integer-clause-ok c =
    let bytes : c.as_bytes.result.now ≡ c.args.text.now = search rules in
    subst (λ (text : List ℕ). ReadsNumber text (record { has_float = false; least = 1 })) bytes (integer_measured c.as_bytes.result.now (c.is_integer.ensures c.if-is_integer.true))

pub returns-in-Ok-clause-ok : goal.returns-in-Ok-clause-ok
returns-in-Ok-clause-ok c = number_measured c.args.text.now (view c.in-Ok.value) c.is_f64.result c.requires c.in-Ok.ensures.ok c.is_f64.ensures

pub returns-else-is_memory-clause-refused : goal.returns-else-is_memory-clause-refused
returns-else-is_memory-clause-refused c = λ _.
    number_refused c.args.text.now c.requires (c.in-Err.ensures.err (λ memory. absurd (true≢false (sym (c.is_memory.ensures.1 memory) ∙ c.if-is_memory.false))))
