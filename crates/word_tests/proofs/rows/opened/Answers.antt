use Rattle.std.proofs.Common.{OnOk, Result, Ok, Err, sym, subst}
use Rattle.cx_base.proofs.MemoryLemmas.{Becomes-always}
use Rattle.doc_store.specs.ExactStep.{IsImageOfStore}
use Rattle.doc_store.specs.StoreLaws.{opens}
use Rattle.word_tests.proofs.rows.opened.Goals as goal

-- where P holds if the result r is Ok, and P implies Q, Q holds if r is Ok
ok_then : {T E : Type 0} {P Q : Type 0} (r : Result T E) → OnOk r P → (P → Q) → OnOk r Q
ok_then (Ok x) p w = w p
ok_then (Err e) p w = p

-- where the empty store was made, all that the memory may hold is a lawful image: the opening image is one
pub returns-clause-lawful : goal.returns-clause-lawful
returns-clause-lawful g c =
    let store = c.args.store.now in
    ok_then c.format.result c.format.ensures.done (λ b. Becomes-always b (λ x y e. subst (IsImageOfStore store.lines) (sym e) (opens store.lines store.some store.few)))
