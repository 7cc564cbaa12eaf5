use Rattle.std.proofs.Common.{OnOk, Result, Ok, Err, sym, subst}
use Rattle.cx_base.proofs.MemoryLemmas.{Becomes-always}
use Rattle.service_tests.proofs.alone.opened.Goals as goal

ok_then : {T E : Type 0} {P Q : Type 0} (r : Result T E) → OnOk r P → (P → Q) → OnOk r Q
ok_then (Ok x) p w = w p
ok_then (Err e) p w = p

pub returns-clause-lawful : goal.returns-clause-lawful
returns-clause-lawful g c =
    let object = c.args.object.now in
    ok_then c.format.result c.format.ensures.done (λ b. Becomes-always b (λ x y e. subst (g.O.Object.lawful object) (sym e) (g.met.O.Object.opens object)))
