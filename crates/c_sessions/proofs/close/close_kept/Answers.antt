use Rattle.std.proofs.Common.{IfErr, IfOk, MatchResult, Ok, Err, Result, subst}
use Rattle.cx_core.specs.Base.{LawfulBase}
use Rattle.c_sessions.proofs.close.close_kept.Goals as goal

-- what holds of either result, from what holds of each
matched : {A B : Type 0} (r : Result A B) (P Given : A → Type 0) (Q Handed : B → Type 0) → IfOk r Given → IfErr r Handed → ((a : A) → Given a → P a) → ((b : B) → Handed b → Q b) → MatchResult r P Q
matched (Ok a) P Given Q Handed given handed f g = f a given
matched (Err b) P Given Q Handed given handed f g = g b handed

-- a service that was closed was within its limits and had all its seats; where memory ran out, what is handed back is what was given
pub returns : goal.returns
returns g c =
    let running = c.lines.ensures.running in
    matched c.close.result _ _ _ _ c.close.ensures.remains c.close.ensures.kept
    (λ r closed. record {
      opened = record { lines = running.lines; enough = running.enough; small = running.small; base = subst (λ n. LawfulBase n (g.O.Object.lawful c.args.kept.service.object) c.args.kept.service.base) running.lines running.base };
      all = c.requires;
      leaves = closed.leaves;
      order = closed.order;
    })
    (λ back same. λ i. record { service = same.0 i; callers = same.1 i })
