use Rattle.std.proofs.Common.{IfErr, IfOk, MatchResult, Result, Ok, Err}
use Rattle.service_tests.proofs.closed.recovered.Goals as goal

in_ok : {A B : Type 0} (P P' : A → Type 0) (Q : B → Type 0) (r : Result A B) → ((x : A) → P x → P' x) → MatchResult r P Q → IfOk r P'
in_ok P P' Q (Ok x) weaker is = weaker x is
in_ok P P' Q (Err e) weaker is = tt

in_err : {A B : Type 0} (P : A → Type 0) (Q : B → Type 0) (r : Result A B) → MatchResult r P Q → IfErr r Q
in_err P Q (Ok x) is = tt
in_err P Q (Err e) is = is

pub returns-clause-again : goal.returns-clause-again
returns-clause-again c =
    let closed = c.requires in
    in_ok _ _ _ c.recover.result (λ base kept. kept.again)
    (c.closed_tables_recover.ensures closed.table closed.seats c.args.remains.now c.args.choice c.in-Ok.image c.recover.result closed.opened closed.leaves c.in-Ok.ensures c.recover.ensures.recovers)

pub returns-clause-faults : goal.returns-clause-faults
returns-clause-faults c =
    let closed = c.requires in
    in_err _ _ c.recover.result
    (c.closed_tables_recover.ensures closed.table closed.seats c.args.remains.now c.args.choice c.in-Ok.image c.recover.result closed.opened closed.leaves c.in-Ok.ensures c.recover.ensures.recovers)
