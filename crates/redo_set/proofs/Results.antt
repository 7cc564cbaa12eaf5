-- What holds where there is an error.
use Rattle.std.proofs.Common.{Result, Ok, Err, OnErr}

pub on_err : {A E : Type 0} (r : Result A E) (X : Type 0) → X → OnErr r X
on_err (Ok a) X x = tt
on_err (Err e) X x = x
