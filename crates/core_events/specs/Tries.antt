-- What a call that may find memory wanting leaves.
use Rattle.std.specs.Prelude.{IfOk, OnErr, Result}

-- the first of these where memory did not run out, and the second where it did
pub record TriesEvent {A E : Type 0} (r : Result A E) (done : A → Type 0) (same : Type 0) : Type 0 where
  pub ok : IfOk r done
  pub err : OnErr r same
