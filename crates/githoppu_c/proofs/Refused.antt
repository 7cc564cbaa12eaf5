-- An error that is handed on.
use Rattle.std.proofs.Common.{◌≡◌, ℤ, Result, Ok, Err, subst, sym}
use Rattle.std.specs.Prelude.{IsErrAnd, MatchResult}

-- where the result is an error equal to `code`, and `err` holds of `code`, `err` holds of that error
pub handed_on : {A : Type 0} (ok : A → Type 0) (err : ℤ → Type 0) (result : Result A ℤ) (code : ℤ) → IsErrAnd result (λ e. e ≡ code) → err code → MatchResult result ok err
handed_on ok err (Ok x) code is holds = absurd is
handed_on ok err (Err e) code is holds = subst err (sym is) holds
