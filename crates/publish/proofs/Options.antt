-- What a value that may be wanting tells that is shown of it.
use Rattle.std.proofs.Common.{◌≡◌, refl, sym, Option, Some, None, option_map}
use Rattle.std.proofs.lemmas.Option.{none-some, same_Some}

pub none_of : {A B : Type 0} (f : A → B) (o : Option A) → option_map f o ≡ None → o ≡ None
none_of f None e = refl
none_of f (Some x) e = absurd (none-some (f x) (sym e))

pub some_of : {A B : Type 0} (f : A → B) (o : Option A) (y : B) → option_map f o ≡ Some y → (x : A) × (o ≡ Some x) × (f x ≡ y)
some_of f None y e = absurd (none-some y e)
some_of f (Some x) y e = (x, refl, same_Some (f x) y e)
