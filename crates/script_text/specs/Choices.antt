-- What is known of a test, an option or a result by what came of it.
use Rattle.std.proofs.Common.{◌≡◌, ◌∙◌, ℕ, Bool, true, false, cond, List, Option, None, Some, Result, Ok, Err, refl, sym, ap, inl, inr}
use Rattle.std.specs.Prelude.{◌⊎◌, option_and_then}
use Rattle.std.specs.Option.{option_map, ok_or}
use Rattle.plain_text.specs.Words.{is_word}
use Rattle.plain_text.proofs.WordCuts.{word_is}
use Rattle.script_text.specs.Reading.{then_ok}

-- an `if` that gave this took the one branch or the other
pub chosen : {A : Type 0} (b : Bool) (x y z : A) → cond b x y ≡ z → ((b ≡ true) × (x ≡ z)) ⊎ ((b ≡ false) × (y ≡ z))
chosen true x y z e = inl (refl, e)
chosen false x y z e = inr (refl, e)

-- the word is one of the names of a table, or a later one
pub named_or : {V : Type 0} (name_of : V → List ℕ) (name word : List ℕ) (v verb : V) (others : Option V) → name_of v ≡ name → (others ≡ Some verb → word ≡ name_of verb)
    → cond (is_word name word) (Some v) others ≡ Some verb → word ≡ name_of verb
named_or name_of name word v verb others has later e =
    elim (chosen (is_word name word) (Some v) others (Some verb) e) [
      | inl (hit, same) ↦ let v_is : v ≡ verb = cc in word_is name word hit ∙ sym has ∙ ap name_of v_is
      | inr (_, more) ↦ later more
    ]

-- the value that a mapped option holds
pub mapped_some : {A B : Type 0} (f : A → B) (o : Option A) (y : B) → option_map f o ≡ Some y → (x : A) × (o ≡ Some x) × (f x ≡ y)
mapped_some f None y e = absurd cc
mapped_some f (Some x) y e = (x, refl, cc)

-- what a step that may fail was given where it gave a value
pub step_some : {A B : Type 0} (f : A → Option B) (o : Option A) (y : B) → option_and_then f o ≡ Some y → (x : A) × (o ≡ Some x) × (f x ≡ Some y)
step_some f None y e = absurd cc
step_some f (Some x) y e = (x, refl, e)

-- what was read where a function of it is a value
pub then_some : {A B E : Type 0} (f : A → B) (r : Result A E) (y : B) → then_ok f r ≡ Ok y → (x : A) × (r ≡ Ok x) × (f x ≡ y)
then_some f (Ok x) y e = (x, refl, cc)
then_some f (Err reason) y e = absurd cc

-- where an option, or else a reason, gave a value, the option holds that value
pub or_some : {A E : Type 0} (o : Option A) (reason : E) (y : A) → ok_or o reason ≡ Ok y → o ≡ Some y
or_some None reason y e = absurd cc
or_some (Some x) reason y e = cc

-- an `if` that gave something took the first branch
pub first_branch : {A : Type 0} (b : Bool) (o : Option A) (y : A) → cond b o None ≡ Some y → (b ≡ true) × (o ≡ Some y)
first_branch true o y e = (refl, e)
first_branch false o y e = absurd cc

-- what is left where a test failed
pub second_branch : {A : Type 0} (b : Bool) (o : Option A) (y : A) → cond b None o ≡ Some y → (b ≡ false) × (o ≡ Some y)
second_branch true o y e = absurd cc
second_branch false o y e = (refl, e)

-- where a test, or else a reason, gave a value, the test passed, and what stands behind it gave the value
pub ok_first : {A E : Type 0} (b : Bool) (reason : E) (r : Result A E) (y : A) → cond b r (Err reason) ≡ Ok y → (b ≡ true) × (r ≡ Ok y)
ok_first true reason r y e = (refl, e)
ok_first false reason r y e = absurd cc

-- where a test that refuses for a reason gave a value, the test failed, and what stands behind it gave the value
pub ok_second : {A E : Type 0} (b : Bool) (reason : E) (r : Result A E) (y : A) → cond b (Err reason) r ≡ Ok y → (b ≡ false) × (r ≡ Ok y)
ok_second true reason r y e = absurd cc
ok_second false reason r y e = (refl, e)

-- a reason was given: that of a test that refuses, or a later one
pub err_second : {A E : Type 0} (b : Bool) (found : E) (r : Result A E) (reason : E) → cond b (Err found) r ≡ Err reason
    → ((b ≡ true) × (found ≡ reason)) ⊎ ((b ≡ false) × (r ≡ Err reason))
err_second true found r reason e = inl (refl, cc)
err_second false found r reason e = inr (refl, e)

-- a reason was given: that of a test that has to pass, or a later one
pub err_first : {A E : Type 0} (b : Bool) (found : E) (r : Result A E) (reason : E) → cond b r (Err found) ≡ Err reason
    → ((b ≡ false) × (found ≡ reason)) ⊎ ((b ≡ true) × (r ≡ Err reason))
err_first true found r reason e = inr (refl, e)
err_first false found r reason e = inl (refl, cc)

-- a function of what was read gives no reason of its own
pub then_err : {A B E : Type 0} (f : A → B) (r : Result A E) (reason : E) → then_ok f r ≡ Err reason → r ≡ Err reason
then_err f (Ok x) reason e = absurd cc
then_err f (Err found) reason e = cc

-- where an option, or else a reason, gave a reason, the option holds nothing, and it is that reason
pub or_err : {A E : Type 0} (o : Option A) (found reason : E) → ok_or o found ≡ Err reason → (o ≡ None) × (found ≡ reason)
or_err None found reason e = (refl, cc)
or_err (Some x) found reason e = absurd cc

-- where a mapped option holds nothing, there was nothing
pub map_none : {A B : Type 0} (f : A → B) (o : Option A) → option_map f o ≡ None → o ≡ None
map_none f None e = refl
map_none f (Some x) e = absurd cc
