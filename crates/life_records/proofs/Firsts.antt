-- The stop line and the full line of a client among all.
use Rattle.std.proofs.Common.{◌≡◌, ◌≢◌, ◌<◌, ◌==◌, ◌&&◌, ◌||◌, ℕ, Bool, true, false, cond, List, [], ◌∷◌, ◌++◌, Option, None, Some, sym, ap, ◌∙◌, refl, inl, inr, arith}
use Rattle.std.specs.Prelude.{AllPairs}
use Rattle.std.specs.List.{list_any}
use Rattle.std.specs.Option.{option_to_list}
use Rattle.std.proofs.lemmas.Bool.{cases_eq, eq-eqb, ne_eqb}
use Rattle.std.proofs.lemmas.Option.{same_Some, none-some}
use Rattle.life_records.specs.Works.{first_of}
use Rattle.life_records.proofs.Lists.{Each, Has, Rises, each_has, pairs_rise}

module _ {X : Type 0} (of : X → ℕ) where
  -- where the first item is of the client, it is found
  pub first_here : (client : ℕ) (x : X) (xs : List X) → of x ≡ client → first_of of client (x ∷ xs) ≡ Some x
  first_here client x xs e = ap (λ b. cond b (Some x) (first_of of client xs)) (eq-eqb (of x) client e)

  -- where the first item is not of the client, it is passed over
  pub first_past : (client : ℕ) (x : X) (xs : List X) → of x ≢ client → first_of of client (x ∷ xs) ≡ first_of of client xs
  first_past client x xs ne = ap (λ b. cond b (Some x) (first_of of client xs)) (ne_eqb (of x) client ne)

  -- the item that is found is one of them, and the client's
  pub first_found : (client : ℕ) (xs : List X) (z : X) → first_of of client xs ≡ Some z → Has xs z × (of z ≡ client)
  first_found client [] z is = absurd (none-some z is)
  first_found client (x ∷ xs) z is =
      elim (cases_eq (of x) client) [
        | inl e ↦ (
            let same : x ≡ z = same_Some x z (sym (first_here client x xs e) ∙ is) in
            (inl same, ap of (sym same) ∙ e))
        | inr ne ↦ (
            let rest = first_found client xs z (sym (first_past client x xs ne) ∙ is) in
            (inr rest.0, rest.1))
      ]

  found_in : (xs : List X) (z : X) → Rises of xs → Has xs z → first_of of (of z) xs ≡ Some z
  found_in [] z up h = absurd h
  found_in (x ∷ xs) z up (inl s) = first_here (of z) x xs (ap of s) ∙ ap Some s
  found_in (x ∷ xs) z up (inr h) =
      let less : of x < of z = each_has (λ y. of x < of y) xs z up.0 h in
      first_past (of z) x xs (λ e. omega arith) ∙ found_in xs z up.1 h

  -- items by client have one a client, which is found
  pub first_is : (xs : List X) (z : X) → AllPairs (λ a b. of a < of b) xs → Has xs z → first_of of (of z) xs ≡ Some z
  first_is xs z order h = found_in xs z (pairs_rise of xs order) h

  -- items of others are passed over
  first_none : (client : ℕ) (xs : List X) → Each (λ x. of x ≢ client) xs → first_of of client xs ≡ None
  first_none client [] e = refl
  first_none client (x ∷ xs) e = first_past client x xs e.0 ∙ first_none client xs e.1

  pub first_other : (client : ℕ) (xs more : List X) → Each (λ x. of x ≢ client) more → first_of of client (xs ++ more) ≡ first_of of client xs
  first_other client [] more e = first_none client more e
  first_other client (x ∷ xs) more e = ap (λ (o : Option X). cond (of x == client) (Some x) o) (first_other client xs more e)

  pub first_later : (client : ℕ) (xs more : List X) → Each (λ x. of x ≢ client) xs → first_of of client (xs ++ more) ≡ first_of of client more
  first_later client [] more e = refl
  first_later client (x ∷ xs) more e = first_past client x (xs ++ more) e.0 ∙ first_later client xs more e.1

  pub first_of-option : (client : ℕ) (o : Option X) → Each (λ x. of x ≡ client) (option_to_list o) → first_of of client (option_to_list o) ≡ o
  first_of-option client None e = refl
  first_of-option client (Some x) e = first_here client x [] e.0

  -- a client with an item that names a command has one in it
  pub has-here : (command_of : X → ℕ) (client command : ℕ) (xs : List X) (z : X) → Has xs z → of z ≡ client → command_of z ≡ command → list_any (λ x. (of x == client) && (command_of x == command)) xs ≡ true
  has-here command_of client command [] z h by at = absurd h
  has-here command_of client command (x ∷ xs) z (inl s) by at =
      let is : (of x == client) && (command_of x == command) ≡ true =
      ap (λ b. b && (command_of x == command)) (eq-eqb (of x) client (ap of s ∙ by))
      ∙ eq-eqb (command_of x) command (ap command_of s ∙ at) in
      ap (λ b. b || list_any (λ y. (of y == client) && (command_of y == command)) xs) is
  has-here command_of client command (x ∷ xs) z (inr h) by at =
      let rest = has-here command_of client command xs z h by at in
      ap (λ b. ((of x == client) && (command_of x == command)) || b) rest ∙ or_true ((of x == client) && (command_of x == command))
    where
      or_true : (b : Bool) → b || true ≡ true
      or_true true = refl
      or_true false = refl
