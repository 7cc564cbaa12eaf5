-- The local states after one was put, and histories after one entry more.
use Rattle.std.proofs.Common.{◌≡◌, ◌≢◌, ◌+◌, ◌-◌, ◌==◌, ◌<◌, ◌≤◌, ◌⊎◌, ℕ, zero, suc, true, false, cond, List, [], ◌∷◌, ◌++◌, length, set, inl, inr, refl, ap, sym, subst, ◌∙◌, arith, Some, add-zero}
use Rattle.std.proofs.lemmas.Bool.{cases_eq, eq-eqb, ne_eqb}
use Rattle.std.proofs.lemmas.Option.{same_Some, slice_get_within, slice_get_cases, none-some}
use Rattle.std.specs.List.{slice_get}
use Rattle.cx_core.specs.declared.entry.Entry.{Entry}
use Rattle.cx_core.specs.declared.local.Linked.{Linked}
use Rattle.cx_core.specs.declared.local.Local.{Local}
use Rattle.cx_core.specs.Merge.{IsLinked, own_of}
use Rattle.cx_core.specs.State.{EachLocal}
use Rattle.cx_core.proofs.ListLemmas.{slice_get-set_same, slice_get-set_other}

-- the item found at a place after one was put: the one put, or one from before at another place
pub item_after : {X : Type 0} (xs : List X) (i k : ℕ) (y x : X) → i < length xs → slice_get (set xs i y) k ≡ Some x →
    ((k ≡ i) × (y ≡ x)) ⊎ ((k ≢ i) × (slice_get xs k ≡ Some x))
item_after xs i k y x within at =
    elim (cases_eq k i) [
      | inl e ↦ inl (e, same_Some y x (sym (slice_get-set_same xs i y within) ∙ subst (λ n. slice_get (set xs i y) n ≡ Some x) e at))
      | inr ne ↦ inr (ne, sym (slice_get-set_other xs i k y ne) ∙ at)
    ]

-- what holds of each caller's local state holds after one is put of which it holds
pub EachLocal-set : (locals : List Local) (caller : ℕ) (l l' : Local) (P : ℕ → Local → Type 0) → slice_get locals caller ≡ Some l →
    EachLocal locals P → P caller l' → EachLocal (set locals caller l') P
EachLocal-set locals caller l l' P at each here other x there =
    elim (item_after locals caller other l' x (slice_get_within locals caller l at) there) [
      | inl e ↦ subst (λ n. P n x) (sym e.0) (subst (P caller) e.1 here)
      | inr ne ↦ each other x ne.1
    ]

-- what follows for each local state
pub EachLocal-then : (locals : List Local) (P Q : ℕ → Local → Type 0) → EachLocal locals P → ((caller : ℕ) (l : Local) → slice_get locals caller ≡ Some l → P caller l → Q caller l) → EachLocal locals Q
EachLocal-then locals P Q each f caller l at = f caller l at (each caller l at)

-- an item of a list with one item more is from before, or it is that one
pub slice_get-push : {X : Type 0} (xs : List X) (y : X) (i : ℕ) (x : X) → slice_get (xs ++ y ∷ []) i ≡ Some x →
    (slice_get xs i ≡ Some x) ⊎ ((i ≡ length xs) × (y ≡ x))
slice_get-push [] y zero x at = inr (refl, same_Some y x at)
slice_get-push [] y (suc i) x at = absurd (none-some x at)
slice_get-push (z ∷ xs) y zero x at = inl at
slice_get-push (z ∷ xs) y (suc i) x at = elim (slice_get-push xs y i x at) [ inl a ↦ inl a | inr b ↦ inr (ap suc b.0, b.1) ]

pub slice_get-last : {X : Type 0} (xs : List X) (y : X) → slice_get (xs ++ y ∷ []) (length xs) ≡ Some y
slice_get-last [] y = refl
slice_get-last (z ∷ xs) y = slice_get-last xs y

-- a linked ticket is from the base's place on and below the end
pub linked_within : (place : ℕ) (history : List Entry) (ticket : ℕ) (entry : Entry) → IsLinked place history ticket entry → ticket < place + length history
linked_within place history ticket entry linked =
    let within = slice_get_within history (ticket - place) entry linked.at in omega (arith, within, linked.from)

-- each ticket from the base's place on and below the end is linked
pub linked_below : (place : ℕ) (history : List Entry) (ticket : ℕ) → place ≤ ticket → ticket < place + length history → (entry : Entry) × IsLinked place history ticket entry
linked_below place history ticket from below =
    elim (slice_get_cases history (ticket - place)).1 [
      | inl a ↦ (a.0, record { from = from; at = a.2 })
      | inr b ↦ (let past : length history ≤ ticket - place = b.0 in absurd (omega arith))
    ]

-- what is linked then was linked before, or is the entry linked now at the end
pub linked_then : (place : ℕ) (history : List Entry) (more : Entry) (ticket : ℕ) (entry : Entry) → IsLinked place (history ++ more ∷ []) ticket entry →
    IsLinked place history ticket entry ⊎ ((ticket ≡ place + length history) × (more ≡ entry))
linked_then place history more ticket entry linked =
    elim (slice_get-push history more (ticket - place) entry linked.at) [
      | inl a ↦ inl (record { from = linked.from; at = a })
      | inr b ↦ (let end : ticket - place ≡ length history = b.0 in let from : place ≤ ticket = linked.from in inr (omega arith, b.1))
    ]

-- an entry behind a history is linked with the ticket at its end
pub linked_last : (place : ℕ) (history : List Entry) (more : Entry) (ticket : ℕ) → ticket ≡ place + length history → IsLinked place (history ++ more ∷ []) ticket more
linked_last place history more ticket end = record {
  from = omega arith;
  at = (let e : ticket - place ≡ length history = omega arith in subst (λ n. slice_get (history ++ more ∷ []) n ≡ Some more) (sym e) (slice_get-last history more));
}

-- a caller's own entries of a history with one entry more
pub own_of-push : (caller ticket : ℕ) (history : List Entry) (more : Entry) →
    own_of caller ticket (history ++ more ∷ []) ≡ own_of caller ticket history ++ own_of caller (ticket + length history) (more ∷ [])
own_of-push caller ticket [] more = ap (λ t. own_of caller t (more ∷ [])) (sym (add-zero ticket))
own_of-push caller ticket (x ∷ xs) more =
    let rest : own_of caller (ticket + 1) (xs ++ more ∷ []) ≡ own_of caller (ticket + 1) xs ++ own_of caller (ticket + suc (length xs)) (more ∷ []) =
    own_of-push caller (ticket + 1) xs more
    ∙ ap (λ t. own_of caller (ticket + 1) xs ++ own_of caller t (more ∷ [])) (let e : ticket + 1 + length xs ≡ ticket + suc (length xs) = omega arith in e) in
    elim (x.caller == caller) as (λ b.
    cond b (record { ticket = ticket; entry = x } ∷ own_of caller (ticket + 1) (xs ++ more ∷ [])) (own_of caller (ticket + 1) (xs ++ more ∷ []))
    ≡ cond b (record { ticket = ticket; entry = x } ∷ own_of caller (ticket + 1) xs) (own_of caller (ticket + 1) xs) ++ own_of caller (ticket + suc (length xs)) (more ∷ [])) [
      | true ↦ ap (λ (ys : List Linked). record { ticket = ticket; entry = x } ∷ ys) rest
      | false ↦ rest
    ]

pub own_of-same : (caller ticket : ℕ) (entry : Entry) → entry.caller ≡ caller → own_of caller ticket (entry ∷ []) ≡ record { ticket = ticket; entry = entry } ∷ []
own_of-same caller ticket entry e =
    ap (λ b. cond b (record { ticket = ticket; entry = entry } ∷ own_of caller (ticket + 1) []) (own_of caller (ticket + 1) [])) (eq-eqb entry.caller caller e)

pub own_of-other : (caller ticket : ℕ) (entry : Entry) → entry.caller ≢ caller → own_of caller ticket (entry ∷ []) ≡ []
own_of-other caller ticket entry ne =
    ap (λ b. cond b (record { ticket = ticket; entry = entry } ∷ own_of caller (ticket + 1) []) (own_of caller (ticket + 1) [])) (ne_eqb entry.caller caller ne)
