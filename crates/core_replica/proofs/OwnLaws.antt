-- A caller's own entries in the history, and which of them are answered.
use Rattle.std.proofs.Common.{◌≡◌, ◌+◌, ◌-◌, ◌<◌, ◌≤◌, inl, inr, ℕ, zero, suc, List, [], ◌∷◌, Some, length, map, take, ap, sym, ◌∙◌, arith}
use Rattle.std.proofs.lemmas.Bool.{cases_eq}
use Rattle.std.proofs.lemmas.Option.{none-some, same_Some, slice_get-map}
use Rattle.std.specs.List.{slice_get}
use Rattle.std.specs.Option.{option_map}
use Rattle.cx_core.specs.declared.entry.Entry.{Entry}
use Rattle.cx_core.specs.declared.local.Answer.{Answer}
use Rattle.cx_core.specs.declared.local.Linked.{Linked}
use Rattle.cx_core.specs.declared.local.Local.{Local}
use Rattle.cx_core.specs.History.{image_after, reply_at}
use Rattle.cx_core.specs.Lawful.{Tickets}
use Rattle.cx_core.specs.Merge.{own_of}
use Rattle.cx_core.specs.Region.{object_part}
use Rattle.cx_core.specs.RootEvents.{reply_after}
use Rattle.cx_core.specs.State.{Instance}
use Rattle.cx_core.proofs.HeldLists.{mapped}
use Rattle.cx_core.proofs.ListLemmas.{slice_get-take}
use Rattle.cx_core.proofs.MergeLemmas.{own_at, own_mine, own_other}

-- the tickets of linked entries, and of answers
abbrev ticket_of : Linked → ℕ
ticket_of x = x.ticket

abbrev answered_at : Answer → ℕ
answered_at x = x.ticket

-- what follows the first own entry
rises_after : (caller ticket : ℕ) (entry : Entry) (rest : List Entry) (i j : ℕ) (x y : Linked) → ((i' j' : ℕ) → slice_get (own_of caller (ticket + 1) rest) i' ≡ Some x → slice_get (own_of caller (ticket + 1) rest) j' ≡ Some y → i' < j' → x.ticket < y.ticket) →
    slice_get (record { ticket = ticket; entry = entry } ∷ own_of caller (ticket + 1) rest) i ≡ Some x → slice_get (record { ticket = ticket; entry = entry } ∷ own_of caller (ticket + 1) rest) j ≡ Some y → i < j → x.ticket < y.ticket
rises_after caller ticket entry rest i zero x y later at_i at_j order = absurd (omega arith)
rises_after caller ticket entry rest zero (suc j) x y later at_i at_j order =
    let first : ticket ≡ x.ticket = ap ticket_of (same_Some _ x at_i) in
    let next = (own_at caller (ticket + 1) rest j y at_j).0 in
    omega (arith, first, next)
rises_after caller ticket entry rest (suc i) (suc j) x y later at_i at_j order = later i j at_i at_j (omega arith)

-- the tickets of a caller's own entries rise
pub own_rises : (caller ticket : ℕ) (history : List Entry) (i j : ℕ) (x y : Linked) → slice_get (own_of caller ticket history) i ≡ Some x → slice_get (own_of caller ticket history) j ≡ Some y → i < j → x.ticket < y.ticket
own_rises caller ticket [] i j x y at_i at_j order = absurd (none-some x at_i)
own_rises caller ticket (entry ∷ rest) i j x y at_i at_j order =
    let later = λ (i' j' : ℕ) (at_i' : slice_get (own_of caller (ticket + 1) rest) i' ≡ Some x) (at_j' : slice_get (own_of caller (ticket + 1) rest) j' ≡ Some y) (order' : i' < j'). own_rises caller (ticket + 1) rest i' j' x y at_i' at_j' order' in
    let turn = λ (os : List Linked) (is : own_of caller ticket (entry ∷ rest) ≡ os) (k : ℕ) (z : Linked) (at : slice_get (own_of caller ticket (entry ∷ rest)) k ≡ Some z). ap (λ (o : List Linked). slice_get o k) (sym is) ∙ at in
    elim (cases_eq entry.caller caller) [
      | inl mine ↦ (let is = own_mine caller ticket entry rest mine in rises_after caller ticket entry rest i j x y later (turn _ is i x at_i) (turn _ is j y at_j) order)
      | inr other ↦ (let is = own_other caller ticket entry rest other in later i j (turn _ is i x at_i) (turn _ is j y at_j) order)
    ]

module _ (instance : Instance) (history : List Entry) (locals : List Local) (caller : ℕ) (l : Local) (tickets : Tickets instance history locals) (at : slice_get locals caller ≡ Some l) where
  abbrev base : ℕ
  base = instance.base.place

  -- an own entry is the history's at its ticket
  pub own_linked : (i : ℕ) (y : Linked) → slice_get l.own i ≡ Some y → (base ≤ y.ticket) × (slice_get history (y.ticket - base) ≡ Some y.entry)
  own_linked i y there = own_at caller base history i y (ap (λ (o : List Linked). slice_get o i) (sym (tickets.merged.own caller l at)) ∙ there)

  -- the history has the object's reply to each own entry
  pub own_reply : (i : ℕ) (y : Linked) → slice_get l.own i ≡ Some y →
      reply_at instance.step base (object_part instance.base.words) history y.ticket ≡ Some (reply_after instance history y.ticket y.entry.op)
  own_reply i y there =
      ap (option_map (λ (e : Entry). (instance.step (image_after instance.step (object_part instance.base.words) (take (y.ticket - base) history)) e.op).1)) (own_linked i y there).1

  -- the own entry that an answer is to
  pub answered_own : (i : ℕ) (x : Answer) → slice_get l.answered i ≡ Some x → (y : Linked) × (slice_get l.own i ≡ Some y) × (y.ticket ≡ x.ticket)
  answered_own i x there =
      let first : slice_get (map answered_at l.answered) i ≡ Some x.ticket = slice_get-map answered_at l.answered i ∙ ap (option_map answered_at) there in
      let second : slice_get (map ticket_of l.own) i ≡ Some x.ticket =
      slice_get-take (length l.answered) (map ticket_of l.own) i x.ticket (ap (λ ts. slice_get ts i) (sym (tickets.each caller l at).answered) ∙ first) in
      mapped ticket_of (slice_get l.own i) x.ticket (sym (slice_get-map ticket_of l.own i) ∙ second)

  -- the tickets of answers rise
  pub answers_rise : (i j : ℕ) (x y : Answer) → slice_get l.answered i ≡ Some x → slice_get l.answered j ≡ Some y → i < j → x.ticket < y.ticket
  answers_rise i j x y at_i at_j order =
      let own_i = answered_own i x at_i in
      let own_j = answered_own j y at_j in
      let turn = λ (k : ℕ) (z : Linked) (there : slice_get l.own k ≡ Some z). ap (λ (o : List Linked). slice_get o k) (sym (tickets.merged.own caller l at)) ∙ there in
      omega (arith, own_i.2, own_j.2, own_rises caller base history i j own_i.0 own_j.0 (turn i own_i.0 own_i.1) (turn j own_j.0 own_j.1) order)
