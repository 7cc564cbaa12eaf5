-- What full images tell: their object part is the object's image after the entries below their place, and the slot of a caller
-- has the reply to its last entry below the place.
use Rattle.std.proofs.Common.{◌≡◌, ◌≢◌, ◌+◌, ◌-◌, ◌^◌, ◌<◌, ◌≤◌, ◌⊎◌, inl, inr, ℕ, zero, suc, List, [], ◌∷◌, length, take, refl, ap, sym, subst, ◌∙◌, arith, Some}
use Rattle.std.proofs.lemmas.Bool.{cases_eq, cases_order}
use Rattle.std.proofs.lemmas.List.Sums.{fold_more}
use Rattle.std.proofs.lemmas.Option.{get_or_from_slice_get, none-some, same_Some, slice_get_within}
use Rattle.std.specs.List.{slice_get}
use Rattle.cx_core.specs.declared.entry.Base.{Base}
use Rattle.cx_core.specs.declared.entry.Entry.{Entry}
use Rattle.cx_core.specs.declared.local.Linked.{Linked}
use Rattle.cx_core.specs.declared.local.Local.{Local}
use Rattle.cx_core.specs.Base.{Keeps, LawfulBase}
use Rattle.cx_core.specs.History.{AreLawful, full_image, image_after}
use Rattle.cx_core.specs.Lawful.{Tickets}
use Rattle.cx_core.specs.Merge.{IsLinked, own_of}
use Rattle.cx_core.specs.Region.{object_part, slot_reply}
use Rattle.cx_core.specs.RootEvents.{reply_after, unanswered}
use Rattle.cx_core.specs.State.{Instance}
use Rattle.cx_core.proofs.HistoryLemmas.{ObjectLaws, begins, full_lawful, full_next}
use Rattle.cx_core.proofs.KeepLemmas as keep
use Rattle.cx_core.proofs.Locals.{linked_below, linked_within}
use Rattle.cx_core.proofs.MergeLemmas.{has_own, own_mine, own_other}
use Rattle.core_replica.proofs.OwnLaws.{own_linked, own_rises}

-- one entry more is one step more of the object
image_next : (step : List ℕ → List ℕ → List ℕ × List ℕ) (image : List ℕ) (history : List Entry) (n : ℕ) (entry : Entry) → slice_get history n ≡ Some entry →
    image_after step image (take (n + 1) history) ≡ (step (image_after step image (take n history)) entry.op).0
image_next step image history n entry at =
    fold_more (λ (before : List ℕ) (e : Entry). (step before e.op).0) image history n entry (slice_get_within history n entry at)
    ∙ ap (λ (e : Entry). (step (image_after step image (take n history)) e.op).0) (get_or_from_slice_get history n entry entry at)

-- an own entry is of its caller
mine_first : (caller ticket : ℕ) (entry : Entry) (rest : List Linked) (i : ℕ) (x : Linked) → entry.caller ≡ caller → ((j : ℕ) → slice_get rest j ≡ Some x → x.entry.caller ≡ caller) →
    slice_get (record { ticket = ticket; entry = entry } ∷ rest) i ≡ Some x → x.entry.caller ≡ caller
mine_first caller ticket entry rest zero x mine later at = ap (λ (y : Linked). y.entry.caller) (sym (same_Some _ x at)) ∙ mine
mine_first caller ticket entry rest (suc i) x mine later at = later i at

own_caller : (caller ticket : ℕ) (history : List Entry) (i : ℕ) (x : Linked) → slice_get (own_of caller ticket history) i ≡ Some x → x.entry.caller ≡ caller
own_caller caller ticket [] i x at = absurd (none-some x at)
own_caller caller ticket (entry ∷ rest) i x at =
    elim (cases_eq entry.caller caller) [
      | inl e ↦ mine_first caller ticket entry (own_of caller (ticket + 1) rest) i x e (λ j there. own_caller caller (ticket + 1) rest j x there) (subst (λ (os : List Linked). slice_get os i ≡ Some x) (own_mine caller ticket entry rest e) at)
      | inr ne ↦ own_caller caller (ticket + 1) rest i x (subst (λ (os : List Linked). slice_get os i ≡ Some x) (own_other caller ticket entry rest ne) at)
    ]

-- the unanswered own entry is the caller's last one: it is linked, and no later ticket has an entry of the caller
pub record IsLastOf (instance : Instance) (history : List Entry) (caller : ℕ) (x : Linked) : Type 0 where
  pub linked : IsLinked instance.base.place history x.ticket x.entry
  pub mine : x.entry.caller ≡ caller
  pub last : (ticket : ℕ) (entry : Entry) → IsLinked instance.base.place history ticket entry → x.ticket < ticket → entry.caller ≢ caller

pub unanswered_last : (instance : Instance) (history : List Entry) (locals : List Local) (caller : ℕ) (l : Local) → Tickets instance history locals → slice_get locals caller ≡ Some l →
    (x : Linked) → unanswered l ≡ Some x → IsLastOf instance history caller x
unanswered_last instance history locals caller l tickets at x is =
    let place = instance.base.place in
    let own = tickets.merged.own caller l at in
    let turn = λ (k : ℕ) (z : Linked) (there : slice_get l.own k ≡ Some z). ap (λ (o : List Linked). slice_get o k) (sym own) ∙ there in
    let one = (tickets.each caller l at).one in
    let linked = own_linked instance history locals caller l tickets at (length l.answered) x is in
    record {
      linked = record { from = linked.0; at = linked.1 };
      mine = own_caller caller place history (length l.answered) x (turn (length l.answered) x is);
      last = λ ticket entry there later by. (
          let from = there.from in
          let i = ticket - place in
          let has = has_own caller place history i entry there.at by in
          let k = has.0 in
          let y : Linked = record { ticket = place + i; entry = entry } in
          let mine : slice_get l.own k ≡ Some y = ap (λ (o : List Linked). slice_get o k) own ∙ has.1 in
          let within = slice_get_within l.own k y mine in
          elim (cases_order k (length l.answered)) [
            | inl e ↦ (let same = ap (λ (z : Linked). z.ticket) (same_Some y x (sym mine ∙ ap (slice_get l.own) e ∙ is)) in absurd (omega (arith, same, later, from)))
            | inr ne ↦ elim ne [
              | inl below ↦ (let rises = own_rises caller place history k (length l.answered) y x has.1 (turn (length l.answered) x is) below in absurd (omega (arith, rises, later, from)))
              | inr above ↦ absurd (omega (arith, within, one, above))
            ]
          ]);
    }

module _ (lines : ℕ) (lawful : List ℕ → Type 0) (instance : Instance) (laws : ObjectLaws lines lawful instance.step) (base : LawfulBase lines lawful instance.base) (history : List Entry)
    (small : instance.base.place + length history ≤ 2 ^ 40) (entries : AreLawful instance.base.place history) where
  abbrev full : ℕ → List ℕ
  full place = full_image instance.step instance.base history place

  abbrev at_place : ℕ → Base
  at_place place = record { place = place; words = full place }

  -- what the full step of a linked entry keeps
  kept_at : (ticket : ℕ) (entry : Entry) → IsLinked instance.base.place history ticket entry → Keeps lines lawful instance.step (at_place ticket) entry (at_place (ticket + 1))
  kept_at ticket entry linked =
      let from = linked.from in
      let within = linked_within instance.base.place history ticket entry linked in
      let before = full_lawful lines lawful instance laws history base entries small ticket from (omega (arith, within)) in
      let back : instance.base.place + (ticket - instance.base.place) ≡ ticket = omega (arith, from) in
      let is = entries (ticket - instance.base.place) entry linked.at in
      let most = is.most in
      let image = object_part (full ticket) in
      let image_lawful = laws.keeps image entry.op before.object is.op in
      keep.keeps lines lawful instance.step (at_place ticket) entry (at_place (ticket + 1)) before (omega (arith, small, within)) is.caller is.some (omega (arith, most, back))
      image_lawful (laws.shape (instance.step image entry.op).0 image_lawful) (laws.replies image entry.op before.object is.op) refl (full_next instance history ticket entry linked)

  object_on : (n place : ℕ) → place ≡ instance.base.place + n → n ≤ length history → object_part (full place) ≡ image_after instance.step (object_part instance.base.words) (take n history)
  object_on zero place is within =
      let here : place ≡ instance.base.place = omega (arith, is) in
      ap (λ p. object_part (full p)) here ∙ ap object_part (begins instance.step instance.base history)
  object_on (suc n) place is within =
      let before = instance.base.place + n in
      let l = linked_below instance.base.place history before (omega arith) (omega (arith, within)) in
      let away : before - instance.base.place ≡ n = omega arith in
      let next : place ≡ before + 1 = omega (arith, is) in
      let one : n + 1 ≡ suc n = omega arith in
      ap (λ p. object_part (full p)) next
      ∙ (kept_at before l.0 l.1).object
      ∙ ap (λ image. (instance.step image l.0.op).0) (object_on n before refl (omega arith))
      ∙ sym (image_next instance.step (object_part instance.base.words) history n l.0 (ap (slice_get history) (sym away) ∙ l.1.at))
      ∙ ap (λ k. image_after instance.step (object_part instance.base.words) (take k history)) one

  -- the object part of a full image is the object's image after the entries below its place
  pub object_of_full : (place : ℕ) → instance.base.place ≤ place → place ≤ instance.base.place + length history →
      object_part (full place) ≡ image_after instance.step (object_part instance.base.words) (take (place - instance.base.place) history)
  object_of_full place from to = object_on (place - instance.base.place) place (omega (arith, from)) (omega (arith, from, to))

  -- the object's reply to an operation on a full image is the history's at the image's place
  pub reply_of_full : (place : ℕ) (op : List ℕ) → instance.base.place ≤ place → place ≤ instance.base.place + length history → (instance.step (object_part (full place)) op).1 ≡ reply_after instance history place op
  reply_of_full place op from to = ap (λ image. (instance.step image op).1) (object_of_full place from to)

  slot_on : (caller : ℕ) (x : Linked) → IsLastOf instance history caller x → (k place : ℕ) → place ≡ x.ticket + 1 + k → place ≤ instance.base.place + length history →
      slot_reply caller (full place) ≡ (instance.step (object_part (full x.ticket)) x.entry.op).1
  slot_on caller x last zero place is to =
      let here : place ≡ x.ticket + 1 = omega (arith, is) in
      ap (λ p. slot_reply caller (full p)) here
      ∙ ap (λ c. slot_reply c (full (x.ticket + 1))) (sym last.mine)
      ∙ (kept_at x.ticket x.entry last.linked).reply
  slot_on caller x last (suc k) place is to =
      let before = x.ticket + 1 + k in
      let next : place ≡ before + 1 = omega (arith, is) in
      let from = last.linked.from in
      let l = linked_below instance.base.place history before (omega (arith, from)) (omega (arith, is, to)) in
      let few = subst (λ c. c < 8) last.mine (entries (x.ticket - instance.base.place) x.entry last.linked.at).caller in
      let apart : (caller < l.0.caller) ⊎ (l.0.caller < caller) = elim (cases_order caller l.0.caller) [ inl same ↦ absurd (last.last before l.0 l.1 (omega arith) (sym same)) | inr other ↦ other ] in
      ap (λ p. slot_reply caller (full p)) next
      ∙ ((kept_at before l.0 l.1).others caller few apart).1
      ∙ slot_on caller x last k before refl (omega (arith, is, to))

  -- in each full image above a caller's last entry, the caller's slot has the history's reply to it
  pub slot_of_full : (caller : ℕ) (x : Linked) → IsLastOf instance history caller x → (place : ℕ) → x.ticket < place → place ≤ instance.base.place + length history →
      slot_reply caller (full place) ≡ reply_after instance history x.ticket x.entry.op
  slot_of_full caller x last place above to =
      slot_on caller x last (place - (x.ticket + 1)) place (omega (arith, above)) to
      ∙ reply_of_full x.ticket x.entry.op last.linked.from (omega (arith, above, to))
