-- What is recovered from a region, whose object part is upgraded or stays: an image of documents, and the replies that the region holds.
use Rattle.std.proofs.Common.{◌≡◌, ◌∙◌, ◌⊎◌, ◌≤◌, ◌<◌, inl, inr, ℕ, Bool, true, cond, List, ◌++◌, Option, Some, length, nat_eq, refl, sym, ap, subst, take, arith, eq-eqb}
use Rattle.std.specs.Option.{option_eq}
use Rattle.std.proofs.lemmas.Bool.{cases_Bool}
use Rattle.std.proofs.lemmas.List.{drop_at, length-append, length-take-le}
use Rattle.cx_base.specs.OldFormat.{OldFormat}
use Rattle.cx_core.proofs.Upgrading.{own_stays, same_reply, same_word}
use Rattle.cx_core.specs.Recovered.{is_old, upgraded_region, version_of}
use Rattle.cx_core.specs.Region.{object_part, slot_number, slot_reply, slot_start}
use Rattle.doc_store.specs.ExactStep.{IsImageOfStore, first_format}
use Rattle.doc_store.specs.StoreLaws.{image_shape, takes_over_first}
use Rattle.doc_commands.specs.Outcomes.{HoldsStoreReplies, IsReplyOf}

begins_old : (old : OldFormat) (region : List ℕ) → old.version ≡ Some (version_of region) → is_old old region ≡ true
begins_old old region same =
    subst (λ (v : Option ℕ). option_eq nat_eq v (Some (version_of region)) ≡ true) (sym same) (eq-eqb (version_of region) (version_of region) refl)

-- another object part
module _ (region part : List ℕ) (long : 1168 ≤ length region) where
  pub part_there : object_part (take 1168 region ++ part) ≡ part
  unfolding object_part
  part_there = drop_at (take 1168 region) part 1168 (length-take-le 1168 region long)

  whole_front : 1168 ≤ length (take 1168 region ++ part)
  whole_front = omega (arith, length-append (take 1168 region) part, length-take-le 1168 region long)

pub upgraded_old : (old : OldFormat) (region : List ℕ) → old.version ≡ Some (version_of region)
    → upgraded_region old region ≡ take 1168 region ++ old.upgraded (object_part region)
upgraded_old old region begins =
    ap (λ (b : Bool). cond b (take 1168 region ++ old.upgraded (object_part region)) region) (begins_old old region begins)

-- an image of documents in either version becomes one of its own
pub recovered_part : (lines : ℕ) (region : List ℕ) → 1168 ≤ length region → IsImageOfStore lines (object_part region) ⊎ (first_format lines).lawful (object_part region)
    → IsImageOfStore lines (object_part (upgraded_region (first_format lines) region))
recovered_part lines region long (inl own) =
    let same = own_stays lines 2 (IsImageOfStore lines) (first_format lines) (takes_over_first lines) (image_shape lines) region (image_shape lines (object_part region) own).1 in
    subst (λ (ws : List ℕ). IsImageOfStore lines (object_part ws)) (sym same) own
recovered_part lines region long (inr was) =
    let old = first_format lines in
    let takes = takes_over_first lines in
    let part : List ℕ = old.upgraded (object_part region) in
    let same = upgraded_old old region (takes.shape (object_part region) was).1 in
    subst (λ (ws : List ℕ). IsImageOfStore lines (object_part ws)) (sym same)
    (subst (IsImageOfStore lines) (sym (part_there region part long)) (takes.upgrades (object_part region) was))

pub recovered_long : (old : OldFormat) (region : List ℕ) → 1168 ≤ length region → 1168 ≤ length (upgraded_region old region)
recovered_long old region long =
    elim (cases_Bool (is_old old region)) [ inl is ↦ rw is (whole_front region (old.upgraded (object_part region)) long) | inr other ↦ rw other long ]

-- the slots are those of the region
slots_stay : (old : OldFormat) (region : List ℕ) (client : ℕ) → 1168 ≤ length region → client < 8
    → (slot_number client (upgraded_region old region) ≡ slot_number client region) × (slot_reply client (upgraded_region old region) ≡ slot_reply client region)
slots_stay old region client long few =
    let part : List ℕ = old.upgraded (object_part region) in
    elim (cases_Bool (is_old old region)) [
      | inl is ↦ rw is (same_word region part long (slot_start client) (omega (arith, few)), same_reply region part long client few)
      | inr other ↦ rw other (refl, refl)
    ]

same_replies : (a b : List ℕ) → ((client : ℕ) → client < 8 → (slot_number client a ≡ slot_number client b) × (slot_reply client a ≡ slot_reply client b))
    → HoldsStoreReplies a → HoldsStoreReplies b
same_replies a b same holds = λ client few some. (
    let slot = same client few in
    let (reply, is) = holds client few (λ none. some (sym slot.0 ∙ none)) in
    (reply, subst (λ (words : List ℕ). IsReplyOf words reply) slot.1 is))

pub replies_stay : (old : OldFormat) (region : List ℕ) → 1168 ≤ length region → HoldsStoreReplies (upgraded_region old region) → HoldsStoreReplies region
replies_stay old region long = same_replies (upgraded_region old region) region (λ client few. slots_stay old region client long few)

pub replies_go_on : (old : OldFormat) (region : List ℕ) → 1168 ≤ length region → HoldsStoreReplies region → HoldsStoreReplies (upgraded_region old region)
replies_go_on old region long =
    same_replies region (upgraded_region old region) (λ client few. (let slot = slots_stay old region client long few in (sym slot.0, sym slot.1)))
