-- The object part of a full image is the object's image after the entries.
use Rattle.std.proofs.Common.{◌≡◌, ◌+◌, ◌-◌, ◌^◌, ◌≤◌, ℕ, zero, suc, List, [], ◌∷◌, length, take, slice_get, Some, sym, ap, ◌∙◌, refl, arith}
use Rattle.cx_core.specs.Base.{LawfulBase}
use Rattle.cx_core.specs.History.{AreLawful, full_image, image_after}
use Rattle.cx_core.specs.Merge.{IsLinked}
use Rattle.cx_core.specs.Region.{object_part}
use Rattle.cx_core.specs.State.{Instance}
use Rattle.cx_core.specs.declared.entry.Entry.{Entry}
use Rattle.cx_core.proofs.HistoryLemmas.{ObjectLaws, begins, full_lawful, full_next}
use Rattle.cx_core.proofs.KeepLemmas.{region_kept}
use Rattle.cx_core.proofs.ListLemmas.{item_below}

-- one entry more is one step more
after_next : (step : List ℕ → List ℕ → List ℕ × List ℕ) (image : List ℕ) (entries : List Entry) (n : ℕ) (e : Entry) → slice_get entries n ≡ Some e
    → image_after step image (take (suc n) entries) ≡ (step (image_after step image (take n entries)) e.op).0
after_next step image [] n e at = cc
after_next step image (x ∷ xs) zero e at = cc
after_next step image (x ∷ xs) (suc n) e at = after_next step (step image x.op).0 xs n e at

module _ (lines : ℕ) (lawful : List ℕ → Type 0) (instance : Instance) (laws : ObjectLaws lines lawful instance.step) (history : List Entry) (base : LawfulBase lines lawful instance.base)
    (entries : AreLawful instance.base.place history) (small : instance.base.place + length history ≤ 2 ^ 40) where
  object_on : (n p : ℕ) → p ≡ instance.base.place + n → n ≤ length history
      → object_part (full_image instance.step instance.base history p) ≡ image_after instance.step (object_part instance.base.words) (take n history)
  object_on zero p is within =
      let here : p ≡ instance.base.place = (let e : instance.base.place + 0 ≡ instance.base.place = omega arith in is ∙ e) in
      ap (λ q. object_part (full_image instance.step instance.base history q)) here ∙ ap object_part (begins instance.step instance.base history)
  object_on (suc n) p is within =
      let q = instance.base.place + n in
      let away : q - instance.base.place ≡ n = omega arith in
      let item = item_below history n (omega arith) in
      let e = item.0 in
      let linked : IsLinked instance.base.place history q e = record { from = omega arith; at = ap (slice_get history) away ∙ item.1 } in
      let is_entry = entries n e item.1 in
      let before = full_lawful lines lawful instance laws history base entries small q (omega arith) (omega arith) in
      let region = full_image instance.step instance.base history q in
      let image = laws.keeps (object_part region) e.op before.object is_entry.op in
      let kept = region_kept lines instance.step e region is_entry.caller before.size.long
      (laws.shape (instance.step (object_part region) e.op).0 image).long (laws.replies (object_part region) e.op before.object is_entry.op).long in
      let next : p ≡ q + 1 = omega (arith, is) in
      ap (λ k. object_part (full_image instance.step instance.base history k)) next
      ∙ ap object_part (full_next instance history q e linked)
      ∙ kept.2
      ∙ ap (λ part. (instance.step part e.op).0) (object_on n q refl (omega arith))
      ∙ sym (after_next instance.step (object_part instance.base.words) history n e item.1)

  pub object_of_full : (p : ℕ) → instance.base.place ≤ p → p ≤ instance.base.place + length history
      → object_part (full_image instance.step instance.base history p) ≡ image_after instance.step (object_part instance.base.words) (take (p - instance.base.place) history)
  object_of_full p from to = object_on (p - instance.base.place) p (omega arith) (omega arith)
