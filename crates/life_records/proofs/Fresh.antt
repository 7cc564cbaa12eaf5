-- The first base of an object begins with nothing.
use Rattle.std.proofs.Common.{◌≡◌, ◌^◌, ◌<◌, ℕ, List, replicate, refl, sym, ap, subst, ◌∙◌, lit<, arith}
use Rattle.std.specs.List.{All}
use Rattle.std.proofs.lemmas.List.{drop_at, length-replicate}
use Rattle.std.proofs.lemmas.List.Elements.{All-append, All-replicate}
use Rattle.cx_core.specs.Base.{LawfulBase, fresh_region, no_results}
use Rattle.cx_core.specs.Region.{object_part, slot_number, slot_reply}
use Rattle.cx_core.specs.declared.entry.Base.{Base}
use Rattle.cx_core.proofs.BaseLemmas.{fresh_lawful}
use Rattle.life_records.specs.Begins.{IsBaseOf, nothing_begun}
use Rattle.life_records.proofs.TypedSteps.{TypedSteps}

object_of : (opening : List ℕ) → object_part (fresh_region opening) ≡ opening
unfolding object_part no_results
object_of opening = drop_at (replicate 1168 0) opening 1168 (length-replicate {A = ℕ} 1168 0)

zeros_fit : All (λ x. x < 2 ^ 64) no_results
unfolding no_results
zeros_fit = All-replicate (λ x. x < 2 ^ 64) 1168 0 (lit< tt)

module _ {Op Reply Store : Type 0} (t : TypedSteps Op Reply Store) (opens : t.lawful t.opening) (base : Base) (place : base.place ≡ 0) (words : base.words ≡ fresh_region t.opening) where
  lawful : LawfulBase t.lines t.lawful (record { place = 0; words = fresh_region t.opening })
  lawful =
      let image = t.object.shape t.opening opens in
      fresh_lawful t.lines t.lawful t.opening (fresh_region t.opening) refl image (All-append (λ x. x < 2 ^ 64) no_results t.opening zeros_fit image.fit) opens

  no_number : (client : ℕ) → client < 8 → slot_number client (fresh_region t.opening) ≡ 0
  no_number client below = (let most = lawful.numbers client below in omega (arith, most))

  pub begins_empty : IsBaseOf t.meaning base (nothing_begun t.meaning)
  begins_empty = record {
    at_place = place;
    stands = subst (λ image. t.meaning.stands image t.meaning.opening) (sym (ap object_part words ∙ object_of t.opening)) t.means.opens;
    numbers = λ client below. ap (slot_number client) words ∙ no_number client below;
    replies = λ client below. ap (slot_reply client) words ∙ lawful.results.empty client below (no_number client below);
  }
