-- Full steps and loads on a memory of a region.
use Rattle.std.proofs.Common.{◌≡◌, ◌+◌, ◌-◌, ◌<◌, ◌^◌, ◌≤◌, ℕ, Bool, true, List, length, refl, sym, subst, ◌∙◌, arith, Result, Ok, Err, OnOk, IsTrue}
use Rattle.cx_base.specs.Memory.{Becomes, Words}
use Rattle.cx_base.specs.Memory.{Known as KnownWords}
use Rattle.cx_core.specs.Base.{LawfulBase}
use Rattle.cx_core.specs.declared.entry.Base.{Base}
use Rattle.cx_core.specs.declared.entry.Entry.{Entry}
use Rattle.cx_core.specs.Region.{object_part, place_of, region_words}
use Rattle.cx_core.specs.Step.{full_step_of}
use Rattle.cx_core.proofs.HistoryLemmas.{ObjectLaws}
use Rattle.cx_core.proofs.KeepLemmas.{region_kept}
use Rattle.table_invariant.specs.declared.rule.Known.{Known}
use Rattle.table_invariant.specs.Fitting.{FitsKnown, base_of}
use Rattle.table_invariant.specs.Seats.{place_noted}
use Rattle.replica.specs.Replays.{IsHeldImage}
use Rattle.replica.proofs.Replaying.{image_at, image_object}
use Rattle.replica.specs.Stepping.{IsSteppable}

kept : (lines : ℕ) (lawful : List ℕ → Type 0) (step : List ℕ → List ℕ → List ℕ × List ℕ) → ObjectLaws lines lawful step → (entry : Entry) → entry.caller < 8 → Words 144 entry.op → (before : List ℕ) → length before ≡ region_words lines → lawful (object_part before) →
    (place_of (full_step_of step entry before) ≡ place_of before + 1) × lawful (object_part (full_step_of step entry before))
kept lines lawful step laws entry few op before size law =
    let next = laws.keeps (object_part before) entry.op law op in
    let k = region_kept lines step entry before few size (laws.shape _ next).long (laws.replies (object_part before) entry.op law op).long in
    (k.1, subst lawful (sym k.2) next)

-- after a full step, one less can be done
pub stepped : {Key X E : Type 0} (old new : Key → List ℕ → Type 0) {size then : ℕ} {writable may : Bool} (lines : ℕ) (lawful : List ℕ → Type 0) (step : List ℕ → List ℕ → List ℕ × List ℕ) → ObjectLaws lines lawful step → (entry : Entry) → entry.caller < 8 → Words 144 entry.op → (left : ℕ) → 0 < left →
    ((first : Key) (now : List ℕ) → old first now → Words size now) → IsSteppable lines lawful size writable old left → then ≡ size → may ≡ writable → (result : Result X E) → OnOk result (Becomes old new (λ before now. now ≡ full_step_of step entry before)) →
    OnOk result (IsSteppable lines lawful then may new (left - 1))
stepped old new lines lawful step laws entry few op left some words can same_size same_may (Err e) done = tt
stepped old new lines lawful step laws entry few op left some words can same_size same_may (Ok x) done = record {
  sized = same_size ∙ can.sized;
  may_store = subst IsTrue (sym same_may) can.may_store;
  place = λ first now s. (
      let b = done.from first now s in
      let k = kept lines lawful step laws entry few op b.0 ((words first b.0 b.1).long ∙ can.sized) (can.image first b.0 b.1) in
      let below = can.place first b.0 b.1 in
      let place = k.0 in
      subst (λ ws. place_of ws + (left - 1) ≤ 2 ^ 40) (sym b.2) (omega (arith, place, below, some)));
  image = λ first now s. (
      let b = done.from first now s in
      subst (λ ws. lawful (object_part ws)) (sym b.2) (kept lines lawful step laws entry few op b.0 ((words first b.0 b.1).long ∙ can.sized) (can.image first b.0 b.1)).1);
}

-- a replica held exclusively that is the image after its place, which is `left` entries from the last place
pub image_steppable : (lines : ℕ) (lawful : List ℕ → Type 0) (base : Base) (step : List ℕ → List ℕ → List ℕ × List ℕ) (known : Known) (left : ℕ) → IsHeldImage lines lawful base step known → place_noted 0 known.accesses + left ≤ 2 ^ 40 → IsSteppable lines lawful (region_words lines) true (FitsKnown lines lawful base step known) left
image_steppable lines lawful base step known left image most = record {
  sized = refl;
  may_store = refl;
  place = λ first now f. subst (λ p. p + left ≤ 2 ^ 40) (sym (image_at lines lawful base step known image first now f)) most;
  image = image_object lines lawful base step known image;
}

-- a plain memory of the words of such a base
pub plain_steppable : (lines : ℕ) (lawful : List ℕ → Type 0) (words : List ℕ) (left : ℕ) → LawfulBase lines lawful (base_of words) → place_of words + left ≤ 2 ^ 40 → IsSteppable lines lawful (length words) true (KnownWords words) left
plain_steppable lines lawful words left base most = record {
  sized = base.size.long;
  may_store = refl;
  place = λ first now k. subst (λ ws. place_of ws + left ≤ 2 ^ 40) (sym k.same) most;
  image = λ first now k. subst (λ ws. lawful (object_part ws)) (sym k.same) base.object;
}
