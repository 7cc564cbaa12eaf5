-- What was replayed on a replica held exclusively.
use Rattle.std.proofs.Common.{false, true, cond, ◌≡◌, ◌≢◌, ◌+◌, ◌^◌, ◌<◌, ◌≤◌, ◌==◌, ℕ, List, [], ◌∷◌, ◌++◌, eq-eqb, length, ne_eqb, refl, slice_index, slice_set, ap, sym, subst, ◌∙◌, arith, Result, Ok, Err, IfOk, OnOk, inl, inr}
use Rattle.std.proofs.Math.Bridge.{le_prop}
use Rattle.std.proofs.Math.Logic.{∥∥₁_elim}
use Rattle.std.proofs.Props.{props}
use Rattle.std.proofs.lemmas.Bool.{cases_eq, true≢false}
use Rattle.std.proofs.lemmas.List.Elements.{All-head, All-push, All-tail}
use Rattle.std.proofs.lemmas.List.{get_or-set_other, get_or-set_same, length-set}
use Rattle.cx_base.specs.declared.object.Object.{Ghosts}
use Rattle.cx_base.specs.Memory.{Becomes}
use Rattle.cx_base.specs.Noted.{Note, NotesLead}
use Rattle.cx_core.specs.declared.entry.Base.{Base}
use Rattle.cx_core.specs.declared.entry.Entry.{Entry}
use Rattle.cx_core.specs.Base.{LawfulBase}
use Rattle.cx_core.specs.History.{IsLawfulEntry}
use Rattle.cx_core.specs.Region.{object_part, place_of}
use Rattle.cx_core.specs.Step.{IsStepped}
use Rattle.cx_core.specs.WriteSet.{stored}
use Rattle.cx_core.proofs.HistoryLemmas.{ObjectLaws}
use Rattle.cx_core.proofs.KeepLemmas as keep
use Rattle.table_invariant.specs.declared.rule.Known.{Known}
use Rattle.table_invariant.specs.Fitting.{IsConsistentWith, FitsKnown, Has, ReplayedTo, SomeFits, base_of, has_of, start, with_entry, with_set}
use Rattle.table_invariant.specs.Running.{Running}
use Rattle.table_invariant.specs.Seats.{Seated, place_noted}
use Rattle.cx_table.specs.Right.{Right}
use Rattle.replica.specs.Held.{Accesses}
use Rattle.replica.specs.Regions.{HasPlace}
use Rattle.replica.proofs.RegionLaws.{loaded_place, same_has}
use Rattle.replica.specs.Replays.{IsAfterFullStep, CanStep, ComesNext, IsHeldImage, IsReady, ShowsReply, StoresNone, noted_place}

-- ---- the place that was noted

pub place_one : (at w place : ℕ) (P : ℕ → Type 0) → (at ≡ 0 → P w) → (at ≢ 0 → P place) → P (cond (at == 0) w place)
place_one at w place P here there = elim (cases_eq at 0) [
  | inl is ↦ subst (λ b. P (cond b w place)) (sym (eq-eqb at 0 is)) (here is)
  | inr off ↦ subst (λ b. P (cond b w place)) (sym (ne_eqb at 0 off)) (there off)
]

-- the place of the words that accesses lead to is the one noted
place_led : (accesses : List Note) (ws now : List ℕ) (place : ℕ) → place_of ws ≡ place → 0 < length ws → NotesLead accesses ws now → place_of now ≡ place_noted place accesses
place_led [] ws now place at some leads = ap place_of leads ∙ at
place_led ((false, a, w) ∷ accesses) ws now place at some leads =
    place_led accesses ws now (cond (a == 0) w place)
    (place_one a w place (λ p. place_of ws ≡ p) (λ is. ap (slice_index ws) (sym is) ∙ leads.0) (λ off. at))
    some leads.1
place_led ((true, a, w) ∷ accesses) ws now place at some leads =
    place_led accesses (slice_set ws a w) now (cond (a == 0) w place)
    (place_one a w place (λ p. place_of (slice_set ws a w) ≡ p) (λ is. ap (λ k. place_of (slice_set ws k w)) is ∙ get_or-set_same ws 0 w 0 some) (λ off. get_or-set_other ws a 0 w 0 (λ e. off (sym e)) ∙ at))
    (subst (λ n. 0 < n) (sym (length-set ws a w)) some) leads.1

-- what accesses without a store lead to is what was there
pub unchanged : (accesses : List Note) (ws now : List ℕ) → StoresNone accesses → NotesLead accesses ws now → now ≡ ws
unchanged [] ws now none leads = leads
unchanged ((false, a, w) ∷ accesses) ws now none leads = unchanged accesses ws now (All-tail (λ (note : Note). note.0 ≡ false) (false, a, w) accesses none) leads.1
unchanged ((true, a, w) ∷ accesses) ws now none leads = absurd (true≢false (All-head (λ (note : Note). note.0 ≡ false) (true, a, w) accesses none))

-- ---- images

module _ (lines : ℕ) (lawful : List ℕ → Type 0) (base : Base) (step : List ℕ → List ℕ → List ℕ × List ℕ) where
  -- the region is at the place that was noted
  noted_at : (accesses : List Note) → HasPlace accesses → (first now : List ℕ) → IsConsistentWith lines lawful base accesses first now → place_of now ≡ place_noted 0 accesses
  noted_at accesses begun first now f =
      let some : 0 < length first = (let long = f.origin.size.long in omega arith) in
      place_led accesses first now (place_of first) refl some f.leads ∙ begun (place_of first)

  pub image_at : (known : Known) → IsHeldImage lines lawful base step known → (first now : List ℕ) → FitsKnown lines lawful base step known first now → place_of now ≡ place_noted 0 known.accesses
  image_at known image first now f = noted_at known.accesses image.begun first now f.fits

  pub image_below : (known : Known) (bound : ℕ) → IsHeldImage lines lawful base step known → place_noted 0 known.accesses < bound → (first now : List ℕ) → FitsKnown lines lawful base step known first now → place_of now < bound
  image_below known bound image small first now f = subst (λ p. p < bound) (sym (image_at known image first now f)) small

  -- the image after its place is lawful as a base: what was applied leads to it
  image_law : (known : Known) → IsHeldImage lines lawful base step known → (first now : List ℕ) → FitsKnown lines lawful base step known first now → LawfulBase lines lawful (base_of now)
  image_law known image first now f =
      subst (λ p. LawfulBase lines lawful (let b : Base = record { place = p; words = now } in b)) (sym (image_at known image first now f)) (f.stays (place_noted 0 known.accesses) now (image.replayed first now f))

  pub image_object : (known : Known) → IsHeldImage lines lawful base step known → (first now : List ℕ) → FitsKnown lines lawful base step known first now → lawful (object_part now)
  image_object known image first now f = (image_law known image first now f).object

  -- where what the seat has leads on to the next place, whatever fits, it is the image after that place
  image_on : (old new : Known) → HasPlace new.accesses → SomeFits lines lawful base step new → ((first now : List ℕ) → FitsKnown lines lawful base step new first now → ReplayedTo step (has_of new) first (place_noted 0 old.accesses + 1) now) →
      IsHeldImage lines lawful base step new × (place_noted 0 new.accesses ≡ place_noted 0 old.accesses + 1)
  image_on old new begun some leads =
      let next = place_noted 0 old.accesses + 1 in
      let place : place_noted 0 new.accesses ≡ next = ∥∥₁_elim some (hlevel props) (λ p. (let f = p.2 in sym (noted_at new.accesses begun p.0 p.1 f.fits) ∙ (f.stays next p.1 (leads p.0 p.1 f)).at_place)) in
      (record { begun = begun; replayed = λ first now f. subst (λ t. ReplayedTo step (has_of new) first t now) (sym place) (leads first now f) }, place)

  -- what a seat has leads to the image that was there
  led_to : (old new : Known) → has_of new ≡ has_of old → IsHeldImage lines lawful base step old → (first before : List ℕ) → FitsKnown lines lawful base step old first before → ReplayedTo step (has_of new) first (place_noted 0 old.accesses) before
  led_to old new same image first before f = subst (λ h. ReplayedTo step h first (place_noted 0 old.accesses) before) (sym same) (image.replayed first before f)

  -- what a seat has leads on to the image after the next place, by the full step of an entry that the seat has
  entry_on : (old new : Known) (entry : Entry) (reply : List ℕ) → has_of new ≡ has_of old → HasPlace new.accesses → SomeFits lines lawful base step new → IsHeldImage lines lawful base step old → (has_of old).entry (place_noted 0 old.accesses) entry →
      Becomes (FitsKnown lines lawful base step old) (FitsKnown lines lawful base step new) (IsStepped step entry reply) → IsHeldImage lines lawful base step new × (place_noted 0 new.accesses ≡ place_noted 0 old.accesses + 1)
  entry_on old new entry reply same begun some image had becomes = image_on old new begun some (λ first now f. (
      let ticket = place_noted 0 old.accesses in
      let b = becomes.from first now f in
      with_entry (ticket + 1) now ticket b.0 entry refl b.2.words (subst (λ (h : Has). h.entry ticket entry) (sym same) had) (led_to old new same image first b.0 b.1)))

  -- what a seat has leads on to the image after the next place, by a write set that the seat has
  pub set_on : (old new : Known) (pairs : List ℕ) → has_of new ≡ has_of old → HasPlace new.accesses → SomeFits lines lawful base step new → IsHeldImage lines lawful base step old → (has_of old).set (place_noted 0 old.accesses) pairs →
      Becomes (FitsKnown lines lawful base step old) (FitsKnown lines lawful base step new) (λ before now. now ≡ stored (slice_index pairs 0) pairs before) → IsHeldImage lines lawful base step new × (place_noted 0 new.accesses ≡ place_noted 0 old.accesses + 1)
  set_on old new pairs same begun some image had becomes = image_on old new begun some (λ first now f. (
      let ticket = place_noted 0 old.accesses in
      let b = becomes.from first now f in
      with_set (ticket + 1) now ticket b.0 pairs refl b.2 (subst (λ (h : Has). h.set ticket pairs) (sym same) had) (led_to old new same image first b.0 b.1)))

  -- after a full step the entry's caller has the reply
  replied_on : ObjectLaws lines lawful step → (old new : Known) (entry : Entry) (reply : List ℕ) → IsHeldImage lines lawful base step old → IsLawfulEntry (place_noted 0 old.accesses) entry → place_noted 0 old.accesses < 2 ^ 40 →
      Becomes (FitsKnown lines lawful base step old) (FitsKnown lines lawful base step new) (IsStepped step entry reply) → ShowsReply lines lawful base step new entry.caller reply
  replied_on laws old new entry reply image is small becomes first now f =
      let b = becomes.from first now f in
      let before = b.0 in
      let law = image_law old image first before b.1 in
      let at = image_at old image first before b.1 in
      let part = object_part before in
      let most = is.most in
      let part_lawful = laws.keeps part entry.op law.object is.op in
      let next : Base = record { place = place_of before + 1; words = now } in
      let kept = keep.keeps lines lawful step (base_of before) entry next law (omega (arith, at)) is.caller is.some (omega (arith, at, most))
      part_lawful (laws.shape (step part entry.op).0 part_lawful) (laws.replies part entry.op law.object is.op) refl b.2.words in
      kept.reply ∙ sym b.2.replied

  -- what was only loaded from stays the image after the same place
  pub loaded_image : (old new : Known) → has_of new ≡ has_of old → HasPlace new.accesses → SomeFits lines lawful base step new → IsHeldImage lines lawful base step old →
      Becomes (FitsKnown lines lawful base step old) (FitsKnown lines lawful base step new) ◌≡◌ → IsHeldImage lines lawful base step new × (place_noted 0 new.accesses ≡ place_noted 0 old.accesses)
  loaded_image old new same begun some image becomes =
      let place : place_noted 0 new.accesses ≡ place_noted 0 old.accesses =
      ∥∥₁_elim some (hlevel props) (λ p. (let f = p.2 in let b = becomes.from p.0 p.1 f in sym (noted_at new.accesses begun p.0 p.1 f.fits) ∙ ap place_of (sym b.2) ∙ image_at old image p.0 b.0 b.1)) in (
        record {
          begun = begun;
          replayed = λ first now f. (
              let b = becomes.from first now f in
              subst (λ p. ReplayedTo step (has_of new) first p now) (sym place) (subst (ReplayedTo step (has_of new) first (place_noted 0 old.accesses)) b.2 (led_to old new same image first b.0 b.1)));
        },
        place,
      )

  -- an image is at a place from the base's on
  chain_from : (has : Has) (first : List ℕ) (place : ℕ) (now : List ℕ) → ReplayedTo step has first place now → place_of first ≤ place
  chain_from has first place now (start _ _ at is) = omega arith
  chain_from has first place now (with_entry _ _ t before e at is had rest) = (let below = chain_from has first t before rest in omega arith)
  chain_from has first place now (with_set _ _ t before pairs at is had rest) = (let below = chain_from has first t before rest in omega arith)

  pub image_from : (known : Known) → SomeFits lines lawful base step known → IsHeldImage lines lawful base step known → base.place ≤ place_noted 0 known.accesses
  image_from known some image = ∥∥₁_elim some le_prop (λ p. (let f = p.2 in let from = f.fits.from in let on = chain_from (has_of known) p.0 (place_noted 0 known.accesses) p.1 (image.replayed p.0 p.1 f) in omega arith))

  -- what was not stored into since its place was loaded is the image after that place
  pub unstored_image : (known : Known) → HasPlace known.accesses → StoresNone known.accesses → IsHeldImage lines lawful base step known
  unstored_image known begun none = record {
    begun = begun;
    replayed = λ first now f. (
        let same : now ≡ first = unchanged known.accesses first now none f.fits.leads in
        start (place_noted 0 known.accesses) now (sym (noted_at known.accesses begun first now f.fits) ∙ ap place_of same) same);
  }

  begins : (old new : Known) (place : ℕ) → StoresNone old.accesses → new.accesses ≡ old.accesses ++ (false, 0, place) ∷ [] → IsHeldImage lines lawful base step new × (place_noted 0 new.accesses ≡ place)
  begins old new place none is =
      let noted : (p : ℕ) → place_noted p new.accesses ≡ place = λ p. ap (place_noted p) is ∙ loaded_place old.accesses place p in (
        unstored_image new (λ p. noted p ∙ sym (noted 0)) (subst StoresNone (sym is) (All-push (λ (note : Note). note.0 ≡ false) old.accesses (false, 0, place) none refl)),
        noted 0,
      )

module _ {O : Type 0} (o : Ghosts O) (r : Running O) (held : Right) where
  -- whether the load was made or not
  pub begins_ready : {E : Type 0} (before after : Seated) (result : Result ℕ E) → StoresNone before.known.accesses → IfOk result (λ v. Accesses (o.line_count r.object) r (o.lawful r.object) (o.step r.object) held (false, 0, v) before after) → IfOk result (λ v. IsReady o r held v after)
  begins_ready before after (Ok v) none made =
      let image = begins (o.line_count r.object) (o.lawful r.object) r.base (o.step r.object) before.known after.known v none made.accesses in
      record { is_held = made.still; image = image.0; place = image.1 }
  begins_ready before after (Err e) none made = tt

  -- a load of the place stores nothing, whether it was made or not
  pub begins_unstored : {E : Type 0} (before after : Seated) (result : Result ℕ E) → StoresNone before.known.accesses → IfOk result (λ v. Accesses (o.line_count r.object) r (o.lawful r.object) (o.step r.object) held (false, 0, v) before after) → OnOk result (StoresNone after.known.accesses)
  begins_unstored before after (Ok v) none made = subst StoresNone (sym made.accesses) (All-push (λ (note : Note). note.0 ≡ false) before.known.accesses (false, 0, v) none refl)
  begins_unstored before after (Err e) none made = tt

  -- a full step can be done on an image before the last place
  pub can_step : (at : ℕ) (seat : Seated) → IsReady o r held at seat → place_noted 0 seat.known.accesses < 2 ^ 40 → CanStep o r seat
  can_step at seat ready small = record {
    place = image_below (o.line_count r.object) (o.lawful r.object) r.base (o.step r.object) seat.known (2 ^ 40) ready.image small;
    object = image_object (o.line_count r.object) (o.lawful r.object) r.base (o.step r.object) seat.known ready.image;
    begun = ready.image.begun;
  }

  -- whether it was done or not
  pub steps_ready : {X E : Type 0} (entry : Entry) (reply : List ℕ) (before after : Seated) → ObjectLaws (o.line_count r.object) (o.lawful r.object) (o.step r.object) → (result : Result X E) → IsHeldImage (o.line_count r.object) (o.lawful r.object) r.base (o.step r.object) before.known → ComesNext entry before → IsAfterFullStep o r held before after →
      OnOk result (Becomes (FitsKnown (o.line_count r.object) (o.lawful r.object) r.base (o.step r.object) before.known) (FitsKnown (o.line_count r.object) (o.lawful r.object) r.base (o.step r.object) after.known) (IsStepped (o.step r.object) entry reply)) →
      OnOk result (IsReady o r held (noted_place before + 1) after × ShowsReply (o.line_count r.object) (o.lawful r.object) r.base (o.step r.object) after.known entry.caller reply)
  steps_ready entry reply before after laws (Ok x) image next leaves becomes =
      let lines = o.line_count r.object in
      let lawful = o.lawful r.object in
      let step = o.step r.object in
      let on = entry_on lines lawful r.base step before.known after.known entry reply (same_has held.replica before after leaves.rest) leaves.begun leaves.still.some image next.had becomes in
      (record { is_held = leaves.still; image = on.0; place = on.1 }, replied_on lines lawful r.base step laws before.known after.known entry reply image next.lawful next.small becomes)
  steps_ready entry reply before after laws (Err e) image next leaves becomes = tt
