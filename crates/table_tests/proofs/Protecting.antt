-- A replica held exclusively, while a protection is stated and released.
use Rattle.std.proofs.Common.{All, ◌≡◌, ◌<◌, ℕ, List, ap, sym, subst, ◌∙◌}
use Rattle.cx_base.specs.declared.object.Object.{Ghosts}
use Rattle.cx_core.specs.Region.{region_words}
use Rattle.cx_core.specs.Rights.{held_dirty}
use Rattle.table_invariant.specs.Fitting.{SomeFits}
use Rattle.table_invariant.specs.Running.{IsSeatOf, Running}
use Rattle.table_invariant.specs.Seats.{Seated}
use Rattle.cx_table.specs.Right.{Right}
use Rattle.cx_table.specs.Tokens.{IsExclusiveOf}
use Rattle.mutation_queue.specs.Protections.{except_protected}
use Rattle.replica.specs.Held.{IsHeld}
use Rattle.replica.specs.Replays.{IsHeldImage, IsReady, noted_place}

-- a replica held exclusively is so still where the seat changed only by stating or releasing a protection
pub held_protected : {O : Type 0} (lines : ℕ) (r : Running O) (lawful : List ℕ → Type 0) (step : List ℕ → List ℕ → List ℕ × List ℕ) (before after : Seated) (held : Right) → IsSeatOf r after → except_protected after ≡ except_protected before → IsHeld lines r lawful step before held → IsHeld lines r lawful step after held
held_protected lines r lawful step before after held of same was =
    let right = was.right in
    -- the right is on the same replica without what a protection changes
    let there : IsExclusiveOf r.callers (except_protected before) held = record { few = right.few; caller = right.caller; holds = right.holds } in
    let here : IsExclusiveOf r.callers (except_protected after) held = subst (λ s. IsExclusiveOf r.callers s held) (sym same) there in
    record {
      sized = was.sized;
      of = of;
      right = record { few = here.few; caller = here.caller; holds = here.holds };
      some = subst (λ (s : Seated). SomeFits lines lawful r.base step s.known) (sym same) was.some;
      dirty = subst (λ (s : Seated). All (λ i. i < region_words lines) (held_dirty s.known.local.exclusive)) (sym same) was.dirty;
    }

-- a replica held exclusively that is the image after its place is so still where the seat changed only by a protection
pub image_protected : {O : Type 0} (lines : ℕ) (r : Running O) (lawful : List ℕ → Type 0) (step : List ℕ → List ℕ → List ℕ × List ℕ) (before after : Seated) → except_protected after ≡ except_protected before → IsHeldImage lines lawful r.base step before.known → IsHeldImage lines lawful r.base step after.known
image_protected lines r lawful step before after same was =
    let there : IsHeldImage lines lawful r.base step (except_protected before).known = record { begun = was.begun; replayed = was.replayed } in
    let here : IsHeldImage lines lawful r.base step (except_protected after).known = subst (λ (s : Seated). IsHeldImage lines lawful r.base step s.known) (sym same) there in
    record { begun = here.begun; replayed = here.replayed }

-- a replica held exclusively that is the image after the place `at` is so still where the seat changed only by a protection
pub ready_protected : {O : Type 0} (o : Ghosts O) (r : Running O) (before after : Seated) (held : Right) (at : ℕ) → IsSeatOf r after → except_protected after ≡ except_protected before → IsReady o r held at before → IsReady o r held at after
ready_protected o r before after held at of same was = record {
  is_held = held_protected (o.line_count r.object) r (o.lawful r.object) (o.step r.object) before after held of same was.is_held;
  image = image_protected (o.line_count r.object) r (o.lawful r.object) (o.step r.object) before after same was.image;
  place = ap noted_place same ∙ was.place;
}
