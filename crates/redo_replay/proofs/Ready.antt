-- What a look, an offer and a set that was taken leave of a replica that is the image after its place.
use Rattle.std.proofs.Common.{All, inl, inr, ◌≡◌, ◌<◌, ◌⊎◌, ◌++◌, ℕ, List, [], map, slice_set, ap, refl, sym, subst, ◌∙◌, Option, None}
use Rattle.std.proofs.Math.Seq.{map-set_same}
use Rattle.cx_base.specs.Memory.{Becomes}
use Rattle.cx_base.specs.declared.object.Object.{Ghosts}
use Rattle.cx_core.specs.declared.local.Cell.{Cell}
use Rattle.cx_core.specs.declared.local.SeenSlot.{SeenSlot}
use Rattle.cx_core.specs.QueueEvents.{cell_of}
use Rattle.cx_core.specs.Region.{region_words}
use Rattle.cx_core.specs.Rights.{held_dirty}
use Rattle.cx_core.proofs.ListLemmas.{slice_get-append_left}
use Rattle.core_queue.specs.declared.notes.SetNoted.{SetNoted}
use Rattle.core_queue.specs.NotedSets.{IsNotedSet}
use Rattle.table_invariant.specs.declared.rule.Known.{Known}
use Rattle.table_invariant.specs.Fitting.{Fitting, FitsKnown, FitsOn, Has, IsKeptSet, IsOwnSet, HasEntry, SomeFits, entries_of, has_of}
use Rattle.table_invariant.specs.Running.{IsSeatOf, Running}
use Rattle.table_invariant.specs.Seats.{Seated, StepsOn, known_kept}
use Rattle.table_invariant.specs.Steps.{KeepsSet}
use Rattle.table_invariant.proofs.HasMore.{HasMore, fits_more, fits_same, some_same}
use Rattle.table_invariant.proofs.Stepping.{on_one, on_then}
use Rattle.cx_table.specs.Right.{Right}
use Rattle.cx_table.specs.Tokens.{IsExclusiveOf}
use Rattle.mutation_queue.specs.Entries.{with_look}
use Rattle.redo_set.specs.Offering.{HasStill, seat_with_set}
use Rattle.redo_set.specs.Sets.{put_over}
use Rattle.redo_set.specs.Taking.{KeepsTaking, with_notes}
use Rattle.replica.specs.Held.{IsHeld, unchanged_by_access}
use Rattle.replica.specs.Laws.{image_more, image_same}
use Rattle.replica.specs.Replays.{IsReady, noted_place}
use Rattle.redo_replay.specs.Offered.{KeepsOffered, unchanged_by_offered}
use Rattle.redo_replay.specs.Own.{HasApplied, KeepsOwn, unchanged_by_own_set, except_set}

-- what a seat has, with these notes of sets
abbrev has_with : Known → List SetNoted → Has
has_with known sets = record { entry = HasEntry (entries_of known); set = λ t pairs. IsNotedSet sets t pairs ⊎ (IsOwnSet known.local.cells t pairs ⊎ IsKeptSet known.kept t pairs) }

-- where further words of sets are noted, what is had is had still
sets_more : (known : Known) (more : List SetNoted) → HasMore (has_of known) (has_of (record known { sets = known.sets ++ more }))
sets_more known more = record {
  entry = λ t e had. had;
  set = λ t pairs had. elim had [
    | inl noted ↦ inl (record { few = noted.few; each = λ i below. (let at = noted.each i below in (at.0, slice_get-append_left known.sets more at.0 _ at.1)) })
    | inr mine ↦ inr mine
  ];
}

module _ {O : Type 0} (o : Ghosts O) (r : Running O) (held : Right) (at : ℕ) where
  -- a slot was looked at
  pub ready_looked : (seen : Option SeenSlot) (before after : Seated) → IsSeatOf r after → after ≡ with_look seen before → IsReady o r held at before → IsReady o r held at after
  ready_looked seen before after of is was =
      let has : has_of after.known ≡ has_of before.known = ap (λ (s : Seated). has_of s.known) is in
      let accesses = ap (λ (s : Seated). s.known.accesses) is in
      record {
        is_held = record {
          sized = was.is_held.sized;
          of = of;
          right = subst (λ s. IsExclusiveOf r.callers s held) (sym is) (let right : IsExclusiveOf r.callers (with_look seen before) held = record { few = was.is_held.right.few; caller = was.is_held.right.caller; holds = was.is_held.right.holds } in right);
          some = some_same (o.line_count r.object) (o.lawful r.object) r.base (o.step r.object) before.known after.known has accesses was.is_held.some;
          dirty = subst (λ (s : Seated). All (λ i. i < region_words (o.line_count r.object)) (held_dirty s.known.local.exclusive)) (sym is) was.is_held.dirty;
        };
        image = image_same (o.line_count r.object) (o.lawful r.object) r.base (o.step r.object) before.known after.known has accesses was.image;
        place = ap noted_place is ∙ was.place;
      }

  held_noted : (before after : Seated) → (l : KeepsTaking r before after) → SomeFits (o.line_count r.object) (o.lawful r.object) r.base (o.step r.object) after.known → IsHeld (o.line_count r.object) r (o.lawful r.object) (o.step r.object) before held → IsHeld (o.line_count r.object) r (o.lawful r.object) (o.step r.object) after held
  held_noted before after l some was = record {
    sized = was.sized;
    of = l.of;
    right = subst (λ s. IsExclusiveOf r.callers s held) (sym l.seat) (let right : IsExclusiveOf r.callers (with_notes after.known.local.seen_offer after.known.local.steps l.notes before) held = record { few = was.right.few; caller = was.right.caller; holds = was.right.holds } in right);
    some = some;
    dirty = subst (λ (s : Seated). All (λ i. i < region_words (o.line_count r.object)) (held_dirty s.known.local.exclusive)) (sym l.seat) was.dirty;
  }

  -- a set was taken
  pub ready_taken : (before after : Seated) → KeepsTaking r before after → Fitting r.lines (o.lawful r.object) r.base (o.step r.object) after.known → IsReady o r held at before → IsReady o r held at after
  ready_taken before after l fits was = record {
    is_held = held_noted before after l (subst (λ n. SomeFits n (o.lawful r.object) r.base (o.step r.object) after.known) was.is_held.sized.lines_are fits.exclusive) was.is_held;
    image = image_more (o.line_count r.object) (o.lawful r.object) r.base (o.step r.object) before.known after.known
        (subst (λ (s : Seated). HasMore (has_of before.known) (has_of s.known)) (sym l.seat) (sets_more before.known l.notes)) (ap (λ (s : Seated). s.known.accesses) l.seat) was.image;
    place = ap noted_place l.seat ∙ was.place;
  }

  -- an offer was looked at, and no set was taken
  pub ready_untaken : (before after : Seated) → KeepsTaking r before after → after.known.sets ≡ before.known.sets → IsReady o r held at before → IsReady o r held at after
  ready_untaken before after l kept was =
      let has : has_of after.known ≡ has_of before.known = ap (λ (s : Seated). has_with s.known after.known.sets) l.seat ∙ ap (has_with before.known) kept in
      let accesses = ap (λ (s : Seated). s.known.accesses) l.seat in
      record {
        is_held = held_noted before after l (some_same (o.line_count r.object) (o.lawful r.object) r.base (o.step r.object) before.known after.known has accesses was.is_held.some) was.is_held;
        image = image_same (o.line_count r.object) (o.lawful r.object) r.base (o.step r.object) before.known after.known has accesses was.image;
        place = ap noted_place l.seat ∙ was.place;
      }

  abbrev fits : Seated → List ℕ → List ℕ → Type 0
  fits s = FitsKnown (o.line_count r.object) (o.lawful r.object) r.base (o.step r.object) s.known

  -- what is stored over a replica once a slot was looked at and a set was taken, is stored over the words that it had
  pub stored_since : (seen : Option SeenSlot) (before mid taken after : Seated) (set : List ℕ) → mid ≡ with_look seen before → KeepsTaking r mid taken → Becomes (fits taken) (fits after) (λ was now. now ≡ put_over set was) →
      Becomes (fits before) (fits after) (λ was now. now ≡ put_over set was)
  stored_since seen before mid taken after set looked l becomes =
      let lines = o.line_count r.object in
      let lawful = o.lawful r.object in
      let step = o.step r.object in
      let has : has_of mid.known ≡ has_of before.known = ap (λ (s : Seated). has_of s.known) looked in
      let accesses : mid.known.accesses ≡ before.known.accesses = ap (λ (s : Seated). s.known.accesses) looked in
      let more : HasMore (has_of mid.known) (has_of taken.known) = subst (λ (s : Seated). HasMore (has_of mid.known) (has_of s.known)) (sym l.seat) (sets_more mid.known l.notes) in
      let still : taken.known.accesses ≡ mid.known.accesses = ap (λ (s : Seated). s.known.accesses) l.seat in
      record {
        from = λ first now f. (
            let b = becomes.from first now f in
            let was : List ℕ = b.0 in
            (was, fits_same lines lawful r.base step before.known mid.known has accesses first was (fits_more lines lawful r.base step (has_of mid.known) (has_of taken.known) more mid.known.accesses first was (subst (λ xs. FitsOn lines lawful r.base step (has_of taken.known) xs first was) still b.1)), b.2));
      }

-- a seat beside what work on the replica held exclusively changes, beside what is seen and noted of sets too
abbrev unchanged_by_both : Seated → Seated
unchanged_by_both b = record b { known = record b.known { local = record b.known.local { seen_slot = None; seen_offer = None }; sets = [] } }

module _ {O : Type 0} (r : Running O) (replica : ℕ) where
  leaves_looked : (seen : Option SeenSlot) (before after : Seated) → IsSeatOf r after → after ≡ with_look seen before → KeepsOffered r replica before after
  leaves_looked seen before after of is = record { seat = of; rest = ap (unchanged_by_offered replica) is; since = on_one before after (ap (λ (s : Seated). s.known.local.steps) is) }

  leaves_taken : (before mid after : Seated) → KeepsOffered r replica before mid → KeepsTaking r mid after → KeepsOffered r replica before after
  leaves_taken before mid after was l = record { seat = l.of; rest = ap (unchanged_by_offered replica) l.seat ∙ was.rest; since = on_then before mid after was.since l.since }

  -- a slot was looked at, and the offer behind it
  pub leaves_behind : (seen : Option SeenSlot) (before mid after : Seated) → IsSeatOf r mid → mid ≡ with_look seen before → KeepsTaking r mid after → KeepsOffered r replica before after
  leaves_behind seen before mid after of is l = leaves_taken before mid after (leaves_looked seen before mid of is) l

  pub leaves_stored : (before mid after : Seated) → KeepsOffered r replica before mid → IsSeatOf r after → unchanged_by_access replica after ≡ unchanged_by_access replica mid → StepsOn mid after → KeepsOffered r replica before after
  leaves_stored before mid after was of same on = record { seat = of; rest = ap unchanged_by_both same ∙ was.rest; since = on_then before mid after was.since on }

-- a seat but for the sets and the offers of the caller's cells, and for what it keeps
abbrev unchanged_by_cells : Seated → Seated
unchanged_by_cells b = record b { known = record b.known { local = record b.known.local { cells = map except_set b.known.local.cells }; kept = [] } }

-- a seat with these cells, but for what an access changes and for what it keeps
abbrev own_with : ℕ → Seated → List Cell → Seated
own_with replica s cells = (let b = unchanged_by_access replica s in record b { known = record b.known { local = record b.known.local { cells = cells }; kept = [] } })

module _ {O : Type 0} (r : Running O) (replica : ℕ) where
  pub leaves_held : (before after : Seated) → IsSeatOf r after → unchanged_by_access replica after ≡ unchanged_by_access replica before → StepsOn before after → KeepsOwn r replica before after
  leaves_held before after of same on = record { seat = of; rest = ap unchanged_by_cells same; since = on }

  -- words of an own set were written, or it was offered
  pub leaves_set : (before mid after : Seated) (j : ℕ) (set : List ℕ) (offer steps : ℕ) → KeepsOwn r replica before mid → IsSeatOf r after → after ≡ seat_with_set j set offer steps mid → StepsOn mid after → KeepsOwn r replica before after
  leaves_set before mid after j set offer steps was of is on =
      let cell : Cell = record (cell_of mid.known.local j) { set = set; offer = offer } in
      let same : map except_set (slice_set mid.known.local.cells j cell) ≡ map except_set mid.known.local.cells =
      map-set_same except_set mid.known.local.cells j cell (record { words = []; ticket = None; set = []; offer = 0 }) refl in
      record { seat = of; rest = ap (unchanged_by_own_set replica) is ∙ ap (own_with replica mid) same ∙ was.rest; since = on_then before mid after was.since on }

  -- an own set was kept
  pub leaves_kept : (before mid after : Seated) (ticket : ℕ) (set : List ℕ) → KeepsOwn r replica before mid → KeepsSet r ticket set mid after → StepsOn mid after → KeepsOwn r replica before after
  leaves_kept before mid after ticket set was keeps on = record { seat = keeps.seat; rest = ap (unchanged_by_own_set replica) keeps.made ∙ was.rest; since = on_then before mid after was.since on }

-- an own set was kept
pub applied_kept : {O : Type 0} (o : Ghosts O) (r : Running O) (held : Right) (at caller : ℕ) (reply : List ℕ) (before after : Seated) (ticket : ℕ) (set : List ℕ) → KeepsSet r ticket set before after →
    HasStill before.known after.known → Fitting r.lines (o.lawful r.object) r.base (o.step r.object) after.known → HasApplied o r held at caller reply before → HasApplied o r held at caller reply after
applied_kept o r held at caller reply before after ticket set keeps still fits was =
    let lines = o.line_count r.object in
    let held_before = was.ready.is_held in
    let is = keeps.made in
    let more : HasMore (has_of before.known) (has_of after.known) = record { entry = still.entry; set = still.set } in
    let accesses : after.known.accesses ≡ before.known.accesses = ap (λ (s : Seated). s.known.accesses) is in
    let kept : Seated = record before { known = known_kept ticket set before.known } in
    record {
      ready = record {
        is_held = record {
          sized = held_before.sized;
          of = keeps.seat;
          right = subst (λ s. IsExclusiveOf r.callers s held) (sym is) (let right : IsExclusiveOf r.callers kept held = record { few = held_before.right.few; caller = held_before.right.caller; holds = held_before.right.holds } in right);
          some = subst (λ n. SomeFits n (o.lawful r.object) r.base (o.step r.object) after.known) held_before.sized.lines_are fits.exclusive;
          dirty = subst (λ (s : Seated). All (λ i. i < region_words lines) (held_dirty s.known.local.exclusive)) (sym is) held_before.dirty;
        };
        image = image_more lines (o.lawful r.object) r.base (o.step r.object) before.known after.known more accesses was.ready.image;
        place = ap noted_place is ∙ was.ready.place;
      };
      replied = λ first now f. was.replied first now (fits_more lines (o.lawful r.object) r.base (o.step r.object) (has_of before.known) (has_of after.known) more before.known.accesses first now (subst (λ xs. FitsOn lines (o.lawful r.object) r.base (o.step r.object) (has_of after.known) xs first now) accesses f));
    }

-- an own set was offered
pub applied_offered : {O : Type 0} (o : Ghosts O) (r : Running O) (held : Right) (at caller : ℕ) (reply : List ℕ) (before after : Seated) (j : ℕ) (set : List ℕ) (offer steps : ℕ) → IsSeatOf r after → after ≡ seat_with_set j set offer steps before →
    HasStill before.known after.known → Fitting r.lines (o.lawful r.object) r.base (o.step r.object) after.known → HasApplied o r held at caller reply before → HasApplied o r held at caller reply after
applied_offered o r held at caller reply before after j set offer steps of is still fits was =
    let lines = o.line_count r.object in
    let held_before = was.ready.is_held in
    let more : HasMore (has_of before.known) (has_of after.known) = record { entry = still.entry; set = still.set } in
    let accesses : after.known.accesses ≡ before.known.accesses = ap (λ (s : Seated). s.known.accesses) is in
    record {
      ready = record {
        is_held = record {
          sized = held_before.sized;
          of = of;
          right = subst (λ s. IsExclusiveOf r.callers s held) (sym is) (let right : IsExclusiveOf r.callers (seat_with_set j set offer steps before) held = record { few = held_before.right.few; caller = held_before.right.caller; holds = held_before.right.holds } in right);
          some = subst (λ n. SomeFits n (o.lawful r.object) r.base (o.step r.object) after.known) held_before.sized.lines_are fits.exclusive;
          dirty = subst (λ (s : Seated). All (λ i. i < region_words lines) (held_dirty s.known.local.exclusive)) (sym is) held_before.dirty;
        };
        image = image_more lines (o.lawful r.object) r.base (o.step r.object) before.known after.known more accesses was.ready.image;
        place = ap noted_place is ∙ was.ready.place;
      };
      replied = λ first now f. was.replied first now (fits_more lines (o.lawful r.object) r.base (o.step r.object) (has_of before.known) (has_of after.known) more before.known.accesses first now (subst (λ xs. FitsOn lines (o.lawful r.object) r.base (o.step r.object) (has_of after.known) xs first now) accesses f));
    }
