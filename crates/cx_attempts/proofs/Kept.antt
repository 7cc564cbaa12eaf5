-- What the steps leave by which a replica is kept.
use Rattle.std.proofs.Common.{◌≡◌, ◌<◌, ◌≤◌, true, false, ℕ, All, List, append-nil, ap, sym, subst, ◌∙◌, arith, Option, Some, None}
use Rattle.std.specs.Option.{option_map}
use Rattle.cx_base.specs.declared.object.Object.{Ghosts}
use Rattle.cx_base.specs.Codes.{root_place_of, root_replica_of}
use Rattle.cx_core.specs.declared.kinds.Kind.TheVariants.{LoadCur}
use Rattle.cx_core.specs.declared.local.HeldExclusive.{HeldExclusive}
use Rattle.cx_core.specs.declared.local.HeldShared.{HeldShared}
use Rattle.cx_core.specs.declared.local.Protection.TheVariants.{Unprotected}
use Rattle.cx_core.specs.Region.{region_words, slot_reply}
use Rattle.cx_core.specs.Rights.{held_dirty}
use Rattle.cx_core.specs.State.{one_more}
use Rattle.table_invariant.specs.Fitting.{has_of}
use Rattle.table_invariant.specs.Running.{IsSeatOf, Running}
use Rattle.table_invariant.specs.Seats.{Seated}
use Rattle.table_invariant.specs.Steps.{Steps}
use Rattle.table_invariant.proofs.HasMore.{fits_same, some_same}
use Rattle.cx_table.specs.Right.{Right}
use Rattle.cx_attempts.specs.Keeping.{Guards, HoldsCurrent, HoldsSource, IsAtImage, IsBehindRing, IsUnrefused, Others, SeesCurrentReplica, no_others, others}
use Rattle.cx_attempts.specs.Reads.{unchanged_by_read}
use Rattle.cx_attempts.specs.Attempts.{IsAtRest, AttemptRefused, unchanged_by_attempt}
use Rattle.mutation_queue.specs.Protections.{except_protected}
use Rattle.publish.proofs.Options.{none_of}
use Rattle.replica.specs.Copies.{MayList, unchanged_by_listed_copy, except_loads, without_shared}
use Rattle.replica.specs.Held.{IsHeld}
use Rattle.replica.specs.Laws.{image_same}
use Rattle.replica.specs.Regions.{HasPlace}
use Rattle.replica.specs.Replays.{IsHeldImage, ShowsReply, StoresNone, noted_place}
use Rattle.strong_trylock.specs.Held.{AllRights, all_rights}

-- an attempt that ended at rest by one refusal
pub attempt_refused : (before after : Seated) → unchanged_by_attempt after ≡ unchanged_by_attempt before → IsAtRest after.known.local → after.known.local.met ≡ one_more before.known.local.met → AttemptRefused before after
attempt_refused before after same rest met = record {
  refusal = record {
    rights = cc (rest.exclusive, rest.shared, rest.passer, rest.downgraded, rest.won);
    fresh = rest.fresh;
    met = met;
    answered = ap (λ (s : Seated). s.known.local.answered) same;
    reads = ap (λ (s : Seated). s.known.local.seen_reads) same;
    times = record { linked = ap (λ (s : Seated). s.known.times.linked) same; answered = ap (λ (s : Seated). s.known.times.answered) same; reads = ap (λ (s : Seated). s.known.times.reads) same };
  };
  rest = rest;
}

-- of two equal numbers the second is not above the first
not_above : (a b : ℕ) → a ≡ b → b ≤ a
not_above a b e = omega (arith, e)

-- a replica at the place of the code that is in use shows it to be outdated, where it is behind
pub behind_current : (callers : ℕ) (before after : Seated) → IsBehindRing callers before after → noted_place before ≡ root_place_of callers before.known.local.seen_cur → before.known.local.fresh ≡ true →
    (after.known.local.met ≡ one_more before.known.local.met) × (after.known.local.fresh ≡ false)
behind_current callers before after behind at fresh = behind.outdated (not_above (noted_place before) (root_place_of callers before.known.local.seen_cur) at, fresh)

module _ {O : Type 0} (o : Ghosts O) (r : Running O) (before after : Seated) (held : Right) where
  -- the replica held is the same, and so is what is noted of it
  pub held_same : IsSeatOf r after → after.known.local.exclusive ≡ before.known.local.exclusive → after.known.local.number ≡ before.known.local.number → has_of after.known ≡ has_of before.known → after.known.accesses ≡ before.known.accesses → IsHeld (o.line_count r.object) r (o.lawful r.object) (o.step r.object) before held → IsHeld (o.line_count r.object) r (o.lawful r.object) (o.step r.object) after held
  held_same seat exclusive number has accesses was = record {
    sized = was.sized;
    of = seat;
    right = record { few = was.right.few; caller = was.right.caller ∙ sym number; holds = ap (option_map (λ (h : HeldExclusive). h.replica)) exclusive ∙ was.right.holds };
    some = some_same (o.line_count r.object) (o.lawful r.object) r.base (o.step r.object) before.known after.known has accesses was.some;
    dirty = subst (λ (h : Option HeldExclusive). All (λ i. i < region_words (o.line_count r.object)) (held_dirty h)) (sym exclusive) was.dirty;
  }

  pub shows_same : has_of after.known ≡ has_of before.known → after.known.accesses ≡ before.known.accesses → after.known.local.number ≡ before.known.local.number → (reply : List ℕ) →
      ShowsReply (o.line_count r.object) (o.lawful r.object) r.base (o.step r.object) before.known before.known.local.number reply → ShowsReply (o.line_count r.object) (o.lawful r.object) r.base (o.step r.object) after.known after.known.local.number reply
  shows_same has accesses number reply shows first now f =
      ap (λ n. slot_reply n now) number ∙ shows first now (fits_same (o.line_count r.object) (o.lawful r.object) r.base (o.step r.object) before.known after.known has accesses first now f)

  -- through protecting
  pub protected_image : IsSeatOf r after → except_protected after ≡ except_protected before → IsAtImage o r before held → IsAtImage o r after held
  protected_image seat same was =
      let accesses = ap (λ (s : Seated). s.known.accesses) same in
      record {
        is_held = held_same seat (ap (λ (s : Seated). s.known.local.exclusive) same) (ap (λ (s : Seated). s.known.local.number) same) (ap (λ (s : Seated). has_of s.known) same) accesses was.is_held;
        image = image_same (o.line_count r.object) (o.lawful r.object) r.base (o.step r.object) before.known after.known (ap (λ (s : Seated). has_of s.known) same) accesses was.image;
        alone = ap (λ (s : Seated). others s.known.local) same ∙ was.alone;
      }

  -- through a try of the current replica that was refused
  pub missed_image : IsSeatOf r after → unchanged_by_read after ≡ unchanged_by_read before → all_rights after ≡ all_rights before → IsAtImage o r before held → IsAtImage o r after held
  missed_image seat same rights was =
      let with : AllRights → Seated → Others = λ a s. record { shared = a.shared; passer = a.passer; downgraded = a.downgraded; won = a.won; scan = s.known.local.scan; refused = s.known.local.refused } in
      let accesses = ap (λ (s : Seated). s.known.accesses) same in
      record {
        is_held = held_same seat (ap (λ (s : Seated). s.known.local.exclusive) same) (ap (λ (s : Seated). s.known.local.number) same) (ap (λ (s : Seated). has_of s.known) same) accesses was.is_held;
        image = image_same (o.line_count r.object) (o.lawful r.object) r.base (o.step r.object) before.known after.known (ap (λ (s : Seated). has_of s.known) same) accesses was.image;
        alone = ap (λ (a : AllRights). with a after) rights ∙ ap (with (all_rights before)) same ∙ was.alone;
      }

  -- a try of the current replica that was not refused leaves both replicas held
  pub holds_source : (source : Right) → IsSeatOf r after → unchanged_by_read after ≡ unchanged_by_read before → HoldsCurrent o r (all_rights before) before after source → IsAtImage o r before held → before.known.local.protection ≡ Unprotected → HoldsSource o r after held source
  holds_source source seat same taken was none =
      let with : AllRights → Seated → Others = λ a s. record { shared = a.shared; passer = a.passer; downgraded = a.downgraded; won = a.won; scan = s.known.local.scan; refused = s.known.local.refused } in
      let shared : Others → Others = λ x. record x { shared = Some source.replica } in
      record {
        both = record {
          exclusive = held_same seat (ap (λ (s : Seated). s.known.local.exclusive) same) (ap (λ (s : Seated). s.known.local.number) same) (ap (λ (s : Seated). has_of s.known) same) (ap (λ (s : Seated). s.known.accesses) same) was.is_held;
          shared = taken.held;
        };
        alone = ap (λ (a : AllRights). with a after) taken.with ∙ ap (λ s. shared (with (all_rights before) s)) same ∙ ap shared was.alone;
        none = ap (λ (s : Seated). s.known.local.protection) same ∙ none;
        place = taken.place;
        fresh = taken.fresh;
      }

  -- after a try of the current replica that was not refused, the lines alone may be copied that changed
  pub may_list : (source : Right) → unchanged_by_read after ≡ unchanged_by_read before → HoldsCurrent o r (all_rights before) before after source → IsAtImage o r before held → StoresNone before.known.accesses → MayList (root_place_of r.callers after.known.local.seen_cur) after
  may_list source same taken was none =
      let accesses : after.known.accesses ≡ before.known.accesses = ap (λ (s : Seated). s.known.accesses) same in
      record { unstored = subst StoresNone (sym accesses) none; begun = subst HasPlace (sym accesses) was.image.begun; source = taken.place }

  -- a replica is kept once the entries are guarded
  pub kept_at : (ticket : ℕ) (first : Seated) → Guards r.callers ticket before after true → before.known.local.met ≡ first.known.local.met → IsAtImage o r after held → IsUnrefused o r ticket first after held
  kept_at ticket first guards met at = record { at_image = at; guarded = guards.0; met = guards.1.met ∙ met }

  -- through a copy, after which the shared right is given back
  pub copied_image : (q : ℕ) → unchanged_by_listed_copy after ≡ without_shared (unchanged_by_listed_copy before) → others before.known.local ≡ record no_others { shared = Some q } → IsHeld (o.line_count r.object) r (o.lawful r.object) (o.step r.object) after held → IsHeldImage (o.line_count r.object) (o.lawful r.object) r.base (o.step r.object) after.known → IsAtImage o r after held
  copied_image q same was held image =
      let shared : after.known.local.shared ≡ None = none_of except_loads after.known.local.shared (ap (λ (s : Seated). s.known.local.shared) same) in
      let rest : Seated → Others = λ s. record (others s.known.local) { shared = None } in
      record {
        is_held = held;
        image = image;
        alone = ap (λ (o : Option HeldShared). (let x : Others = record (others after.known.local) { shared = option_map (λ (h : HeldShared). h.replica) o } in x)) shared
            ∙ ap rest same
            ∙ ap (λ (o : Others). (let x : Others = record o { shared = None } in x)) was;
      }

module _ {O : Type 0} (o : Ghosts O) (r : Running O) (before after : Seated) (held : Right) where
  -- what is known once CUR was loaded
  pub seen_current : (found : ℕ) → Steps r o.step o.only_reads LoadCur found before after → IsAtImage o r before held → SeesCurrentReplica o r before after held
  seen_current found s was =
      let accesses : after.known.accesses ≡ before.known.accesses = ap (λ (t : Seated). t.known.accesses) s.made in
      let has : has_of after.known ≡ has_of before.known = ap (λ (t : Seated). has_of t.known) s.made ∙ ap (λ ns. has_of (record before.known { noted = ns })) (append-nil before.known.noted) in
      let cur : after.known.local.seen_cur ≡ found = ap (λ (t : Seated). t.known.local.seen_cur) s.made in
      record {
        at_image = record {
          is_held = held_same o r before after held s.seat (ap (λ (t : Seated). t.known.local.exclusive) s.made) (ap (λ (t : Seated). t.known.local.number) s.made) has accesses was.is_held;
          image = image_same (o.line_count r.object) (o.lawful r.object) r.base (o.step r.object) before.known after.known has accesses was.image;
          alone = ap (λ (t : Seated). others t.known.local) s.made ∙ was.alone;
        };
        apart = λ e. s.found_word.apart (was.is_held.right.holds ∙ ap Some (e ∙ ap (root_replica_of r.callers) cur));
        fresh = ap (λ (t : Seated). t.known.local.fresh) s.made;
        protection = ap (λ (t : Seated). t.known.local.protection) s.made;
        accesses = accesses;
        met = ap (λ (t : Seated). t.known.local.met) s.made;
      }
