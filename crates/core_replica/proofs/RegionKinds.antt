-- Each kind of step keeps the part on regions, with the history as it is.
use Rattle.std.proofs.Common.{◌≡◌, ◌≢◌, ◌*◌, ◌==◌, ◌<◌, inl, inr, ℕ, nat_lt, Bool, true, false, cond, List, [], ◌∷◌, ◌++◌, Some, None, length, set, slice_index, refl, ap, sym, subst, ◌∙◌, arith}
use Rattle.std.proofs.lemmas.Bool.{cases_Bool, cases_eq, eqb-true}
use Rattle.std.proofs.lemmas.List.{get_or-set_other, get_or-set_same, length-set, set-get_or}
use Rattle.std.proofs.lemmas.List.Elements.{All-filter, All-nil, All-push}
use Rattle.std.proofs.lemmas.Option.{same_Some, none-some, slice_get_within}
use Rattle.std.specs.List.{All, Contains, slice_get}
use Rattle.std.specs.Option.{option_map}
use Rattle.cx_core.specs.declared.entry.Entry.{Entry}
use Rattle.cx_core.specs.declared.kinds.Kind.{Kind}
use Rattle.cx_core.specs.declared.kinds.Kind.TheVariants.{Link, TryExclusive, TryShared, BackOff, Downgrade, ReleaseExclusive, LoadWord, StoreWord, Persist, Publish}
use Rattle.cx_core.specs.declared.local.HeldExclusive.{HeldExclusive}
use Rattle.cx_core.specs.declared.local.HeldShared.{HeldShared}
use Rattle.cx_core.specs.declared.local.Local.{Local}
use Rattle.cx_core.specs.Events.{Guard, found_by, local_after, new_word, words_after}
use Rattle.cx_core.specs.Lawful.{Shape}
use Rattle.cx_core.specs.History.{IsFull}
use Rattle.cx_core.specs.LawfulLocks.{Locks, total}
use Rattle.cx_core.specs.LawfulRegions.{HasLoaded, HasWords, IsReplicaImage, Regions, vol_word}
use Rattle.cx_core.specs.Layout.{lock_at, per_at, replica_words, vol_at}
use Rattle.cx_core.specs.LockEvents.{CanGiveUp, exclusive_mark, passing, refused_by, shared_by, taken, with_number}
use Rattle.cx_core.specs.QueueEvents.{linked, lost, seen_word}
use Rattle.cx_core.specs.RootEvents.{outrun, published}
use Rattle.cx_core.specs.RegionEvents.{loaded_into, persisted, stored_into}
use Rattle.cx_core.specs.Rights.{exclusive_on, held_dirty, held_words, holds, is_at, shared_on}
use Rattle.cx_core.specs.State.{Instance, Scene, one_more}
use Rattle.cx_core.proofs.LayoutLemmas.{per_within, vol_within}
use Rattle.cx_core.proofs.ListLemmas.{slice_get-set_same}
use Rattle.cx_core.proofs.Locals.{item_after}
use Rattle.cx_core.proofs.Putting.{either}
use Rattle.core_replica.specs.Frames.{OffRegions, SameHeld}
use Rattle.cx_core.proofs.Claims.{held_alone, held_below, holds_one, shared_alone, shared_below, unheld_none}
use Rattle.cx_core.proofs.HeldLists.{All-with, Contains-filter, Contains-still, Contains-with, is_none, mapped, other_passes}
use Rattle.core_replica.proofs.RegionLaws.{SameReplica, image_given, image_same, loaded_same, regions_framed, regions_local, regions_shared, regions_words, same_off, unheld_before, words_same}
use Rattle.cx_core.proofs.StepWords.{step_low}
use Rattle.cx_core.proofs.ReplicaWords.{length-replica, per_apart, replica_at, vol_apart, vol_per_apart}
use Rattle.cx_core.proofs.Sums.{total_member, total_parts}

module _ (instance : Instance) (history : List Entry) (scene : Scene) (locals : List Local) (caller : ℕ) (l : Local) (shape : Shape instance scene.words locals)
    (locks : Locks instance.callers scene.words locals) (regions : Regions instance history scene.words locals) (at : slice_get locals caller ≡ Some l) where
  abbrev callers : ℕ
  callers = instance.callers

  abbrev region : ℕ
  region = length instance.base.words

  abbrev After : Kind → Type 0
  After kind = Regions instance history (words_after instance kind l scene.words) (set locals caller (local_after instance scene kind l))

  -- a step apart from regions
  framed : (place v : ℕ) (l' : Local) → OffRegions instance place → SameHeld l l' → Regions instance history (set scene.words place v) (set locals caller l')
  framed place v l' off same = regions_framed instance history scene.words locals place v caller l l' regions at off same

  -- a step on a lock word
  lock_off : (r v : ℕ) → r < 2 * callers → Regions instance history (set scene.words (lock_at callers r) v) locals
  lock_off r v small = regions_words instance history scene.words (set scene.words (lock_at callers r) v) locals (λ q. same_off instance scene.words (lock_at callers r) v q (omega arith)) regions

  -- a replica taken exclusively, whose lock word was 0, so nobody held it
  exclusive_won : (r : ℕ) → r < 2 * callers → l.exclusive ≡ None → slice_index scene.words (lock_at callers r) ≡ 0 →
      Regions instance history (set scene.words (lock_at callers r) exclusive_mark) (set locals caller (taken instance scene r l))
  exclusive_won r small none zero_ =
      let words' = set scene.words (lock_at callers r) exclusive_mark in
      let l' = taken instance scene r l in
      let same = same_off instance scene.words (lock_at callers r) exclusive_mark r (omega arith) in
      let word = locks.each r small in
      let parts = total_parts callers r locals in
      let nobody : total (holds r) locals ≡ 0 = omega (arith, word.counted) in
      let image = regions.unheld r small (unheld_none locals r nobody) in
      let h : HeldExclusive = record { replica = r; words = replica_words callers region scene.words r; dirty = [] } in
      let here : HasWords instance words' h = record {
        long = length-replica callers region scene.words r small shape.long;
        vol = λ i below. same.vol i below ∙ sym (replica_at callers region scene.words r i below);
        per = λ i below _. same.per i below ∙ image.per i below ∙ sym (image.vol i below) ∙ sym (replica_at callers region scene.words r i below);
        dirty = All-nil (λ i. i < region);
      } in
      let kept = lock_off r exclusive_mark small in
      regions_local instance history words' locals caller l l' kept at
      (λ q q_small free. kept.unheld q q_small (unheld_before locals caller l l' q at (λ held. absurd (none-some q (sym (ap (option_map (λ (x : HeldExclusive). x.replica)) none) ∙ held))) free))
      (λ x has. subst (HasWords instance words') (same_Some h x has) here)
      (kept.loaded caller l at)

  try_exclusive_kept : (r : ℕ) → Guard instance scene (TryExclusive r) l → After (TryExclusive r)
  try_exclusive_kept r guard =
      let place = lock_at callers r in
      let found = slice_index scene.words place in
      let P : Bool → Type 0 = λ b. Regions instance history (set scene.words place (cond b exclusive_mark found)) (set locals caller (cond b (taken instance scene r l) (refused_by callers r l found))) in
      let small = guard.0 in
      elim (cases_Bool (found == 0)) [
        | inl e ↦ subst P (sym e) (exclusive_won r small (is_none l.exclusive guard.1) (eqb-true found 0 e))
        | inr e ↦ subst P (sym e) (framed place found (refused_by callers r l found) (omega arith) (record { exclusive = refl; shared = refl }))
      ]

  try_shared_kept : (r : ℕ) → Guard instance scene (TryShared r) l → After (TryShared r)
  try_shared_kept r guard =
      let place = lock_at callers r in
      let found = slice_index scene.words place in
      let v = new_word instance (TryShared r) l found in
      let small = guard.0 in
      let h : HeldShared = record { replica = r; loaded = [] } in
      let Was : ℕ × ℕ → Type 0 = λ x. (x.0 < region) × (vol_word instance (set scene.words place v) r x.0 ≡ x.1) in
      elim (nat_lt found exclusive_mark) as (λ b. Regions instance history (set scene.words place v) (set locals caller (cond b (shared_by r l found) (passing callers r l found)))) [
        | true ↦ regions_shared instance history (set scene.words place v) locals caller l (shared_by r l found) (lock_off r v small) at refl
            (λ x has. subst (HasLoaded instance (set scene.words place v)) (same_Some h x has) (All-nil Was))
        | false ↦ framed place v (passing callers r l found) (omega arith) (record { exclusive = refl; shared = refl })
      ]

  back_off_kept : (r : ℕ) → Guard instance scene (BackOff r) l → After (BackOff r)
  back_off_kept r guard =
      let place = lock_at callers r in
      let v = new_word instance (BackOff r) l (slice_index scene.words place) in
      let small = guard.0 in
      let put = λ (x : Local). Regions instance history (set scene.words place v) (set locals caller x) in
      let a = record l { shared = None; steps = one_more l.steps } in
      let b = record l { passer = None; steps = one_more l.steps } in
      let d = record l { downgraded = None; steps = one_more l.steps } in
      elim (is_at r (shared_on l)) as (λ t. put (cond t a (cond (is_at r l.passer) b d))) [
        | true ↦ regions_shared instance history (set scene.words place v) locals caller l a (lock_off r v small) at refl (λ x has. absurd (none-some x has))
        | false ↦ elim (is_at r l.passer) as (λ t. put (cond t b d)) [
          | true ↦ framed place v b (omega arith) (record { exclusive = refl; shared = refl })
          | false ↦ framed place v d (omega arith) (record { exclusive = refl; shared = refl })
        ]
      ]

  -- an exclusive right that ends on a clean replica which is the full image after its place
  given_up : (r v : ℕ) (l' : Local) → r < 2 * callers → exclusive_on l ≡ Some r → held_dirty l.exclusive ≡ [] → IsFull instance history (held_words l.exclusive) → l'.exclusive ≡ None → l'.shared ≡ l.shared →
      Regions instance history (set scene.words (lock_at callers r) v) (set locals caller l')
  given_up r v l' small held clean full none shared =
      let words' = set scene.words (lock_at callers r) v in
      let kept = lock_off r v small in
      let m = mapped (λ (x : HeldExclusive). x.replica) l.exclusive r held in
      let h = m.0 in
      let has : l.exclusive ≡ Some h = m.1 in
      let image = image_given instance history scene.words h shape.long (regions.held caller l at h has)
      (sym (ap held_dirty has) ∙ clean) (subst (λ o. IsFull instance history (held_words o)) has full) in
      let here : IsReplicaImage instance history words' r = image_same instance history scene.words words' r (same_off instance scene.words (lock_at callers r) v r (omega arith)) (subst (IsReplicaImage instance history scene.words) m.2 image) in
      regions_local instance history words' locals caller l l' kept at
      (λ q q_small free. elim (cases_eq q r) [
        | inl e ↦ subst (IsReplicaImage instance history words') (sym e) here
        | inr ne ↦ kept.unheld q q_small (unheld_before locals caller l l' q at (λ on. absurd (ne (same_Some q r (sym on ∙ held)))) free)
      ])
      (λ x some. absurd (none-some x (sym none ∙ some)))
      (λ x some. kept.loaded caller l at x (sym shared ∙ some))

  -- a word of a replica that is held exclusively
  held_put : (words' : List ℕ) (l' : Local) (h k : HeldExclusive) → l.exclusive ≡ Some h → l'.exclusive ≡ Some k → k.replica ≡ h.replica → l'.shared ≡ l.shared →
      ((q : ℕ) → q < 2 * callers → q ≢ h.replica → SameReplica instance scene.words words' q) → HasWords instance words' k → Regions instance history words' (set locals caller l')
  held_put words' l' h k has has' same shared else here =
      let within = slice_get_within locals caller l at in
      let old_on : exclusive_on l ≡ Some h.replica = ap (option_map (λ (x : HeldExclusive). x.replica)) has in
      let new_on : exclusive_on l' ≡ Some h.replica = ap (option_map (λ (x : HeldExclusive). x.replica)) has' ∙ ap Some same in
      let apart_shared : (d : ℕ) (x : Local) (s : HeldShared) → slice_get locals d ≡ Some x → x.shared ≡ Some s → s.replica ≢ h.replica = λ d x s there is e. (
      let none : total (holds h.replica) locals ≡ 0 = ap (λ n. total (holds n) locals) (sym e) ∙ shared_alone callers scene.words locals locks d x s there is in
      let member = total_member (holds h.replica) locals caller l at in
      omega (arith, none, member, holds_one l h has)) in
      let loaded : (d : ℕ) (x : Local) (s : HeldShared) → slice_get locals d ≡ Some x → x.shared ≡ Some s → HasLoaded instance words' s = λ d x s there is.
      loaded_same instance scene.words words' s (else s.replica (shared_below callers scene.words locals locks d x s there is) (apart_shared d x s there is)) (regions.loaded d x there s is) in
      record {
        unheld = λ q small nobody. (
            let ne : q ≢ h.replica = λ e. nobody caller l' (slice_get-set_same locals caller l' within) (new_on ∙ ap Some (sym e)) in
            image_same instance history scene.words words' q (else q small ne) (regions.unheld q small (unheld_before locals caller l l' q at (λ on. new_on ∙ sym old_on ∙ on) nobody)));
        held = λ d x there y is. elim (item_after locals caller d l' x within there) [
          | inl e ↦ subst (HasWords instance words') (same_Some k y (sym has' ∙ ap (λ (z : Local). z.exclusive) e.1 ∙ is)) here
          | inr other ↦ words_same instance scene.words words' y
              (else y.replica (held_below callers scene.words locals locks d x y other.1 is) (held_alone callers scene.words locals locks caller d l x h y at has other.1 is other.0)) (regions.held d x other.1 y is)
        ];
        loaded = λ d x there s is. elim (item_after locals caller d l' x within there) [
          | inl e ↦ loaded caller l s at (sym shared ∙ ap (λ (z : Local). z.shared) e.1 ∙ is)
          | inr other ↦ loaded d x s other.1 is
        ];
      }

  -- where the word `i` of the replica held exclusively is stored, and the right notes the store, the part on regions is kept
  store_kept : (i v : ℕ) (l' : Local) (h : HeldExclusive) → i < region → l.exclusive ≡ Some h → l'.exclusive ≡ Some (stored_into i v h) → l'.shared ≡ l.shared →
      Regions instance history (set scene.words (vol_at callers region h.replica i) v) (set locals caller l')
  store_kept i v l' h below has has' shared =
      let r = h.replica in
      let place = vol_at callers region r i in
      let words' = set scene.words place v in
      let old = regions.held caller l at h has in
      let small = held_below callers scene.words locals locks caller l h at has in
      let within : place < length scene.words = omega (arith, shape.long, vol_within callers region r i small below) in
      held_put words' l' h (stored_into i v h) has has' refl shared
      (λ q _ ne. record {
        place = get_or-set_other scene.words place (vol_at callers region q 0) v 0 (vol_apart callers region q r 0 i (omega arith) below (inl ne));
        vol = λ j j_below. get_or-set_other scene.words place (vol_at callers region q j) v 0 (vol_apart callers region q r j i j_below below (inl ne));
        per = λ j j_below. get_or-set_other scene.words place (per_at callers region q j) v 0 (λ e. vol_per_apart callers region r q i j small below (sym e));
      })
      (record {
        long = length-set h.words i v ∙ old.long;
        vol = λ j j_below. elim (cases_eq j i) [
          | inl e ↦ subst (λ n. vol_word instance words' r n ≡ slice_index (set h.words i v) n) (sym e)
              (get_or-set_same scene.words place v 0 within ∙ sym (get_or-set_same h.words i v 0 (omega (arith, old.long))))
          | inr ne ↦ get_or-set_other scene.words place (vol_at callers region r j) v 0 (vol_apart callers region r r j i j_below below (inr ne)) ∙ old.vol j j_below ∙ sym (get_or-set_other h.words i j v 0 ne)
        ];
        per = λ j j_below clean. (
            let ne : j ≢ i = λ e. clean (subst (Contains (with_number h.dirty i)) (sym e) (Contains-with h.dirty i)) in
            get_or-set_other scene.words place (per_at callers region r j) v 0 (λ e. vol_per_apart callers region r r i j small below (sym e))
            ∙ old.per j j_below (λ there. clean (Contains-still h.dirty i j there)) ∙ sym (get_or-set_other h.words i j v 0 ne));
        dirty = All-with (λ n. n < region) h.dirty i old.dirty below;
      })

  -- where the word `i` of the replica held exclusively is persisted, and the right notes it as such, the part on regions is kept
  persist_kept : (i : ℕ) (l' : Local) (h : HeldExclusive) → i < region → l.exclusive ≡ Some h → l'.exclusive ≡ Some (persisted i h) → l'.shared ≡ l.shared →
      Regions instance history (set scene.words (per_at callers region h.replica i) (slice_index h.words i)) (set locals caller l')
  persist_kept i l' h below has has' shared =
      let r = h.replica in
      let v = slice_index h.words i in
      let place = per_at callers region r i in
      let words' = set scene.words place v in
      let old = regions.held caller l at h has in
      let small = held_below callers scene.words locals locks caller l h at has in
      let within : place < length scene.words = omega (arith, shape.long, per_within callers region r i small below) in
      let vol : (q j : ℕ) → q < 2 * callers → j < region → vol_word instance words' q j ≡ vol_word instance scene.words q j = λ q j q_small j_below.
      get_or-set_other scene.words place (vol_at callers region q j) v 0 (vol_per_apart callers region q r j i q_small j_below) in
      held_put words' l' h (persisted i h) has has' refl shared
      (λ q q_small ne. record {
        place = vol q 0 q_small (omega arith);
        vol = λ j j_below. vol q j q_small j_below;
        per = λ j j_below. get_or-set_other scene.words place (per_at callers region q j) v 0 (per_apart callers region q r j i j_below below (inl ne));
      })
      (record {
        long = old.long;
        vol = λ j j_below. vol r j small j_below ∙ old.vol j j_below;
        per = λ j j_below clean. elim (cases_eq j i) [
          | inl e ↦ subst (λ n. slice_index words' (per_at callers region r n) ≡ slice_index h.words n) (sym e) (get_or-set_same scene.words place v 0 within)
          | inr ne ↦ get_or-set_other scene.words place (per_at callers region r j) v 0 (per_apart callers region r r j i j_below below (inr ne))
              ∙ old.per j j_below (λ there. clean (Contains-filter (λ x. cond (x == i) false true) h.dirty j there (other_passes i j ne)))
        ];
        dirty = All-filter (λ x. cond (x == i) false true) (λ n. n < region) h.dirty old.dirty;
      })

  -- a word loaded from a replica held shared is there
  load_kept : (r i : ℕ) (l' : Local) → i < region → l'.exclusive ≡ l.exclusive → l'.shared ≡ option_map (loaded_into r i (vol_word instance scene.words r i)) l.shared →
      Regions instance history (set scene.words (vol_at callers region r i) (vol_word instance scene.words r i)) (set locals caller l')
  load_kept r i l' below exclusive shared =
      let found = vol_word instance scene.words r i in
      subst (λ ws. Regions instance history ws (set locals caller l')) (sym (set-get_or scene.words (vol_at callers region r i) 0))
      (regions_shared instance history scene.words locals caller l l' regions at exclusive (λ s is. (
      let m = mapped (loaded_into r i found) l.shared s (sym shared ∙ is) in
      let Was : ℕ × ℕ → Type 0 = λ x. (x.0 < region) × (vol_word instance scene.words m.0.replica x.0 ≡ x.1) in
      let old = regions.loaded caller l at m.0 m.1 in
      subst (HasLoaded instance scene.words) m.2 (elim (cases_Bool (m.0.replica == r)) [
        | inl e ↦ subst (λ b. All Was (cond b (m.0.loaded ++ (i, found) ∷ []) m.0.loaded)) (sym e)
            (All-push Was m.0.loaded (i, found) old (below, ap (λ q. vol_word instance scene.words q i) (eqb-true m.0.replica r e)))
        | inr e ↦ subst (λ b. All Was (cond b (m.0.loaded ++ (i, found) ∷ []) m.0.loaded)) (sym e) old
      ]))))

  -- where the exclusive right on the replica `r` is released, with clean words that are a full image, the part on regions is kept
  given_kept : (r v : ℕ) (l' : Local) → scene.history ≡ history → CanGiveUp instance scene r l → l'.exclusive ≡ None → l'.shared ≡ l.shared → Regions instance history (set scene.words (lock_at callers r) v) (set locals caller l')
  given_kept r v l' same guard none shared =
      given_up r v l' guard.0.0 guard.0.1 guard.0.3 (subst (λ h. IsFull instance h (held_words l.exclusive)) same guard.1) none shared

  -- a step that stores `v` into the word `i` of the replica `r` keeps the part on regions
  store_word_kept : (r i v : ℕ) → Guard instance scene (StoreWord r i v) l → After (StoreWord r i v)
  store_word_kept r i v guard =
      let l' = local_after instance scene (StoreWord r i v) l in
      let m = mapped (λ (x : HeldExclusive). x.replica) l.exclusive r guard.2 in
      subst (λ q. Regions instance history (set scene.words (vol_at callers region q i) v) (set locals caller l')) m.2
      (store_kept i v l' m.0 guard.1 m.1 (ap (option_map (stored_into i v)) m.1) refl)

  persist_word_kept : (r i : ℕ) → Guard instance scene (Persist r i) l → After (Persist r i)
  persist_word_kept r i guard =
      let l' = local_after instance scene (Persist r i) l in
      let m = mapped (λ (x : HeldExclusive). x.replica) l.exclusive r guard.0.2 in
      let word : slice_index (held_words l.exclusive) i ≡ slice_index m.0.words i = ap (λ o. slice_index (held_words o) i) m.1 in
      subst (λ q. Regions instance history (set scene.words (per_at callers region q i) (slice_index (held_words l.exclusive) i)) (set locals caller l')) m.2
      (subst (λ v. Regions instance history (set scene.words (per_at callers region m.0.replica i) v) (set locals caller l')) (sym word)
      (persist_kept i l' m.0 guard.0.1 m.1 (ap (option_map (persisted i)) m.1) refl))

-- an allowed step of any kind keeps the part on regions
pub regions_kept : (instance : Instance) (history : List Entry) (scene : Scene) (locals : List Local) (caller : ℕ) (l : Local) (kind : Kind) → Shape instance scene.words locals → Locks instance.callers scene.words locals →
    Regions instance history scene.words locals → scene.history ≡ history → slice_get locals caller ≡ Some l → Guard instance scene kind l →
    Regions instance history (words_after instance kind l scene.words) (set locals caller (local_after instance scene kind l))
regions_kept instance history scene locals caller l (TryExclusive r) shape locks regions same at guard = try_exclusive_kept instance history scene locals caller l shape locks regions at r guard
regions_kept instance history scene locals caller l (TryShared r) shape locks regions same at guard = try_shared_kept instance history scene locals caller l shape locks regions at r guard
regions_kept instance history scene locals caller l (BackOff r) shape locks regions same at guard = back_off_kept instance history scene locals caller l shape locks regions at r guard
regions_kept instance history scene locals caller l (Downgrade r) shape locks regions same at guard = given_kept instance history scene locals caller l shape locks regions at r _ _ same guard refl refl
regions_kept instance history scene locals caller l (ReleaseExclusive r) shape locks regions same at guard = given_kept instance history scene locals caller l shape locks regions at r _ _ same guard refl refl
regions_kept instance history scene locals caller l (LoadWord r i refused) shape locks regions same at guard = load_kept instance history scene locals caller l shape locks regions at r i _ guard.0.1 refl refl
regions_kept instance history scene locals caller l (StoreWord r i v) shape locks regions same at guard = store_word_kept instance history scene locals caller l shape locks regions at r i v guard
regions_kept instance history scene locals caller l (Persist r i) shape locks regions same at guard = persist_word_kept instance history scene locals caller l shape locks regions at r i guard
regions_kept instance history scene locals caller l (Link j) shape locks regions same at guard =
    framed instance history scene locals caller l shape locks regions at _ _ _ (step_low instance scene scene.words locals caller l shape at (Link j) guard) (either (SameHeld l) (found_by instance (Link j) l scene.words == seen_word l.seen_slot) (linked l j) (lost instance.callers l (found_by instance (Link j) l scene.words)) (record { exclusive = refl; shared = refl }) (record { exclusive = refl; shared = refl }))
regions_kept instance history scene locals caller l Publish shape locks regions same at guard =
    framed instance history scene locals caller l shape locks regions at _ _ _ (step_low instance scene scene.words locals caller l shape at Publish guard) (either (SameHeld l) (found_by instance Publish l scene.words == l.seen_cur) (published instance.callers l) (outrun instance.callers l (found_by instance Publish l scene.words)) (record { exclusive = refl; shared = refl }) (record { exclusive = refl; shared = refl }))
regions_kept instance history scene locals caller l kind shape locks regions same at guard =
    framed instance history scene locals caller l shape locks regions at _ _ _ (step_low instance scene scene.words locals caller l shape at kind guard) (record { exclusive = refl; shared = refl })
