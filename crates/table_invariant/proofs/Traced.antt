-- Accesses lead on from a full image, whatever the step.
use Rattle.std.proofs.Common.{◌≡◌, ◌+◌, ◌-◌, ◌*◌, ◌==◌, ◌^◌, ◌<◌, ◌≤◌, ℕ, suc, nat_lt, Bool, true, false, cond, List, [], ◌∷◌, ◌++◌, length, set, slice_index, inl, inr, refl, ap, sym, subst, ◌∙◌, arith, Option, Some, None, length-append}
use Rattle.std.proofs.lemmas.Bool.{cases_Bool, eqb-true}
use Rattle.std.proofs.lemmas.Option.{none-some, same_Some}
use Rattle.std.specs.List.{slice_get}
use Rattle.std.specs.Option.{option_map}
use Rattle.cx_base.specs.Noted.{Note, load_leads, store_leads}
use Rattle.cx_core.specs.declared.entry.Entry.{Entry}
use Rattle.cx_core.specs.declared.kinds.Kind.{Kind}
use Rattle.cx_core.specs.declared.kinds.Kind.TheVariants.{Link, TryExclusive, TryShared, BackOff, Downgrade, ReleaseExclusive, LoadWord, StoreWord, Persist, Publish}
use Rattle.cx_core.specs.declared.local.HeldExclusive.{HeldExclusive}
use Rattle.cx_core.specs.declared.local.Local.{Local}
use Rattle.cx_core.specs.Events.{Guard, found_by, local_after}
use Rattle.cx_core.specs.History.{full_image}
use Rattle.cx_core.specs.Lawful.{Lawful}
use Rattle.cx_core.specs.LawfulLocks.{total}
use Rattle.cx_core.specs.LawfulRegions.{IsReplicaImage, vol_word}
use Rattle.cx_core.specs.Layout.{lock_at, replica_words, vol_at}
use Rattle.cx_core.specs.LockEvents.{exclusive_mark, passing, refused_by, shared_by, taken}
use Rattle.cx_core.specs.Merge.{IsLinked, scene_of}
use Rattle.cx_core.specs.RootEvents.{outrun, published}
use Rattle.cx_core.specs.QueueEvents.{linked, lost, seen_word}
use Rattle.cx_core.specs.Region.{place_of}
use Rattle.cx_core.specs.RegionEvents.{persisted, stored_into}
use Rattle.cx_core.specs.Rights.{exclusive_on, holds, is_at, shared_on}
use Rattle.cx_core.specs.Shown.{shown}
use Rattle.cx_core.specs.State.{Instance, State, one_more}
use Rattle.cx_core.proofs.HistoryLemmas.{full_stays}
use Rattle.cx_core.proofs.Locals.{slice_get-push}
use Rattle.cx_core.proofs.HeldLists.{at_true, is_none, mapped}
use Rattle.cx_core.proofs.Claims.{unheld_none}
use Rattle.cx_core.proofs.ReplicaWords.{length-replica, replica_at}
use Rattle.cx_core.proofs.Sums.{total_parts}
use Rattle.table_invariant.specs.declared.rule.Known.{Known}
use Rattle.table_invariant.specs.Rule.{AddsImage, AreImages, IsOrigin, IsTraced}
use Rattle.table_invariant.specs.Seats.{WordFits, accesses_after}

-- a list whose items another has at the same places is a front of it
longer : {X : Type 0} (xs ys : List X) → ((i : ℕ) (x : X) → slice_get xs i ≡ Some x → slice_get ys i ≡ Some x) → (more : List X) × (ys ≡ xs ++ more)
longer [] ys stays = (ys, refl)
longer (x ∷ xs) [] stays = absurd (none-some x (stays 0 x refl))
longer {X = X} (x ∷ xs) (y ∷ ys) stays =
    let rest = longer xs ys (λ i z at. stays (suc i) z at) in
    let first : y ≡ x = same_Some y x (stays 0 x refl) in
    (rest.0, ap (λ (z : X). z ∷ ys) first ∙ ap (λ (zs : List X). x ∷ zs) rest.1)

-- a history in which all stay linked goes on
pub goes_on : (place : ℕ) (history history' : List Entry) → ((ticket : ℕ) (entry : Entry) → IsLinked place history ticket entry → IsLinked place history' ticket entry) → (more : List Entry) × (history' ≡ history ++ more)
goes_on place history history' grows = longer history history' (λ i entry at. (
    let here : place + i - place ≡ i = omega arith in
    let now = grows (place + i) entry (record { from = omega arith; at = ap (slice_get history) here ∙ at }) in
    ap (slice_get history') (sym here) ∙ now.at))

pub origin_longer : (instance : Instance) (history history' : List Entry) (region : List ℕ) → ((ticket : ℕ) (entry : Entry) → IsLinked instance.base.place history ticket entry → IsLinked instance.base.place history' ticket entry) →
    IsOrigin instance history region → IsOrigin instance history' region
origin_longer instance history history' region grows origin =
    let more = goes_on instance.base.place history history' grows in
    let to = origin.to in
    let same : full_image instance.step instance.base history' (place_of region) ≡ full_image instance.step instance.base history (place_of region) =
    ap (λ h. full_image instance.step instance.base h (place_of region)) more.1 ∙ full_stays instance history more.0 (place_of region) to in
    let count : length history' ≡ length history + length more.0 = ap length more.1 ∙ length-append history more.0 in
    record {
      from = origin.from;
      to = omega arith;
      long = origin.long;
      words = λ i below. origin.words i below ∙ ap (λ ws. slice_index ws i) (sym same);
    }

pub traced_longer : (instance : Instance) (history history' : List Entry) (accesses : List Note) (l : Local) → ((ticket : ℕ) (entry : Entry) → IsLinked instance.base.place history ticket entry → IsLinked instance.base.place history' ticket entry) →
    IsTraced instance history accesses l → IsTraced instance history' accesses l
traced_longer instance history history' accesses l grows t =
    record { first = t.first; now = t.now; origin = origin_longer instance history history' t.first grows t.origin; leads = t.leads; held = t.held }

-- images that were taken are those of a longer history
pub images_longer : (instance : Instance) (history history' : List Entry) (images : List (List ℕ)) → ((ticket : ℕ) (entry : Entry) → IsLinked instance.base.place history ticket entry → IsLinked instance.base.place history' ticket entry) →
    AreImages instance history images → AreImages instance history' images
images_longer instance history history' images grows are = λ i words at. origin_longer instance history history' words grows (are i words at)

-- the images that were taken, and one more that is added, are those of a longer history
pub images_added : (instance : Instance) (history history' : List Entry) (images images' : List (List ℕ)) → ((ticket : ℕ) (entry : Entry) → IsLinked instance.base.place history ticket entry → IsLinked instance.base.place history' ticket entry) →
    AreImages instance history' images → AddsImage instance history images images' → AreImages instance history' images'
images_added instance history history' images images' grows are (inl same) = subst (AreImages instance history') (sym same) are
images_added instance history history' images images' grows are (inr one) = λ i words at. elim (slice_get-push images one.0 i words (ap (λ (xs : List (List ℕ)). slice_get xs i) (sym one.1) ∙ at)) [
  | inl was ↦ are i words was
  | inr new ↦ subst (IsOrigin instance history') new.1 (origin_longer instance history history' one.0 grows one.2)
]

-- a replica that is an image, as a list
pub image_origin : (instance : Instance) (s : State) (law : Lawful instance s) (r : ℕ) → r < 2 * instance.callers → 0 < length instance.base.words → IsReplicaImage instance law.history s.words r →
    IsOrigin instance law.history (replica_words instance.callers (length instance.base.words) s.words r)
image_origin instance s law r small some image =
    let region = length instance.base.words in
    let words = replica_words instance.callers region s.words r in
    let place : place_of words ≡ vol_word instance s.words r 0 = replica_at instance.callers region s.words r 0 some in
    record {
      from = subst (λ p. instance.base.place ≤ p) (sym place) image.from;
      to = subst (λ p. p ≤ instance.base.place + length law.history) (sym place) image.to;
      long = length-replica instance.callers region s.words r small law.shape.long;
      words = λ i below. replica_at instance.callers region s.words r i below ∙ image.vol i below ∙ ap (λ p. slice_index (full_image instance.step instance.base law.history p) i) (sym place);
    }

module _ (instance : Instance) (s : State) (law : Lawful instance s) (caller : ℕ) (l : Local) (at : slice_get s.locals caller ≡ Some l) (k : Known) (shows : k.local ≡ shown l) (traced : IsTraced instance law.history k.accesses l)
    (some : 0 < length instance.base.words) where
  abbrev Traced : List Note → Local → Type 0
  Traced accesses l' = IsTraced instance law.history accesses l'

  -- the accesses of a caller stay traced where its exclusive right, if any, stays
  same_held : (l' : Local) → l'.exclusive ≡ l.exclusive → Traced k.accesses l'
  same_held l' same = record { first = traced.first; now = traced.now; origin = traced.origin; leads = traced.leads; held = λ h has. traced.held h (sym same ∙ has) }

  -- the accesses of a caller stay traced where it has no exclusive right any more
  none_held : (l' : Local) → l'.exclusive ≡ None → Traced k.accesses l'
  none_held l' none = record { first = traced.first; now = traced.now; origin = traced.origin; leads = traced.leads; held = λ h has. absurd (none-some h (sym none ∙ has)) }

  begun : (l' : Local) → l'.exclusive ≡ None → Traced [] l'
  begun l' none = record { first = traced.first; now = traced.first; origin = traced.origin; leads = refl; held = λ h has. absurd (none-some h (sym none ∙ has)) }

  -- a replica taken, whose lock word was 0, so nobody held it
  begins : (r : ℕ) → r < 2 * instance.callers → slice_index s.words (lock_at instance.callers r) ≡ 0 → Traced [] (taken instance (scene_of instance s) r l)
  begins r small zero_ =
      let word = law.locks.each r small in
      let parts = total_parts instance.callers r s.locals in
      let nobody : total (holds r) s.locals ≡ 0 = omega (arith, word.counted) in
      let words = replica_words instance.callers (length instance.base.words) s.words r in
      let h : HeldExclusive = record { replica = r; words = words; dirty = [] } in
      record {
        first = words;
        now = words;
        origin = image_origin instance s law r small some (law.regions.unheld r small (unheld_none s.locals r nobody));
        leads = refl;
        held = λ x has. ap (λ (y : HeldExclusive). y.words) (same_Some h x has);
      }

  shown_on : exclusive_on k.local ≡ exclusive_on l
  shown_on = ap exclusive_on shows ∙ on l.exclusive
    where
      on : (o : Option HeldExclusive) → option_map (λ (h : HeldExclusive). h.replica) (option_map (λ (h : HeldExclusive). record h { words = [] }) o) ≡ option_map (λ (h : HeldExclusive). h.replica) o
      on None = refl
      on (Some h) = refl

  -- a word loaded of the replica held exclusively is the one that is there
  loads : (r i : ℕ) (l' : Local) → i < length instance.base.words → l'.exclusive ≡ l.exclusive →
      Traced (cond (is_at r (exclusive_on k.local)) (k.accesses ++ (false, i, slice_index s.words (vol_at instance.callers (length instance.base.words) r i)) ∷ []) k.accesses) l'
  loads r i l' below same =
      let found = slice_index s.words (vol_at instance.callers (length instance.base.words) r i) in
      let P : Bool → Type 0 = λ b. Traced (cond b (k.accesses ++ (false, i, found) ∷ []) k.accesses) l' in
      elim (cases_Bool (is_at r (exclusive_on k.local))) [
        | inl e ↦ subst P (sym e) (
            let held = mapped (λ (h : HeldExclusive). h.replica) l.exclusive r (sym shown_on ∙ at_true r (exclusive_on k.local) e) in
            let h = held.0 in
            let word : slice_index h.words i ≡ found = sym ((law.regions.held caller l at h held.1).vol i below) ∙ ap (λ q. vol_word instance s.words q i) held.2 in
            let now = traced.held h held.1 in
            record {
              first = traced.first;
              now = traced.now;
              origin = traced.origin;
              leads = load_leads k.accesses i found traced.first traced.now traced.leads (ap (λ ws. slice_index ws i) now ∙ word);
              held = λ x has. traced.held x (sym same ∙ has);
            })
        | inr e ↦ subst P (sym e) (same_held l' same)
      ]

  -- a store of `v` into the word `i` of the replica held exclusively leads the accesses on to the words of the replica with `v` there
  stores : (i v : ℕ) (l' : Local) → v < 2 ^ 64 → l'.exclusive ≡ option_map (stored_into i v) l.exclusive → Traced (k.accesses ++ (true, i, v) ∷ []) l'
  stores i v l' small is = record {
    first = traced.first;
    now = set traced.now i v;
    origin = traced.origin;
    leads = store_leads k.accesses i v traced.first traced.now small traced.leads;
    held = λ x has. (
        let from = mapped (stored_into i v) l.exclusive x (sym is ∙ has) in
        ap (λ ws. set ws i v) (traced.held from.0 from.1) ∙ ap (λ (y : HeldExclusive). y.words) from.2);
  }

  pub traced_next : (kind : Kind) → Guard instance (scene_of instance s) kind l → WordFits kind → Traced (accesses_after kind k (found_by instance kind l s.words)) (local_after instance (scene_of instance s) kind l)
  traced_next (Link j) guard small =
      let found = found_by instance (Link j) l s.words in
      elim (found == seen_word l.seen_slot) as (λ b. Traced k.accesses (cond b (linked l j) (lost instance.callers l found))) [ true ↦ same_held _ refl | false ↦ same_held _ refl ]
  traced_next (TryExclusive r) guard small =
      let found = found_by instance (TryExclusive r) l s.words in
      let P : Bool → Type 0 = λ b. Traced [] (cond b (taken instance (scene_of instance s) r l) (refused_by instance.callers r l found)) in
      elim (cases_Bool (found == 0)) [
        | inl e ↦ subst P (sym e) (begins r guard.0 (eqb-true found 0 e))
        | inr e ↦ subst P (sym e) (begun (refused_by instance.callers r l found) (is_none l.exclusive guard.1))
      ]
  traced_next (TryShared r) guard small =
      let found = found_by instance (TryShared r) l s.words in
      elim (nat_lt found exclusive_mark) as (λ b. Traced k.accesses (cond b (shared_by r l found) (passing instance.callers r l found))) [ true ↦ same_held _ refl | false ↦ same_held _ refl ]
  traced_next (BackOff r) guard small = backed (is_at r (shared_on l)) (is_at r l.passer)
    where
      backed : (a b : Bool) → Traced k.accesses (cond a (record l { shared = None; steps = one_more l.steps }) (cond b (record l { passer = None; steps = one_more l.steps }) (record l { downgraded = None; steps = one_more l.steps })))
      backed true b = same_held _ refl
      backed false true = same_held _ refl
      backed false false = same_held _ refl
  traced_next (Downgrade r) guard small = none_held _ refl
  traced_next (ReleaseExclusive r) guard small = none_held _ refl
  traced_next (LoadWord r i refused) guard small = loads r i _ guard.0.1 refl
  traced_next (StoreWord r i v) guard small = stores i v _ small refl
  traced_next (Persist r i) guard small = record {
    first = traced.first;
    now = traced.now;
    origin = traced.origin;
    leads = traced.leads;
    held = λ x has. (let from = mapped (persisted i) l.exclusive x has in traced.held from.0 from.1 ∙ ap (λ (y : HeldExclusive). y.words) from.2);
  }
  traced_next Publish guard small =
      let found = found_by instance Publish l s.words in
      elim (found == l.seen_cur) as (λ b. Traced k.accesses (cond b (published instance.callers l) (outrun instance.callers l found))) [ true ↦ same_held _ refl | false ↦ same_held _ refl ]
  traced_next kind guard small = same_held _ refl
