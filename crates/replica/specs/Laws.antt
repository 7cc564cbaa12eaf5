-- What follows for a replica held exclusively from the steps that take it, and from those that note more of entries.
use Rattle.std.specs.Prelude.{◌≡◌, ◌<◌, ℕ, Bool, cond, All, List, [], refl, Option, Some, None}
use Rattle.std.proofs.Common.{ap, sym, subst, ◌∙◌, eq-eqb}
use Rattle.std.proofs.lemmas.List.Elements.{All-nil}
use Rattle.std.proofs.lemmas.Option.{none-some}
use Rattle.std.specs.Option.{option_map}
use Rattle.cx_base.specs.declared.object.Object.{Ghosts}
use Rattle.cx_core.specs.declared.entry.Base.{Base}
use Rattle.cx_core.specs.declared.kinds.Kind.TheVariants.{TryExclusive}
use Rattle.cx_core.specs.declared.local.HeldShared.{HeldShared}
use Rattle.cx_core.specs.declared.local.Local.{Local}
use Rattle.cx_core.specs.LockEvents.{refused_by, taken}
use Rattle.cx_core.specs.Region.{region_words}
use Rattle.cx_core.specs.Rights.{held_dirty, shared_on}
use Rattle.table_invariant.specs.declared.rule.Known.{Known}
use Rattle.table_invariant.specs.Fitting.{Fitting, FitsOn, ReplayedTo, SomeFits, SomeReadFits, has_of, loaded_of}
use Rattle.table_invariant.specs.Running.{IsSeatOf, Running, instance_at}
use Rattle.table_invariant.specs.Seats.{Seated, place_noted, unseen}
use Rattle.table_invariant.specs.Steps.{Steps}
use Rattle.table_invariant.proofs.HasMore.{HasMore, fits_more, replayed_more}
use Rattle.cx_table.specs.Right.{Right}
use Rattle.cx_table.specs.Tokens.{IsSharedOf, TriedExclusive}
use Rattle.replica.specs.Held.{IsHeld, IsHeldShared, IsSized}
use Rattle.replica.specs.Regions.{HasPlace}
use Rattle.replica.specs.Replays.{IsHeldImage}

-- a replica that was just taken is held, and nothing of it is noted
pub record IsTaken {O : Type 0} (lines : ℕ) (r : Running O) (lawful : List ℕ → Type 0) (step : List ℕ → List ℕ → List ℕ × List ℕ) (seat : Seated) (held : Right) : Type 0 where
  pub is_held : IsHeld lines r lawful step seat held
  pub none : seat.known.accesses ≡ []
  pub clean : held_dirty seat.known.local.exclusive ≡ []

-- `IsTaken` with the lines, the lawful words and the step of a store
abbrev pub IsTakenIn : {O : Type 0} → Ghosts O → Running O → Seated → Right → Type 0
IsTakenIn o r = IsTaken (o.line_count r.object) r (o.lawful r.object) (o.step r.object)

-- where a caller's try of a replica found its lock free, the caller holds the replica exclusively, with nothing noted of it and no word dirty
pub taken_held : {O : Type 0} (lines : ℕ) (r : Running O) (step : O → List ℕ → List ℕ → List ℕ × List ℕ) (reads : O → List ℕ → Bool) (lawful : List ℕ → Type 0) (q found : ℕ) (before after : Seated) (held : Right) →
    IsSized lines r → Steps r step reads (TryExclusive q) found before after → TriedExclusive r.callers q after found (Some held) → Fitting r.lines lawful r.base (step r.object) after.known → IsTaken lines r lawful (step r.object) after held
taken_held lines r step reads lawful q found before after held sized s tried fits =
    let clean : held_dirty after.known.local.exclusive ≡ [] =
    ap (λ (t : Seated). held_dirty t.known.local.exclusive) s.made
    ∙ ap (λ b. held_dirty (let l : Local = cond b (taken (instance_at r step reads) unseen q before.known.local) (refused_by r.callers q before.known.local found) in l).exclusive) (eq-eqb found 0 tried.0) in
    record {
      is_held = record {
        sized = sized;
        of = s.seat;
        right = tried.2;
        some = subst (λ n. SomeFits n lawful r.base (step r.object) after.known) sized.lines_are fits.exclusive;
        dirty = subst (All (λ i. i < region_words lines)) (sym clean) (All-nil (λ i. i < region_words lines));
      };
      none = ap (λ (t : Seated). t.known.accesses) s.made;
      clean = clean;
    }

-- what fits the words loaded of the replica held shared
pub fitting_shared : {O : Type 0} (r : Running O) (lawful : List ℕ → Type 0) (step : O → List ℕ → List ℕ → List ℕ × List ℕ) (known : Known) (q : ℕ) → shared_on known.local ≡ Some q → Fitting r.lines lawful r.base (step r.object) known → SomeReadFits r.lines lawful r.base (loaded_of known.local.shared)
fitting_shared r lawful step known q holds fits = by known.local.shared refl holds
  where
    by : (o : Option HeldShared) → known.local.shared ≡ o → option_map (λ (h : HeldShared). h.replica) o ≡ Some q → SomeReadFits r.lines lawful r.base (loaded_of o)
    by None is there = absurd (none-some q there)
    by (Some h) is there = fits.shared h is

-- a replica is held whose shared right was handed out to this seat, where what is noted fits
pub shared_held : {O : Type 0} (lines : ℕ) (r : Running O) (lawful : List ℕ → Type 0) (step : O → List ℕ → List ℕ → List ℕ × List ℕ) (seat : Seated) (held : Right) → IsSized lines r → IsSeatOf r seat → IsSharedOf r.callers seat held → Fitting r.lines lawful r.base (step r.object) seat.known → IsHeldShared lines r lawful seat held
shared_held lines r lawful step seat held sized of right fits = record {
  sized = sized;
  of = of;
  right = right;
  some = subst (λ n. SomeReadFits n lawful r.base (loaded_of seat.known.local.shared)) sized.lines_are (fitting_shared r lawful step seat.known held.replica right.holds fits);
}

-- what is the image after its place stays so when more is had
pub image_more : (lines : ℕ) (lawful : List ℕ → Type 0) (base : Base) (step : List ℕ → List ℕ → List ℕ × List ℕ) (before after : Known) → HasMore (has_of before) (has_of after) → after.accesses ≡ before.accesses → IsHeldImage lines lawful base step before → IsHeldImage lines lawful base step after
image_more lines lawful base step before after more same image = record {
  begun = subst HasPlace (sym same) image.begun;
  replayed = λ first now f. replayed_more step (has_of before) (has_of after) more first (place_noted 0 after.accesses) now (
      subst (λ xs. ReplayedTo step (has_of before) first (place_noted 0 xs) now) (sym same) (
      image.replayed first now (fits_more lines lawful base step (has_of before) (has_of after) more before.accesses first now (subst (λ xs. FitsOn lines lawful base step (has_of after) xs first now) same f))));
}

-- what is the image after its place stays so where what is had and what is noted stay
pub image_same : (lines : ℕ) (lawful : List ℕ → Type 0) (base : Base) (step : List ℕ → List ℕ → List ℕ × List ℕ) (before after : Known) → has_of after ≡ has_of before → after.accesses ≡ before.accesses → IsHeldImage lines lawful base step before → IsHeldImage lines lawful base step after
image_same lines lawful base step before after has same image =
    image_more lines lawful base step before after (subst (HasMore (has_of before)) (sym has) (record { entry = λ t e had. had; set = λ t pairs had. had })) same image
