-- A replica over which another was copied, whose shared right was given back.
use Rattle.std.proofs.Common.{false, true, ◌≡◌, ◌+◌, ◌<◌, ℕ, Bool, cond, All, List, [], ◌∷◌, ◌++◌, append-nil, slice_index, refl, ap, sym, subst, ◌∙◌, arith, Some, None, Result, Ok, Err}
use Rattle.std.proofs.lemmas.List.Elements.{All-cons, All-contains, All-nil}
use Rattle.std.proofs.lemmas.Option.{none-some}
use Rattle.std.proofs.Math.Logic.{∥∥₁_elim}
use Rattle.std.proofs.Props.{props}
use Rattle.std.specs.List.{Contains}
use Rattle.cx_base.specs.declared.object.Object.{Ghosts}
use Rattle.cx_base.specs.Noted.{Note, NotesLead}
use Rattle.cx_core.specs.declared.entry.Base.{Base}
use Rattle.cx_core.specs.declared.local.Local.{Local}
use Rattle.cx_core.specs.LockEvents.{backed_off}
use Rattle.cx_core.specs.Region.{region_words}
use Rattle.cx_core.specs.Rights.{held_dirty, is_at, shared_on}
use Rattle.cx_core.specs.State.{one_more}
use Rattle.table_invariant.specs.Fitting.{Fitting, SomeFits, SomeReadFits, loaded_of, loads_of, word_noted}
use Rattle.table_invariant.specs.Running.{Running, StepsWithin}
use Rattle.table_invariant.specs.Seats.{IsAtLimit, Seated, StepsBy, place_noted}
use Rattle.table_invariant.specs.Steps.{Halts, StepsCopied}
use Rattle.table_invariant.proofs.Copying.{noted_place, noted_tells}
use Rattle.table_invariant.proofs.Stepping.{on_still, on_then, on_then_one}
use Rattle.caller_cache.specs.Copies.{IsCopiedWord}
use Rattle.cx_table.specs.Calls.{MakesFittingStep}
use Rattle.cx_table.specs.Right.{Right}
use Rattle.cx_table.specs.Tokens.{IsExclusiveOf}
use Rattle.replica.specs.Copies.{HaltsUnchanged, HoldsBoth, KeepsLoaded, KeepsCopied, Renews, unchanged_by_copy, without_shared}
use Rattle.replica.specs.Held.{IsHeld}
use Rattle.replica.specs.Replays.{IsHeldImage, StoresNone}
use Rattle.replica.proofs.Access.{at_itself}
use Rattle.replica.proofs.Replaying.{unstored_image}

-- words loaded are no stores
loads_store_none : (loaded : List (ℕ × ℕ)) → StoresNone (loads_of loaded)
loads_store_none [] = All-nil (λ (note : Note). note.0 ≡ false)
loads_store_none (x ∷ loaded) = All-cons (λ (note : Note). note.0 ≡ false) (false, x.0, x.1) (loads_of loaded) refl (loads_store_none loaded)

-- a place that was noted is the one noted last, whatever was known before
place_is : (accesses : List Note) (place v : ℕ) → word_noted None 0 accesses ≡ Some v → place_noted place accesses ≡ v
place_is accesses place v is = noted_place accesses place v None (λ w e. absurd (none-some w e)) is

-- each word loaded is the one that is there
loads_there : (loaded : List (ℕ × ℕ)) (first now : List ℕ) → NotesLead (loads_of loaded) first now → All (λ (x : ℕ × ℕ). slice_index first x.0 ≡ x.1) loaded
loads_there [] first now leads = All-nil (λ (x : ℕ × ℕ). slice_index first x.0 ≡ x.1)
loads_there (x ∷ loaded) first now leads = All-cons (λ (y : ℕ × ℕ). slice_index first y.0 ≡ y.1) x loaded leads.0 (loads_there loaded first now leads.1)

-- all loads of the place of a replica held shared give the same word
pub loaded_once : (lines : ℕ) (lawful : List ℕ → Type 0) (base : Base) (loaded : List (ℕ × ℕ)) (v p : ℕ) → SomeReadFits lines lawful base loaded → word_noted None 0 (loads_of loaded) ≡ Some v → Contains loaded (0, p) → v ≡ p
loaded_once lines lawful base loaded v p some last has = ∥∥₁_elim some (hlevel props) (λ f. (
    let first = f.0 in
    let fits = f.2.fits in
    let there = All-contains (λ (x : ℕ × ℕ). slice_index first x.0 ≡ x.1) loaded (0, p) (loads_there loaded first f.1 fits.leads) has in
    sym (noted_tells (region_words lines) (loads_of loaded) 0 v (omega arith) last first f.1 fits.origin.size.long fits.leads) ∙ ap (λ ws. slice_index ws 0) f.2.same ∙ there))

-- a shared right is given back by one step
pub released_steps : (q : ℕ) (l : Local) → (backed_off q l).steps ≡ one_more l.steps
released_steps q l = by (is_at q (shared_on l)) (is_at q l.passer)
  where
    by : (a b : Bool) → (cond a (record l { shared = None; steps = one_more l.steps }) (cond b (record l { passer = None; steps = one_more l.steps }) (record l { downgraded = None; steps = one_more l.steps }))).steps ≡ one_more l.steps
    by true b = refl
    by false true = refl
    by false false = refl

module _ {O : Type 0} (lines : ℕ) (r : Running O) (step : O → List ℕ → List ℕ → List ℕ × List ℕ) (reads : O → List ℕ → Bool) (lawful : List ℕ → Type 0) (held source : Right) (found : ℕ) (before after : Seated)
    (both : HoldsBoth lines r lawful (step r.object) before held source) (copied : StepsCopied r step reads source.replica found before after) where
  abbrev old : Local
  old = before.known.local

  left : backed_off source.replica old ≡ record old { shared = None; steps = one_more old.steps }
  left = ap (λ (b : Bool). cond b (record old { shared = None; steps = one_more old.steps }) (cond (is_at source.replica old.passer) (record old { passer = None; steps = one_more old.steps }) (record old { downgraded = None; steps = one_more old.steps })))
      (ap (is_at source.replica) both.shared.right.holds ∙ at_itself source.replica)

  pub renewed_held : IsExclusiveOf r.callers after held → Fitting r.lines lawful r.base (step r.object) after.known → IsHeld lines r lawful (step r.object) after held
  renewed_held right fits =
      let local : after.known.local ≡ record old { shared = None; steps = one_more old.steps } = ap (λ (s : Seated). s.known.local) copied.made ∙ left in
      record {
        sized = both.exclusive.sized;
        of = copied.seat;
        right = right;
        some = subst (λ n. SomeFits n lawful r.base (step r.object) after.known) both.exclusive.sized.lines_are fits.exclusive;
        dirty = subst (λ (l : Local). All (λ i. i < region_words lines) (held_dirty l.exclusive)) (sym local) both.exclusive.dirty;
      }

  -- the words copied are an image, at the place that was copied
  pub renewed_image : IsCopiedWord before.known 0 → IsHeldImage lines lawful r.base (step r.object) after.known × (place_noted 0 after.known.accesses ≡ place_noted 0 before.known.accesses)
  renewed_image first =
      let accesses : after.known.accesses ≡ loads_of (loaded_of old.shared) = ap (λ (s : Seated). s.known.accesses) copied.made in
      let noted : (p : ℕ) → place_noted p after.known.accesses ≡ first.0 = λ p. ap (place_noted p) accesses ∙ place_is (loads_of (loaded_of old.shared)) p first.0 first.2 in (
        unstored_image lines lawful r.base (step r.object) after.known (λ p. noted p ∙ sym (noted 0)) (subst StoresNone (sym accesses) (loads_store_none (loaded_of old.shared))),
        noted 0 ∙ sym (place_is before.known.accesses 0 first.0 first.1),
      )

  -- the place of the image that was copied is the one that was loaded of the replica held shared
  pub renewed_place : (p : ℕ) → IsCopiedWord before.known 0 → Contains (loaded_of old.shared) (0, p) → place_noted 0 after.known.accesses ≡ p
  renewed_place p first has =
      ap (λ (s : Seated). place_noted 0 s.known.accesses) copied.made ∙ place_is (loads_of (loaded_of old.shared)) 0 first.0 first.2 ∙ loaded_once lines lawful r.base (loaded_of old.shared) first.0 p both.shared.some first.2 has

-- a copy of which the words are those that the exclusive right then begins with, since the shared right was given back, renews
module _ {O : Type 0} (o : Ghosts O) (r : Running O) (held source : Right) (first mid last : Seated) (leaves : KeepsCopied o r held source first mid) where
  pub renewed : (found at : ℕ) → StepsCopied r o.step o.only_reads source.replica found mid last → IsExclusiveOf r.callers last held → Fitting r.lines (o.lawful r.object) r.base (o.step r.object) last.known → IsCopiedWord mid.known 0 → KeepsLoaded first mid → place_noted 0 mid.known.accesses ≡ at → Renews o r held at first last
  renewed found at released right fits word loaded place =
      let lines = o.line_count r.object in
      let lawful = o.lawful r.object in
      let both = leaves.both in
      let image = renewed_image lines r o.step o.only_reads lawful held source found mid last both released word in
      record {
        ready = record {
          is_held = renewed_held lines r o.step o.only_reads lawful held source found mid last both released right fits;
          image = image.0;
          place = image.1 ∙ place;
        };
        placed = λ p has. renewed_place lines r o.step o.only_reads lawful held source found mid last both released p word (loaded (0, p) has);
        rest = ap unchanged_by_copy released.made
            ∙ ap (λ (l : Local). unchanged_by_copy (record mid { known = record mid.known { local = l; noted = mid.known.noted ++ [] } })) (left lines r o.step o.only_reads lawful held source found mid last both released)
            ∙ ap (λ ns. without_shared (unchanged_by_copy (record mid { known = record mid.known { noted = ns } }))) (append-nil mid.known.noted)
            ∙ ap without_shared leaves.rest;
      }

  -- a copy with the release of the shared right makes at most one step more than the copy
  module _ (n : ℕ) (bound : StepsBy n first mid) where
    pub copied_within : StepsWithin r (n + 1) first mid
    copied_within = record { seat = leaves.both.exclusive.of; since = leaves.since; most = omega (arith, bound) }

    pub released_within : {E : Type 0} (result : Result ℕ E) → MakesFittingStep o r mid last result (λ found. StepsCopied r o.step o.only_reads source.replica found mid last) → StepsWithin r (n + 1) first last
    released_within (Ok found) step =
        let one : last.known.local.steps ≡ one_more mid.known.local.steps = ap (λ (s : Seated). s.known.local.steps) step.made.made ∙ released_steps source.replica mid.known.local in
        record { seat = step.made.seat; since = on_then_one first mid last leaves.since one; most = omega (arith, bound, one) }
    released_within (Err e) step =
        let same = ap (λ (s : Seated). s.known.local.steps) step.halted.same in
        record { seat = step.halted.seat; since = on_then first mid last leaves.since (on_still mid last same); most = omega (arith, bound, same) }

  -- where the limit comes before the shared right is given back, nothing is changed but what the copy changed
  pub release_halts : Halts r mid last → HaltsUnchanged unchanged_by_copy first last
  release_halts halted = record { rest = ap unchanged_by_copy halted.same ∙ leaves.rest; limit = subst (λ (s : Seated). IsAtLimit s.known.local) (sym halted.same) halted.limit }
