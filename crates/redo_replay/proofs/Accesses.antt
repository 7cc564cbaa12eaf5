-- What an access of a replica held exclusively does to the pairs that fit what is known of it.
use Rattle.std.proofs.Common.{true, false, ◌==◌, ◌≡◌, ◌^◌, ◌<◌, ℕ, cond, List, [], ◌∷◌, ◌++◌, refl, ap, sym, subst, ◌∙◌, Result, Ok, Err, IfOk, OnErr, OnOk}
use Rattle.cx_base.specs.Memory.{Loaded, Stored}
use Rattle.cx_base.specs.Noted.{Note, shows_load, shows_store}
use Rattle.cx_core.specs.declared.entry.Base.{Base}
use Rattle.cx_core.specs.Region.{region_words}
use Rattle.table_invariant.specs.Fitting.{FitsKnown, FitsOn, Has, has_of}
use Rattle.table_invariant.specs.Running.{Running}
use Rattle.table_invariant.specs.Seats.{IsWithinLimit, Seated, place_noted}
use Rattle.table_invariant.specs.Steps.{Halts}
use Rattle.cx_table.specs.Right.{Right}
use Rattle.replica.specs.Held.{Accesses, IsHeld}
use Rattle.replica.specs.Regions.{HasPlace, fits_shows}

module _ (lines : ℕ) (lawful : List ℕ → Type 0) (base : Base) (step : List ℕ → List ℕ → List ℕ × List ℕ) (has : Has) (accesses : List Note) (at v : ℕ) where
  on_load : Loaded at v (FitsOn lines lawful base step has accesses) (FitsOn lines lawful base step has (accesses ++ (false, at, v) ∷ []))
  on_load =
      let s = shows_load (region_words lines) accesses at v in
      record {
        back = λ first now f. (
            let p = s.back first now (fits_shows lines lawful base _ first now f.fits) in
            (record { fits = record { origin = f.fits.origin; from = f.fits.from; leads = p.0.leads }; stays = f.stays }, p.1));
        on = λ first now f e. record { fits = record { origin = f.fits.origin; from = f.fits.from; leads = (s.on first now (fits_shows lines lawful base _ first now f.fits) e).leads }; stays = f.stays };
      }

  on_store : v < 2 ^ 64 → Stored at v (FitsOn lines lawful base step has accesses) (FitsOn lines lawful base step has (accesses ++ (true, at, v) ∷ []))
  on_store small =
      let s = shows_store (region_words lines) accesses at v small in
      record {
        back = λ first now f. (
            let p = s.back first now (fits_shows lines lawful base _ first now f.fits) in
            (p.0, record { fits = record { origin = f.fits.origin; from = f.fits.from; leads = p.1.leads }; stays = f.stays }, p.2));
        on = λ first before f. record { fits = record { origin = f.fits.origin; from = f.fits.from; leads = (s.on first before (fits_shows lines lawful base _ first before f.fits)).leads }; stays = f.stays };
      }

-- the place after accesses, and more of them
place_append : (place : ℕ) (xs ys : List Note) → place_noted place (xs ++ ys) ≡ place_noted (place_noted place xs) ys
place_append place [] ys = refl
place_append place ((s, a, w) ∷ xs) ys = place_append (cond (a == 0) w place) xs ys

-- a place that is noted stays so
still_placed : (xs ys : List Note) → HasPlace xs → HasPlace (xs ++ ys)
still_placed xs ys has place = place_append place xs ys ∙ ap (λ p. place_noted p ys) (has place) ∙ sym (place_append 0 xs ys)

module _ {O E : Type 0} (lines : ℕ) (r : Running O) (lawful : List ℕ → Type 0) (step : List ℕ → List ℕ → List ℕ × List ℕ) (held : Right) (old new : Seated) where
  pub knows_loaded : (at : ℕ) (result : Result ℕ E) → IfOk result (λ v. Accesses lines r lawful step held (false, at, v) old new) → IfOk result (λ v. Loaded at v (FitsKnown lines lawful r.base step old.known) (FitsKnown lines lawful r.base step new.known))
  knows_loaded at (Ok v) made =
      subst (λ h. Loaded at v (FitsKnown lines lawful r.base step old.known) (FitsOn lines lawful r.base step h new.known.accesses)) (sym (ap (λ (s : Seated). has_of s.known) made.rest))
      (subst (λ xs. Loaded at v (FitsKnown lines lawful r.base step old.known) (FitsOn lines lawful r.base step (has_of old.known) xs)) (sym made.accesses) (on_load lines lawful r.base step (has_of old.known) old.known.accesses at v))
  knows_loaded at (Err e) made = tt

  pub knows_stored : {A : Type 0} (at v : ℕ) (result : Result A E) → v < 2 ^ 64 → OnOk result (Accesses lines r lawful step held (true, at, v) old new) → IfOk result (λ _. Stored at v (FitsKnown lines lawful r.base step old.known) (FitsKnown lines lawful r.base step new.known))
  knows_stored at v (Ok x) small made =
      subst (λ h. Stored at v (FitsKnown lines lawful r.base step old.known) (FitsOn lines lawful r.base step h new.known.accesses)) (sym (ap (λ (s : Seated). has_of s.known) made.rest))
      (subst (λ xs. Stored at v (FitsKnown lines lawful r.base step old.known) (FitsOn lines lawful r.base step (has_of old.known) xs)) (sym made.accesses) (on_store lines lawful r.base step (has_of old.known) old.known.accesses at v small))
  knows_stored at v (Err e) small made = tt

  -- a replica held exclusively still is, whether the access was made or not, and a place that was noted still is
  pub held_still : {A : Type 0} (note : A → Note) (result : Result A E) → IfOk result (λ x. Accesses lines r lawful step held (note x) old new) → OnErr result (Halts r old new) → IsHeld lines r lawful step old held → IsWithinLimit old.known.local → HasPlace old.known.accesses →
      IsHeld lines r lawful step new held × IsWithinLimit new.known.local × HasPlace new.known.accesses
  held_still note (Ok x) made halts of within place = (made.still, made.within, subst HasPlace (sym made.accesses) (still_placed old.known.accesses (note x ∷ []) place))
  held_still note (Err e) made halts of within place = subst (λ (s : Seated). IsHeld lines r lawful step s held × IsWithinLimit s.known.local × HasPlace s.known.accesses) (sym halts.same) (of, within, place)
