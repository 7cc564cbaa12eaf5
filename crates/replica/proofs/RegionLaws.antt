-- What an access does to the pairs that stand for a held replica.
use Rattle.std.proofs.Common.{Bool, IsTrue, ◌||◌, cond, false, true, ◌==◌, ◌≡◌, ◌-◌, ◌^◌, ◌<◌, nat_lt, is_some, ℕ, List, [], ◌∷◌, ◌++◌, length, take, refl, ap, sym, subst, ◌∙◌, Result, Ok, Err, MatchResult, IfOk, OnErr, OnOk, Option, Some, None, arith}
use Rattle.std.proofs.lemmas.List.{map-append, take_all}
use Rattle.std.proofs.lemmas.List.Folds.{list_any-append}
use Rattle.std.specs.List.{list_any}
use Rattle.cx_base.specs.Memory.{AreAt, Loaded, Reads, Stored}
use Rattle.cx_base.specs.Noted.{Note, shows_load, shows_store}
use Rattle.cx_core.specs.declared.entry.Base.{Base}
use Rattle.cx_core.specs.declared.local.Local.{Local}
use Rattle.cx_core.specs.Layout.{max_word}
use Rattle.cx_core.specs.Region.{region_words}
use Rattle.cx_table.specs.Seats.{HasMadeSteps}
use Rattle.table_invariant.specs.Fitting.{IsConsistentWith, FitsKnown, FitsOn, Has, ReadFits, has_of, loads_of, loaded_of}
use Rattle.table_invariant.specs.Running.{Running}
use Rattle.table_invariant.specs.Seats.{IsWithinLimit, Seated, place_noted}
use Rattle.table_invariant.specs.Steps.{Halts}
use Rattle.cx_table.specs.Right.{Right}
use Rattle.replica.specs.Held.{Accesses, HaltsLoading, IsHeld, IsHeldShared, LoadsHeld, LoadsRun, LoadsShared, unchanged_by_access, unchanged_by_shared_access, left_of}
use Rattle.replica.specs.Regions.{HasPlace, fits_shows, has_loaded, is_same}
use Rattle.replica.proofs.Runs.{run_keeps, run_reads}

module _ (lines : ℕ) (lawful : List ℕ → Type 0) (base : Base) where
  fits_load : (accesses : List Note) (at v : ℕ) → Loaded at v (IsConsistentWith lines lawful base accesses) (IsConsistentWith lines lawful base (accesses ++ (false, at, v) ∷ []))
  fits_load accesses at v =
      let s = shows_load (region_words lines) accesses at v in
      record {
        back = λ first now f. (let p = s.back first now (fits_shows lines lawful base _ first now f) in (record { origin = f.origin; from = f.from; leads = p.0.leads }, p.1));
        on = λ first now f e. record { origin = f.origin; from = f.from; leads = (s.on first now (fits_shows lines lawful base _ first now f) e).leads };
      }

  fits_store : (accesses : List Note) (at v : ℕ) → v < 2 ^ 64 → Stored at v (IsConsistentWith lines lawful base accesses) (IsConsistentWith lines lawful base (accesses ++ (true, at, v) ∷ []))
  fits_store accesses at v small =
      let s = shows_store (region_words lines) accesses at v small in
      record {
        back = λ first now f. (let p = s.back first now (fits_shows lines lawful base _ first now f) in (p.0, record { origin = f.origin; from = f.from; leads = p.1.leads }, p.2));
        on = λ first before f. record { origin = f.origin; from = f.from; leads = (s.on first before (fits_shows lines lawful base _ first before f)).leads };
      }

  read_load : (loaded : List (ℕ × ℕ)) (at v : ℕ) → Loaded at v (ReadFits lines lawful base loaded) (ReadFits lines lawful base (loaded ++ (at, v) ∷ []))
  read_load loaded at v =
      let l = fits_load (loads_of loaded) at v in
      let more : loads_of (loaded ++ (at, v) ∷ []) ≡ loads_of loaded ++ (false, at, v) ∷ [] = map-append (λ (x : ℕ × ℕ). (let n : Note = (false, x.0, x.1) in n)) loaded ((at, v) ∷ []) in
      record {
        back = λ first now f. (let p = l.back first now (subst (λ xs. IsConsistentWith lines lawful base xs first now) more f.fits) in (record { fits = p.0; same = f.same }, p.1));
        on = λ first now f e. record { fits = subst (λ xs. IsConsistentWith lines lawful base xs first now) (sym more) (l.on first now f.fits e); same = f.same };
      }

-- what was applied looks at the first words alone, so a load and a store tell of what stays lawful what they tell of what fits
module _ (lines : ℕ) (lawful : List ℕ → Type 0) (base : Base) (step : List ℕ → List ℕ → List ℕ × List ℕ) (has : Has) (accesses : List Note) (at v : ℕ) where
  on_load : Loaded at v (FitsOn lines lawful base step has accesses) (FitsOn lines lawful base step has (accesses ++ (false, at, v) ∷ []))
  on_load =
      let l = fits_load lines lawful base accesses at v in
      record {
        back = λ first now f. (let p = l.back first now f.fits in (record { fits = p.0; stays = f.stays }, p.1));
        on = λ first now f e. record { fits = l.on first now f.fits e; stays = f.stays };
      }

  on_store : v < 2 ^ 64 → Stored at v (FitsOn lines lawful base step has accesses) (FitsOn lines lawful base step has (accesses ++ (true, at, v) ∷ []))
  on_store small =
      let s = fits_store lines lawful base accesses at v small in
      record {
        back = λ first now f. (let p = s.back first now f.fits in (p.0, record { fits = p.1; stays = f.stays }, p.2));
        on = λ first before f. record { fits = s.on first before f.fits; stays = f.stays };
      }

-- no access changes what the seat has
pub same_has : (q : ℕ) (old new : Seated) → unchanged_by_access q new ≡ unchanged_by_access q old → has_of new.known ≡ has_of old.known
same_has q old new rest = ap (λ (s : Seated). has_of s.known) rest

-- the place after accesses, and more of them
place_append : (place : ℕ) (xs ys : List Note) → place_noted place (xs ++ ys) ≡ place_noted (place_noted place xs) ys
place_append place [] ys = refl
place_append place ((s, a, w) ∷ xs) ys = place_append (cond (a == 0) w place) xs ys

-- a place that is noted stays so
still_placed : (xs ys : List Note) → HasPlace xs → HasPlace (xs ++ ys)
still_placed xs ys has place = place_append place xs ys ∙ ap (λ p. place_noted p ys) (has place) ∙ sym (place_append 0 xs ys)

-- one that was loaded stays so
still_loaded : (placed : Option ℕ) (xs ys : List (ℕ × ℕ)) → IsTrue (has_loaded placed xs) → IsTrue (has_loaded placed (xs ++ ys))
still_loaded None xs ys has = has
still_loaded (Some place) xs ys has = list_any-append (is_same (0, place)) xs ys ∙ ap (λ b. b || list_any (is_same (0, place)) ys) has

-- a load of the place notes it
pub loaded_place : (xs : List Note) (v place : ℕ) → place_noted place (xs ++ (false, 0, v) ∷ []) ≡ v
loaded_place xs v place = place_append place xs ((false, 0, v) ∷ [])

module _ {O E : Type 0} (lines : ℕ) (r : Running O) (lawful : List ℕ → Type 0) (step : List ℕ → List ℕ → List ℕ × List ℕ) (held : Right) (old new : Seated) where
  pub stands_loaded : (at : ℕ) (result : Result ℕ E) → IfOk result (λ v. Accesses lines r lawful step held (false, at, v) old new) → IfOk result (λ v. Loaded at v (FitsKnown lines lawful r.base step old.known) (FitsKnown lines lawful r.base step new.known))
  stands_loaded at (Ok v) made =
      subst (λ h. Loaded at v (FitsKnown lines lawful r.base step old.known) (FitsOn lines lawful r.base step h new.known.accesses)) (sym (same_has held.replica old new made.rest))
      (subst (λ xs. Loaded at v (FitsKnown lines lawful r.base step old.known) (FitsOn lines lawful r.base step (has_of old.known) xs)) (sym made.accesses) (on_load lines lawful r.base step (has_of old.known) old.known.accesses at v))
  stands_loaded at (Err e) made = tt

  pub stands_stored : {A : Type 0} (at v : ℕ) (result : Result A E) → v < 2 ^ 64 → OnOk result (Accesses lines r lawful step held (true, at, v) old new) → IfOk result (λ _. Stored at v (FitsKnown lines lawful r.base step old.known) (FitsKnown lines lawful r.base step new.known))
  stands_stored at v (Ok x) small made =
      subst (λ h. Stored at v (FitsKnown lines lawful r.base step old.known) (FitsOn lines lawful r.base step h new.known.accesses)) (sym (same_has held.replica old new made.rest))
      (subst (λ xs. Stored at v (FitsKnown lines lawful r.base step old.known) (FitsOn lines lawful r.base step (has_of old.known) xs)) (sym made.accesses) (on_store lines lawful r.base step (has_of old.known) old.known.accesses at v small))
  stands_stored at v (Err e) small made = tt

  -- a replica held exclusively still is, whether the access was made or not, and a place that was noted still is
  pub held_after : {A : Type 0} (note : A → Note) (placed : Bool) (result : Result A E) → IfOk result (λ x. Accesses lines r lawful step held (note x) old new) → OnErr result (Halts r old new) →
      IsHeld lines r lawful step old held → IsWithinLimit old.known.local → (IsTrue placed → HasPlace old.known.accesses) →
      IsHeld lines r lawful step new held × IsWithinLimit new.known.local × (IsTrue placed → HasPlace new.known.accesses)
  held_after note placed (Ok x) made halts of within place =
      (made.still, made.within, λ yes. subst HasPlace (sym made.accesses) (still_placed old.known.accesses (note x ∷ []) (place yes)))
  held_after note placed (Err e) made halts of within place =
      subst (λ (s : Seated). IsHeld lines r lawful step s held × IsWithinLimit s.known.local × (IsTrue placed → HasPlace s.known.accesses)) (sym halts.same) (of, within, place)

  -- no step is taken back, whether the access was made or not
  pub since_after : {A : Type 0} (note : A → Note) (began : ℕ) (result : Result A E) → IfOk result (λ x. Accesses lines r lawful step held (note x) old new) → OnErr result (Halts r old new) → HasMadeSteps began old → HasMadeSteps began new
  since_after note began (Ok x) made halts was = (let one = made.steps in omega (arith, one, was))
  since_after note began (Err e) made halts was = subst (λ s. HasMadeSteps began s) (sym halts.same) was

module _ {O E : Type 0} (lines : ℕ) (r : Running O) (lawful : List ℕ → Type 0) (held : Right) (old new : Seated) where
  pub stands_read : (at : ℕ) (result : Result ℕ E) → IfOk result (λ v. LoadsShared lines r lawful held at v old new) → IfOk result (λ v. Loaded at v (ReadFits lines lawful r.base (loaded_of old.known.local.shared)) (ReadFits lines lawful r.base (loaded_of new.known.local.shared)))
  stands_read at (Ok v) made = subst (λ xs. Loaded at v (ReadFits lines lawful r.base (loaded_of old.known.local.shared)) (ReadFits lines lawful r.base xs)) (sym made.loaded) (read_load lines lawful r.base (loaded_of old.known.local.shared) at v)
  stands_read at (Err e) made = tt

  -- a replica held shared still is, whether the load was made or not, and a place that was loaded still is among the words loaded
  pub shared_after : (at : ℕ) (placed : Option ℕ) (result : Result ℕ E) → IfOk result (λ v. LoadsShared lines r lawful held at v old new) → OnErr result (Halts r old new) →
      IsHeldShared lines r lawful old held → IsWithinLimit old.known.local → IsTrue (has_loaded placed (loaded_of old.known.local.shared)) →
      IsHeldShared lines r lawful new held × IsWithinLimit new.known.local × IsTrue (has_loaded placed (loaded_of new.known.local.shared))
  shared_after at placed (Ok v) made halts of within place =
      (made.still, made.within, subst (λ xs. IsTrue (has_loaded placed xs)) (sym made.loaded) (still_loaded placed (loaded_of old.known.local.shared) ((at, v) ∷ []) place))
  shared_after at placed (Err e) made halts of within place =
      subst (λ (s : Seated). IsHeldShared lines r lawful s held × IsWithinLimit s.known.local × IsTrue (has_loaded placed (loaded_of s.known.local.shared))) (sym halts.same) (of, within, place)

  pub shared_since : (at began : ℕ) (result : Result ℕ E) → IfOk result (λ v. LoadsShared lines r lawful held at v old new) → OnErr result (Halts r old new) → HasMadeSteps began old → HasMadeSteps began new
  shared_since at began (Ok v) made halts was = (let one = made.steps in omega (arith, one, was))
  shared_since at began (Err e) made halts was = subst (λ s. HasMadeSteps began s) (sym halts.same) was

-- ---- words from a place on

-- whether all the words were loaded or not, some were
pub some_run : {A E : Type 0} {load : ℕ → ℕ → Seated → Seated → Type 0} {from : ℕ} {old new : Seated} (result : Result A E) (words : List ℕ) → MatchResult result (λ _. LoadsRun load from words old new) (λ _. HaltsLoading load from words old new) → (n : ℕ) × LoadsRun load from (take n words) old new
some_run {load = load} {from = from} {old = old} {new = new} (Ok x) words run = (length words, subst (λ ws. LoadsRun load from ws old new) (sym (take_all (length words) words (omega arith))) run)
some_run (Err e) words halted = halted.some

-- what follows where all words were loaded, follows of a result that is no error
pub run_then : {A E P : Type 0} {load : ℕ → ℕ → Seated → Seated → Type 0} {from : ℕ} {words : List ℕ} {old new : Seated} (result : Result A E) → (LoadsRun load from words old new → P) → MatchResult result (λ _. LoadsRun load from words old new) (λ _. HaltsLoading load from words old new) → OnOk result P
run_then (Ok x) follows run = follows run
run_then (Err e) follows halted = tt

module _ {O : Type 0} (lines : ℕ) (r : Running O) (lawful : List ℕ → Type 0) (step : List ℕ → List ℕ → List ℕ × List ℕ) (held : Right) (from : ℕ) (words : List ℕ) (old new : Seated) where
  pub stands_run : LoadsRun (LoadsHeld lines r lawful step held) from words old new → Reads (FitsKnown lines lawful r.base step old.known) (FitsKnown lines lawful r.base step new.known) (AreAt from words)
  stands_run run =
      run_reads (LoadsHeld lines r lawful step held) from (λ s. FitsKnown lines lawful r.base step s.known) (λ at v before after made. stands_loaded {E = ℕ} lines r lawful step held before after at (Ok v) made) words old new run

  pub held_run : (placed : Bool) → LoadsRun (LoadsHeld lines r lawful step held) from words old new → IsHeld lines r lawful step old held → IsWithinLimit old.known.local → (IsTrue placed → HasPlace old.known.accesses) →
      IsHeld lines r lawful step new held × IsWithinLimit new.known.local × (IsTrue placed → HasPlace new.known.accesses)
  held_run placed run of within place =
      run_keeps (LoadsHeld lines r lawful step held) from (λ s. IsHeld lines r lawful step s held × IsWithinLimit s.known.local × (IsTrue placed → HasPlace s.known.accesses))
      (λ at v before after made was. held_after {E = ℕ} lines r lawful step held before after (λ (w : ℕ). (false, at, w)) placed (Ok v) made tt was.0 was.1 was.2)
      words old new run (of, within, place)

  pub since_run : (began : ℕ) → LoadsRun (LoadsHeld lines r lawful step held) from words old new → HasMadeSteps began old → HasMadeSteps began new
  since_run began run was = run_keeps (LoadsHeld lines r lawful step held) from (λ s. HasMadeSteps began s) (λ at v before after made was. (let one = made.steps in omega (arith, one, was))) words old new run was

  pub rest_run : LoadsRun (LoadsHeld lines r lawful step held) from words old new → unchanged_by_access held.replica new ≡ unchanged_by_access held.replica old
  rest_run run = run_keeps (LoadsHeld lines r lawful step held) from (λ s. unchanged_by_access held.replica s ≡ unchanged_by_access held.replica old) (λ at v before after made was. made.rest ∙ was) words old new run refl

module _ {O : Type 0} (lines : ℕ) (r : Running O) (lawful : List ℕ → Type 0) (held : Right) (from : ℕ) (words : List ℕ) (old new : Seated) where
  pub stands_shared_run : LoadsRun (LoadsShared lines r lawful held) from words old new → Reads (ReadFits lines lawful r.base (loaded_of old.known.local.shared)) (ReadFits lines lawful r.base (loaded_of new.known.local.shared)) (AreAt from words)
  stands_shared_run run =
      run_reads (LoadsShared lines r lawful held) from (λ s. ReadFits lines lawful r.base (loaded_of s.known.local.shared)) (λ at v before after made. stands_read {E = ℕ} lines r lawful held before after at (Ok v) made) words old new run

  pub shared_run : (placed : Option ℕ) → LoadsRun (LoadsShared lines r lawful held) from words old new → IsHeldShared lines r lawful old held → IsWithinLimit old.known.local → IsTrue (has_loaded placed (loaded_of old.known.local.shared)) →
      IsHeldShared lines r lawful new held × IsWithinLimit new.known.local × IsTrue (has_loaded placed (loaded_of new.known.local.shared))
  shared_run placed run of within place =
      run_keeps (LoadsShared lines r lawful held) from (λ s. IsHeldShared lines r lawful s held × IsWithinLimit s.known.local × IsTrue (has_loaded placed (loaded_of s.known.local.shared)))
      (λ at v before after made was. shared_after {E = ℕ} lines r lawful held before after at placed (Ok v) made tt was.0 was.1 was.2)
      words old new run (of, within, place)

  pub since_shared_run : (began : ℕ) → LoadsRun (LoadsShared lines r lawful held) from words old new → HasMadeSteps began old → HasMadeSteps began new
  since_shared_run began run was = run_keeps (LoadsShared lines r lawful held) from (λ s. HasMadeSteps began s) (λ at v before after made was. (let one = made.steps in omega (arith, one, was))) words old new run was

  pub rest_shared_run : LoadsRun (LoadsShared lines r lawful held) from words old new → unchanged_by_shared_access held.replica new ≡ unchanged_by_shared_access held.replica old
  rest_shared_run run = run_keeps (LoadsShared lines r lawful held) from (λ s. unchanged_by_shared_access held.replica s ≡ unchanged_by_shared_access held.replica old) (λ at v before after made was. made.rest ∙ was) words old new run refl

-- whether a caller has a limit of steps stays while its limit does
pub still_limited : (old new : Local) → new.limit ≡ old.limit → is_some (left_of new) ≡ is_some (left_of old)
still_limited old new same = ap (λ n. is_some (cond (nat_lt n max_word) (Some (n - new.steps)) None)) same ∙ by (nat_lt old.limit max_word)
  where
    by : (b : Bool) → is_some (cond b (Some (old.limit - new.steps)) None) ≡ is_some (cond b (Some (old.limit - old.steps)) None)
    by true = refl
    by false = refl
