-- What an access of a held replica does to the seat.
use Rattle.std.proofs.Common.{◌≡◌, ◌⊎◌, ◌+◌, ◌*◌, ◌<◌, ◌==◌, inl, inr, ℕ, Bool, true, false, cond, All, List, [], ◌∷◌, ◌++◌, length, refl, ap, sym, subst, ◌∙◌, arith, append-nil, eq-eqb, Option, Some, None, Result, Ok, Err, IfOk, IfSome, OnOk, OnSome}
use Rattle.std.proofs.lemmas.List.Elements.{All-append, All-cons, All-nil}
use Rattle.std.proofs.lemmas.Option.{none-some, same_Some}
use Rattle.std.specs.Option.{option_map}
use Rattle.cx_base.specs.Noted.{Note}
use Rattle.cx_core.specs.declared.kinds.Kind.TheVariants.{LoadWord, StoreWord}
use Rattle.cx_core.specs.declared.local.HeldExclusive.{HeldExclusive}
use Rattle.cx_core.specs.declared.local.HeldShared.{HeldShared}
use Rattle.cx_core.specs.LockEvents.{is_in}
use Rattle.cx_core.specs.Region.{region_words}
use Rattle.cx_core.specs.RegionEvents.{loaded_into, stored_into}
use Rattle.cx_core.specs.Rights.{exclusive_on, held_dirty, is_at, shared_on}
use Rattle.table_invariant.specs.declared.rule.Noted.{Noted}
use Rattle.table_invariant.specs.Fitting.{Fitting, SomeFits, SomeReadFits, loaded_of}
use Rattle.table_invariant.specs.Running.{Running}
use Rattle.table_invariant.specs.Seats.{Seated}
use Rattle.table_invariant.specs.Steps.{Steps}
use Rattle.cx_table.specs.Right.{Right}
use Rattle.cx_table.specs.Runs.{Runs, loads_from, no_step, one_more_step}
use Rattle.cx_table.specs.Tokens.{IsExclusiveOf, IsSharedOf}
use Rattle.replica.specs.Laws.{fitting_shared}
use Rattle.replica.specs.Held.{Accesses, IsHeld, IsHeldShared, LoadsHeld, LoadsRun, LoadsShared, no_load, one_more_load, unchanged_by_access, unchanged_by_shared_access, except_loaded, except_words}

pub at_itself : (r : ℕ) → is_at r (Some r) ≡ true
at_itself r = eq-eqb r r refl

-- ---- the parts of a seat

-- the seat but for what an access changes, with these notes of entries, this exclusive right and this shared one
abbrev pub beside : Seated → List Noted → Option HeldExclusive → Option HeldShared → Seated
beside s noted exclusive shared = record s { known = record { local = record s.known.local { exclusive = exclusive; shared = shared; steps = 0 }; noted = noted; accesses = []; sets = s.known.sets; times = s.known.times; images = s.known.images; kept = s.known.kept } }

unloaded : (r i found : ℕ) (o : Option HeldShared) → option_map (except_loaded r) (option_map (loaded_into r i found) o) ≡ option_map (except_loaded r) o
unloaded r i found None = refl
unloaded r i found (Some h) = by (h.replica == r)
  where
    by : (b : Bool) → Some (let x : HeldShared = record { replica = h.replica; loaded = cond b [] (cond b (h.loaded ++ (i, found) ∷ []) h.loaded) } in x) ≡ Some (record { replica = h.replica; loaded = cond b [] h.loaded })
    by true = refl
    by false = refl

pub unstored : (i v : ℕ) (o : Option HeldExclusive) → option_map except_words (option_map (stored_into i v) o) ≡ option_map except_words o
unstored i v None = refl
unstored i v (Some h) = refl

-- the replica that is held is known when all of it but the words is
pub still_on : {H : Type 0} (f : H → H) (replica : H → ℕ) → ((h : H) → replica (f h) ≡ replica h) → (a b : Option H) (q : ℕ) → option_map f a ≡ option_map f b → option_map replica b ≡ Some q → option_map replica a ≡ Some q
still_on f replica same None None q e on = on
still_on f replica same None (Some y) q e on = absurd (none-some (f y) e)
still_on f replica same (Some x) None q e on = absurd (none-some q on)
still_on f replica same (Some x) (Some y) q e on = ap Some (sym (same x) ∙ ap replica (same_Some (f x) (f y) e) ∙ same y) ∙ on

-- an exclusive right stays where two seats differ only in what an access of the replica `q` changes
pub still_exclusive : (callers q : ℕ) (before after : Seated) (held : Right) → unchanged_by_access q after ≡ unchanged_by_access q before → IsExclusiveOf callers before held → IsExclusiveOf callers after held
still_exclusive callers q before after held same of = record {
  few = of.few;
  caller = of.caller ∙ sym (ap (λ (s : Seated). s.known.local.number) same);
  holds = still_on except_words (λ (h : HeldExclusive). h.replica) (λ h. refl) after.known.local.exclusive before.known.local.exclusive held.replica (ap (λ (s : Seated). s.known.local.exclusive) same) of.holds;
}

pub still_shared : (callers q : ℕ) (before after : Seated) (held : Right) → unchanged_by_shared_access q after ≡ unchanged_by_shared_access q before → IsSharedOf callers before held → IsSharedOf callers after held
still_shared callers q before after held same of = record {
  few = of.few;
  caller = of.caller ∙ sym (ap (λ (s : Seated). s.known.local.number) same);
  holds = still_on (except_loaded q) (λ (h : HeldShared). h.replica) (λ h. refl) after.known.local.shared before.known.local.shared held.replica (ap (λ (s : Seated). s.known.local.shared) same) of.holds;
}

-- ---- dirty words

-- what holds of the word `i` and of each dirty word holds of each dirty word after a store into `i`
pub dirty_stored : (P : ℕ → Type 0) (i v : ℕ) (o : Option HeldExclusive) → P i → All P (held_dirty o) → All P (held_dirty (option_map (stored_into i v) o))
dirty_stored P i v None p all = all
dirty_stored P i v (Some h) p all = by (is_in h.dirty i)
  where
    by : (b : Bool) → All P (cond b h.dirty (h.dirty ++ i ∷ []))
    by true = all
    by false = All-append P h.dirty (i ∷ []) all (All-cons P i [] p (All-nil P))

-- ---- accesses

module _ {O : Type 0} (lines : ℕ) (r : Running O) (step : O → List ℕ → List ℕ → List ℕ × List ℕ) (reads : O → List ℕ → Bool) (lawful : List ℕ → Type 0) (held : Right) where
  pub load_accesses : (at found : ℕ) (before after : Seated) → IsHeld lines r lawful (step r.object) before held → Steps r step reads (LoadWord held.replica at false) found before after → Fitting r.lines lawful r.base (step r.object) after.known → Accesses lines r lawful (step r.object) held (false, at, found) before after
  load_accesses at found before after of s fits =
      let rest : unchanged_by_access held.replica after ≡ unchanged_by_access held.replica before =
      ap (unchanged_by_access held.replica) s.made
      ∙ ap (λ n. beside before n (option_map except_words before.known.local.exclusive) (option_map (except_loaded held.replica) (option_map (loaded_into held.replica at found) before.known.local.shared))) (append-nil before.known.noted)
      ∙ ap (λ o. beside before before.known.noted (option_map except_words before.known.local.exclusive) o) (unloaded held.replica at found before.known.local.shared) in
      record {
        allowed = s.allowed;
        accesses = ap (λ (t : Seated). t.known.accesses) s.made
            ∙ ap (λ o. cond (is_at held.replica o) (before.known.accesses ++ (false, at, found) ∷ []) before.known.accesses) of.right.holds
            ∙ ap (λ b. cond b (before.known.accesses ++ (false, at, found) ∷ []) before.known.accesses) (at_itself held.replica);
        steps = ap (λ (t : Seated). t.known.local.steps) s.made;
        rest = rest;
        within = s.within;
        still = record {
          sized = of.sized;
          of = s.seat;
          right = still_exclusive r.callers held.replica before after held rest of.right;
          some = subst (λ n. SomeFits n lawful r.base (step r.object) after.known) of.sized.lines_are fits.exclusive;
          dirty = subst (λ (t : Seated). All (λ i. i < region_words lines) (held_dirty t.known.local.exclusive)) (sym s.made) of.dirty;
        };
      }

  -- loads of words from a place on
  run_accesses : (from : ℕ) (words : List ℕ) (before after : Seated) → IsHeld lines r lawful (step r.object) before held → Runs r step reads lawful (loads_from held.replica from) words before after → LoadsRun (LoadsHeld lines r lawful (step r.object) held) from words before after × IsHeld lines r lawful (step r.object) after held
  run_accesses from words before after of (no_step _ _ _ none same) = (no_load _ _ _ none same, subst (λ s. IsHeld lines r lawful (step r.object) s held) (sym same) of)
  run_accesses from words before after of (one_more_step _ _ _ first found mid longer run s fits) =
      let was = run_accesses from first before mid of run in
      let now = load_accesses (from + length first) found mid after was.1 s fits in
      (one_more_load _ _ _ first found mid longer was.0 now, now.still)

  pub accesses_of : (q from : ℕ) (words : List ℕ) (before after : Seated) → q ≡ held.replica → IsHeld lines r lawful (step r.object) before held → Runs r step reads lawful (loads_from q from) words before after → LoadsRun (LoadsHeld lines r lawful (step r.object) held) from words before after
  accesses_of q from words before after is of run = (run_accesses from words before after of (subst (λ k. Runs r step reads lawful (loads_from k from) words before after) is run)).0

  pub store_accesses : (at v : ℕ) (before after : Seated) → at < region_words lines → IsHeld lines r lawful (step r.object) before held → Steps r step reads (StoreWord held.replica at v) 0 before after → Fitting r.lines lawful r.base (step r.object) after.known → Accesses lines r lawful (step r.object) held (true, at, v) before after
  store_accesses at v before after below of s fits =
      let rest : unchanged_by_access held.replica after ≡ unchanged_by_access held.replica before =
      ap (unchanged_by_access held.replica) s.made
      ∙ ap (λ n. beside before n (option_map except_words (option_map (stored_into at v) before.known.local.exclusive)) (option_map (except_loaded held.replica) before.known.local.shared)) (append-nil before.known.noted)
      ∙ ap (λ o. beside before before.known.noted o (option_map (except_loaded held.replica) before.known.local.shared)) (unstored at v before.known.local.exclusive) in
      record {
        allowed = s.allowed;
        accesses = ap (λ (t : Seated). t.known.accesses) s.made;
        steps = ap (λ (t : Seated). t.known.local.steps) s.made;
        rest = rest;
        within = s.within;
        still = record {
          sized = of.sized;
          of = s.seat;
          right = still_exclusive r.callers held.replica before after held rest of.right;
          some = subst (λ n. SomeFits n lawful r.base (step r.object) after.known) of.sized.lines_are fits.exclusive;
          dirty = subst (λ (t : Seated). All (λ i. i < region_words lines) (held_dirty t.known.local.exclusive)) (sym s.made) (dirty_stored (λ i. i < region_words lines) at v before.known.local.exclusive below of.dirty);
        };
      }

  loaded_one_more : (at found : ℕ) (o : Option HeldShared) → option_map (λ (h : HeldShared). h.replica) o ≡ Some held.replica → loaded_of (option_map (loaded_into held.replica at found) o) ≡ loaded_of o ++ (at, found) ∷ []
  loaded_one_more at found None there = absurd (none-some held.replica there)
  loaded_one_more at found (Some h) there =
      ap (λ b. cond b (h.loaded ++ (at, found) ∷ []) h.loaded) (eq-eqb h.replica held.replica (same_Some h.replica held.replica there))

  unchanged_by_load : (b : Bool) (accesses more : List Note) → cond b [] (cond b more accesses) ≡ cond b [] accesses
  unchanged_by_load true accesses more = refl
  unchanged_by_load false accesses more = refl

  pub load_shared_loads : (at found : ℕ) (before after : Seated) → IsHeldShared lines r lawful before held → Steps r step reads (LoadWord held.replica at false) found before after → Fitting r.lines lawful r.base (step r.object) after.known → LoadsShared lines r lawful held at found before after
  load_shared_loads at found before after of s fits =
      let with : List Noted → Option HeldShared → List Note → Seated =
      λ noted shared accesses. record before { known = record { local = record before.known.local { shared = shared; steps = 0 }; noted = noted; accesses = accesses; sets = before.known.sets; times = before.known.times; images = before.known.images; kept = before.known.kept } } in
      let q = held.replica in
      let l = before.known.local in
      let here = is_at q (exclusive_on l) in
      let more = before.known.accesses ++ (false, at, found) ∷ [] in
      let shared = option_map (except_loaded q) (option_map (loaded_into q at found) l.shared) in
      let rest : unchanged_by_shared_access q after ≡ unchanged_by_shared_access q before =
      ap (unchanged_by_shared_access q) s.made
      ∙ ap (λ n. with n shared (cond here [] (cond here more before.known.accesses))) (append-nil before.known.noted)
      ∙ ap (λ o. with before.known.noted o (cond here [] (cond here more before.known.accesses))) (unloaded q at found l.shared)
      ∙ ap (λ xs. with before.known.noted (option_map (except_loaded q) l.shared) xs) (unchanged_by_load here before.known.accesses more) in
      let right = still_shared r.callers q before after held rest of.right in
      record {
        allowed = s.allowed;
        loaded = ap (λ (t : Seated). loaded_of t.known.local.shared) s.made ∙ loaded_one_more at found l.shared of.right.holds;
        steps = ap (λ (t : Seated). t.known.local.steps) s.made;
        rest = rest;
        within = s.within;
        still = record { sized = of.sized; of = s.seat; right = right; some = subst (λ n. SomeReadFits n lawful r.base (loaded_of after.known.local.shared)) of.sized.lines_are (fitting_shared r lawful step after.known held.replica right.holds fits) };
      }

  run_loads : (from : ℕ) (words : List ℕ) (before after : Seated) → IsHeldShared lines r lawful before held → Runs r step reads lawful (loads_from held.replica from) words before after → LoadsRun (LoadsShared lines r lawful held) from words before after × IsHeldShared lines r lawful after held
  run_loads from words before after of (no_step _ _ _ none same) = (no_load _ _ _ none same, subst (λ s. IsHeldShared lines r lawful s held) (sym same) of)
  run_loads from words before after of (one_more_step _ _ _ first found mid longer run s fits) =
      let was = run_loads from first before mid of run in
      let now = load_shared_loads (from + length first) found mid after was.1 s fits in
      (one_more_load _ _ _ first found mid longer was.0 now, now.still)

  pub loads_of_run : (q from : ℕ) (words : List ℕ) (before after : Seated) → q ≡ held.replica → IsHeldShared lines r lawful before held → Runs r step reads lawful (loads_from q from) words before after → LoadsRun (LoadsShared lines r lawful held) from words before after
  loads_of_run q from words before after is of run = (run_loads from words before after of (subst (λ k. Runs r step reads lawful (loads_from k from) words before after) is run)).0

-- ---- step calls

module _ {O : Type 0} (lines : ℕ) (r : Running O) (lawful : List ℕ → Type 0) (step : List ℕ → List ℕ → List ℕ × List ℕ) (held : Right) (q at : ℕ) (seat : Seated) where
  pub store_guard : q ≡ held.replica → IsHeld lines r lawful step seat held → at < region_words lines → (q < 2 * r.callers) × (at < length r.base.words) × (exclusive_on seat.known.local ≡ Some q)
  store_guard is of below =
      (let few = of.right.few in omega (arith, is), let long = of.sized.region in omega arith, of.right.holds ∙ ap Some (sym is))

  pub load_guard : q ≡ held.replica → IsHeld lines r lawful step seat held → at < region_words lines → (q < 2 * r.callers) × (at < length r.base.words) × ((exclusive_on seat.known.local ≡ Some q) ⊎ (shared_on seat.known.local ≡ Some q))
  load_guard is of below = (let g = store_guard is of below in (g.0, g.1, inl g.2))

module _ {O : Type 0} (lines : ℕ) (r : Running O) (lawful : List ℕ → Type 0) (held : Right) (q at : ℕ) (seat : Seated) where
  pub shared_guard : q ≡ held.replica → IsHeldShared lines r lawful seat held → at < region_words lines → (q < 2 * r.callers) × (at < length r.base.words) × ((exclusive_on seat.known.local ≡ Some q) ⊎ (shared_on seat.known.local ≡ Some q))
  shared_guard is of below =
      (let few = of.right.few in omega (arith, is), let long = of.sized.region in omega arith, inr (of.right.holds ∙ ap Some (sym is)))

module _ {O : Type 0} (lines : ℕ) (r : Running O) (step : O → List ℕ → List ℕ → List ℕ × List ℕ) (reads : O → List ℕ → Bool) (lawful : List ℕ → Type 0) (held : Right) (q at : ℕ) where
  pub at_once_by_shared_load : (before after : Seated) (result : Option ℕ) → q ≡ held.replica → IsHeldShared lines r lawful before held → IfSome result (λ found. Steps r step reads (LoadWord q at false) found before after) → OnSome result (Fitting r.lines lawful r.base (step r.object) after.known) →
      IfSome result (λ v. LoadsShared lines r lawful held at v before after)
  at_once_by_shared_load before after (Some v) is of made fits = load_shared_loads lines r step reads lawful held at v before after of (subst (λ k. Steps r step reads (LoadWord k at false) v before after) is made) fits
  at_once_by_shared_load before after None is of made fits = tt

module _ {O E : Type 0} (lines : ℕ) (r : Running O) (step : O → List ℕ → List ℕ → List ℕ × List ℕ) (reads : O → List ℕ → Bool) (lawful : List ℕ → Type 0) (held : Right) (q at : ℕ) where
  pub made_by_load : (before after : Seated) (result : Result ℕ E) → q ≡ held.replica → IsHeld lines r lawful (step r.object) before held → IfOk result (λ found. Steps r step reads (LoadWord q at false) found before after) → OnOk result (Fitting r.lines lawful r.base (step r.object) after.known) →
      IfOk result (λ v. Accesses lines r lawful (step r.object) held (false, at, v) before after)
  made_by_load before after (Ok v) is of made fits = load_accesses lines r step reads lawful held at v before after of (subst (λ k. Steps r step reads (LoadWord k at false) v before after) is made) fits
  made_by_load before after (Err e) is of made fits = tt

  pub made_by_shared_load : (before after : Seated) (result : Result ℕ E) → q ≡ held.replica → IsHeldShared lines r lawful before held → IfOk result (λ found. Steps r step reads (LoadWord q at false) found before after) → OnOk result (Fitting r.lines lawful r.base (step r.object) after.known) →
      IfOk result (λ v. LoadsShared lines r lawful held at v before after)
  made_by_shared_load before after (Ok v) is of made fits = load_shared_loads lines r step reads lawful held at v before after of (subst (λ k. Steps r step reads (LoadWord k at false) v before after) is made) fits
  made_by_shared_load before after (Err e) is of made fits = tt

  pub made_by_store : {A : Type 0} (v : ℕ) (before after : Seated) (result : Result A E) → q ≡ held.replica → at < region_words lines → IsHeld lines r lawful (step r.object) before held → IfOk result (λ _. Steps r step reads (StoreWord q at v) 0 before after) → OnOk result (Fitting r.lines lawful r.base (step r.object) after.known) →
      OnOk result (Accesses lines r lawful (step r.object) held (true, at, v) before after)
  made_by_store v before after (Ok x) is below of made fits = store_accesses lines r step reads lawful held at v before after below of (subst (λ k. Steps r step reads (StoreWord k at v) 0 before after) is made) fits
  made_by_store v before after (Err e) is below of made fits = tt
