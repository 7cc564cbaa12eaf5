-- What a step of a copy does to the seat.
use Rattle.std.proofs.Common.{false, true, cond, nat_lt, IfSome, IsErrAnd, inl, inr, arith, ◌≡◌, ◌+◌, ◌<◌, ◌≤◌, ◌⊎◌, ℕ, Bool, All, List, [], ◌∷◌, ◌++◌, length, refl, ap, sym, subst, ◌∙◌, append-nil, Option, Some, None, Result, Ok, Err, IfOk, OnErr, OnOk}
use Rattle.std.specs.Option.{option_map}
use Rattle.std.specs.Result.{result_ok}
use Rattle.cx_base.specs.declared.object.Object.{Ghosts}
use Rattle.cx_core.specs.declared.kinds.Kind.TheVariants.{LoadWord, StoreWord, TryShared}
use Rattle.cx_core.specs.declared.local.HeldExclusive.{HeldExclusive}
use Rattle.cx_core.specs.declared.local.HeldShared.{HeldShared}
use Rattle.cx_core.specs.declared.local.Local.{Local}
use Rattle.cx_core.specs.LockEvents.{exclusive_mark, passing, shared_by}
use Rattle.cx_core.specs.Region.{region_words}
use Rattle.cx_core.specs.RegionEvents.{loaded_into, stored_into}
use Rattle.cx_core.specs.Rights.{held_dirty}
use Rattle.cx_core.specs.State.{Instance}
use Rattle.table_invariant.specs.declared.rule.Known.{Known}
use Rattle.table_invariant.specs.Fitting.{Fitting, SomeFits}
use Rattle.table_invariant.specs.Running.{IsSeatOf, Running, instance_at}
use Rattle.table_invariant.specs.Seats.{Seated, known_after}
use Rattle.table_invariant.specs.Steps.{Halts, Steps}
use Rattle.cx_table.specs.Right.{Right}
use Rattle.cx_table.specs.Runs.{Runs, loads_from, no_step, one_more_step}
use Rattle.cx_table.specs.Tokens.{IsExclusiveOf, IsSharedOf, TriedShared}
use Rattle.table_invariant.proofs.Stepping.{on_one, on_same, on_then, on_then_one}
use Rattle.replica.specs.Copies.{HoldsBoth, HoldsBothIn, KeepsCopied, LoadsAtMost, LoadsFewer, SomeDiffers, StoresAsMany, unchanged_by_copy, except_loads}
use Rattle.replica.specs.Held.{IsHeld, except_words}
use Rattle.replica.specs.Laws.{shared_held}
use Rattle.replica.proofs.Access.{beside, dirty_stored, still_on, unstored}
use Rattle.replica.proofs.LineLoads.{Counts, IsRunOf, counts_on, longer_run, no_run, one_store}

unloaded_all : (r i found : ℕ) (o : Option HeldShared) → option_map except_loads (option_map (loaded_into r i found) o) ≡ option_map except_loads o
unloaded_all r i found None = refl
unloaded_all r i found (Some h) = refl

-- an exclusive right stays where two seats differ only in what a copy changes
exclusive_still : (callers : ℕ) (before after : Seated) (held : Right) → unchanged_by_copy after ≡ unchanged_by_copy before → IsExclusiveOf callers before held → IsExclusiveOf callers after held
exclusive_still callers before after held same of = record {
  few = of.few;
  caller = of.caller ∙ sym (ap (λ (s : Seated). s.known.local.number) same);
  holds = still_on except_words (λ (h : HeldExclusive). h.replica) (λ h. refl) after.known.local.exclusive before.known.local.exclusive held.replica (ap (λ (s : Seated). s.known.local.exclusive) same) of.holds;
}

shared_still : (callers : ℕ) (before after : Seated) (source : Right) → unchanged_by_copy after ≡ unchanged_by_copy before → IsSharedOf callers before source → IsSharedOf callers after source
shared_still callers before after source same of = record {
  few = of.few;
  caller = of.caller ∙ sym (ap (λ (s : Seated). s.known.local.number) same);
  holds = still_on except_loads (λ (h : HeldShared). h.replica) (λ h. refl) after.known.local.shared before.known.local.shared source.replica (ap (λ (s : Seated). s.known.local.shared) same) of.holds;
}

-- a load changes nothing beside a copy
load_rest : {O : Type 0} (r : Running O) (step : O → List ℕ → List ℕ → List ℕ × List ℕ) (reads : O → List ℕ → Bool) (q at found : ℕ) (before after : Seated) → Steps r step reads (LoadWord q at false) found before after → unchanged_by_copy after ≡ unchanged_by_copy before
load_rest r step reads q at found before after s =
    let exclusive = option_map except_words before.known.local.exclusive in
    ap unchanged_by_copy s.made
    ∙ ap (λ n. beside before n exclusive (option_map except_loads (option_map (loaded_into q at found) before.known.local.shared))) (append-nil before.known.noted)
    ∙ ap (λ o. beside before before.known.noted exclusive o) (unloaded_all q at found before.known.local.shared)

-- a store changes nothing beside a copy
store_rest : {O : Type 0} (r : Running O) (step : O → List ℕ → List ℕ → List ℕ × List ℕ) (reads : O → List ℕ → Bool) (q at v : ℕ) (before after : Seated) → Steps r step reads (StoreWord q at v) 0 before after → unchanged_by_copy after ≡ unchanged_by_copy before
store_rest r step reads q at v before after s =
    let shared = option_map except_loads before.known.local.shared in
    ap unchanged_by_copy s.made
    ∙ ap (λ n. beside before n (option_map except_words (option_map (stored_into at v) before.known.local.exclusive)) shared) (append-nil before.known.noted)
    ∙ ap (λ o. beside before before.known.noted o shared) (unstored at v before.known.local.exclusive)

module _ {O : Type 0} (lines : ℕ) (r : Running O) (step : O → List ℕ → List ℕ → List ℕ × List ℕ) (reads : O → List ℕ → Bool) (lawful : List ℕ → Type 0) (held source : Right) (before after : Seated) where
  -- both rights of a copy stay through a step that changes only what a copy changes, and after which some pair fits
  both_still : HoldsBoth lines r lawful (step r.object) before held source → IsSeatOf r after → unchanged_by_copy after ≡ unchanged_by_copy before → Fitting r.lines lawful r.base (step r.object) after.known → All (λ i. i < region_words lines) (held_dirty after.known.local.exclusive) →
      HoldsBoth lines r lawful (step r.object) after held source
  both_still both seat same fits dirty =
      record {
        exclusive = record {
          sized = both.exclusive.sized;
          of = seat;
          right = exclusive_still r.callers before after held same both.exclusive.right;
          some = subst (λ n. SomeFits n lawful r.base (step r.object) after.known) both.exclusive.sized.lines_are fits.exclusive;
          dirty = dirty;
        };
        shared = shared_held lines r lawful step after source both.shared.sized seat (shared_still r.callers before after source same both.shared.right) fits;
      }

  both_load : (q at found : ℕ) → HoldsBoth lines r lawful (step r.object) before held source → Steps r step reads (LoadWord q at false) found before after → Fitting r.lines lawful r.base (step r.object) after.known → HoldsBoth lines r lawful (step r.object) after held source
  both_load q at found both s fits =
      both_still both s.seat (load_rest r step reads q at found before after s) fits
      (subst (λ (t : Seated). All (λ i. i < region_words lines) (held_dirty t.known.local.exclusive)) (sym s.made) both.exclusive.dirty)

  -- after a store into a word within the region a seat that holds one replica exclusively and another shared still holds both
  pub both_store : (q at v : ℕ) → at < region_words lines → HoldsBoth lines r lawful (step r.object) before held source → Steps r step reads (StoreWord q at v) 0 before after → Fitting r.lines lawful r.base (step r.object) after.known → HoldsBoth lines r lawful (step r.object) after held source
  both_store q at v below both s fits =
      both_still both s.seat (store_rest r step reads q at v before after s) fits
      (subst (λ (t : Seated). All (λ i. i < region_words lines) (held_dirty t.known.local.exclusive)) (sym s.made) (dirty_stored (λ i. i < region_words lines) at v before.known.local.exclusive below both.exclusive.dirty))

-- runs of loads of two replicas were made, one behind the other
pub record RunsBoth {O : Type 0} (o : Ghosts O) (r : Running O) (held source : Right) (from q p : ℕ) (us vs : List ℕ) (first mid last : Seated) : Type 0 where
  pub leaves : KeepsCopied o r held source first last
  pub one : IsRunOf q from us first.known mid.known
  pub two : IsRunOf p from vs mid.known last.known
  pub count : Counts (length us + length vs) first.known last.known

module _ {O : Type 0} (o : Ghosts O) (r : Running O) (held source : Right) (from : ℕ) where
  none_ran : (q : ℕ) (before after : Seated) → after ≡ before → HoldsBothIn o r before held source → KeepsCopied o r held source before after × IsRunOf q from [] before.known after.known
  none_ran q before after same both =
      subst (λ (s : Seated). KeepsCopied o r held source before s × IsRunOf q from [] before.known s.known) (sym same) (record { both = both; since = omega arith; rest = refl }, no_run q from before.known)

  -- a run of loads leaves both rights, and tells of each of its words
  pub one_run : (q : ℕ) (words : List ℕ) (before after : Seated) → HoldsBothIn o r before held source → Runs r o.step o.only_reads (o.lawful r.object) (loads_from q from) words before after → KeepsCopied o r held source before after × IsRunOf q from words before.known after.known
  one_run q words before after both (no_step _ _ _ nothing same) = subst (λ ws. KeepsCopied o r held source before after × IsRunOf q from ws before.known after.known) (sym nothing) (none_ran q before after same both)
  one_run q words before after both (one_more_step _ _ _ first found mid longer run made fits) =
      let was = one_run q first before mid both run in
      let at = from + length first in (
        record {
          both = both_load (o.line_count r.object) r o.step o.only_reads (o.lawful r.object) held source mid after q at found was.0.both made fits;
          since = on_then_one before mid after was.0.since (ap (λ (s : Seated). s.known.local.steps) made.made);
          rest = load_rest r o.step o.only_reads q at found mid after made ∙ was.0.rest;
        },
        subst (λ ws. IsRunOf q from ws before.known after.known) (sym longer)
            (subst (λ (k : Known). IsRunOf q from (first ++ found ∷ []) before.known k) (sym (ap (λ (s : Seated). s.known) made.made))
            (longer_run (instance_at r o.step o.only_reads) q from found first before.known mid.known was.1)),
      )

  -- two runs of loads, one behind the other, leave both rights, and tell of each of their words
  pub two_runs : (q p : ℕ) (us vs : List ℕ) (first mid last : Seated) → HoldsBothIn o r first held source → Runs r o.step o.only_reads (o.lawful r.object) (loads_from q from) us first mid → Runs r o.step o.only_reads (o.lawful r.object) (loads_from p from) vs mid last → RunsBoth o r held source from q p us vs first mid last
  two_runs q p us vs first mid last both run then =
      let one = one_run q us first mid both run in
      let two = one_run p vs mid last one.0.both then in
      record {
        leaves = record { both = two.0.both; since = on_then first mid last one.0.since two.0.since; rest = two.0.rest ∙ one.0.rest };
        one = one.1;
        two = two.1;
        count = counts_on (length us) (length vs) (length us + length vs) first.known mid.known last.known refl one.1.count two.1.count;
      }

unmoved : {O : Type 0} (o : Ghosts O) (r : Running O) (held source : Right) (before after : Seated) → HoldsBothIn o r before held source → Halts r before after → KeepsCopied o r held source before after
unmoved o r held source before after both halted = record { both = subst (λ (s : Seated). HoldsBothIn o r s held source) (sym halted.same) both; since = on_same before after halted.same; rest = ap unchanged_by_copy halted.same }

module _ {O E : Type 0} (o : Ghosts O) (r : Running O) (held source : Right) (q at : ℕ) (before after : Seated) (both : HoldsBothIn o r before held source) where
  -- what a store leaves, whether the step was made or refused
  pub store_leaves : {A : Type 0} (v : ℕ) (result : Result A E) → at < region_words (o.line_count r.object) → IfOk result (λ _. Steps r o.step o.only_reads (StoreWord q at v) 0 before after) → OnOk result (Fitting r.lines (o.lawful r.object) r.base (o.step r.object) after.known) → OnErr result (Halts r before after) →
      KeepsCopied o r held source before after
  store_leaves v (Ok x) below made fits halted = record {
    both = both_store (o.line_count r.object) r o.step o.only_reads (o.lawful r.object) held source before after q at v below both made fits;
    since = on_one before after (ap (λ (s : Seated). s.known.local.steps) made.made);
    rest = store_rest r o.step o.only_reads q at v before after made;
  }
  store_leaves v (Err e) below made fits halted = unmoved o r held source before after both halted

-- a replica held exclusively stays so when another is tried shared
module _ {O : Type 0} (lines : ℕ) (r : Running O) (step : O → List ℕ → List ℕ → List ℕ × List ℕ) (reads : O → List ℕ → Bool) (lawful : List ℕ → Type 0) (q found : ℕ) (before after : Seated) (held : Right) where
  tried_still : (b : Bool) (l : Local) → (let l' : Local = cond b (shared_by q l found) (passing r.callers q l found) in (l'.number ≡ l.number) × (l'.exclusive ≡ l.exclusive))
  tried_still true l = (refl, refl)
  tried_still false l = (refl, refl)

  pub both_tried : (o : Result Right Right) → IsHeld lines r lawful (step r.object) before held → Steps r step reads (TryShared q) found before after → TriedShared r.callers q after found o → Fitting r.lines lawful r.base (step r.object) after.known → IfSome (result_ok o) (HoldsBoth lines r lawful (step r.object) after held)
  both_tried (Err mark) was s tried fits = tt
  both_tried (Ok source) was s tried fits =
      let l = before.known.local in
      let same = tried_still (nat_lt found exclusive_mark) l in
      let exclusive : after.known.local.exclusive ≡ l.exclusive = ap (λ (t : Seated). t.known.local.exclusive) s.made ∙ same.1 in
      record {
        exclusive = record {
          sized = was.sized;
          of = s.seat;
          right = record {
            few = was.right.few;
            caller = was.right.caller ∙ sym (ap (λ (t : Seated). t.known.local.number) s.made ∙ same.0);
            holds = ap (option_map (λ (h : HeldExclusive). h.replica)) exclusive ∙ was.right.holds;
          };
          some = subst (λ n. SomeFits n lawful r.base (step r.object) after.known) was.sized.lines_are fits.exclusive;
          dirty = subst (λ (x : Option HeldExclusive). All (λ i. i < region_words lines) (held_dirty x)) (sym exclusive) was.dirty;
        };
        shared = shared_held lines r lawful step after source was.sized s.seat tried.2 fits;
      }

-- ---- how many steps a copy makes

-- what holds of every error holds of a result that is one
pub at_err : {A E : Type 0} (Q : E → Type 0) (r : Result A E) (P : Result A E → Type 0) → IsErrAnd r Q → ((e : E) → P (Err e)) → P r
at_err Q (Ok a) P h x = absurd h
at_err Q (Err e) P h x = x e

-- what follows of what holds of every result that is none
pub on_ok_by : {A E : Type 0} (r : Result A E) (P Q : Type 0) → (P → Q) → OnOk r P → OnOk r Q
on_ok_by (Ok a) P Q f p = f p
on_ok_by (Err e) P Q f p = tt

-- loads are no stores
pub loads_most : (n : ℕ) (k k' : Known) → Counts n k k' → LoadsAtMost n k k'
loads_most n k k' one = (let a = one.0 in let b = one.1 in omega (arith, a, b))

-- fewer than `n` steps without a store are fewer than `n` beside one for each word stored
pub loads_fewer : (n : ℕ) (k k' : Known) → (k'.local.steps < k.local.steps + n) × StoresAsMany k k' → LoadsFewer n k k'
loads_fewer n k k' one = (let a = one.0 in let b = one.1 in omega (arith, a, b))

-- at most `m` loads, and then at most `n`, each time beside the stores, are at most `l = m + n` beside the stores
pub loads_on : (m n l : ℕ) (k k' k'' : Known) → m + n ≡ l → LoadsAtMost m k k' → LoadsAtMost n k' k'' → LoadsAtMost l k k''
loads_on m n l k k' k'' all one two = omega (arith, all, one, two)

-- a store is counted apart
pub store_counts : (instance : Instance) (h at v : ℕ) (k : Known) → LoadsAtMost 0 k (known_after instance (StoreWord h at v) k 0)
store_counts instance h at v k = (let one = one_store k.accesses at v in omega (arith, one))

-- where the rest of a copy came short, the whole did
pub short_on : (m n l region : ℕ) (k k' k'' : Known) → m + n ≤ l → LoadsAtMost m k k' → LoadsFewer n k' k'' ⊎ SomeDiffers region k'' → LoadsFewer l k k'' ⊎ SomeDiffers region k''
short_on m n l region k k' k'' all one (inl fewer) = inl (omega (arith, all, one, fewer))
short_on m n l region k k' k'' all one (inr differs) = inr differs
