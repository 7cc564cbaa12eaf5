-- What the loads of a run tell together.
use Rattle.std.proofs.Common.{◌≡◌, ◌+◌, ◌<◌, ℕ, Bool, List, [], ◌∷◌, ◌++◌, length, set, slice_index, take, ap, sym, subst, ◌∙◌, arith, below_more, length-append, Result, Ok, Err, MatchResult, OnErr, OnOk}
use Rattle.std.proofs.lemmas.List.{get_or_append_left, length-take-le, take_more_set}
use Rattle.std.proofs.Math.Seq.{get_or-append_seam}
use Rattle.cx_base.specs.declared.object.Object.{Ghosts}
use Rattle.cx_base.specs.Memory.{AreAt, Loaded, Reads}
use Rattle.cx_base.proofs.ReadLemmas.{Reads-load, Reads-none}
use Rattle.cx_core.specs.declared.kinds.Kind.{Kind}
use Rattle.table_invariant.specs.Fitting.{Fitting}
use Rattle.table_invariant.specs.Running.{Running}
use Rattle.table_invariant.specs.Seats.{Seated}
use Rattle.table_invariant.specs.Steps.{Steps}
use Rattle.cx_table.specs.Runs.{Runs, no_step, one_more_step}
use Rattle.replica.specs.Held.{EndsRun, HaltsLoading, LoadsRun, no_load, one_more_load}

-- one word more stands behind others
one_more_at : (from v : ℕ) (words now : List ℕ) → AreAt from words now → slice_index now (from + length words) ≡ v → AreAt from (words ++ v ∷ []) now
one_more_at from v words now so_far is i below =
    let P : ℕ → Type 0 = λ k. slice_index now (from + k) ≡ slice_index (words ++ v ∷ []) k in
    below_more P (length words)
    (λ k before. so_far k before ∙ sym (get_or_append_left words (v ∷ []) 0 k before))
    (is ∙ sym (get_or-append_seam words v [] 0))
    i (let long = length-append words (v ∷ []) in omega (arith, long, below))

module _ {O : Type 0} (r : Running O) (step : O → List ℕ → List ℕ → List ℕ × List ℕ) (reads : O → List ℕ → Bool) (lawful : List ℕ → Type 0) (kinds : ℕ → Kind) where
  -- one step more was made
  pub run_more : (words : List ℕ) (i v : ℕ) (before mid after : Seated) → i < length words → Runs r step reads lawful kinds (take i words) before mid → Steps r step reads (kinds i) v mid after → Fitting r.lines lawful r.base (step r.object) after.known → Runs r step reads lawful kinds (take (i + 1) (set words i v)) before after
  run_more words i v before mid after below run last fits =
      one_more_step _ _ _ (take i words) v mid (take_more_set words i v below) run (subst (λ k. Steps r step reads (kinds k) v mid after) (sym (length-take-le i words (omega arith))) last) fits

  -- no word was loaded by no step
  none_made : (words : List ℕ) (before after : Seated) → length words ≡ 0 → Runs r step reads lawful kinds words before after → after ≡ before
  none_made words before after none (no_step _ _ _ _ same) = same
  none_made words before after none (one_more_step _ _ _ first found mid longer run last fits) = absurd (let long = ap length longer ∙ length-append first (found ∷ []) in omega (arith, long, none))

  -- one word was loaded by one step
  pub one_made : (words : List ℕ) (before after : Seated) → length words ≡ 1 → Runs r step reads lawful kinds words before after → Steps r step reads (kinds 0) (slice_index words 0) before after × Fitting r.lines lawful r.base (step r.object) after.known
  one_made words before after one (no_step _ _ _ none same) = absurd (omega (arith, ap length none, one))
  one_made words before after one (one_more_step _ _ _ first found mid longer run last fits) =
      let long = ap length longer ∙ length-append first (found ∷ []) in
      let empty : length first ≡ 0 = omega (arith, long, one) in
      let word : found ≡ slice_index words 0 = sym (ap (λ ws. slice_index ws 0) longer ∙ subst (λ n. slice_index (first ++ found ∷ []) n ≡ found) empty (get_or-append_seam first found [] 0)) in
      (subst (λ v. Steps r step reads (kinds 0) v before after) word (subst (λ s. Steps r step reads (kinds 0) found s after) (none_made first before mid empty run) (subst (λ n. Steps r step reads (kinds n) found mid after) empty last)), fits)

-- what a call makes, whole or as far as the limit lets it, are loads, where such steps are
pub loaded_run : {O A E : Type 0} (o : Ghosts O) (r : Running O) (kinds : ℕ → Kind) (load : ℕ → ℕ → Seated → Seated → Type 0) (from : ℕ) (result : Result A E) (words : List ℕ) (before after : Seated) → ((ws : List ℕ) → Runs r o.step o.only_reads (o.lawful r.object) kinds ws before after → LoadsRun load from ws before after) →
    OnOk result (Runs r o.step o.only_reads (o.lawful r.object) kinds words before after) → OnErr result (EndsRun o r kinds words before after) → MatchResult result (λ _. LoadsRun load from words before after) (λ _. HaltsLoading load from words before after)
loaded_run o r kinds load from (Ok x) words before after each made halted = each words made
loaded_run o r kinds load from (Err e) words before after each made halted = record { limit = halted.limit; some = (halted.n, each (take halted.n words) halted.run) }

pub on_err : {A E : Type 0} (r : Result A E) (X : Type 0) → X → OnErr r X
on_err (Ok a) X x = tt
on_err (Err e) X x = x

module _ (load : ℕ → ℕ → Seated → Seated → Type 0) (from : ℕ) where
  -- what each load keeps is kept
  pub run_keeps : (P : Seated → Type 0) → ((at v : ℕ) (before after : Seated) → load at v before after → P before → P after) → (words : List ℕ) (before after : Seated) → LoadsRun load from words before after → P before → P after
  run_keeps P each words before after (no_load _ _ _ none same) was = subst P (sym same) was
  run_keeps P each words before after (one_more_load _ _ _ first v mid longer run last) was = each (from + length first) v mid after last (run_keeps P each first before mid run was)

  -- each pair that stands then stood before, and has the words loaded
  pub run_reads : {Key : Type 0} (stands : Seated → Key → List ℕ → Type 0) → ((at v : ℕ) (before after : Seated) → load at v before after → Loaded at v (stands before) (stands after)) → (words : List ℕ) (before after : Seated) → LoadsRun load from words before after →
      Reads (stands before) (stands after) (AreAt from words)
  run_reads stands each words before after (no_load _ _ _ none same) =
      subst (λ s. Reads (stands before) (stands s) (AreAt from words)) (sym same) (Reads-none (stands before) (λ first now s i below. absurd (omega (arith, ap length none, below))))
  run_reads stands each words before after (one_more_load _ _ _ first v mid longer run last) =
      subst (λ ws. Reads (stands before) (stands after) (AreAt from ws)) (sym longer)
      (Reads-load (run_reads stands each first before mid run) (each (from + length first) v mid after last) (λ now so_far is. one_more_at from v first now so_far is))
