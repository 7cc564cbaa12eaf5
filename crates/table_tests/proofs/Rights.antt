-- The rights of a seat whose caller works on the replica that it holds.
use Rattle.std.proofs.Common.{◌≡◌, ◌≤◌, ℕ, Bool, List, refl, ap, sym, subst, ◌∙◌, Option, Some, None}
use Rattle.std.specs.Option.{option_map}
use Rattle.cx_core.specs.declared.local.HeldExclusive.{HeldExclusive}
use Rattle.cx_core.specs.declared.local.HeldShared.{HeldShared}
use Rattle.cx_core.specs.Region.{region_words}
use Rattle.cx_core.specs.Rights.{shared_on}
use Rattle.table_invariant.specs.Fitting.{Fitting}
use Rattle.table_invariant.specs.Running.{IsTableWithinLimits, Running}
use Rattle.table_invariant.specs.Seats.{Seated}
use Rattle.cx_table.specs.Right.{Right}
use Rattle.replica.specs.Held.{unchanged_by_access, except_loaded, except_words}
use Rattle.replica.specs.Laws.{taken_held}
use Rattle.strong_trylock.specs.declared.try_lock.ExclusiveTried.{ExclusiveTried}
use Rattle.strong_trylock.specs.declared.try_lock.ExclusiveTried.TheVariants.{Got}
use Rattle.strong_trylock.specs.Held.{AllRights, all_rights, no_rights}
use Rattle.strong_trylock.specs.Tries.{AnswersExclusive, TriesExclusive}
use Rattle.table_tests.specs.Turns.{TakesIt}

-- a replica held exclusively is the same one where its words are left out
words_kept : (o : Option HeldExclusive) → option_map (λ (h : HeldExclusive). h.replica) (option_map except_words o) ≡ option_map (λ (h : HeldExclusive). h.replica) o
words_kept None = refl
words_kept (Some h) = refl

-- a replica held shared is the same one where the words that were loaded of it are left out
loaded_kept : (r : ℕ) (o : Option HeldShared) → option_map (λ (h : HeldShared). h.replica) (option_map (except_loaded r) o) ≡ option_map (λ (h : HeldShared). h.replica) o
loaded_kept r None = refl
loaded_kept r (Some h) = refl

-- a seat has the same rights without all that accesses of replica `r` change
held_rights : (r : ℕ) (s : Seated) → all_rights (unchanged_by_access r s) ≡ all_rights s
held_rights r s =
    ap (λ o. (let x : AllRights = record (all_rights s) { exclusive = o; shared = shared_on (unchanged_by_access r s).known.local } in x)) (words_kept s.known.local.exclusive)
    ∙ ap (λ o. (let x : AllRights = record (all_rights s) { shared = o } in x)) (loaded_kept r s.known.local.shared)

-- two seats that differ only in what accesses of replica `r` change have the same rights
pub access_rights : (r : ℕ) (before after : Seated) → unchanged_by_access r after ≡ unchanged_by_access r before → all_rights after ≡ all_rights before
access_rights r before after same = sym (held_rights r after) ∙ ap all_rights same ∙ held_rights r before

-- a caller without rights whose try of replica `q` answered a right has just taken that replica, and has no other right
pub took_it : {O : Type 0} (line_count : O → ℕ) (lawful : O → List ℕ → Type 0) (r : Running O) (step : O → List ℕ → List ℕ → List ℕ × List ℕ) (reads : O → List ℕ → Bool) (q : ℕ) (before after : Seated) (tried : ExclusiveTried) (held : Right) →
    IsTableWithinLimits line_count lawful r → all_rights before ≡ no_rights → TriesExclusive r step reads q before after tried → tried ≡ Got held → Fitting r.lines (lawful r.object) r.base (step r.object) after.known → TakesIt (line_count r.object) r (lawful r.object) (step r.object) after held
took_it line_count lawful r step reads q before after tried held running free tries is fits =
    -- what the try that answered the right `held` says: the word found was 0, and the right is on replica `q`
    let a = subst (AnswersExclusive r.callers q tries.found before after) is tries.answer in
    record {
      taken = taken_held (line_count r.object) r step reads (lawful r.object) q tries.found before after held (record {
        lines_are = running.lines;
        small = subst (λ n. n ≤ 16384) running.lines running.small;
        region = running.base.size.long ∙ ap region_words running.lines;
      }) tries.made (a.0, a.1, a.2) fits;
      rights = a.3 ∙ ap (λ (x : AllRights). (let y : AllRights = record x { exclusive = Some q } in y)) free ∙ ap (λ k. (let y : AllRights = record no_rights { exclusive = Some k } in y)) (sym a.1);
    }
