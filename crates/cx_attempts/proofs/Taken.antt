-- What a caller holds that took a replica.
use Rattle.std.proofs.Common.{◌≡◌, ◌≤◌, ℕ, Bool, cond, List, ap, sym, subst, ◌∙◌, eq-eqb, Some}
use Rattle.cx_base.specs.declared.object.Object.{Ghosts}
use Rattle.cx_core.specs.declared.local.Local.{Local}
use Rattle.cx_core.specs.LockEvents.{refused_by, taken}
use Rattle.cx_core.specs.Region.{region_words}
use Rattle.table_invariant.specs.Fitting.{Fitting}
use Rattle.table_invariant.specs.Running.{IsTableWithinLimits, Running, instance_at}
use Rattle.table_invariant.specs.Seats.{Seated, unseen}
use Rattle.cx_table.specs.Right.{Right}
use Rattle.cx_attempts.specs.Taking.{TakesOne}
use Rattle.replica.specs.Held.{IsSized}
use Rattle.replica.specs.Laws.{taken_held}
use Rattle.strong_trylock.specs.declared.try_lock.ExclusiveTried.{ExclusiveTried}
use Rattle.strong_trylock.specs.declared.try_lock.ExclusiveTried.TheVariants.{Got}
use Rattle.strong_trylock.specs.Held.{AllRights, all_rights, no_rights}
use Rattle.strong_trylock.specs.Tries.{AnswersExclusive, TriesExclusive}

-- a running table is within the limits of its object
pub sized_running : {O : Type 0} (line_count : O → ℕ) (lawful : O → List ℕ → Type 0) (r : Running O) → IsTableWithinLimits line_count lawful r → IsSized (line_count r.object) r
sized_running line_count lawful r running = record {
  lines_are = running.lines;
  small = subst (λ n. n ≤ 16384) running.lines running.small;
  region = running.base.size.long ∙ ap region_words running.lines;
}

-- a caller without any right that tried the replica `q` exclusively and got it has just taken it, and it is its only right
pub took_one : {O : Type 0} (o : Ghosts O) (r : Running O) (q : ℕ) (before after : Seated) (tried : ExclusiveTried) (held : Right) →
    IsTableWithinLimits o.line_count o.lawful r → all_rights before ≡ no_rights → TriesExclusive r o.step o.only_reads q before after tried → tried ≡ Got held → Fitting r.lines (o.lawful r.object) r.base (o.step r.object) after.known → TakesOne o r before after held
took_one o r q before after tried held running free tries is fits =
    let a = subst (AnswersExclusive r.callers q tries.found before after) is tries.answer in
    let l = before.known.local in
    let zero = eq-eqb tries.found 0 a.0 in
    let now : Bool → Local = λ b. cond b (taken (instance_at r o.step o.only_reads) unseen q l) (refused_by r.callers q l tries.found) in
    record {
      taken = taken_held (o.line_count r.object) r o.step o.only_reads (o.lawful r.object) q tries.found before after held (sized_running o.line_count o.lawful r running) tries.made (a.0, a.1, a.2) fits;
      rights = a.3 ∙ ap (λ (x : AllRights). (let y : AllRights = record x { exclusive = Some q } in y)) free ∙ ap (λ k. (let y : AllRights = record no_rights { exclusive = Some k } in y)) (sym a.1);
      refused = ap (λ (s : Seated). s.known.local.refused) tries.made.made ∙ ap (λ b. (now b).refused) zero;
      met = ap (λ (s : Seated). s.known.local.met) tries.made.made ∙ ap (λ b. (now b).met) zero;
    }
