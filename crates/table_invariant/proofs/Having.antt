-- The entries and the write sets that a seat has are the history's, so what is really there fits where these are applied.
use Rattle.std.proofs.Common.{◌≡◌, ◌-◌, inl, inr, ℕ, List, ap, sym, subst, ◌∙◌, arith, Some}
use Rattle.std.proofs.lemmas.Option.{same_Some, slice_get_within}
use Rattle.std.specs.List.{slice_get}
use mathlib.Core.Option.{some}
use lib.ListN.{get_elem?}
use Rattle.atomic_table.specs.Table as atomic
use Rattle.cx_core.specs.declared.local.Local.{Local}
use Rattle.cx_core.specs.Base.{LawfulBase}
use Rattle.cx_core.specs.Lawful.{Lawful}
use Rattle.cx_core.specs.Shown.{shown}
use Rattle.cx_core.specs.State.{Instance, State}
use Rattle.cx_core.specs.WriteSet.{IsWriteSetOf}
use Rattle.cx_core.proofs.HistoryLemmas.{ObjectLaws}
use Rattle.core_queue.specs.NotedSets.{OwnSetsHold}
use Rattle.table_invariant.specs.declared.rule.Known.{Known}
use Rattle.table_invariant.specs.Fitting.{FitsKnown, has_of}
use Rattle.table_invariant.specs.Having.{FitsThere, IsOfHistory}
use Rattle.table_invariant.specs.Rule.{IsTraced, NotesHold, RuleHolds, SetsHold}
use Rattle.table_invariant.proofs.Entries.{entries_from, own_linked}
use Rattle.table_invariant.proofs.Fitting.{noted_linked, traced_on}

module _ (instance : Instance) (s : State) (law : Lawful instance s) (known : Known) (l : Local) (of_caller : slice_get s.locals known.local.number ≡ Some l) (shows : known.local ≡ shown l)
    (noted : NotesHold instance law.history known.noted) (sets : SetsHold instance s law.history known) (own : OwnSetsHold instance law.history l.cells) where
  pub has_of_history : IsOfHistory instance law.history (has_of known)
  has_of_history = record {
    entries = λ t e from has. elim has [
      | inl read ↦ noted_linked instance law.history (entries_from instance s law) known.noted t e noted from read
      | inr mine ↦ own_linked instance s law known l of_caller shows t e mine
    ];
    sets = λ t set from has. elim has [
      | inl read ↦ (
          let first = read.each 0 (omega arith) in
          let x = sets.noted.stand first.0 _ first.1 in
          let within = slice_get_within law.history (t - instance.base.place) x.entry x.linked.at in
          (omega (arith, within, from), sets.noted.whole t set read))
      | inr mine ↦ elim mine [
        | inl offered ↦ (
            let o = own offered.j offered.cell t (subst (λ cs. slice_get cs offered.j ≡ Some offered.cell) (ap (λ (x : Local). x.cells) shows) offered.at) offered.named offered.offered in
            (o.0, subst (IsWriteSetOf instance law.history t) offered.is o.1))
        | inr kept ↦ sets.kept t set kept
      ]
    ];
  }

  -- what is there fits
  pub there_on : (lines : ℕ) (lawful : List ℕ → Type 0) → ObjectLaws lines lawful instance.step → LawfulBase lines lawful instance.base → (traced : IsTraced instance law.history known.accesses l) → FitsKnown lines lawful instance.base instance.step known traced.first traced.now
  there_on lines lawful laws base traced =
      traced_on lines lawful instance laws base law.history law.tickets.below (entries_from instance s law) (has_of known) has_of_history known.accesses traced.first traced.now traced.origin traced.leads

-- in each state of a table what is there fits
pub fits_there : (lines : ℕ) (lawful : List ℕ → Type 0) (instance : Instance) → ObjectLaws lines lawful instance.step → LawfulBase lines lawful instance.base → (s : atomic.State ℕ (List Known)) (seat i : ℕ) (view : List Known) (known : Known) (l : Local)
    (rule : RuleHolds instance s) → get_elem? s.views seat ≡ some view → slice_get view i ≡ Some known → slice_get rule.locals known.local.number ≡ Some l → FitsThere lines lawful instance.base instance.step known l
fits_there lines lawful instance laws base s seat i view known l rule at here there =
    let mine = rule.each seat i view known at here in
    let same : mine.local ≡ l = same_Some mine.local l (sym mine.of_caller ∙ there) in
    let state : State = record { words = s.words; locals = rule.locals } in
    record {
      first = mine.traced.first;
      now = mine.traced.now;
      fits = there_on instance state rule.law known mine.local mine.of_caller mine.shows mine.notes (rule.sets seat i view known at here) (rule.own known.local.number mine.local mine.of_caller) lines lawful laws base mine.traced;
      held = λ h has. mine.traced.held h (ap (λ (x : Local). x.exclusive) same ∙ has);
    }
