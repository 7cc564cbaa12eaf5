-- A gap of an entry's ticket is noted by what its caller noted of a replica.
use Rattle.std.proofs.Common.{◌≡◌, ◌+◌, ◌^◌, ◌<◌, ℕ, List, refl, ap, sym, subst, ◌∙◌, arith, Some, slice_index}
use Rattle.std.proofs.Math.Logic.{∥∥₁_elim}
use Rattle.std.proofs.Props.{props}
use Rattle.std.specs.List.{slice_get}
use Rattle.cx_core.specs.declared.kinds.Kind.TheVariants.{NoteGap}
use Rattle.cx_core.specs.declared.local.Local.{Local}
use Rattle.cx_core.specs.Base.{LawfulBase}
use Rattle.cx_core.specs.Events.{next, step_word}
use Rattle.cx_core.specs.Gaps.{CanNoteGap, Gap, IsGap, gap_of}
use Rattle.cx_core.specs.Lawful.{Lawful}
use Rattle.cx_core.specs.Layout.{gap_slots}
use Rattle.cx_core.specs.Shown.{shown}
use Rattle.cx_core.specs.State.{Instance, State}
use Rattle.cx_core.specs.WriteSet.{stored}
use Rattle.cx_core.proofs.HistoryLemmas.{ObjectLaws}
use Rattle.cx_core.proofs.MergeLemmas.{history_is}
use Rattle.core_queue.specs.NotedSets.{OwnSetsHold}
use Rattle.table_invariant.specs.declared.rule.Known.{Known}
use Rattle.table_invariant.specs.Fitting.{has_of}
use Rattle.table_invariant.specs.Learns.{LearnsBy}
use Rattle.table_invariant.specs.Listed.{TellsGap}
use Rattle.table_invariant.specs.Rule.{IsTraced, NotesHold, SetsHold}
use Rattle.table_invariant.specs.Seats.{unseen}
use Rattle.table_invariant.proofs.Entries.{entries_from}
use Rattle.table_invariant.proofs.Fitting.{chain_on, full_at, origin_full}
use Rattle.table_invariant.proofs.GapCopies.{sets_tell_gaps}
use Rattle.table_invariant.proofs.Having.{has_of_history, there_on}
use Rattle.table_invariant.proofs.Keeps.{learns_there}

module _ (lines : ℕ) (lawful : List ℕ → Type 0) (instance : Instance) (laws : ObjectLaws lines lawful instance.step) (base : LawfulBase lines lawful instance.base) where
  -- a gap that whatever fits tells is one of the history
  gap_known : (s : State) (law : Lawful instance s) (known : Known) (l : Local) (g : Gap) (pairs : List ℕ) → slice_get s.locals known.local.number ≡ Some l → known.local ≡ shown l →
      NotesHold instance law.history known.noted → IsTraced instance law.history known.accesses l → SetsHold instance s law.history known → OwnSetsHold instance law.history l.cells →
      TellsGap lines lawful instance.base instance.step known g pairs → IsGap instance law.history g
  gap_known s law known l g pairs of_caller shows noted traced sets own tells =
      let history = law.history in
      let entries = entries_from instance s law in
      let small = law.tickets.below in
      let there = there_on instance s law known l of_caller shows noted sets own lines lawful laws base traced in
      let had = has_of_history instance s law known l of_caller shows noted sets own in
      let first = origin_full lines lawful instance laws base history small entries traced.first traced.origin in
      ∥∥₁_elim (tells.tells.leads traced.first traced.now there) (hlevel props) (λ x. (
      let a = chain_on lines lawful instance laws base history small entries (has_of known) had traced.first first g.ticket x.before x.from in
      let b = chain_on lines lawful instance laws base history small entries (has_of known) had traced.first first (g.ticket + 1) traced.now x.to in
      let long = (full_at lines lawful instance laws base history small entries g.ticket a.0 a.1).size.long in
      sets_tell_gaps instance history g pairs (record {
        few = tells.tells.few;
        within = λ m below. (let w = tells.tells.within m below in omega (arith, w, long, base.size.long));
        gives = ap (stored (slice_index pairs 0) pairs) (sym a.2) ∙ x.leads ∙ b.2;
      }) b.1 tells.off))

  -- a gap that whatever fits tells may be noted
  pub learns_gap : (s i v : ℕ) (known : Known) (word : ℕ) (pairs : List ℕ) → s < gap_slots instance.callers → i < 16 → v < 2 ^ 64 → word ≡ step_word instance (NoteGap s i v) known.local →
      TellsGap lines lawful instance.base instance.step known (gap_of instance.callers s v) pairs → LearnsBy instance (λ _. NoteGap s i v) known word (λ _. v)
  learns_gap slot i v known word pairs slot_is small fits at tells words _ locals law l of_caller shows noted traced sets own full =
      let s : State = record { words = words; locals = locals } in
      let same = history_is instance.base.place law.history locals law.tickets.merged in
      let is = gap_known s law known l (gap_of instance.callers slot v) pairs of_caller shows noted traced sets own tells in
      learns_there instance (NoteGap slot i v) known words word v fits at locals law l of_caller shows noted traced sets full (record {
        guard = subst (λ h. CanNoteGap instance h slot i v) (sym same) (slot_is, small, fits, is);
        new_is = refl;
        shows = ap (λ (x : Local). next instance unseen (NoteGap slot i v) x (slice_index words word)) shows;
        timed = tt;
      })
