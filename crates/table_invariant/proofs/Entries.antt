-- The entries of a lawful state, by their callers' numbers in the base, and those that are a caller's own.
use Rattle.std.proofs.Common.{◌≡◌, ℕ, List, Some, ap, subst, ◌∙◌}
use Rattle.std.specs.List.{slice_get}
use Rattle.cx_core.specs.declared.entry.Entry.{Entry}
use Rattle.cx_core.specs.declared.local.Linked.{Linked}
use Rattle.cx_core.specs.declared.local.Local.{Local}
use Rattle.cx_core.specs.Lawful.{Lawful}
use Rattle.cx_core.specs.Merge.{IsLinked}
use Rattle.cx_core.specs.Shown.{shown}
use Rattle.cx_core.specs.State.{Instance, State}
use Rattle.cx_core.proofs.MergeLemmas.{own_at}
use Rattle.core_queue.proofs.EntryLaws.{entry_numbered}
use Rattle.core_queue.proofs.QueueFrames.{queue_of}
use Rattle.table_invariant.specs.declared.rule.Known.{Known}
use Rattle.table_invariant.specs.Fitting.{IsOwn}
use Rattle.table_invariant.specs.Rule.{IsEntryFrom}

pub entries_from : (instance : Instance) (s : State) (law : Lawful instance s) → (i : ℕ) (entry : Entry) → slice_get law.history i ≡ Some entry → IsEntryFrom instance i entry
entries_from instance s law i entry at =
    let is = entry_numbered instance law.history s.words s.locals (queue_of law) i entry at in
    record { caller = is.caller; some = is.some; most = is.most; op = is.op }

-- a caller's own entry is linked with its ticket
pub own_linked : (instance : Instance) (s : State) (law : Lawful instance s) (known : Known) (l : Local) → slice_get s.locals known.local.number ≡ Some l → known.local ≡ shown l →
    (ticket : ℕ) (entry : Entry) → IsOwn known.local.own ticket entry → IsLinked instance.base.place law.history ticket entry
own_linked instance s law known l of_caller shows ticket entry mine =
    let is = ap (λ (x : Local). x.own) shows ∙ law.tickets.merged.own known.local.number l of_caller in
    let p = own_at known.local.number instance.base.place law.history mine.i _ (subst (λ (xs : List Linked). slice_get xs mine.i ≡ Some (record { ticket = ticket; entry = entry })) is mine.at) in
    record { from = p.0; at = p.1 }
