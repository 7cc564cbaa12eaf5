-- Each event keeps the part on the root.
use Rattle.std.proofs.Common.{◌≡◌, ℕ, List, set, sym, subst, Some}
use Rattle.std.specs.List.{slice_get}
use Rattle.cx_core.specs.declared.entry.Entry.{Entry}
use Rattle.cx_core.specs.declared.kinds.Kind.{Kind}
use Rattle.cx_core.specs.declared.local.Local.{Local}
use Rattle.cx_core.specs.Events.{Guard, local_after, words_after}
use Rattle.cx_core.specs.Lawful.{Fronts, Shape}
use Rattle.cx_core.specs.LawfulLocks.{Locks}
use Rattle.cx_core.specs.LawfulRegions.{Regions}
use Rattle.cx_core.specs.LawfulRoot.{Root}
use Rattle.cx_core.specs.Merge.{scene_of}
use Rattle.cx_core.specs.State.{Instance, State}
use Rattle.core_replica.specs.Root.{KeepsRoot}
use Rattle.core_replica.proofs.RootKinds.{root_kind_kept}

-- an allowed step of a caller
pub root_kept : (instance : Instance) (history : List Entry) (s : State) (caller : ℕ) (l : Local) (kind : Kind) → Shape instance s.words s.locals →
    Locks instance.callers s.words s.locals → Regions instance history s.words s.locals → Fronts instance history s.words s.locals → Root instance s.words s.locals →
    slice_get s.locals caller ≡ Some l → Guard instance (scene_of instance s) kind l →
    Root instance (words_after instance kind l s.words) (set s.locals caller (local_after instance (scene_of instance s) kind l))
root_kept instance history s caller l kind shape locks regions fronts root at guard =
    root_kind_kept instance history (scene_of instance s) s.locals caller l kind shape locks regions fronts root at guard

-- an event
pub root_event_kept : (kind : Kind) → KeepsRoot kind
root_event_kept kind instance history before after caller shape locks regions fronts root made =
    subst (λ ws. Root instance ws after.locals) (sym made.words)
    (subst (λ ls. Root instance (words_after instance kind made.local before.words) ls) (sym made.locals)
    (root_kind_kept instance history (scene_of instance before) before.locals caller made.local kind shape locks regions fronts root made.of_caller made.guard))
