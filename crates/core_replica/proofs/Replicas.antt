-- Each allowed step of any kind keeps the parts on locks and on regions.
use Rattle.std.proofs.Common.{◌≡◌, ℕ, List, set, sym, subst, Some}
use Rattle.std.specs.List.{slice_get}
use Rattle.cx_core.specs.declared.entry.Entry.{Entry}
use Rattle.cx_core.specs.declared.kinds.Event.{Event}
use Rattle.cx_core.specs.declared.kinds.Kind.{Kind}
use Rattle.cx_core.specs.declared.local.Local.{Local}
use Rattle.cx_core.specs.Events.{Guard, Makes, local_after, words_after}
use Rattle.cx_core.specs.Lawful.{Shape}
use Rattle.cx_core.specs.Merge.{IsHistory, scene_of}
use Rattle.cx_core.specs.State.{Instance, State}
use Rattle.cx_core.proofs.MergeLemmas.{history_is}
use Rattle.core_replica.specs.Replicas.{ReplicasLawful}
use Rattle.core_replica.proofs.LockKinds.{locks_kept}
use Rattle.core_replica.proofs.RegionKinds.{regions_kept}

pub replicas_kept : (instance : Instance) (history : List Entry) (s : State) (caller : ℕ) (l : Local) (kind : Kind) →
    Shape instance s.words s.locals → IsHistory instance.base.place history s.locals → ReplicasLawful instance history s.words s.locals →
    slice_get s.locals caller ≡ Some l → Guard instance (scene_of instance s) kind l →
    ReplicasLawful instance history (words_after instance kind l s.words) (set s.locals caller (local_after instance (scene_of instance s) kind l))
replicas_kept instance history s caller l kind shape merged law at guard =
    let scene = scene_of instance s in
    record {
      locks = locks_kept instance scene s.locals caller l kind shape law.locks at guard;
      regions = regions_kept instance history scene s.locals caller l kind shape law.locks law.regions (history_is instance.base.place history s.locals merged) at guard;
    }

pub replicas_event_kept : (instance : Instance) (history : List Entry) (event : Event) (before after : State) →
    Shape instance before.words before.locals → IsHistory instance.base.place history before.locals → ReplicasLawful instance history before.words before.locals →
    Makes instance event before after → ReplicasLawful instance history after.words after.locals
replicas_event_kept instance history event before after shape merged law m =
    subst (λ ws. ReplicasLawful instance history ws after.locals) (sym m.words)
    (subst (λ ls. ReplicasLawful instance history (words_after instance event.kind m.local before.words) ls) (sym m.locals)
    (replicas_kept instance history before event.caller m.local event.kind shape merged law m.of_caller m.guard))
