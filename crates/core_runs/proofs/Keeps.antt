-- Each allowed step of any kind leaves a lawful state: what each part's own crate proves of it, put together.
use Rattle.std.proofs.Common.{◌≡◌, ◌^◌, ◌≤◌, ℕ, List, [], ◌∷◌, set, slice_index, sym, subst, ◌∙◌, arith, Some}
use Rattle.std.specs.List.{slice_get}
use Rattle.cx_core.specs.declared.kinds.Event.{Event}
use Rattle.cx_core.specs.declared.kinds.Kind.{Kind}
use Rattle.cx_core.specs.declared.local.Local.{Local}
use Rattle.cx_core.specs.Events.{Guard, Makes, Run, local_after, words_after}
use Rattle.cx_core.specs.Lawful.{Lawful}
use Rattle.cx_core.specs.LawfulAnswers.{Answers}
use Rattle.cx_core.specs.LawfulRoot.{Root, RootBounds}
use Rattle.cx_core.specs.Layout.{low_at}
use Rattle.cx_core.proofs.MergeLemmas.{history_is}
use Rattle.cx_core.specs.Merge.{scene_of}
use Rattle.cx_core.specs.Region.{place_of}
use Rattle.cx_core.specs.State.{Instance, State, opening_state}
use Rattle.cx_core.proofs.Putting.{no_word}
use Rattle.core_replica.proofs.AnswerKinds.{answers_kept}
use Rattle.core_replica.proofs.AnswerLaws.{answers_framed, answers_longer}
use Rattle.core_replica.proofs.AnswerOpening.{opening_answers}
use Rattle.core_replica.proofs.Places.{durable_within}
use Rattle.core_queue.proofs.Keeps.{queue_kept}
use Rattle.core_queue.proofs.Opening as queue
use Rattle.core_queue.proofs.QueueFrames.{queue_local, queue_of}
use Rattle.core_replica.proofs.GapLaws.{gaps_blank, gaps_kept, gaps_longer}
use Rattle.core_replica.proofs.LockLaws.{locks_local}
use Rattle.core_replica.proofs.Opening.{opening_locks, opening_regions}
use Rattle.core_replica.proofs.RegionLaws.{regions_longer, regions_shared}
use Rattle.core_replica.proofs.Replicas.{replicas_kept}
use Rattle.core_replica.proofs.RootOpening.{opening_root}
use Rattle.core_replica.proofs.RootKeeps.{root_kept}
use Rattle.core_replica.proofs.RootLaws.{low_off, root_framed}
use Rattle.core_replica.proofs.RootLimits.{root_bounds}
use Rattle.core_runs.specs.Frames.{SameLawful}

-- a local state put that has the same fields as far as any part names them
pub lawful_local : (instance : Instance) (s : State) (caller : ℕ) (l l' : Local) → Lawful instance s → slice_get s.locals caller ≡ Some l → SameLawful l l' →
    Lawful instance (record { words = s.words; locals = set s.locals caller l' })
lawful_local instance s caller l l' law at same =
    let locals' = set s.locals caller l' in
    let low = slice_index s.words low_at in
    let q = queue_local instance law.history s.words s.locals caller l l' (queue_of law) at same.queue in
    record {
      history = law.history;
      shape = q.shape;
      tickets = q.tickets;
      links = q.links;
      cells = q.cells;
      fronts = q.fronts;
      locks = locks_local instance s.words s.locals caller l l' law.locks at same.rights;
      regions = regions_shared instance law.history s.words s.locals caller l l' law.regions at same.held.exclusive (λ h has. law.regions.loaded caller l at h (sym same.held.shared ∙ has));
      root = no_word (λ ws. Root instance ws locals') s.words low_at
          (root_framed instance s.words s.locals caller l law.shape.some law.locks law.root at low_at low l' (low_off instance low_at (omega arith) (omega arith)) same.root);
      ring = q.ring;
      answers = no_word (λ ws. Answers instance law.history ws locals') s.words low_at
          (answers_framed instance law.history s.words s.locals low_at low caller l l' law.answers at (omega arith) same.answers);
      gaps = law.gaps;
    }

-- what the part on fronts needs of the root
pub bounds_of : (instance : Instance) (s : State) (law : Lawful instance s) → RootBounds instance law.history s.words s.locals
bounds_of instance s law = root_bounds instance law.history s.words s.locals law.shape law.locks law.regions law.root

-- An allowed step of a caller. Locks, regions, root and answers are kept with the history as it was, and then with that which
-- the queue goes on to.
pub kind_kept : (instance : Instance) (s : State) (caller : ℕ) (l : Local) (kind : Kind) → Lawful instance s → slice_get s.locals caller ≡ Some l → Guard instance (scene_of instance s) kind l →
    Lawful instance (record { words = words_after instance kind l s.words; locals = set s.locals caller (local_after instance (scene_of instance s) kind l) })
kind_kept instance s caller l kind law at guard =
    let scene = scene_of instance s in
    let words' = words_after instance kind l s.words in
    let locals' = set s.locals caller (local_after instance scene kind l) in
    let q = queue_kept instance law.history scene s.locals caller l kind (queue_of law) (bounds_of instance s law) (history_is instance.base.place law.history s.locals law.tickets.merged) at guard in
    let r = replicas_kept instance law.history s caller l kind law.shape law.tickets.merged (record { locks = law.locks; regions = law.regions }) at guard in
    let root' = root_kept instance law.history s caller l kind law.shape law.locks law.regions law.fronts law.root at guard in
    let answers' = answers_kept instance law.history s caller l kind law.shape law.tickets law.fronts law.locks law.regions law.answers at guard in
    let gaps' = gaps_kept instance law.history scene s.locals caller l law.shape at kind (history_is instance.base.place law.history s.locals law.tickets.merged) guard law.gaps in
    let bounds' = root_bounds instance law.history words' locals' q.lawful.shape r.locks r.regions root' in
    record {
      history = q.after;
      shape = q.lawful.shape;
      tickets = q.lawful.tickets;
      links = q.lawful.links;
      cells = q.lawful.cells;
      fronts = q.lawful.fronts;
      locks = r.locks;
      regions = regions_longer instance law.history q.after words' locals' q.continues r.regions;
      root = root';
      ring = q.lawful.ring;
      answers = answers_longer instance law.history q.after q.continues.more words' locals' q.continues.is (durable_within instance law.history words' locals' law.shape.some bounds') answers';
      gaps = gaps_longer instance law.history q.after words' q.continues gaps';
    }

-- an event
pub event_kept : (instance : Instance) (event : Event) (before after : State) → Lawful instance before → Makes instance event before after → Lawful instance after
event_kept instance event before after law m =
    subst (λ ws. Lawful instance (record { words = ws; locals = after.locals })) (sym m.words)
    (subst (λ ls. Lawful instance (record { words = words_after instance event.kind m.local before.words; locals = ls })) (sym m.locals)
    (kind_kept instance before event.caller m.local event.kind law m.of_caller m.guard))

-- a run from a lawful state ends in one
pub run_kept : (instance : Instance) (from : State) (events : List Event) (to : State) → Lawful instance from → Run instance from events to → Lawful instance to
run_kept instance from [] to law run = subst (Lawful instance) (sym run) law
run_kept instance from (event ∷ events) to law run =
    run_kept instance run.0 events to (event_kept instance event from run.0 law run.1) run.2

-- the opening state
pub opening_lawful : (instance : Instance) → 1 ≤ instance.callers → instance.callers ≤ 8 → instance.base.place ≤ 2 ^ 40 → place_of instance.base.words ≡ instance.base.place →
    Lawful instance (opening_state instance.callers instance.base)
opening_lawful instance some few within placed =
    let q = queue.opening_lawful instance some few within in
    record {
      history = [];
      shape = q.shape;
      tickets = q.tickets;
      links = q.links;
      cells = q.cells;
      fronts = q.fronts;
      locks = opening_locks instance.callers instance.base some;
      regions = opening_regions instance some placed;
      root = opening_root instance some placed;
      ring = q.ring;
      answers = opening_answers instance;
      gaps = gaps_blank instance [] (opening_state instance.callers instance.base).words (λ at from to. queue.zeros instance.callers instance.base at some (omega (arith, from)) to);
    }
