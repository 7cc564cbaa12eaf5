-- Each kind of step keeps the part on answers, with the history as it is.
use Rattle.std.proofs.Common.{◌≡◌, ◌==◌, ◌≤◌, inl, inr, ℕ, nat_lt, cond, true, false, List, Some, None, length, set, refl, sym, subst, arith}
use Rattle.std.specs.List.{slice_get}
use Rattle.cx_core.specs.declared.entry.Entry.{Entry}
use Rattle.cx_core.specs.declared.kinds.Event.{Event}
use Rattle.cx_core.specs.declared.kinds.Kind.{Kind}
use Rattle.cx_core.specs.declared.kinds.Kind.TheVariants.{Link, TryExclusive, TryShared, BackOff, Publish, Raise}
use Rattle.cx_core.specs.declared.local.Local.{Local}
use Rattle.cx_core.specs.Events.{Guard, Makes, found_by, local_after, new_word, step_word, words_after}
use Rattle.cx_core.specs.Lawful.{Fronts, Shape, Tickets}
use Rattle.cx_core.specs.LawfulAnswers.{Answers}
use Rattle.cx_core.specs.LawfulLocks.{Locks}
use Rattle.cx_core.specs.LawfulRegions.{Regions}
use Rattle.cx_core.specs.LockEvents.{exclusive_mark, passing, refused_by, shared_by, taken}
use Rattle.cx_core.specs.Merge.{scene_of}
use Rattle.cx_core.specs.QueueEvents.{linked, lost, seen_word}
use Rattle.cx_core.specs.Rights.{is_at, shared_on}
use Rattle.cx_core.specs.RootEvents.{outrun, published}
use Rattle.cx_core.specs.State.{Instance, Scene, State, one_more}
use Rattle.cx_core.proofs.Locals.{slice_get-push}
use Rattle.cx_core.proofs.MergeLemmas.{history_is}
use Rattle.cx_core.proofs.Putting.{either}
use Rattle.core_replica.specs.AnswerFrames.{OffAnswers, SameAnswers}
use Rattle.core_replica.specs.Keeping.{Grounds}
use Rattle.core_replica.proofs.AnswerLaws.{answers_apart, answers_framed}
use Rattle.core_replica.proofs.RaiseLaws.{raise_kept}

module _ (instance : Instance) (history : List Entry) (scene : Scene) (locals : List Local) (caller : ℕ) (l : Local) (old : Answers instance history scene.words locals) (at : slice_get locals caller ≡ Some l) where
  abbrev After : Kind → Type 0
  After kind = Answers instance history (words_after instance kind l scene.words) (set locals caller (local_after instance scene kind l))

  -- a kind on another word than DUR that answers nothing
  framed : (kind : Kind) → OffAnswers (step_word instance kind l) → SameAnswers l (local_after instance scene kind l) → After kind
  framed kind off same = answers_framed instance history scene.words locals _ _ caller l (local_after instance scene kind l) old at off same

  -- a link that won: the entry is at the front, which no answered read has passed
  link_won : (j : ℕ) (place v : ℕ) → OffAnswers place → length l.answered ≤ length l.own → l.floor ≤ l.front → Answers instance history (set scene.words place v) (set locals caller (linked l j))
  link_won j place v off counted behind =
      answers_apart instance history scene.words locals place v caller l (linked l j) old at off refl refl refl (λ x was i y there. elim (slice_get-push l.own _ i y there) [
        | inl before ↦ inl before
        | inr e ↦ (
            let is_last : i ≡ length l.own = e.0 in
            inr (omega (arith, was.before), subst (λ z. x.place ≤ z.ticket) e.1 (omega (arith, was.up_to_floor))))
      ])

  link_kept : (j : ℕ) → length l.answered ≤ length l.own → l.floor ≤ l.front → After (Link j)
  link_kept j counted behind =
      let place = step_word instance (Link j) l in
      let found = found_by instance (Link j) l scene.words in
      let v = new_word instance (Link j) l found in
      let off : OffAnswers place = omega arith in
      elim (found == seen_word l.seen_slot) as (λ b. Answers instance history (set scene.words place v) (set locals caller (cond b (linked l j) (lost instance.callers l found)))) [
        | true ↦ link_won j place v off counted behind
        | false ↦ answers_framed instance history scene.words locals place v caller l (lost instance.callers l found) old at off (record { own = refl; answered = refl; seen_reads = refl; floor = refl })
      ]

-- an allowed step of any kind keeps the part on answers
kind_kept : (instance : Instance) (history : List Entry) (scene : Scene) (locals : List Local) (caller : ℕ) (l : Local) (kind : Kind) → Grounds instance history scene.words locals → Answers instance history scene.words locals →
    scene.history ≡ history → slice_get locals caller ≡ Some l → Guard instance scene kind l →
    Answers instance history (words_after instance kind l scene.words) (set locals caller (local_after instance scene kind l))
kind_kept instance history scene locals caller l (Link j) grounds old same at guard =
    let counted : length l.answered ≡ length l.own = guard.5 in
    link_kept instance history scene locals caller l old at j (omega arith) (grounds.fronts.each caller l at).floor
kind_kept instance history scene locals caller l (TryExclusive r) grounds old same at guard =
    let found = found_by instance (TryExclusive r) l scene.words in
    framed instance history scene locals caller l old at (TryExclusive r) (omega arith)
    (either (SameAnswers l) (found == 0) (taken instance scene r l) (refused_by instance.callers r l found) (record { own = refl; answered = refl; seen_reads = refl; floor = refl }) (record { own = refl; answered = refl; seen_reads = refl; floor = refl }))
kind_kept instance history scene locals caller l (TryShared r) grounds old same at guard =
    let found = found_by instance (TryShared r) l scene.words in
    framed instance history scene locals caller l old at (TryShared r) (omega arith)
    (either (SameAnswers l) (nat_lt found exclusive_mark) (shared_by r l found) (passing instance.callers r l found) (record { own = refl; answered = refl; seen_reads = refl; floor = refl }) (record { own = refl; answered = refl; seen_reads = refl; floor = refl }))
kind_kept instance history scene locals caller l (BackOff r) grounds old same at guard =
    let a = record l { shared = None; steps = one_more l.steps } in
    let b = record l { passer = None; steps = one_more l.steps } in
    let c = record l { downgraded = None; steps = one_more l.steps } in
    framed instance history scene locals caller l old at (BackOff r) (omega arith)
    (either (SameAnswers l) (is_at r (shared_on l)) a (cond (is_at r l.passer) b c) (record { own = refl; answered = refl; seen_reads = refl; floor = refl }) (either (SameAnswers l) (is_at r l.passer) b c (record { own = refl; answered = refl; seen_reads = refl; floor = refl }) (record { own = refl; answered = refl; seen_reads = refl; floor = refl })))
kind_kept instance history scene locals caller l Publish grounds old same at guard =
    let found = found_by instance Publish l scene.words in
    framed instance history scene locals caller l old at Publish (omega arith)
    (either (SameAnswers l) (found == l.seen_cur) (published instance.callers l) (outrun instance.callers l found) (record { own = refl; answered = refl; seen_reads = refl; floor = refl }) (record { own = refl; answered = refl; seen_reads = refl; floor = refl }))
kind_kept instance history scene locals caller l (Raise code read) grounds old same at guard = raise_kept instance history scene locals caller l code read grounds old same at guard
kind_kept instance history scene locals caller l kind grounds old same at guard = framed instance history scene locals caller l old at kind (omega arith) (record { own = refl; answered = refl; seen_reads = refl; floor = refl })

-- an allowed step in a state keeps the part on answers
pub answers_kept : (instance : Instance) (history : List Entry) (s : State) (caller : ℕ) (l : Local) (kind : Kind) → Shape instance s.words s.locals → Tickets instance history s.locals → Fronts instance history s.words s.locals →
    Locks instance.callers s.words s.locals → Regions instance history s.words s.locals → Answers instance history s.words s.locals → slice_get s.locals caller ≡ Some l → Guard instance (scene_of instance s) kind l →
    Answers instance history (words_after instance kind l s.words) (set s.locals caller (local_after instance (scene_of instance s) kind l))
answers_kept instance history s caller l kind shape tickets fronts locks regions answers at guard =
    kind_kept instance history (scene_of instance s) s.locals caller l kind (record { shape = shape; tickets = tickets; fronts = fronts; locks = locks; regions = regions }) answers
    (history_is instance.base.place history s.locals tickets.merged) at guard

pub event_kept : (instance : Instance) (history : List Entry) (event : Event) (before after : State) → Grounds instance history before.words before.locals → Answers instance history before.words before.locals →
    Makes instance event before after → Answers instance history after.words after.locals
event_kept instance history event before after g answers m =
    subst (λ ws. Answers instance history ws after.locals) (sym m.words)
    (subst (λ ls. Answers instance history (words_after instance event.kind m.local before.words) ls) (sym m.locals)
    (answers_kept instance history before event.caller m.local event.kind g.shape g.tickets g.fronts g.locks g.regions answers m.of_caller m.guard))
