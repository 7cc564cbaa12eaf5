-- What an image that a caller takes rests on.
use Rattle.std.proofs.Common.{◌≡◌, ◌<◌, ◌≤◌, ℕ, List, [], ◌∷◌, Some, ap, slice_index, arith}
use Rattle.std.specs.List.{slice_get}
use Rattle.cx_base.specs.Codes.{root_place_of}
use Rattle.cx_core.specs.declared.kinds.Event.{Event}
use Rattle.cx_core.specs.declared.local.Answer.{Answer}
use Rattle.cx_core.specs.declared.local.Local.{Local}
use Rattle.cx_core.specs.declared.local.SeenRead.{SeenRead}
use Rattle.cx_core.specs.Crash.{CrashImage, IsCrashImage, recovered}
use Rattle.cx_core.specs.Events.{Run}
use Rattle.cx_core.specs.Lawful.{Lawful}
use Rattle.cx_core.specs.LawfulAnswers.{durable_place}
use Rattle.cx_core.specs.Layout.{cur_at, dur_at}
use Rattle.cx_core.specs.State.{EachLocal, Instance, State}
use Rattle.cx_core.proofs.RootCodes.{place_up}
use Rattle.core_runs.proofs.Going.{durable_event}
use Rattle.core_runs.proofs.Keeps.{bounds_of, event_kept, run_kept}
use Rattle.core_runs.proofs.WholeLaws.{crash_kept}

pub durable_run : (instance : Instance) (from : State) (events : List Event) (to : State) → Lawful instance from → Run instance from events to → durable_place instance from.words ≤ durable_place instance to.words
durable_run instance from [] to law run = (let same = ap (λ (s : State). durable_place instance s.words) run in omega (arith, same))
durable_run instance from (event ∷ events) to law run =
    let first = durable_event instance event from run.0 law run.1 in
    let rest = durable_run instance run.0 events to (event_kept instance event from run.0 law run.1) run.2 in
    omega (arith, first, rest)

pub raised_durable : (instance : Instance) (s to : State) (events : List Event) (caller : ℕ) (l : Local) (image : CrashImage) → Lawful instance s → slice_get s.locals caller ≡ Some l → Run instance s events to → IsCrashImage instance to image →
    root_place_of instance.callers l.raised ≤ (recovered instance image).place
raised_durable instance s to events caller l image law at run crash =
    let law' = run_kept instance s events to law run in
    let up = place_up instance.callers l.raised (slice_index s.words dur_at) law.shape.some (law.fronts.each caller l at).raised in
    let on = durable_run instance s events to law run in
    let durable = (crash_kept instance to law' image crash).durable in
    omega (arith, up, on, durable)

pub answered_below : (instance : Instance) (s : State) → Lawful instance s → EachLocal s.locals (λ _ l.
    ((i : ℕ) (x : Answer) → slice_get l.answered i ≡ Some x → x.ticket < root_place_of instance.callers (slice_index s.words cur_at))
    × ((i : ℕ) (x : SeenRead) → slice_get l.seen_reads i ≡ Some x → x.place ≤ root_place_of instance.callers (slice_index s.words cur_at)))
answered_below instance s law caller l at =
    let up = place_up instance.callers (slice_index s.words dur_at) (slice_index s.words cur_at) law.shape.some (bounds_of instance s law).dur in (
      λ i x there. (let durable = ((law.answers.each caller l at).entries i x there).durable in omega (arith, up, durable)),
      λ i x there. (let durable = ((law.answers.each caller l at).reads i x there).durable in omega (arith, up, durable)),
    )
