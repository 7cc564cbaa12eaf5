-- The run of a life's service is a life over crashes, and from what its crash left the next life's base is recovered.
use Rattle.std.proofs.Common.{◌≡◌, ◌∙◌, ◌<◌, ◌≤◌, ℕ, Bool, List, slice_index, ap, arith, length, refl, subst, sym}
use Rattle.std.proofs.lemmas.List.{ext_get_or}
use Rattle.cx_base.specs.Codes.{root_place_of}
use Rattle.cx_base.specs.OldFormat.{no_old_format}
use Rattle.cx_core.specs.Base.{LawfulBase}
use Rattle.cx_core.specs.Crash.{IsCrashImage, IsKept, recovered}
use Rattle.cx_core.specs.History.{full_image}
use Rattle.cx_core.specs.State.{Instance, State}
use Rattle.cx_core.specs.declared.entry.Base.{Base}
use Rattle.cx_core.specs.declared.entry.Entry.{Entry}
use Rattle.cx_core.specs.declared.entry.Image.{Image}
use Rattle.core_order.specs.CrashedLives.{IsCrashedLife}
use Rattle.core_runs.proofs.WholeLaws.{crash_kept}
use Rattle.table_invariant.proofs.Opening.{limited_lawful}
use Rattle.table_invariant.specs.Ending.{Ending}
use Rattle.table_invariant.specs.Running.{Running, instance_at}
use Rattle.table_invariant.specs.Seats.{Seated}
use Rattle.cx_service.proofs.CallOrder.{none_linked}
use Rattle.cx_service.specs.ClosedOrder.{IsClosedLinearizable, IsLinearizedBy}
use Rattle.cx_table.specs.Remains.{ClosingWitness}
use Rattle.cx_table.specs.declared.remains.Remains.{Remains}
use Rattle.life_records.specs.Meanings.{object_instance}
use Rattle.life_records.specs.Records.{Meaning}
use Rattle.recovery.proofs.Leaving.{left_crash}
use Rattle.recovery.specs.Kept.{IsOpened, crash_of}
use Rattle.recovery.specs.Recovery.{IsRecovered}
use Rattle.cx_lives.specs.Life.{IsServiceOf}
use Rattle.cx_lives.specs.Lives.{IsLinearized, LeavesImage, life_run, table_of}

-- two bases that are kept of a history, with the same place, are one
kept_same : (instance : Instance) (history : List Entry) (s t : State) (a b : Base) → IsKept instance history s a → IsKept instance history t b → a.place ≡ b.place → a ≡ b
kept_same instance history s t a b is other place =
    let long : length a.words ≡ length b.words = is.long ∙ sym other.long in
    let full : (i : ℕ) → i < length a.words → slice_index a.words i ≡ slice_index b.words i =
    λ i below. is.full i (subst (λ n. i < n) is.long below)
    ∙ ap (λ p. slice_index (full_image instance.step instance.base history p) i) place
    ∙ sym (other.full i (subst (λ n. i < n) is.long below)) in
    λ i. record { place = place i; words = ext_get_or 0 a.words b.words long full i }

-- a table that was closed, said over its trail
pub closed_table : {O : Type 0} {object : O} {lines callers : ℕ} {base : Base} {service : Running O} {seats : List Seated} {remains : Remains} (step : O → List ℕ → List ℕ → List ℕ × List ℕ) (reads : O → List ℕ → Bool) → IsServiceOf object lines callers base service
    → (leaves : ClosingWitness service (instance_at service step reads) seats remains) → IsLinearizedBy leaves → IsClosedLinearizable (table_of callers lines remains.trail) (object_instance (step object) (reads object) callers remains.trail.base) seats remains
closed_table {object = object} {lines = lines} {callers = callers} {service = service} {seats = seats} {remains = remains} step reads is l by =
    let steps_same : instance_at service step reads ≡ object_instance (step object) (reads object) callers remains.trail.base =
    λ i. record { callers = is.callers_are i; base = sym l.base i; step = step (is.same i); reads = reads (is.same i) } in
    let of_table : Running (Unit {0}) = record { table = service.table; callers = service.callers; lines = service.lines; base = service.base; object = tt } in
    let same : of_table ≡ table_of callers lines remains.trail = λ i. record { table = sym l.of i; callers = is.callers_are i; lines = is.lines_are i; base = sym l.base i; object = tt } in
    let leaves : ClosingWitness of_table (instance_at service step reads) seats remains = record {
      callers = l.callers;
      lines = l.lines;
      first = l.first;
      published = l.published;
      of = l.of;
      base = l.base;
      locals = l.locals;
      words = l.words;
      whole = l.whole;
      shows = l.shows;
      state = l.state;
      reached = l.reached;
      history = l.history;
      merged = l.merged;
      chain = l.chain;
      volatile = l.volatile;
      durable = l.durable;
      dirty = l.dirty;
      notes = l.notes;
      times = l.times;
      images = l.images;
    } in
    let order : IsLinearizedBy leaves = record { linearizable = by.linearizable; history = by.history; calls = by.calls; images = by.images; one_order = by.one_order } in
    subst (λ (x : Running (Unit {0})). IsClosedLinearizable x (object_instance (step object) (reads object) callers remains.trail.base) seats remains) same
    (subst (λ (x : Instance). IsClosedLinearizable of_table x seats remains) steps_same (record { leaves = leaves; order = order }))

module _ {Op Reply Store : Type 0} {m : Meaning Op Reply Store} {lines : ℕ} {is_lawful : List ℕ → Type 0} {step : List ℕ → List ℕ → List ℕ × List ℕ} {reads : List ℕ → Bool} {callers : ℕ} {trail : Ending}
    (by : IsLinearized m lines is_lawful step reads callers trail) (choice : ℕ) (image : Image) (leaves_it : LeavesImage by choice image) (based : LawfulBase lines is_lawful trail.base) where
  abbrev inst : Instance
  inst = object_instance step reads callers trail.base

  abbrev closed : State
  closed = record { words = by.closed.leaves.words; locals = by.closed.leaves.whole }

  -- the table was opened
  opened : IsOpened (λ (_ : Unit {0}). lines) (λ _. is_lawful) (table_of callers lines trail)
  opened = record {
    lines = refl;
    enough = subst (λ (n : ℕ). 64 ≤ n) leaves_it.readable.of leaves_it.readable.enough;
    small = subst (λ (n : ℕ). n ≤ 16384) leaves_it.readable.of leaves_it.readable.small;
    base = based;
  }

  -- what the life's choice left is a crash image of the state that was closed
  crash : IsCrashImage inst closed (crash_of image)
  crash = left_crash (λ _. lines) (λ _. is_lawful) (λ _. step) (λ _. reads) (table_of callers lines trail) by.seats by.remains choice image opened by.closed.leaves leaves_it.left

  pub crashed_life : IsCrashedLife step reads trail.base (life_run by image)
  crashed_life =
      let leaves = by.closed.leaves in
      let law = leaves.state in
      let below = law.tickets.below in
      record {
        law = limited_lawful inst leaves.reached.limits law.shape.some law.shape.few (omega (arith, below)) based.at_place;
        new = none_linked inst leaves.reached.limits;
        ran = leaves.reached.ran;
        crashed = crash;
      }

  -- where a base was recovered from the image, and was kept of a state with the history of the trail, it is what the core's definitions recover
  pub recovered_life : (version : ℕ) (next : Base) (s : State) (history : List Entry) → IsRecovered version is_lawful no_old_format image next → IsKept inst history s next → history ≡ trail.history → next ≡ recovered inst (crash_of image)
  recovered_life version next s history is kept same =
      let leaves = by.closed.leaves in
      let whole : leaves.state.history ≡ history = leaves.history ∙ ap (λ (t : Ending). t.history) by.trail_is ∙ sym same in
      let core : IsKept inst history closed (recovered inst (crash_of image)) = subst (λ h. IsKept inst h closed (recovered inst (crash_of image))) whole (crash_kept inst closed leaves.state (crash_of image) crash) in
      let place : next.place ≡ root_place_of callers image.root = ap (λ (b : Base). b.place) is.is ∙ ap (λ n. root_place_of n image.root) (leaves_it.left.callers ∙ leaves.callers) in
      kept_same inst history s closed next (recovered inst (crash_of image)) kept core place
