-- Lives one after another, each of which starts from what is recovered from a crash of the one before.
use Rattle.std.specs.Prelude.{◌≡◌, ◌+◌, ◌-◌, ◌<◌, ◌≤◌, ℕ, Bool, List, [], ◌∷◌, ◌++◌, Some, length, slice_get, take}
use Rattle.cx_core.specs.declared.entry.Base.{Base}
use Rattle.cx_core.specs.declared.entry.Entry.{Entry}
use Rattle.cx_core.specs.declared.kinds.Event.{Event}
use Rattle.cx_core.specs.declared.local.Answer.{Answer}
use Rattle.cx_core.specs.declared.local.SeenRead.{SeenRead}
use Rattle.cx_core.specs.Base.{LawfulBase}
use Rattle.cx_core.specs.Crash.{CrashImage, IsCrashImage, recovered}
use Rattle.cx_core.specs.Events.{Run}
use Rattle.cx_core.specs.History.{image_after}
use Rattle.cx_core.specs.Lawful.{Lawful}
use Rattle.cx_core.specs.Merge.{history_of}
use Rattle.cx_core.specs.Region.{object_part}
use Rattle.cx_core.specs.State.{EachLocal, Instance, State}
use Rattle.core_order.specs.TotalOrder.{IsUnmade}

-- a life: its number of callers, the state in which it opened, all callers' steps, the state to which they led, and what a crash left there
pub record LifeRun : Type 0 where
  pub callers : ℕ
  pub from : State
  pub events : List Event
  pub to : State
  pub image : CrashImage

module _ (step : List ℕ → List ℕ → List ℕ × List ℕ) (reads : List ℕ → Bool) where
  -- the instance of a life that started from a base
  abbrev pub instance_from : Base → LifeRun → Instance
  instance_from base life = record { callers = life.callers; base = base; step = step; reads = reads }

  -- what is recovered from what its crash left
  abbrev pub next_base : Base → LifeRun → Base
  next_base base life = recovered (instance_from base life) life.image

  -- a life from a base: it opened lawfully with no operation, ran, and crashed
  pub record IsCrashedLife (base : Base) (life : LifeRun) : Type 0 where
    pub law : Lawful (instance_from base life) life.from
    pub new : IsUnmade life.from
    pub ran : Run (instance_from base life) life.from life.events life.to
    pub crashed : IsCrashImage (instance_from base life) life.to life.image

  -- each of these lives ran and crashed, and starts from what is recovered of the one before, the first from this base
  abbrev pub AreCrashedLives : Base → List LifeRun → Type 0
  AreCrashedLives base [] = Unit {0}
  AreCrashedLives base (life ∷ lives) = IsCrashedLife base life × AreCrashedLives (next_base base life) lives

  -- what the crashes kept of the lives' histories, one behind the other
  abbrev pub kept_history : Base → List LifeRun → List Entry
  kept_history base [] = []
  kept_history base (life ∷ lives) =
      let next = next_base base life in
      take (next.place - base.place) (history_of base.place life.to.locals) ++ kept_history next lives

  -- the base with which a further life would start
  abbrev pub last_base : Base → List LifeRun → Base
  last_base base [] = base
  last_base base (life ∷ lives) = last_base (next_base base life) lives

  -- the object's reply at a place of a history, from the first base on
  abbrev pub reply_by : Base → List Entry → ℕ → List ℕ → List ℕ
  reply_by first history place op = (step (image_after step (object_part first.words) (take (place - first.place) history)) op).1

  -- Each answer that was given in this state stands in a history from the first base on, and it is below the next life's base: an entry's at its ticket,
  -- and a read's behind all entries below its place. The reply is the object's there.
  pub record AnswersStand (first : Base) (history : List Entry) (base next : Base) (s : State) : Type 0 where
    pub updates : EachLocal s.locals (λ _ l. (i : ℕ) (x : Answer) → slice_get l.answered i ≡ Some x →
        (base.place ≤ x.ticket) × (x.ticket < next.place) × (entry : Entry) × (slice_get l.own i ≡ Some (record { ticket = x.ticket; entry = entry }))
        × (slice_get history (x.ticket - first.place) ≡ Some entry) × (x.reply ≡ reply_by first history x.ticket entry.op))
    pub seen : EachLocal s.locals (λ _ l. (i : ℕ) (x : SeenRead) → slice_get l.seen_reads i ≡ Some x →
        (base.place ≤ x.place) × (x.place ≤ next.place) × (x.reply ≡ reply_by first history x.place x.op))

  -- each answer that was given in any of these lives stands in the history, at a place no further than the base of the life after its own
  abbrev pub AllStand : Base → List Entry → Base → List LifeRun → Type 0
  AllStand first history base [] = Unit {0}
  AllStand first history base (life ∷ lives) = AnswersStand first history base (next_base base life) life.to × AllStand first history (next_base base life) lives

-- The base with which a further life would start is lawful, and it is the object after all that was kept.
pub record EndsAs (lines : ℕ) (lawful : List ℕ → Type 0) (step : List ℕ → List ℕ → List ℕ × List ℕ) (reads : List ℕ → Bool) (base : Base) (lives : List LifeRun) : Type 0 where
  pub lawful_base : LawfulBase lines lawful (last_base step reads base lives)
  pub place : (last_base step reads base lives).place ≡ base.place + length (kept_history step reads base lives)
  pub object : object_part (last_base step reads base lives).words ≡ image_after step (object_part base.words) (kept_history step reads base lives)
