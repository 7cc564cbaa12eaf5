-- The result of a life of a pool that is run.
use Rattle.std.specs.Prelude.{◌≡◌, ◌≤◌, ℕ, Bool, true, List, [], length}
use Rattle.cx_base.specs.declared.object.Object.{Ghosts}
use Rattle.cx_table.specs.declared.remains.Remains.{Remains}
use Rattle.life_records.specs.Begins.{IsBaseOf, nothing_begun}
use Rattle.life_records.specs.Limits.{IsLifeInLimits}
use Rattle.life_records.specs.Records.{Life, LifeRecord, Meaning}
use Rattle.pool_lives.specs.PoolLives.{IsPoolLife, IsPoolTold}

-- a life of 1 to 64 clients without cut lines, of at most 100,000 commands
pub record IsLifeOfPool {Op Reply Store : Type 0} (m : Meaning Op Reply Store) (life : Life Op) : Type 0 where
  pub limits : IsLifeInLimits m.is_op 64 life
  pub uncut : life.cuts ≡ []
  pub few : length life.commands ≤ 100000

-- an operation that only reads
pub record IsProbe {Op Reply Store : Type 0} (m : Meaning Op Reply Store) (op : Op) : Type 0 where
  pub within : m.is_op op
  pub reads : m.is_reading op ≡ true

-- The record is one of a pool life, witnessed by the execution log of what a service of this many callers leaves, which began with nothing.
pub record HasPooled {Op Reply Store : Type 0} (m : Meaning Op Reply Store) (lines : ℕ) (is_lawful : List ℕ → Type 0) (step : List ℕ → List ℕ → List ℕ × List ℕ) (reads : List ℕ → Bool)
    (life : Life Op) (seats : ℕ) (report : LifeRecord Reply) (remains : Remains) : Type 0 where
  pub legal : IsPoolLife m life report
  pub tells : IsPoolTold m lines is_lawful step reads life seats remains.trail report
  pub callers : remains.callers ≡ seats
  pub began : IsBaseOf m remains.trail.base (nothing_begun m)

-- the record is one of a pool life over this object, whose lines, lawful words and steps are meant
abbrev pub HasPooledOver : {O Op Reply Store : Type 0} → Ghosts O → O → Meaning Op Reply Store → Life Op → ℕ → LifeRecord Reply → Remains → Type 0
HasPooledOver o object m = HasPooled m (o.line_count object) (o.lawful object) (o.step object) (o.only_reads object)
