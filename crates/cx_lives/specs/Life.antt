-- The result of a life that is run.
use Rattle.std.specs.Prelude.{◌≡◌, ◌+◌, ◌^◌, ◌≤◌, ℕ, Bool, List, length, All}
use Rattle.cx_core.specs.declared.entry.Base.{Base}
use Rattle.table_invariant.specs.Running.{Running, instance_at}
use Rattle.table_invariant.specs.Seats.{Seated}
use Rattle.cx_table.specs.Remains.{AreSeats, ClosingWitness}
use Rattle.cx_table.specs.declared.remains.Remains.{Remains}
use Rattle.life_records.specs.Told.{IsTold}
use Rattle.life_records.specs.Works.{AreWorks}
use Rattle.life_records.specs.Limits.{IsLifeInLimits}
use Rattle.life_records.specs.Records.{Life, LifeRecord, Meaning}
use Rattle.cx_service.specs.ClosedOrder.{IsLinearizedBy}
use Rattle.cx_lives.specs.Ends.{IsNewIn}

-- a service of this object with this many callers, which opened from this base
pub record IsServiceOf {O : Type 0} (object : O) (lines callers : ℕ) (base : Base) (service : Running O) : Type 0 where
  pub callers_are : service.callers ≡ callers
  pub lines_are : service.lines ≡ lines
  pub from : service.base ≡ base
  pub same : service.object ≡ object

-- A life that may be run on a service by these callers: item i is caller i, with client i's limit and no call made, and there are
-- all; the life is within its limits, and as many tickets are left as it has commands.
pub record CanRun {O Op Reply Store : Type 0} (m : Meaning Op Reply Store) (life : Life Op) (r : Running O) (callers : List Seated) : Type 0 where
  pub seats : AreSeats r callers
  pub new : All (IsNewIn life r) callers
  pub clients : length callers ≡ life.clients
  pub limits : IsLifeInLimits m.is_op 8 life
  pub tickets : r.base.place + length life.commands ≤ 2 ^ 40

-- What is recorded of a life that ran, before the crash: the record agrees with the table that was closed with these seats, and its lines are those
-- of the callers' lists.
pub record HasRun {O Op Reply Store : Type 0} (m : Meaning Op Reply Store) (step : O → List ℕ → List ℕ → List ℕ × List ℕ) (reads : O → List ℕ → Bool) (life : Life Op) (r : Running O) (report : LifeRecord Reply) (remains : Remains) : Type 0 where
  -- the callers as they ended, with whom the service was closed
  pub seats : List Seated
  pub are : AreSeats r seats
  pub leaves : ClosingWitness r (instance_at r step reads) seats remains
  -- by the order of their steps, which are those of the closing, the history is a linearization
  pub order : IsLinearizedBy leaves
  pub is_told : IsTold m.encoding life r.base.place remains.trail.history remains.trail.locals report
  pub works : AreWorks m.encoding life remains.trail.locals report.journal report.reads report.stops report.fulls
  pub choice : report.choice ≡ life.choice
  pub kept : report.kept ≡ 0
  pub items : report.items ≡ 0
