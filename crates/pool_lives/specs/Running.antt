-- The result of a life before the crash.
use Rattle.std.specs.Prelude.{◌≡◌, ℕ, Bool, List, [], Some, length, map, slice_get}
use Rattle.cx_core.specs.declared.local.Local.{Local}
use Rattle.table_invariant.specs.Running.{Running, instance_at}
use Rattle.table_invariant.specs.Seats.{Seated}
use Rattle.cx_service.specs.ClosedOrder.{IsLinearizedBy}
use Rattle.cx_table.specs.Remains.{ClosingWitness}
use Rattle.cx_table.specs.declared.remains.Remains.{Remains}
use Rattle.client_pool.specs.Pools.{AreNewCallers}
use Rattle.life_records.specs.Journal.{IsByTicket}
use Rattle.life_records.specs.Lives.{answers_of}
use Rattle.life_records.specs.Records.{JournalLine, Life, LifeRecord, Meaning}
use Rattle.life_records.specs.Works.{AreWorks}
use Rattle.pool_lives.specs.Recorded.{AreAnswersInTurn, AreOfCallers, HaveTickets}
use Rattle.pool_lives.specs.Asking.{AreUnlimited}

-- a service of this object, and its callers, none of which made a call or is ever stopped
pub record IsServiceReady {O : Type 0} (object : O) (r : Running O) (seats : List Seated) : Type 0 where
  pub same : r.object ≡ object
  pub new : AreNewCallers r seats
  pub unlimited : AreUnlimited (map (λ (s : Seated). s.known.local.limit) seats)

-- What is recorded of a life before the crash, when its service was closed: the lists of each client, whose lines the record has, are of callers
-- of the service, and have all entries of its history.
pub record HasMet {O Op Reply Store : Type 0} (m : Meaning Op Reply Store) (step : O → List ℕ → List ℕ → List ℕ × List ℕ) (reads : O → List ℕ → Bool) (life : Life Op) (r : Running O) (report : LifeRecord Reply) (remains : Remains) : Type 0 where
  pub seats : List Seated
  pub leaves : ClosingWitness r (instance_at r step reads) seats remains
  -- by the order of all callers' steps, which are those of the closing, the history is a linearization
  pub order : IsLinearizedBy leaves
  pub clients : List Local
  pub count : length clients ≡ life.clients
  pub entries : List (JournalLine Reply)
  pub works : AreWorks m.encoding life clients entries report.reads [] []
  pub sorted : IsByTicket entries report.journal
  pub long : length entries ≡ length remains.trail.history
  pub tickets : HaveTickets r.base.place (length remains.trail.history) entries
  pub calls : (client : ℕ) (l : Local) → slice_get clients client ≡ Some l → AreOfCallers remains.trail.locals l
  pub in_turn : AreAnswersInTurn (answers_of entries report.reads)
  pub clients_are : report.clients ≡ life.clients
  pub choice : report.choice ≡ life.choice
  pub from : report.from ≡ r.base.place
  pub stops : report.stops ≡ []
  pub fulls : report.fulls ≡ []
