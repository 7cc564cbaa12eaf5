-- What a closed table tells of the order of its callers' operations.
use Rattle.std.specs.Prelude.{◌≡◌, List}
use Rattle.core_order.specs.TotalOrder.{HasOrder}
use Rattle.core_runs.specs.Linearizable.{IsLinearizable}
use Rattle.cx_core.specs.State.{Instance}
use Rattle.table_invariant.specs.Rule.{opening_limited}
use Rattle.table_invariant.specs.Running.{Running}
use Rattle.table_invariant.specs.Seats.{Seated}
use Rattle.cx_table.specs.declared.remains.Remains.{Remains}
use Rattle.cx_table.specs.Remains.{ClosingWitness}
use Rattle.cx_service.specs.CallOrder.{KeepsCalls, KeepsImages}

-- By the order of the steps by which a table reached what it left, that is a linearizable object's, with the history of the trail. The words, the local
-- states and the list of steps are those of the closing itself. The history also keeps the order that the seats' counts of steps give, and by
-- these the images that callers took hold what anyone was answered before them, and stay durable. And all operations,
-- reads among them, have one order, in which the object alone makes each by its step and gives each reply, and which keeps the order of those steps.
pub record IsLinearizedBy {O : Type 0} {table : Running O} {instance : Instance} {seats : List Seated} {r : Remains} (leaves : ClosingWitness table instance seats r) : Type 0 where
  pub linearizable : IsLinearizable instance (opening_limited instance leaves.reached.limits) (record { words = leaves.words; locals = leaves.whole })
  pub history : linearizable.history ≡ r.trail.history
  pub calls : KeepsCalls leaves.reached.events seats (record { words = leaves.words; locals = leaves.whole })
  pub images : KeepsImages instance (opening_limited instance leaves.reached.limits) leaves.reached.events seats (record { words = leaves.words; locals = leaves.whole })
  pub one_order : HasOrder instance (opening_limited instance leaves.reached.limits) leaves.reached.events (record { words = leaves.words; locals = leaves.whole })

-- A table was closed, and left this: the steps that all callers made, the words and the local states to which they led, the history, and that by the
-- order of those steps it is a linearizable object's.
pub record IsClosedLinearizable {O : Type 0} (table : Running O) (instance : Instance) (seats : List Seated) (r : Remains) : Type 0 where
  pub leaves : ClosingWitness table instance seats r
  pub order : IsLinearizedBy leaves
