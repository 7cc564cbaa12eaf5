use Rattle.std.proofs.Common.{◌≡◌, ◌+◌, length}
use Rattle.std.specs.Prelude.{vec_len}
use Rattle.cx_lives.specs.Works.{AreResultsFrom}
use Rattle.pool_lives.specs.Gathering.{AreClientsGathered}
use Rattle.pool_lives.specs.Working.{ClientServedOf}
use Rattle.pool_lives.proofs.gather.gather.Given as goal

-- the first clients and their lines are put together, and the results of the other workers are left
abbrev pub invariant-loop-works : goal.invariant-loop-works
invariant-loop-works g l = record {
  gathered : AreClientsGathered (g.O.TypedObject.meaning l.object) l.life l.pool.service l.pool.line.table.shared.table_id l.all;
  rest : AreResultsFrom (ClientServedOf (g.O.TypedObject.meaning l.object) l.life l.pool.service l.pool.line.table.shared.table_id l.life.clients) (length l.all.clients.items) l.works.items;
  count : length l.all.clients.items + length l.works.items ≡ vec_len l.fn.works;
}

abbrev pub decreases-loop-works : goal.decreases-loop-works
decreases-loop-works g l = length l.works.items
