use Rattle.client_pool.specs.Clients.{HasNoMore}
use Rattle.pool_lives.specs.Asking.{MayAsk}
use Rattle.pool_lives.proofs.calls.ask.Given as goal

-- the client was answered nothing since the loop began, and may ask again
abbrev pub invariant-loop : goal.invariant-loop
invariant-loop g l =
    HasNoMore l.pool.service l.pool.line.table.shared.table_id l.fn.client l.client × MayAsk l.pool.service l.pool.line.table.shared.table_id l.client
