use Rattle.std.proofs.Common.{◌≡◌, ◌≤◌, vec_capacity}
use Rattle.crossbeam_queue.specs.Passes.{view, IsPassOf}
use Rattle.seat_pool.specs.Pooling.{limits_at}
use Rattle.client_pool.specs.Pools.{AreCallersPlaced}
use Rattle.client_pool.proofs.Opening.{AreMade}
use Rattle.client_pool.proofs.open.new_clients.Given as goal

-- the first clients were made
abbrev pub invariant-loop-number : goal.invariant-loop-number
invariant-loop-number g l = record {
  pass : IsPassOf l.line l.pass;
  placed : AreCallersPlaced l.service l.number (view l.pass);
  room : l.count ≤ vec_capacity l.clients;
  limits : limits_at (view l.pass).home ≡ limits_at (view l.fn.pass).home;
  made : AreMade l.service l.line.table.shared.table_id (limits_at (view l.fn.pass).home) l.number l.clients.items;
}
