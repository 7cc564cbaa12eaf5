use Rattle.std.proofs.Common.{◌≡◌, ◌≤◌, length, take}
use Rattle.life_records.specs.Scripts.{own_ops}
use Rattle.pool_lives.specs.Working.{IsAtWork}
use Rattle.pool_lives.proofs.work.serve.Given as goal

-- the client was answered all its own commands among those that the loop passed
abbrev pub invariant-loop-at : goal.invariant-loop-at
invariant-loop-at g l = record {
  work : IsAtWork (g.O.TypedObject.meaning l.object) l.life l.pool.service l.pool.line.table.shared.table_id l.life.clients l.me l.number l.client l.lines;
  count : l.number ≡ length (own_ops l.me (take l.at l.life.commands));
  few : l.number ≤ l.at;
}
