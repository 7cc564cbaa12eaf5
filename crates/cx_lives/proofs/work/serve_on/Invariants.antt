use Rattle.std.proofs.Common.{◌≡◌, ◌≤◌, take, length}
use Rattle.life_records.specs.Scripts.{own_ops}
use Rattle.cx_lives.specs.Serving.{IsServed}
use Rattle.cx_lives.proofs.work.serve_on.Given as goal

-- the client was answered all its own commands among those that the loop passed
abbrev pub invariant-loop-at : goal.invariant-loop-at
invariant-loop-at g l = record {
  served : IsServed (g.O.TypedObject.meaning l.service.object) l.life l.service l.client l.number l.progress;
  count : l.number ≡ length (own_ops l.client (take l.at l.life.commands));
  few : l.number ≤ l.at;
}
