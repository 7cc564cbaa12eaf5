use Rattle.std.proofs.Common.{◌≡◌, ◌-◌, ◌≤◌, length}
use Rattle.index_validation.proofs.Shapes.{IsPending, IsRoomy, pending}
use Rattle.index_validation.proofs.shape.shape_at.Given as goal

abbrev pub invariant-loop : goal.invariant-loop
invariant-loop l = record {
  left : IsPending l.words l.root l.count (pending l.depth l.stack) (l.count - l.counter);
  roomy : IsRoomy l.words l.depth l.stack;
  shallow : l.depth ≤ 65;
  long : length l.stack ≡ 66;
}
