use Rattle.std.proofs.Common.{◌≡◌, ◌++◌, map}
use Rattle.std.specs.Vec.Iter.{into_iter_items}
use Rattle.service_parts.proofs.workers.parted.Given as goal

-- the first callers are taken out, and their outputs
abbrev pub invariant-loop-worked : goal.invariant-loop-worked
invariant-loop-worked g l = record {
  made : l.callers.items ≡ map (λ w. w.caller) l.yielded;
  outputs : l.outputs.items ≡ map (λ w. w.output) l.yielded;
  all : l.yielded ++ into_iter_items l.worked-iterator ≡ l.fn.all.items;
}
