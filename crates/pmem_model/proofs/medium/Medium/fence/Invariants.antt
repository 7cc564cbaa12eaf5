use Rattle.std.proofs.Common.{◌≡◌, ◌++◌, map, take, drop}
use Rattle.pmem_model.specs.Medium.{fenced}
use Rattle.pmem_model.proofs.medium.Medium.fence.Given as goal

abbrev pub invariant-loop-at : goal.invariant-loop-at
invariant-loop-at l = record {
  words : l.self-inside.words.items ≡ map fenced (take l.at l.fn.self.words) ++ drop l.at l.fn.self.words;
  stores : l.self-inside.stores.items ≡ l.fn.self.stores;
}
