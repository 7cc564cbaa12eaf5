use Rattle.std.proofs.Common.{◌≡◌, ◌*◌}
use Rattle.pmem_model.specs.Medium.{WritesBack}
use Rattle.pmem_model.proofs.medium.Medium.write_back.Given as goal

abbrev pub invariant-loop-at : goal.invariant-loop-at
invariant-loop-at l = record {
  words : WritesBack (8 * l.line) l.at l.fn.self.words l.self-inside.words.items;
  stores : l.self-inside.stores.items ≡ l.fn.self.stores;
}
