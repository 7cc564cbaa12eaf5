use Rattle.std.proofs.Common.{◌≡◌, ◌++◌, flat_map, take}
use Rattle.doc_text.specs.Recovered.{applied_text}
use Rattle.doc_text.proofs.recovered.write_outcomes.Given as goal

abbrev pub invariant-loop-applied : goal.invariant-loop-applied
invariant-loop-applied l = l.out.items ≡ l.initial.out.items ++ flat_map applied_text (take l.applied-index l.outcomes)
