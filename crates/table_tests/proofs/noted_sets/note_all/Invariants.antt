use Rattle.redo_set.specs.Sets.{AreWithin}
use Rattle.table_tests.proofs.noted_sets.note_all.Given as goal

-- each address in the set is below 1680
abbrev pub invariant-loop-i : goal.invariant-loop-i
invariant-loop-i l = AreWithin 1680 l.set
