use Rattle.std.proofs.Common.{◌≡◌}
use Rattle.redo_set.specs.Gaps.{KeepsNoting, begin_of, steps_on}
use Rattle.redo_set.proofs.gaps.note_each.Given as goal

-- the gaps so far are noted
abbrev pub invariant-loop-k : goal.invariant-loop-k
invariant-loop-k g l = record {
  leaves : KeepsNoting g.O.Object l.shared l.fn.seat l.seat;
  at : l.from ≡ begin_of l.ends l.k;
  steps : l.seat.known.local.steps ≡ steps_on l.k l.fn.seat.known.local.steps;
}
