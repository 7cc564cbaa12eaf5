use Rattle.std.proofs.Common.{◌≡◌, ◌<◌, ◌/◌, ℕ, length, take}
use Rattle.cx_table.specs.Fitting.{Fitting}
use Rattle.cx_table.specs.Running.{IsSeatOf}
use Rattle.mutation_queue.specs.Entries.{EndsAfter, with_read}
use Rattle.mutation_queue.proofs.entries.read_each.Given as goal

-- the words so far were read, and no step reached the limit
abbrev pub invariant-loop-i : goal.invariant-loop-i
invariant-loop-i g l = record {
  seat : l.seat ≡ with_read (l.cell / 16) l.ticket (take l.i l.into) l.fn.seat;
  long : length l.into ≡ 145;
  within : (n : ℕ) → n < l.i → EndsAfter n l.fn.seat.known.local → ⊥;
  of : IsSeatOf l.shared l.seat;
  fits : 0 < l.i → Fitting l.shared.lines (g.O.Object.lawful l.shared.object) l.shared.base (g.O.Object.step l.shared.object) l.seat.known;
}
