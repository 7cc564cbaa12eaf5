use Rattle.std.proofs.Common.{◌≡◌, ◌<◌, ◌∷◌, [], ℕ, length, take}
use Rattle.cx_core.specs.Events.{Guard}
use Rattle.cx_core.specs.declared.kinds.Kind.TheVariants.{ReadSet}
use Rattle.table_invariant.specs.Running.{instance_at}
use Rattle.table_invariant.specs.Seats.{known_of, unseen}
use Rattle.cx_table.specs.Runs.{TeachesRun, set_reads_from}
use Rattle.cx_table.proofs.shared.Shared.read_set_each.Given as goal

-- the words so far were read, and the others may be
abbrev pub invariant-loop-i : goal.invariant-loop-i
invariant-loop-i g l = record {
  table : l.seat.table_id ≡ l.self.table;
  one : l.seat.me ≡ (known_of l.seat.me.0 ∷ [], []);
  may : (i : ℕ) → i < 513 → Guard (instance_at l.self g.O.Object.step g.O.Object.only_reads) unseen (ReadSet l.k l.t i) (known_of l.seat.me.0).local;
  taught : TeachesRun (instance_at l.self g.O.Object.step g.O.Object.only_reads) (set_reads_from l.k l.t l.from) (take l.i l.into) l.fn.seat.me l.seat.me;
  length : length l.into ≡ length l.fn.into;
}
