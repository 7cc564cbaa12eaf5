use Rattle.std.proofs.Common.{◌≡◌, ◌++◌, [], All}
use Rattle.cx_table.specs.Remains.{known_by}
use Rattle.cx_table.proofs.shared.Shared.joined.Given as goal

-- the callers of the seats that are left stand in front of those that the closing seat knows
abbrev pub invariant-loop-seat : goal.invariant-loop-seat
invariant-loop-seat g l = record {
  table : l.closing.table_id ≡ l.self.table;
  of : All (λ s. s.table ≡ l.self.table) l.seats.items;
  whole : known_by l.seats.items ++ l.closing.me.0 ≡ known_by l.fn.seats.items;
  none : l.closing.me.1 ≡ [];
}

abbrev pub decreases-loop-seat : goal.decreases-loop-seat
decreases-loop-seat g l = goal.left-loop-seat g l
