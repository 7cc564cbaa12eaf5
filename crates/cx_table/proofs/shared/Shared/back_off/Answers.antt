use Rattle.std.proofs.Common.{ℕ, rules, subst, sym}
use Rattle.cx_core.specs.LockEvents.{CanBackOff}
use Rattle.cx_table.proofs.Handing.{can_back_off}
use Rattle.cx_table.proofs.shared.Shared.back_off.Goals as goal

pub made-requires-clause-may : goal.made-requires-clause-may
made-requires-clause-may g c = record {
  step = record {
    seat = c.requires.seat;
    guard = subst (λ (n : ℕ). CanBackOff c.args.self.now.callers n c.args.seat.now.known.local) (sym c.replica_in-r.ensures) (can_back_off c.args.self.now.callers c.args.seat.now c.args.right c.requires.right);
  };
  followed = tt;
  within = search rules;
}
