use Rattle.std.proofs.Common.{sym, ap, ◌∙◌, arith}
use Rattle.table_invariant.proofs.Moves.{joins}
use Rattle.cx_table.proofs.shared.Shared.take_in.Goals as goal

pub join_seat-requires : goal.join_seat-requires
join_seat-requires g c = (
  c.requires.closing.0 ∙ sym (ap (λ s. s.table) c.self.view_is),
  ap (λ s. s.table) c.seat.view_is ∙ c.requires.seat ∙ sym (ap (λ s. s.table) c.self.view_is),
  ap (λ m. m.1) c.seat.invariant.0.one,
  omega (arith, c.self.invariant.0.words),
  λ s h me apart there. joins _ s _ c.args.closing.now.me.0 _ _ h me apart there,
)
