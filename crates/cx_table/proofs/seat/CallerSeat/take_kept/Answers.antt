use Rattle.std.proofs.Common.{subst}
use Rattle.table_invariant.specs.Fitting.{IsKeptSet, IsSetWithin}
use Rattle.table_invariant.specs.Seats.{Seated, known_of}
use Rattle.cx_table.proofs.Keeping.{handed_out}
use Rattle.cx_table.proofs.seat.CallerSeat.take_kept.Goals as goal

pub invariant_of-self : goal.invariant_of-self
invariant_of-self c = (c.self.invariant.0, handed_out (known_of c.self.inside.seat.me.0) c.self.inside.copy c.take_kept.new.self c.self.invariant.1 c.take_kept.ensures.left)

pub returns-clause-taken : goal.returns-clause-taken
returns-clause-taken c on =
    let kept = c.self.invariant.1.kept _ (c.take_kept.ensures.taken on) in
    subst (λ (s : Seated). IsKeptSet s.known.kept c.args.ticket c.take_kept.new.words.items × IsSetWithin s.region c.take_kept.new.words.items) c.self.view_is (kept.known_as, kept.within)
