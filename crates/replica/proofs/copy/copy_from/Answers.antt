use Rattle.std.proofs.Common.{refl}
use Rattle.cx_core.specs.Region.{region_words}
use Rattle.table_invariant.specs.Fitting.{AgreeTo}
use Rattle.table_invariant.proofs.Copying.{agree_equal}
use Rattle.replica.proofs.copy.copy_from.Goals as goal

pub returns-clause-copied : goal.returns-clause-copied
returns-clause-copied g c =
    let t = c.args.shared.now in
    let lines = g.O.Object.line_count t.object in
    let made = c.in_ok-place.ensures.copied in
    let known = c.copy_marked.new.seat.known in
    let agree : AgreeTo known (region_words lines) = λ i below. made.copied.agree i below refl in
    record {
      agree = agree;
      equal = agree_equal lines (g.O.Object.lawful t.object) t.base (g.O.Object.step t.object) known (region_words lines) refl agree;
      differed = made.copied.dirty;
      place = made.place;
      loaded = made.copied.loaded;
    }
