use Rattle.std.proofs.Common.{◌<◌, refl, subst, sym}
use Rattle.table_invariant.specs.Fitting.{AgreeTo}
use Rattle.table_invariant.specs.Running.{instance_at}
use Rattle.table_invariant.proofs.Copying.{learns_copied}
use Rattle.cx_table.proofs.shared.Shared.release_copied.Goals as goal

pub release_moved-requires-clause-moved : goal.release_moved-requires-clause-moved
release_moved-requires-clause-moved g c =
    let copied = c.requires.copied in
    let region = c.requires.seat.region in
    record {
      held = copied.held;
      source = copied.source;
      dirty = λ some. record { place = copied.agree 0 (subst (λ n. 0 < n) (sym region) some); dirty = λ i below there. copied.agree i below };
      learned = learns_copied (instance_at c.args.self.now g.O.Object.step g.O.Object.only_reads) c.args.source.replica c.args.seat.now.known _ copied.source.few copied.source.holds refl (subst (AgreeTo c.args.seat.now.known) region copied.agree);
    }
