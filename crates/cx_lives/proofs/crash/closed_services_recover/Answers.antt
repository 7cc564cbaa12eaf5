use Rattle.std.proofs.Common.{Err, Ok, subst, sym}
use Rattle.cx_base.specs.OldFormat.{no_old_format}
use Rattle.cx_core.specs.Base.{LawfulBase}
use Rattle.table_invariant.specs.Running.{instance_at}
use Rattle.recovery.specs.Images.{IsReadable}
use Rattle.recovery.specs.Kept.{IsKeptBy, crash_of}
use Rattle.recovery.specs.Recovery.{IsFaultOf, IsRecovered}
use Rattle.cx_lives.proofs.Recovering.{ends_at, keeps, opened}
use Rattle.cx_lives.proofs.crash.closed_services_recover.Goals as goal

pub returns-clause-whole : goal.returns-clause-whole
returns-clause-whole g c = (let has = c.requires in c.closed_tables_are_whole.ensures.whole has.service has.seats c.args.remains.now (opened has) has.leaves)

pub returns-clause-readable : goal.returns-clause-readable
returns-clause-readable g c = λ choice image left. (
    let has = c.requires in
    subst (λ x. IsReadable (g.O.Object.line_count x) image) has.is.same (c.closed_tables_are_whole.ensures.readable has.service has.seats c.args.remains.now choice image (opened has) has.leaves left))

pub returns-clause-faults : goal.returns-clause-faults
returns-clause-faults g c = λ choice image fault left of. (
    let o = g.O.Object in
    let has = c.requires in
    let answers = subst (λ x. IsFaultOf (o.version_number x) (o.lawful x) (o.old_format x) image fault) (sym has.is.same) of in
    c.closed_tables_recover.ensures has.service has.seats c.args.remains.now choice image (Err fault) (opened has) has.leaves left answers)

pub returns-clause-recovers : goal.returns-clause-recovers
returns-clause-recovers g c = λ choice image next left of. (
    let o = g.O.Object in
    let has = c.requires in
    let remains = c.args.remains.now in
    let table = opened has in
    let answers = subst (λ x. IsRecovered (o.version_number x) (o.lawful x) (o.old_format x) image next) (sym has.is.same) of in
    let by : IsKeptBy o.line_count o.lawful o.step has.service has.seats remains choice next =
    c.closed_tables_recover.ensures has.service has.seats remains choice image (Ok next) table has.leaves left answers in
    let crash = c.crash_images_are_left.ensures has.service has.seats remains choice image table has.leaves left in
    let rec = c.crash_images_recover.ensures (instance_at has.service o.step o.only_reads) (record { words = has.leaves.words; locals = has.leaves.whole }) (crash_of image) has.leaves.state crash in
    let laws = c.closed_tables_are_whole.ensures in
    record {
      whole = laws.whole has.service has.seats remains table has.leaves;
      left = left;
      readable = subst (λ x. IsReadable (o.line_count x) image) has.is.same (laws.readable has.service has.seats remains choice image table has.leaves left);
      recovered = subst (λ x. IsRecovered (o.version_number x) (o.lawful x) no_old_format image next) has.is.same ((c.closed_tables_stay.ensures has.service has.seats remains choice image next table has.leaves left).0 answers);
      lawful = subst (λ x. LawfulBase (o.line_count x) (o.lawful x) next) has.is.same by.again;
      place = ends_at has left by rec;
      keeps = keeps has left by rec;
    })
