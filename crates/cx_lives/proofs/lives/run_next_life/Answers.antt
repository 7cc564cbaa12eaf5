use Rattle.std.proofs.Common.{List, ◌++◌, ◌∷◌, [], sym, subst, Some}
use Rattle.cx_core.proofs.HistoryLemmas.{ObjectLaws}
use Rattle.table_invariant.specs.Ending.{Ending}
use Rattle.life_records.specs.Begins.{nothing_begun}
use Rattle.life_records.specs.declared.record.LifeRecord.{LifeRecord}
use Rattle.cx_lives.specs.Lives.{HaveLived, begun_by}
use Rattle.cx_lives.proofs.Appending.{last_base, lived_then}
use Rattle.cx_lives.proofs.lives.run_next_life.Goals as goal

pub returns : goal.returns
returns g c = λ lives have. (
    let m = g.O.TypedObject.meaning c.args.object.now in
    let lines = g.O.Object.line_count c.args.object.now in
    let version = g.O.Object.version_number c.args.object.now in
    let is_lawful = g.O.Object.lawful c.args.object.now in
    let step = g.O.Object.step c.args.object.now in
    let reads = g.O.Object.only_reads c.args.object.now in
    let meant = c.steps_are_meant.ensures.object in
    let laws : ObjectLaws lines is_lawful step = record { keeps = meant.keeps; shape = meant.shape; replies = meant.replies } in
    let was = c.args.lived in
    let last = last_base m lines version is_lawful lives was.records was.image was.base c.in_ok-base.base have.ends c.in_ok-base.ensures in
    let ran = c.in_ok-report.ensures (begun_by m (nothing_begun m) lives was.records) last.0.is in
    subst (λ (rs : List (LifeRecord g.row.O-Reply.Denot)). HaveLived m lines version is_lawful step reads (lives ++ c.args.life.now ∷ []) (record { records = rs; trails = c.push-2.new.self; image = Some c.in_ok-report.field-0.image; base = Some c.in_ok-report.field-0.next })) (sym c.in_ok-push.ensures.ok)
    (subst (λ (ts : List Ending). HaveLived m lines version is_lawful step reads (lives ++ c.args.life.now ∷ []) (record { records = was.records ++ c.in_ok-report.field-0.report ∷ []; trails = ts; image = Some c.in_ok-report.field-0.image; base = Some c.in_ok-report.field-0.next })) (sym c.in_ok-push-2.ensures.ok)
    (lived_then m lines version is_lawful step reads laws lives c.args.life.now was c.in_ok-base.base c.in_ok-report.field-0 have c.in_ok-base.ensures last ran)))
