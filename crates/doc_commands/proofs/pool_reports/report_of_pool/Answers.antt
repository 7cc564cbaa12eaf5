use Rattle.std.proofs.Common.{◌∙◌, List, [], ◌∷◌, subst, sym}
use Rattle.doc_model.specs.declared.operations.Reply.{Reply}
use Rattle.life_records.specs.Lives.{NameCommands}
use Rattle.life_records.specs.Records.{LifeRecord}
use Rattle.doc_commands.proofs.Pooling.{named}
use Rattle.doc_commands.proofs.pool_reports.report_of_pool.Goals as goal

pub report-requires-2 : goal.report-requires-2
report-requires-2 g c =
    let script = c.args.script.now in
    let life_report = c.in_ok-life_report.life_report in
    let remains = c.in_ok-life_report.remains in
    subst (λ (records : List (LifeRecord Reply)). NameCommands script.lives records) (sym (c.as_slice.ensures ∙ c.in_ok-records.ensures))
    (named script.lines c.args.seats script.lives (life_report ∷ []) (remains.trail ∷ []) c.in_ok-life_report.ensures.are)
