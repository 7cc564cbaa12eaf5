use Rattle.std.proofs.Common.{◌∙◌, ap, List}
use Rattle.doc_model.specs.declared.operations.Reply.{Reply}
use Rattle.doc_text.specs.Report.{document_report_of}
use Rattle.life_records.specs.Records.{LifeRecord}
use Rattle.doc_commands.proofs.script_reports.report_of_script.Goals as goal

pub returns : goal.returns
returns g c = record {
  records = c.in_ok-lived.lived.records;
  are = record { lives = c.in_ok-lived.ensures.legal; witness = c.in_ok-lived.ensures.witness };
  report = c.in_ok-text.ensures ∙ ap (λ (records : List (LifeRecord Reply)). document_report_of c.args.script.now records) c.as_slice.ensures;
}
