use Rattle.std.proofs.Common.{◌≡◌, ◌∙◌, ap, ap₂, subst, List, [], ◌∷◌, get_or, Option}
use Rattle.std.proofs.lemmas.Result.{IfOk-weaker}
use Rattle.cx_core.specs.Region.{object_part}
use Rattle.cx_core.specs.declared.entry.Base.{Base}
use Rattle.cx_lives.specs.Lives.{BeginsLife, HaveEnded, begun_by}
use Rattle.doc_model.specs.Revisions.{RevisedStore}
use Rattle.doc_model.specs.declared.operations.Op.{Op}
use Rattle.doc_model.specs.declared.operations.Reply.{Reply}
use Rattle.doc_store.specs.DocumentMeaning.{document_meaning}
use Rattle.doc_store.specs.ExactStep.{IsImageOfStore}
use Rattle.doc_text.specs.Generated.{generated_life}
use Rattle.doc_text.specs.Summary.{summary_text}
use Rattle.index_validation.specs.Reading.{StandsForRevised}
use Rattle.life_records.specs.Begins.{Begun, nothing_begun}
use Rattle.life_records.specs.Records.{Life, LifeRecord}
use Rattle.doc_commands.specs.ScriptTexts.{store_left}
use Rattle.doc_commands.proofs.Loading.{base_begins}
use Rattle.doc_commands.proofs.loads.text_of_life.Goals as goal

pub returns : goal.returns
returns c report are =
    let life : Life Op = generated_life c.args.from c.args.clients c.args.ops in
    let begun : Begun RevisedStore = begun_by (document_meaning 1024) (nothing_begun (document_meaning 1024)) (life ∷ []) c.args.lived.now.records in
    let begins : BeginsLife (document_meaning 1024) 1024 (IsImageOfStore 1024) begun c.in-Some.base =
    base_begins 1024 begun (life ∷ []) c.args.lived.now.image c.in-Some.base (subst (λ (base : Option Base). HaveEnded (document_meaning 1024) 1024 2 (IsImageOfStore 1024) begun (life ∷ []) c.args.lived.now.image base) c.in-Some.is c.requires.ends) in
    let stands : StandsForRevised (object_part c.in-Some.base.words) (store_left 1024 life report) =
    subst (λ (records : List (LifeRecord Reply)). StandsForRevised (object_part c.in-Some.base.words) (begun_by (document_meaning 1024) (nothing_begun (document_meaning 1024)) (life ∷ []) records).store) are begins.is.stands in
    let pairs : c.deref.result.now ≡ (store_left 1024 life report).triples = c.deref.ensures.value ∙ c.in_ok-pairs.ensures (store_left 1024 life report) stands in
    let same : c.report-item.result ≡ report = c.report-item.is ∙ ap (λ (records : List (LifeRecord Reply)). get_or records 0 c.report-item.result) (c.as_slice.ensures ∙ are) in
    IfOk-weaker c.summary.result (λ text. text.items ≡ summary_text c.report-item.result c.deref.result.now) (λ text. text.items ≡ summary_text report (store_left 1024 life report).triples)
    (λ text is. is ∙ ap₂ summary_text same pairs) c.summary.ensures
