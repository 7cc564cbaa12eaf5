use Rattle.std.proofs.Common.{subst, List, [], ◌∷◌}
use Rattle.cx_lives.specs.Lives.{AreTold, HaveLived}
use Rattle.doc_model.specs.Revisions.{empty_store}
use Rattle.doc_model.specs.declared.operations.Op.{Op}
use Rattle.doc_model.specs.declared.operations.Reply.{Reply}
use Rattle.doc_store.specs.DocumentMeaning.{document_meaning}
use Rattle.doc_store.specs.ExactStep.{IsImageOfStore, reads_in, store_step}
use Rattle.doc_text.specs.Generated.{generated_life}
use Rattle.life_records.specs.Lives.{AreLivesFrom}
use Rattle.life_records.specs.Records.{Life, LifeRecord, Script}
use Rattle.doc_commands.proofs.Loading.{one_record}
use Rattle.doc_commands.proofs.loads.summary_of_load.Goals as goal

pub returns : goal.returns
returns g c =
    let life : Life Op = generated_life c.args.from c.args.clients c.args.ops in
    let lived : HaveLived (document_meaning 1024) 1024 2 (IsImageOfStore 1024) (store_step 1024) reads_in (life ∷ []) c.in_ok-lived.lived = subst (λ (s : Script Op). HaveLived (document_meaning s.lines) s.lines 2 (IsImageOfStore s.lines) (store_step s.lines) reads_in s.lives c.in_ok-lived.lived) c.in_ok-script.ensures.script c.in_ok-lived.ensures in
    let one = one_record 1024 empty_store life c.in_ok-lived.lived.records lived.legal in
    record {
      record_of = one.0;
      are = record {
        lives = subst (λ (records : List (LifeRecord Reply)). AreLivesFrom (document_meaning 1024) 0 empty_store (life ∷ []) records) one.1 lived.legal;
        witness = subst (λ (records : List (LifeRecord Reply)). AreTold (document_meaning 1024) 1024 2 (IsImageOfStore 1024) (store_step 1024) reads_in (life ∷ []) records c.in_ok-lived.lived.trails) one.1 lived.witness;
      };
      summary = c.in_ok-text.ensures one.0 one.1;
    }
