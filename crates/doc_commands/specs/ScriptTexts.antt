-- The records of a script, and the texts on them.
use Rattle.std.specs.Prelude.{◌≡◌, ℕ, List, [], ◌∷◌, Option, Some, None}
use Rattle.cx_core.specs.declared.entry.Base.{Base}
use Rattle.cx_core.specs.declared.entry.Image.{Image}
use Rattle.table_invariant.specs.Ending.{Ending}
use Rattle.cx_lives.specs.declared.lives.Lived.{Lived}
use Rattle.cx_lives.specs.Lives.{AreTold, HaveEnded, HaveLived, begun_by, last_image, last_next}
use Rattle.doc_model.specs.Revisions.{RevisedStore, empty_store}
use Rattle.doc_model.specs.declared.operations.Op.{Op}
use Rattle.doc_model.specs.declared.operations.Reply.{Reply}
use Rattle.doc_store.specs.DocumentMeaning.{document_meaning}
use Rattle.doc_store.specs.ExactStep.{IsImageOfStore, reads_in, store_step}
use Rattle.image_text.specs.Printing.{text_of}
use Rattle.life_records.specs.Begins.{nothing_begun}
use Rattle.life_records.specs.Records.{Life, LifeRecord, Script}
use Rattle.life_records.specs.Lives.{AreLegalLives, store_at}
use Rattle.doc_text.specs.Generated.{generated_life, generated_script}
use Rattle.doc_text.specs.Report.{document_report_of}
use Rattle.doc_text.specs.Summary.{summary_text}

-- `HaveLived` for lives of documents in this many lines
abbrev pub HaveStoresLived : ℕ → List (Life Op) → Lived Reply → Type 0
HaveStoresLived lines = HaveLived (document_meaning lines) lines 2 (IsImageOfStore lines) (store_step lines) reads_in

-- The records are of legal lives of the script. One witness shows them in the execution logs of the services that ran them, each of which
-- began with what recovery made of what a crash left of the one before: together they are one durable object.
pub record AreRecords (script : Script Op) (trails : List Ending) (records : List (LifeRecord Reply)) : Type 0 where
  pub lives : AreLegalLives (document_meaning script.lines) script records
  pub witness : AreTold (document_meaning script.lines) script.lines 2 (IsImageOfStore script.lines) (store_step script.lines) reads_in script.lives records trails

-- The text is the report of records of legal lives of the script, witnessed by these trails.
pub record IsReport (script : Script Op) (trails : List Ending) (text : List ℕ) : Type 0 where
  pub records : List (LifeRecord Reply)
  pub are : AreRecords script trails records
  pub report : text ≡ document_report_of script records

-- the text of what was left, if anything
abbrev pub text_left : Option Image → List ℕ
text_left None = []
text_left (Some image) = text_of image

-- The text is that of the image that the crash at the end of the last life left, by the witness of records of legal lives of the script.
-- What is recovered from the image is the base with which a next life would begin behind them. Where there is no life the text is empty.
pub record IsLastImage (script : Script Op) (trails : List Ending) (text : List ℕ) : Type 0 where
  pub records : List (LifeRecord Reply)
  pub are : AreRecords script trails records
  pub image : Option Image
  pub base : Option Base
  pub left : image ≡ last_image None are.witness.ends
  pub goes_on : base ≡ last_next None are.witness.ends
  pub ends : HaveEnded (document_meaning script.lines) script.lines 2 (IsImageOfStore script.lines)
      (begun_by (document_meaning script.lines) (nothing_begun (document_meaning script.lines)) script.lives records) script.lives image base
  pub text_is : text ≡ text_left image

-- the store that a first life leaves
abbrev pub store_left : ℕ → Life Op → LifeRecord Reply → RevisedStore
store_left lines life report = store_at (document_meaning lines) empty_store life report.journal report.kept

-- The text tells in four lines of a legal life of the script that a load makes. The documents and their sum are those of the store that
-- it left.
pub record IsSummary (from clients ops : ℕ) (trails : List Ending) (text : List ℕ) : Type 0 where
  pub record_of : LifeRecord Reply
  pub are : AreRecords (generated_script from clients ops) trails (record_of ∷ [])
  pub summary : text ≡ summary_text record_of (store_left (generated_script from clients ops).lines (generated_life from clients ops) record_of).triples
