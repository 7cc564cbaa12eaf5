-- The record of a script of a pool, and the texts on it.
use Rattle.std.specs.Prelude.{◌≡◌, ◌≤◌, ℕ, Bool, List, [], ◌∷◌}
use Rattle.table_invariant.specs.Ending.{Ending}
use Rattle.cx_table.specs.declared.remains.Remains.{Remains}
use Rattle.doc_model.specs.Meaning.{IsOp}
use Rattle.doc_model.specs.declared.operations.Op.{Op}
use Rattle.doc_model.specs.declared.operations.Reply.{Reply}
use Rattle.doc_store.specs.DocumentMeaning.{document_meaning}
use Rattle.doc_store.specs.ExactStep.{IsImageOfStore, reads_in, store_step}
use Rattle.doc_text.specs.Grammar.{pool_commands}
use Rattle.doc_text.specs.Report.{document_report_of}
use Rattle.life_records.specs.Begins.{IsBaseOf, nothing_begun}
use Rattle.life_records.specs.Limits.{KeepsLimits}
use Rattle.life_records.specs.Records.{Life, LifeRecord, Meaning, Script}
use Rattle.pool_lives.specs.PoolLives.{IsPoolLife, IsPoolTold}
use Rattle.script_text.specs.Within.{IsScriptWithin}

-- a script that a pool of the given number of callers may run: one life at the most, of up to 64 clients, without cut lines
pub record MayPool (seats : ℕ) (script : Script Op) : Type 0 where
  pub some : 1 ≤ seats
  pub most : seats ≤ 8
  pub limits : KeepsLimits IsOp 64 script
  pub within : IsScriptWithin pool_commands.limits script

-- The record is one of a pool life of the script's one life. It is witnessed by the execution log of the service of that many callers that ran it, whose history is
-- a linearization, and which began with nothing. A script without a life has no record, and no log.
abbrev pub AreOfPool : {Op Reply Store : Type 0} → Meaning Op Reply Store → ℕ → (List ℕ → Type 0) → (List ℕ → List ℕ → List ℕ × List ℕ) → (List ℕ → Bool) → ℕ → List (Life Op) → List (LifeRecord Reply) → List Ending → Type 0
AreOfPool m lines is_lawful step reads seats [] [] [] = Unit {0}
AreOfPool m lines is_lawful step reads seats (life ∷ []) (report ∷ []) (trail ∷ []) =
    IsPoolLife m life report × IsPoolTold m lines is_lawful step reads life seats trail report × IsBaseOf m trail.base (nothing_begun m)
AreOfPool m lines is_lawful step reads seats lives records trails = ⊥

-- the records and logs are those of a pool script over the document store in this many lines
abbrev pub AreOfDocumentPool : ℕ → ℕ → List (Life Op) → List (LifeRecord Reply) → List Ending → Type 0
AreOfDocumentPool lines = AreOfPool (document_meaning lines) lines (IsImageOfStore lines) (store_step lines) reads_in

-- the record is that of a pool script's one life, and these are what its service left
pub record RunsPool (seats : ℕ) (script : Script Op) (report : LifeRecord Reply) (remains : Remains) : Type 0 where
  pub are : AreOfDocumentPool script.lines seats script.lives (report ∷ []) (remains.trail ∷ [])
  pub callers : remains.callers ≡ seats

-- The text is the report of the record of a pool life of the script's one life, or of no record where the script has no life.
pub record IsPoolReport (seats : ℕ) (script : Script Op) (trails : List Ending) (text : List ℕ) : Type 0 where
  pub records : List (LifeRecord Reply)
  pub are : AreOfDocumentPool script.lines seats script.lives records trails
  pub report : text ≡ document_report_of script records
