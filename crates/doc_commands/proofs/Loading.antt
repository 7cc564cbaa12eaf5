-- What the one life of a load leaves.
use Rattle.std.proofs.Common.{◌≡◌, refl, ℕ, List, [], ◌∷◌, Option, Some, None}
use Rattle.cx_core.specs.declared.entry.Base.{Base}
use Rattle.cx_core.specs.declared.entry.Image.{Image}
use Rattle.cx_lives.specs.Lives.{BeginsLife, HaveEnded}
use Rattle.doc_model.specs.Revisions.{RevisedStore}
use Rattle.doc_model.specs.declared.operations.Op.{Op}
use Rattle.doc_model.specs.declared.operations.Reply.{Reply}
use Rattle.doc_store.specs.DocumentMeaning.{document_meaning}
use Rattle.doc_store.specs.ExactStep.{IsImageOfStore}
use Rattle.life_records.specs.Begins.{Begun}
use Rattle.life_records.specs.Lives.{AreLivesFrom}
use Rattle.life_records.specs.Records.{Life, LifeRecord}

-- the records of one life are one
pub one_record : (lines : ℕ) (store : RevisedStore) (life : Life Op) (records : List (LifeRecord Reply)) → AreLivesFrom (document_meaning lines) 0 store (life ∷ []) records → (report : LifeRecord Reply) × (records ≡ report ∷ [])
one_record lines store life [] are = absurd are
one_record lines store life (report ∷ []) are = (report, refl)
one_record lines store life (report ∷ other ∷ records) are = absurd are.1

pub base_begins : (lines : ℕ) (begun : Begun RevisedStore) (lives : List (Life Op)) (image : Option Image) (base : Base) → HaveEnded (document_meaning lines) lines 2 (IsImageOfStore lines) begun lives image (Some base)
    → BeginsLife (document_meaning lines) lines (IsImageOfStore lines) begun base
base_begins lines begun lives None base ended = absurd ended
base_begins lines begun lives (Some image) base ended = ended.2
