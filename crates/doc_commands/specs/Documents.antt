-- What is recovered of documents from an image, and why nothing is.
use Rattle.std.specs.Prelude.{◌≡◌, ◌⊎◌, ℕ, List, Result, MatchResult}
use Rattle.cx_core.specs.Region.{object_part}
use Rattle.cx_core.specs.declared.entry.Base.{Base}
use Rattle.cx_core.specs.declared.entry.Image.{Image}
use Rattle.doc_store.specs.ExactStep.{IsImageOfStore, first_format}
use Rattle.doc_text.specs.declared.recovered.Recovered.{Recovered}
use Rattle.index_validation.specs.Reading.{StandsForRevised}
use Rattle.recovery.specs.Images.{region_of}
use Rattle.recovery.specs.Recovery.{IsAccepted, IsFaultOf, recovered_from}
use Rattle.recovery.specs.declared.recovered_base.ImageFault.{ImageFault}
use Rattle.recovery.specs.declared.recovered_base.ImageFault.TheVariants.{Body}
use Rattle.doc_commands.specs.Outcomes.{AreOutcomes, HoldsStoreReplies}

-- the checks of recovery, for a store of documents in the image's lines; an image of version 1 is accepted too
abbrev pub IsStoreImage : Image → Type 0
IsStoreImage image = IsAccepted 2 (IsImageOfStore image.lines) (first_format image.lines) image

-- words stand for a store of these pairs, each with its revision, in the order of their keys
abbrev pub HaveDocuments : List ℕ → List ((List ℕ × List ℕ) × ℕ) → Type 0
HaveDocuments words documents = (last : ℕ) × StandsForRevised words (record { last = last; triples = documents })

-- What a base tells of documents: its place, the last command of each client with a number, in rising order of the clients, and the
-- pairs of the store that its object part stands for, with their revisions.
pub record HasDocuments (base : Base) (found : Recovered) : Type 0 where
  pub place : found.place ≡ base.place
  pub outcomes : AreOutcomes base.words found.outcomes
  pub documents : HaveDocuments (object_part base.words) found.documents

-- an image tells of documents: it passes the checks of recovery, and each slot with a number holds a reply
pub record TellsDocuments (image : Image) : Type 0 where
  pub accepted : IsStoreImage image
  pub replies : HoldsStoreReplies (region_of image)

-- What is recovered from an image: what is told by the region that its root names, at the root's place. Where its object part is of
-- version 1 that is upgraded, so that each pair has revision 1.
pub record IsRecoveredOf (image : Image) (found : Recovered) : Type 0 where
  pub tells : TellsDocuments image
  pub has_documents : HasDocuments (recovered_from (first_format image.lines) image) found

-- The fault of an image: the first check that it does not pass. That the slots hold replies is looked at last. Nothing is said of when
-- memory runs out.
abbrev pub IsDocumentFault : Image → ImageFault → Type 0
IsDocumentFault image Body = IsFaultOf 2 (IsImageOfStore image.lines) (first_format image.lines) image Body ⊎ (IsStoreImage image × (¬ HoldsStoreReplies (region_of image)))
IsDocumentFault image fault = IsFaultOf 2 (IsImageOfStore image.lines) (first_format image.lines) image fault

-- an answer that is right for an image
abbrev pub IsAnswerTo : Image → Result Recovered ImageFault → Type 0
IsAnswerTo image answer = MatchResult answer (IsRecoveredOf image) (IsDocumentFault image)
