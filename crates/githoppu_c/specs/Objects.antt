-- The definitions of sessions and of images, for each of the three objects.
use Rattle.std.specs.Prelude.{◌≡◌, ◌⊎◌, ℕ, ℤ, pos, List, Option}
use Rattle.cx_base.specs.OldFormat.{OldFormat, no_old_format}
use Rattle.cx_base.specs.declared.object.Object.{Ghosts}
use Rattle.cx_core.specs.declared.entry.Base.{Base}
use Rattle.c_images.specs.Replies.{HoldsReplies, IsDocumentReply, IsProgramReply, IsQueueReply, IsReplyOfKind}
use Rattle.c_images.specs.Words.{IsTakenUp, IsWordsFault, lines_in}
use Rattle.c_images.specs.declared.reader.WordsFault.{WordsFault}
use Rattle.c_images.specs.declared.reader.WordsFault.TheVariants.{Image}
use Rattle.c_images.specs.declared.replies.ReplyKind.{ReplyKind}
use Rattle.recovery.specs.declared.recovered_base.ImageFault.TheVariants.{Body}
use Rattle.doc_store.specs.ExactStep.{IsImageOfStore, first_format}
use Rattle.fifo_object.specs.Fifo.{IsFifo}
use Rattle.program_code.specs.Program.{instructions_of, program_words}
use Rattle.program_object.specs.declared.object.ProgramObject.{ProgramObject}
use Rattle.program_object.specs.Meaning.{IsProgramImage, old_of}

-- `taken` holds of the base, and each result in it that has a number keeps 144 zeros, or words of which `is` holds
abbrev pub IsBaseWith : (List ℕ → Type 0) → (Base → Type 0) → Base → Type 0
IsBaseWith is taken base = taken base × HoldsReplies is base.words

-- why there is no base: `faulty` holds of the fault, or the fault is that of the results, and `taken` holds of some base in which a result with a
-- number keeps neither 144 zeros nor words of which `is` holds
abbrev pub IsFaultOr : (List ℕ → Type 0) → (Base → Type 0) → (WordsFault → Type 0) → WordsFault → Type 0
IsFaultOr is taken faulty fault = faulty fault ⊎ ((fault ≡ Image Body) × ((base : Base) × taken base × (¬ HoldsReplies is base.words)))

-- the base that is given is `base` itself, and each result in it that has a number keeps 144 zeros, or words of which `is` holds
abbrev pub IsSameWith : (List ℕ → Type 0) → Base → Base → Type 0
IsSameWith is base same = (same ≡ base) × HoldsReplies is base.words

-- why `base` is not given, as the status `code`: 19 where a result in it with a number keeps neither 144 zeros nor words of which `is` holds, and 8
-- where memory ran out
abbrev pub IsNoneWith : (List ℕ → Type 0) → Base → ℤ → Type 0
IsNoneWith is base code = ((code ≡ pos 19) × (¬ HoldsReplies is base.words)) ⊎ (code ≡ pos 8)

-- a base is what recovery takes from `words` for a document store of as many lines as the words say
abbrev pub IsStoreIn : List ℕ → Base → Type 0
IsStoreIn words = IsBaseWith IsDocumentReply (IsTakenUp 2 (IsImageOfStore (lines_in words)) (first_format (lines_in words)) words)

-- a fault is why recovery takes no base from `words` for a document store
abbrev pub IsStoreFault : List ℕ → WordsFault → Type 0
IsStoreFault words =
    IsFaultOr IsDocumentReply (IsTakenUp 2 (IsImageOfStore (lines_in words)) (first_format (lines_in words)) words)
    (IsWordsFault 2 (IsImageOfStore (lines_in words)) (first_format (lines_in words)) words)

-- a base is what recovery takes from `words` for a queue of as many lines as the words say
abbrev pub IsQueueIn : List ℕ → Base → Type 0
IsQueueIn words = IsBaseWith IsQueueReply (IsTakenUp 16 (IsFifo (lines_in words)) no_old_format words)

-- a fault is why recovery takes no base from `words` for a queue
abbrev pub IsQueueFault : List ℕ → WordsFault → Type 0
IsQueueFault words =
    IsFaultOr IsQueueReply (IsTakenUp 16 (IsFifo (lines_in words)) no_old_format words) (IsWordsFault 16 (IsFifo (lines_in words)) no_old_format words)

-- a base is what recovery takes from `words` for the object of a program with the fingerprint `version`, where `old` is the older format, by the
-- number of lines, from which images are taken over
abbrev pub IsProgramIn : ℕ → (ℕ → OldFormat) → List ℕ → Base → Type 0
IsProgramIn version old words = IsBaseWith IsProgramReply (IsTakenUp version (IsProgramImage (lines_in words) version) (old (lines_in words)) words)

-- a fault is why recovery takes no base from `words` for the object of a program with the fingerprint `version` and this older format
abbrev pub IsProgramFault : ℕ → (ℕ → OldFormat) → List ℕ → WordsFault → Type 0
IsProgramFault version old words =
    IsFaultOr IsProgramReply (IsTakenUp version (IsProgramImage (lines_in words) version) (old (lines_in words)) words)
    (IsWordsFault version (IsProgramImage (lines_in words) version) (old (lines_in words)) words)

-- the older format from which the object of the program of `o`, in this many lines, takes over images: those with the fingerprint `before`, or none
abbrev pub old_in_lines : ProgramObject → Option ℕ → ℕ → OldFormat
old_in_lines o before lines = old_of (instructions_of o.program) (program_words o.program) lines o.fuel o.version before

-- a base is what recovery takes from `words` for `object`, with results that keep replies of the kind `replies`; the object may have another number
-- of lines than the words say
abbrev pub IsObjectIn : {O : Type 0} → Ghosts O → ReplyKind → O → List ℕ → Base → Type 0
IsObjectIn o replies object words = IsBaseWith (IsReplyOfKind replies) (IsTakenUp (o.version_number object) (o.lawful object) (o.old_format object) words)

-- a fault is why recovery takes no base from `words` for `object`, with results that keep replies of the kind `replies`; the object may have another
-- number of lines than the words say
abbrev pub IsObjectFault : {O : Type 0} → Ghosts O → ReplyKind → O → List ℕ → WordsFault → Type 0
IsObjectFault o replies object words =
    IsFaultOr (IsReplyOfKind replies) (IsTakenUp (o.version_number object) (o.lawful object) (o.old_format object) words)
    (IsWordsFault (o.version_number object) (o.lawful object) (o.old_format object) words)
