-- What is taken up of words by an object of as many lines as they say is what they say of it.
use Rattle.std.proofs.Common.{◌≡◌, List, Option, subst, ℕ}
use Rattle.cx_base.specs.OldFormat.{OldFormat, no_old_format}
use Rattle.cx_core.specs.declared.entry.Base.{Base}
use Rattle.doc_store.specs.contracts.store.DocStoreObject.TheImpl.{ghosts as store_ghosts}
use Rattle.doc_store.specs.declared.store.DocStore.{DocStore}
use Rattle.doc_store.specs.ExactStep.{IsImageOfStore, first_format}
use Rattle.fifo_object.specs.contracts.fifo.FifoObject.TheImpl.{ghosts as queue_ghosts}
use Rattle.fifo_object.specs.declared.fifo.Fifo.{Fifo}
use Rattle.fifo_object.specs.Fifo.{IsFifo}
use Rattle.program_code.specs.Program.{instructions_of, program_words}
use Rattle.program_object.specs.contracts.object.ProgramObjectObject.TheImpl.{ghosts as program_ghosts}
use Rattle.program_object.specs.declared.object.ProgramObject.{ProgramObject}
use Rattle.program_object.specs.Meaning.{IsProgramImage, old_of}
use Rattle.githoppu_c.specs.contracts.named_program.NamedProgramObject.TheImpl.{ghosts as named_ghosts}
use Rattle.githoppu_c.specs.declared.named_program.NamedProgram.{NamedProgram}
use Rattle.githoppu_c.specs.Outcomes.{fingerprint_in}
use Rattle.c_images.specs.Replies.{IsDocumentReply, IsProgramReply, IsQueueReply}
use Rattle.c_images.specs.Words.{IsTakenUp, IsWordsFault, lines_in}
use Rattle.c_images.specs.declared.reader.WordsFault.{WordsFault}
use Rattle.c_images.specs.declared.replies.ReplyKind.TheVariants.{Document, Queue as QueueReplies, Program as ProgramReplies}
use Rattle.githoppu_c.specs.Objects.{IsBaseWith, IsFaultOr, IsObjectFault, IsObjectIn, IsProgramFault, IsProgramIn, IsQueueFault, IsQueueIn, IsStoreFault, IsStoreIn}

module _ (words : List ℕ) where
  -- a base is what recovery takes from `words` for a document store of `n` lines, whatever replies its results keep
  abbrev store_takes : ℕ → Base → Type 0
  store_takes n = IsTakenUp 2 (IsImageOfStore n) (first_format n) words

  -- a base that is taken for a document store of as many lines as the words say is one of `IsStoreIn`
  pub store_base : (s : DocStore) → s.lines ≡ lines_in words → (b : Base) → IsObjectIn store_ghosts Document s words b → IsStoreIn words b
  store_base s same b said = subst (λ n. IsBaseWith IsDocumentReply (store_takes n) b) same said

  -- a fault for a document store of as many lines as the words say is one of `IsStoreFault`
  pub store_fault : (s : DocStore) → s.lines ≡ lines_in words → (f : WordsFault) → IsObjectFault store_ghosts Document s words f → IsStoreFault words f
  store_fault s same f of = subst (λ n. IsFaultOr IsDocumentReply (store_takes n) (IsWordsFault 2 (IsImageOfStore n) (first_format n) words) f) same of

  -- a base is what recovery takes from `words` for a queue of `n` lines, whatever replies its results keep
  abbrev queue_takes : ℕ → Base → Type 0
  queue_takes n = IsTakenUp 16 (IsFifo n) no_old_format words

  -- a base that is taken for a queue of as many lines as the words say is one of `IsQueueIn`
  pub queue_base : (q : Fifo) → q.lines ≡ lines_in words → (b : Base) → IsObjectIn queue_ghosts QueueReplies q words b → IsQueueIn words b
  queue_base q same b said = subst (λ n. IsBaseWith IsQueueReply (queue_takes n) b) same said

  -- a fault for a queue of as many lines as the words say is one of `IsQueueFault`
  pub queue_fault : (q : Fifo) → q.lines ≡ lines_in words → (f : WordsFault) → IsObjectFault queue_ghosts QueueReplies q words f → IsQueueFault words f
  queue_fault q same f of = subst (λ n. IsFaultOr IsQueueReply (queue_takes n) (IsWordsFault 16 (IsFifo n) no_old_format words) f) same of

  -- a base is what recovery takes from `words` for a program's object of `n` lines, with the fingerprint `v` and the older format `old`
  abbrev program_takes : ℕ → ℕ → OldFormat → Base → Type 0
  program_takes n v old = IsTakenUp v (IsProgramImage n v) old words

  -- a fault is why recovery takes no base from `words` for a program's object of `n` lines, with the fingerprint `v` and the older format `old`
  abbrev program_faulty : ℕ → ℕ → OldFormat → WordsFault → Type 0
  program_faulty n v old = IsWordsFault v (IsProgramImage n v) old words

  module _ (constants : List ℕ) (fuel version : ℕ) (before : Option ℕ) (o : ProgramObject) (same : o.lines ≡ lines_in words) (wordses : program_words o.program ≡ constants) (fuels : o.fuel ≡ fuel)
      (versions : o.version ≡ version) (befores : o.before ≡ before) where
    -- a base for the program of `o` with `n` lines, the words `k`, the fuel `f`, the fingerprint `v`, and `x` as the one whose images it takes over
    abbrev takes : ℕ → List ℕ → ℕ → ℕ → Option ℕ → Base → Type 0
    takes n k f v x = program_takes n v (old_of (instructions_of o.program) k n f v x)

    -- why there is no base for the program of `o` with `n` lines, the words `k`, the fuel `f`, the fingerprint `v`, and `x` as the one whose images
    -- it takes over
    abbrev faulty : ℕ → List ℕ → ℕ → ℕ → Option ℕ → WordsFault → Type 0
    faulty n k f v x = program_faulty n v (old_of (instructions_of o.program) k n f v x)

    -- what holds of the numbers and the words of the object `o` holds of those given, which are equal to them
    by_numbers : (P : ℕ → List ℕ → ℕ → ℕ → Option ℕ → Type 0) → P o.lines (program_words o.program) o.fuel o.version o.before → P (lines_in words) constants fuel version before
    by_numbers P said =
        subst (P (lines_in words) constants fuel version) befores
        (subst (λ v. P (lines_in words) constants fuel v o.before) versions
        (subst (λ f. P (lines_in words) constants f o.version o.before) fuels
        (subst (λ k. P (lines_in words) k o.fuel o.version o.before) wordses (subst (λ n. P n (program_words o.program) o.fuel o.version o.before) same said))))

    -- a base that is taken for the object `o` of a program is one of `IsProgramIn`
    pub program_base : (b : Base) → IsObjectIn program_ghosts ProgramReplies o words b → IsProgramIn version (λ n. old_of (instructions_of o.program) constants n fuel version before) words b
    program_base b said = by_numbers (λ n k f v x. IsBaseWith IsProgramReply (takes n k f v x) b) said

    -- a fault for the object `o` of a program is one of `IsProgramFault`
    pub program_fault : (f : WordsFault) → IsObjectFault program_ghosts ProgramReplies o words f
        → IsProgramFault version (λ n. old_of (instructions_of o.program) constants n fuel version before) words f
    program_fault fault of = by_numbers (λ n k f v x. IsFaultOr IsProgramReply (takes n k f v x) (faulty n k f v x) fault) of

  module _ (o : NamedProgram) (same : o.lines ≡ lines_in words) (versions : o.version ≡ fingerprint_in words) where
    -- a base that is taken for an object of which only the fingerprint is known is one of `IsProgramIn`, without an older format
    pub named_base : (b : Base) → IsObjectIn named_ghosts ProgramReplies o words b → IsProgramIn (fingerprint_in words) (λ _. no_old_format) words b
    named_base b said =
        subst (λ v. IsBaseWith IsProgramReply (program_takes (lines_in words) v no_old_format) b) versions
        (subst (λ n. IsBaseWith IsProgramReply (program_takes n o.version no_old_format) b) same said)

    -- a fault for an object of which only the fingerprint is known is one of `IsProgramFault`, without an older format
    pub named_fault : (f : WordsFault) → IsObjectFault named_ghosts ProgramReplies o words f → IsProgramFault (fingerprint_in words) (λ _. no_old_format) words f
    named_fault f of =
        subst (λ v. IsFaultOr IsProgramReply (program_takes (lines_in words) v no_old_format) (program_faulty (lines_in words) v no_old_format) f) versions
        (subst (λ n. IsFaultOr IsProgramReply (program_takes n o.version no_old_format) (program_faulty n o.version no_old_format) f) same of)
