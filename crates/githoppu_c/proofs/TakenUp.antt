-- Words that no check refuses are refused by no call, but for want of memory.
use Rattle.std.proofs.Common.{◌≡◌, ◌<◌, ◌⊎◌, ◌∙◌, inl, inr, ap, arith, ℕ, ℤ, List, Result, Err, Ok, pos, refl, subst, sym}
use Rattle.std.specs.Arc.{arc_value}
use Rattle.std.specs.Prelude.{MatchResult}
use Rattle.cx_base.specs.OldFormat.{OldFormat, no_old_format}
use Rattle.cx_base.specs.declared.object.Object.{Ghosts}
use Rattle.cx_core.specs.declared.entry.Base.{Base}
use Rattle.cx_core.specs.Base.{LawfulBase}
use Rattle.table_invariant.specs.Running.{IsTableWithinLimits, Running, instance_at}
use Rattle.table_invariant.specs.Seats.{Seated}
use Rattle.cx_table.specs.Remains.{ClosingWitness}
use Rattle.cx_table.specs.declared.remains.Remains.{Remains}
use Rattle.doc_store.specs.contracts.store.DocStoreObject.TheImpl.{ghosts as store_ghosts}
use Rattle.doc_store.specs.declared.store.DocStore.{DocStore}
use Rattle.doc_store.specs.ExactStep.{IsImageOfStore, first_format}
use Rattle.fifo_object.specs.contracts.fifo.FifoObject.TheImpl.{ghosts as queue_ghosts}
use Rattle.fifo_object.specs.declared.fifo.Fifo.{Fifo}
use Rattle.fifo_object.specs.Fifo.{IsFifo}
use Rattle.program_object.specs.contracts.object.ProgramObjectObject.TheImpl.{ghosts as program_ghosts}
use Rattle.program_object.specs.declared.object.ProgramObject.{ProgramObject}
use Rattle.program_object.specs.Meaning.{IsProgramImage}
use Rattle.recovery.specs.declared.recovered_base.ImageFault.TheVariants.{Memory}
use Rattle.c_images.specs.Replies.{HoldsReplies, IsDocumentReply, IsProgramReply, IsQueueReply, IsReplyOfKind, RepliesGoOn}
use Rattle.c_images.specs.Taken.{IsWrittenOf, base_at}
use Rattle.recovery.specs.Kept.{IsOpened}
use Rattle.c_images.specs.Words.{IsHeadFault, IsHeaded, IsTakenUp, IsWordsFault, AreRemainsWritten, object_kind_in, lines_in}
use Rattle.c_images.specs.declared.reader.WordsFault.{WordsFault}
use Rattle.c_images.specs.declared.reader.WordsFault.TheVariants.{Head, Kind, Image, Numbers}
use Rattle.c_images.specs.declared.replies.ReplyKind.{ReplyKind}
use Rattle.c_images.specs.declared.replies.ReplyKind.TheVariants.{Document, Queue as QueueReplies, Program as ProgramReplies}
use Rattle.c_sessions.specs.Closings.{IsClosedOf}
use Rattle.githoppu_c.specs.Again.{ComesBack, ContentComesBack, ContentTakenBack, IsKeptOfClosed, IsLeftImage, IsProgramAgain, IsQueueAgain, IsRecoveredAgain, IsStoreAgain, IsTakenImage, IsTakenProgramAgain, IsTakenQueueAgain, IsTakenStoreAgain, IsTakenUpAgain, TakenComesBack}
use Rattle.githoppu_c.specs.Closings.{WritesRemains}
use Rattle.githoppu_c.specs.Codes.{IsOpenCode, fault_code}
use Rattle.githoppu_c.specs.Contents.{KeepsReplies}
use Rattle.githoppu_c.specs.Objects.{IsBaseWith, IsFaultOr, IsProgramFault, IsProgramIn, IsQueueFault, IsQueueIn, IsStoreFault, IsStoreIn, old_in_lines}
use Rattle.githoppu_c.specs.Outcomes.{IsBaseFault, WritesOutcome}
use Rattle.githoppu_c.specs.Recoveries.{AreFew, Recovers}
use Rattle.githoppu_c.specs.declared.content.AnyHandleState.TheVariants.{Documents, Queue, Program}
use Rattle.githoppu_c.specs.declared.content.HandleState.{HandleState}
use Rattle.githoppu_c.specs.declared.content.HandleState.TheVariants.{Closed, Gone, Kept, Unclosed, Session}
use Rattle.githoppu_c.proofs.OtherBefore.{kept_with, leaves_of, opened_with, running_with, with_before}
use Rattle.githoppu_c.proofs.Replies.{queues_give_replies, stores_give_replies}

-- Where reading a base is refused only when memory runs out, and the results of each such base keep replies, looking at the replies adds no other
-- fault.
pub memory_alone : (is : List ℕ → Type 0) (takes kept : Base → Type 0) (faulty : WordsFault → Type 0)
    → ((answer : Result Base WordsFault) → MatchResult answer takes faulty → MatchResult answer kept (λ fault. fault ≡ Image Memory))
    → ((base : Base) → takes base → HoldsReplies is base.words)
    → (fault : WordsFault) → IsFaultOr is takes faulty fault → fault ≡ Image Memory
memory_alone is takes kept faulty up holds fault (inl of) = up (Err fault) of
memory_alone is takes kept faulty up holds fault (inr (same, (base, took, other))) = absurd (other (holds base took))

-- words that begin with a head of this kind of object have no fault of the head
no_head_fault : (kind : ℕ) (words : List ℕ) (fault : WordsFault) → IsHeaded words → object_kind_in words ≡ kind → IsHeadFault kind words fault → ⊥
no_head_fault kind words Head headed same is = is headed
no_head_fault kind words (Kind found) headed same is = is.2 same
no_head_fault kind words (Image fault) headed same is = is
no_head_fault kind words Numbers headed same is = is

module _ (kind : ℕ) (words : List ℕ) (headed : IsHeaded words) (same : object_kind_in words ≡ kind) where
  -- where memory is the only fault that words with this head may have, recovering 1 to 8 sessions from them has the status 0, 8 or 2
  pub recovers_again : (taken : Base → Type 0) (faulty : WordsFault → Type 0) → ((fault : WordsFault) → faulty fault → fault ≡ Image Memory)
      → (count : ℕ) (code : ℤ) → AreFew count → Recovers kind taken faulty words count code → (code ≡ pos 0) ⊎ IsOpenCode code
  recovers_again taken faulty alone count code few (inl done) = inl done.2
  recovers_again taken faulty alone count code few (inr (inl wrong)) = absurd (wrong.0 few)
  recovers_again taken faulty alone count code few (inr (inr (as_many, inl refused))) =
      elim refused.because [
        | inl head ↦ absurd (no_head_fault kind words refused.fault headed same head)
        | inr of ↦ inr (inl (refused.is ∙ ap fault_code (alone refused.fault of)))
      ]
  recovers_again taken faulty alone count code few (inr (inr (as_many, inr not))) = inr not

  -- where memory is the only fault that words may have, telling the outcome of a session has the status 0 or 8
  pub tells_again : ((fault : WordsFault) → IsBaseFault words fault → fault ≡ Image Memory) → (session number_before number : ℕ) (reply_before reply : List ℕ) (code : ℤ) → session < 8
      → WritesOutcome words session number_before number reply_before reply code → (code ≡ pos 0) ⊎ (code ≡ pos 8)
  tells_again alone session number_before number reply_before reply code few (inl (outcome, is, are, done)) = inl done
  tells_again alone session number_before number reply_before reply code few (inr (inl (many, bad), n, r)) = absurd (omega (arith, many, few))
  tells_again alone session number_before number reply_before reply code few (inr (inr (small, (fault, of, is)), n, r)) = inr (is ∙ ap fault_code (alone fault of))

-- where memory is the only fault of `words` as of a document store, which their head names, it is their only fault
pub store_faults : (words : List ℕ) → IsHeaded words → object_kind_in words ≡ 1 → ((fault : WordsFault) → IsStoreFault words fault → fault ≡ Image Memory)
    → (fault : WordsFault) → IsBaseFault words fault → fault ≡ Image Memory
store_faults words headed kind alone fault (inl head) = absurd (no_head_fault (object_kind_in words) words fault headed refl head)
store_faults words headed kind alone fault (inr (head, inl (one, of))) = alone fault of
store_faults words headed kind alone fault (inr (head, inr (inl (two, of)))) = absurd (omega (arith, kind, two))
store_faults words headed kind alone fault (inr (head, inr (inr (three, of)))) = absurd (omega (arith, kind, three))

-- where memory is the only fault of `words` as of a queue, which their head names, it is their only fault
pub queue_faults : (words : List ℕ) → IsHeaded words → object_kind_in words ≡ 2 → ((fault : WordsFault) → IsQueueFault words fault → fault ≡ Image Memory)
    → (fault : WordsFault) → IsBaseFault words fault → fault ≡ Image Memory
queue_faults words headed kind alone fault (inl head) = absurd (no_head_fault (object_kind_in words) words fault headed refl head)
queue_faults words headed kind alone fault (inr (head, inl (one, of))) = absurd (omega (arith, kind, one))
queue_faults words headed kind alone fault (inr (head, inr (inl (two, of)))) = alone fault of
queue_faults words headed kind alone fault (inr (head, inr (inr (three, of)))) = absurd (omega (arith, kind, three))

-- ---- words that are taken up, where the base that they say keeps replies

-- words that are refused, for an object of as many lines as they say, only where memory runs out are taken up again, and the base is one that was kept
module _ (words : List ℕ) (lines : ℕ) (there : lines_in words ≡ lines) (kept : Base → Type 0) where
  -- for any kind of object: where reading a base from `words` is refused only when memory runs out, and its results keep replies, `IsTakenUpAgain`
  -- holds
  taken_up_again : (kind : ℕ) (headed : IsHeaded words) (same : object_kind_in words ≡ kind) (is : List ℕ → Type 0) (takes : ℕ → Base → Type 0) (faulty : ℕ → WordsFault → Type 0)
      → ((answer : Result Base WordsFault) → MatchResult answer (takes lines) (faulty lines) → MatchResult answer kept (λ fault. fault ≡ Image Memory))
      → ((base : Base) → takes lines base → HoldsReplies is base.words)
      → (((fault : WordsFault) → IsFaultOr is (takes (lines_in words)) (faulty (lines_in words)) fault → fault ≡ Image Memory) → (fault : WordsFault) → IsBaseFault words fault → fault ≡ Image Memory)
      → IsTakenUpAgain kind (IsBaseWith is (takes (lines_in words))) (IsFaultOr is (takes (lines_in words)) (faulty (lines_in words))) kept words
  taken_up_again kind headed same is takes faulty up holds faults =
      let alone : (fault : WordsFault) → IsFaultOr is (takes (lines_in words)) (faulty (lines_in words)) fault → fault ≡ Image Memory =
      subst (λ n. (fault : WordsFault) → IsFaultOr is (takes n) (faulty n) fault → fault ≡ Image Memory) (sym there) (memory_alone is (takes lines) kept (faulty lines) up holds) in
      record {
        recovers = recovers_again kind words headed same (IsBaseWith is (takes (lines_in words))) (IsFaultOr is (takes (lines_in words)) (faulty (lines_in words))) alone;
        tells = tells_again kind words headed same (faults alone);
        keeps = λ base taken. up (Ok base) (subst (λ n. takes n base) there taken.0);
      }

  -- a base is what is read from `words` for a document store of `n` lines
  abbrev store_takes : ℕ → Base → Type 0
  store_takes n = IsTakenUp 2 (IsImageOfStore n) (first_format n) words

  -- a fault is why no base is read from `words` for a document store of `n` lines
  abbrev store_faulty : ℕ → WordsFault → Type 0
  store_faulty n = IsWordsFault 2 (IsImageOfStore n) (first_format n) words

  -- where reading a base of a document store from `words` is refused only when memory runs out, and its results keep replies, the words are recovered
  -- again
  pub store_again : IsHeaded words × (object_kind_in words ≡ 1)
      → ((answer : Result Base WordsFault) → MatchResult answer (store_takes lines) (store_faulty lines) → MatchResult answer kept (λ fault. fault ≡ Image Memory))
      → ((base : Base) → store_takes lines base → HoldsReplies IsDocumentReply base.words) → IsTakenUpAgain 1 (IsStoreIn words) (IsStoreFault words) kept words
  store_again head up holds = taken_up_again 1 head.0 head.1 IsDocumentReply store_takes store_faulty up holds (store_faults words head.0 head.1)

  -- a base is what is read from `words` for a queue of `n` lines
  abbrev queue_takes : ℕ → Base → Type 0
  queue_takes n = IsTakenUp 16 (IsFifo n) no_old_format words

  -- a fault is why no base is read from `words` for a queue of `n` lines
  abbrev queue_faulty : ℕ → WordsFault → Type 0
  queue_faulty n = IsWordsFault 16 (IsFifo n) no_old_format words

  -- where reading a base of a queue from `words` is refused only when memory runs out, and its results keep replies, the words are recovered again
  pub queue_again : IsHeaded words × (object_kind_in words ≡ 2)
      → ((answer : Result Base WordsFault) → MatchResult answer (queue_takes lines) (queue_faulty lines) → MatchResult answer kept (λ fault. fault ≡ Image Memory))
      → ((base : Base) → queue_takes lines base → HoldsReplies IsQueueReply base.words) → IsTakenUpAgain 2 (IsQueueIn words) (IsQueueFault words) kept words
  queue_again head up holds = taken_up_again 2 head.0 head.1 IsQueueReply queue_takes queue_faulty up holds (queue_faults words head.0 head.1)

  module _ (version : ℕ) (old : ℕ → OldFormat) where
    -- a base is what is read from `words` for a program's object of `n` lines, with this fingerprint and older format
    abbrev program_takes : ℕ → Base → Type 0
    program_takes n = IsTakenUp version (IsProgramImage n version) (old n) words

    -- a fault is why no base is read from `words` for a program's object of `n` lines, with this fingerprint and older format
    abbrev program_faulty : ℕ → WordsFault → Type 0
    program_faulty n = IsWordsFault version (IsProgramImage n version) (old n) words

    -- where reading a base of a program's object from `words` is refused only when memory runs out, the words are recovered again
    pub program_again : IsHeaded words × (object_kind_in words ≡ 3)
        → ((answer : Result Base WordsFault) → MatchResult answer (program_takes lines) (program_faulty lines) → MatchResult answer kept (λ fault. fault ≡ Image Memory))
        → IsRecoveredAgain 3 (IsProgramIn version old words) (IsProgramFault version old words) kept words
    program_again head up =
        let alone : (fault : WordsFault) → IsProgramFault version old words fault → fault ≡ Image Memory =
        subst (λ n. (fault : WordsFault) → IsFaultOr IsProgramReply (program_takes n) (program_faulty n) fault → fault ≡ Image Memory) (sym there)
        (memory_alone IsProgramReply (program_takes lines) kept (program_faulty lines) up (λ base took caller few some. inr tt)) in
        record {
          recovers = recovers_again 3 words head.0 head.1 (IsProgramIn version old words) (IsProgramFault version old words) alone;
          keeps = λ base taken. up (Ok base) (subst (λ n. program_takes n base) there taken.0);
        }

-- ---- what an image that is written comes to

-- a status is not both 0 and 7
pub no_other : (code : ℤ) → code ≡ pos 0 → code ≡ pos 7 → ⊥
no_other code done bad = cc

-- Where an image of a closed service was to be written, and the status is 0, it is as `IsLeftImage` says: by the three laws on what is written, which
-- say its head, what is read from it, and that its results keep replies.
pub left_image : {O : Type 0} (o : Ghosts O) (kind : ℕ) (replies : ReplyKind) (choice : ℕ) (before words : List ℕ) (needed : ℕ) (code : ℤ) (r : Remains) (table : Running O)
    (closed : IsClosedOf o.line_count o.lawful o.step o.only_reads table r) → KeepsReplies replies table → WritesRemains kind r choice before words needed code → code ≡ pos 0
    → (AreRemainsWritten kind r choice words → IsHeaded words × (object_kind_in words ≡ kind))
    → ((answer : Result Base WordsFault) → AreRemainsWritten kind r choice words
    → MatchResult answer (IsTakenUp (o.version_number table.object) (o.lawful table.object) (o.old_format table.object) words) (IsWordsFault (o.version_number table.object) (o.lawful table.object) (o.old_format table.object) words)
    → MatchResult answer (IsKeptOfClosed o table closed.seats r choice) (λ fault. fault ≡ Image Memory))
    → ((base : Base) → AreRemainsWritten kind r choice words → IsTakenUp (o.version_number table.object) (o.lawful table.object) (o.old_format table.object) words base
    → RepliesGoOn (IsReplyOfKind replies) (o.lawful table.object) (o.step table.object) table.base.words base.words)
    → IsLeftImage o kind replies choice words r
left_image o kind replies choice before words needed code r table closed opened writes done head up goes = elim writes.written [
  | inl w ↦ record {
    table = table;
    closed = closed;
    opened = opened;
    of = record { headed = (head w.2).0; kind_is = (head w.2).1; lines_are = w.2.head.lines_are ∙ closed.is.leaves.lines ∙ closed.is.opened.lines };
    written = w.2;
    up = λ answer. up answer w.2;
    goes_on = λ base. goes base w.2;
  }
  | inr w ↦ absurd (no_other code done w.1)
]

module _ (choice : ℕ) (words : List ℕ) where
  -- the image of a closed service of a document store, as `IsLeftImage` says, is recovered again
  store_left : (r : Remains) → IsLeftImage store_ghosts 1 Document choice words r → IsStoreAgain r choice words
  store_left r left = record {
    table = left.table;
    closed = left.closed;
    again = store_again words left.table.object.lines left.of.lines_are (IsKeptOfClosed store_ghosts left.table left.closed.seats r choice) (left.of.headed, left.of.kind_is) left.up
        (λ base took. left.goes_on base took (stores_give_replies left.table.object.lines) left.opened);
  }

  -- the image of a closed service of a queue, as `IsLeftImage` says, is recovered again
  queue_left : (r : Remains) → IsLeftImage queue_ghosts 2 QueueReplies choice words r → IsQueueAgain r choice words
  queue_left r left =
      let enough = left.closed.is.opened.enough in
      let of = left.closed.is.opened.lines in
      record {
        table = left.table;
        closed = left.closed;
        again = queue_again words left.table.object.lines left.of.lines_are (IsKeptOfClosed queue_ghosts left.table left.closed.seats r choice) (left.of.headed, left.of.kind_is) left.up
            (λ base took. left.goes_on base took (queues_give_replies left.table.object.lines (omega (arith, enough, of))) left.opened);
      }

  -- what is taken up of the image by choice of any service of a program's object that was closed
  abbrev pub WrittenIsTakenUp : Type 0
  WrittenIsTakenUp =
      (table : Running ProgramObject) (seats : List Seated) (r : Remains) (answer : Result Base WordsFault) → IsOpened program_ghosts.line_count program_ghosts.lawful table
      → ClosingWitness table (instance_at table program_ghosts.step program_ghosts.only_reads) seats r → AreRemainsWritten 3 r choice words
      → MatchResult answer (IsTakenUp (program_ghosts.version_number table.object) (program_ghosts.lawful table.object) (program_ghosts.old_format table.object) words)
      (IsWordsFault (program_ghosts.version_number table.object) (program_ghosts.lawful table.object) (program_ghosts.old_format table.object) words)
      → MatchResult answer (IsKeptOfClosed program_ghosts table seats r choice) (λ fault. fault ≡ Image Memory)

  -- the image of a closed service of a program's object, as `IsLeftImage` says, is recovered again, whichever other program's images are taken over
  program_left : WrittenIsTakenUp → (r : Remains) → IsLeftImage program_ghosts 3 ProgramReplies choice words r → IsProgramAgain r choice words
  program_left law r left =
      let table = left.table in
      let closed = left.closed in
      record {
        table = table;
        closed = closed;
        again = λ before other. program_again words table.object.lines left.of.lines_are (IsKeptOfClosed program_ghosts table closed.seats r choice) table.object.version (old_in_lines table.object before)
            (left.of.headed, left.of.kind_is)
            (λ answer is_read. kept_with before table other closed.seats r choice (λ fault. fault ≡ Image Memory) answer
            (law (with_before before table other) closed.seats r answer (opened_with before table other closed.is.opened)
            (leaves_of table (with_before before table other).object (instance_at table program_ghosts.step program_ghosts.only_reads) closed.seats r closed.is.leaves) left.written is_read));
      }

  module _ (code : ℤ) where
    -- an image written of a closed document store is recovered again; where the handle holds anything else, nothing is to be shown
    pub store_comes_back : (content : HandleState DocStore) → ContentComesBack store_ghosts 1 Document choice words code content → ComesBack (Documents content) choice words code
    store_comes_back (Closed r) back = λ done. store_left r (back done)
    store_comes_back (Session session) back = tt
    store_comes_back (Kept kept) back = tt
    store_comes_back (Unclosed rest) back = tt
    store_comes_back Gone back = tt

    -- an image written of a closed queue is recovered again; where the handle holds anything else, nothing is to be shown
    pub queue_comes_back : (content : HandleState Fifo) → ContentComesBack queue_ghosts 2 QueueReplies choice words code content → ComesBack (Queue content) choice words code
    queue_comes_back (Closed r) back = λ done. queue_left r (back done)
    queue_comes_back (Session session) back = tt
    queue_comes_back (Kept kept) back = tt
    queue_comes_back (Unclosed rest) back = tt
    queue_comes_back Gone back = tt

    -- an image written of a closed program's object is recovered again; where the handle holds anything else, nothing is to be shown
    pub program_comes_back : WrittenIsTakenUp → (content : HandleState ProgramObject) → ContentComesBack program_ghosts 3 ProgramReplies choice words code content
        → ComesBack (Program content) choice words code
    program_comes_back law (Closed r) back = λ done. program_left law r (back done)
    program_comes_back law (Session session) back = tt
    program_comes_back law (Kept kept) back = tt
    program_comes_back law (Unclosed rest) back = tt
    program_comes_back law Gone back = tt

-- ---- what an image that a session took comes to

module _ (words : List ℕ) where
  -- the image that a session took of a running document store is recovered again, where its results keep replies
  store_taken : (r : Running DocStore) → IsTakenImage store_ghosts 1 words r → IsTakenStoreAgain r words
  store_taken r image =
      let base = base_at image.has.place image.has.region in
      record {
        has = image.has;
        again = λ holds. store_again words r.object.lines image.of.lines_are (λ b. b ≡ base) (image.of.headed, image.of.kind_is) image.up
            (λ b took. subst (λ (x : Base). HoldsReplies IsDocumentReply x.words) (sym (image.up (Ok b) took)) holds);
      }

  -- the image that a session took of a running queue is recovered again, where its results keep replies
  queue_taken : (r : Running Fifo) → IsTakenImage queue_ghosts 2 words r → IsTakenQueueAgain r words
  queue_taken r image =
      let base = base_at image.has.place image.has.region in
      record {
        has = image.has;
        again = λ holds. queue_again words r.object.lines image.of.lines_are (λ b. b ≡ base) (image.of.headed, image.of.kind_is) image.up
            (λ b took. subst (λ (x : Base). HoldsReplies IsQueueReply x.words) (sym (image.up (Ok b) took)) holds);
      }

  -- what is taken up of the image that a session took of any running service of a program's object
  abbrev pub TakenIsTakenUp : Type 0
  TakenIsTakenUp =
      (table : Running ProgramObject) (place : ℕ) (region : List ℕ) (answer : Result Base WordsFault) → IsTableWithinLimits program_ghosts.line_count program_ghosts.lawful table
      → LawfulBase table.lines (program_ghosts.lawful table.object) (base_at place region) → IsWrittenOf 3 table.callers table.lines place region words
      → MatchResult answer (IsTakenUp (program_ghosts.version_number table.object) (program_ghosts.lawful table.object) (program_ghosts.old_format table.object) words)
      (IsWordsFault (program_ghosts.version_number table.object) (program_ghosts.lawful table.object) (program_ghosts.old_format table.object) words)
      → MatchResult answer (λ base. base ≡ base_at place region) (λ fault. fault ≡ Image Memory)

  -- the image that a session took of a running program's object is recovered again, whichever other program's images are taken over
  program_taken : TakenIsTakenUp → (r : Running ProgramObject) → IsTakenImage program_ghosts 3 words r → IsTakenProgramAgain r words
  program_taken law r image =
      let has = image.has in
      record {
        has = has;
        again = λ before other. program_again words r.object.lines image.of.lines_are (λ b. b ≡ base_at has.place has.region) r.object.version (old_in_lines r.object before)
            (image.of.headed, image.of.kind_is)
            (λ answer. law (with_before before r other) has.place has.region answer (running_with before r other image.running) has.base has.written);
      }

  module _ (code : ℤ) where
    -- an image that a session of a document store took is recovered again; where the handle holds no session, nothing is to be shown
    pub store_taken_back : (content : HandleState DocStore) → ContentTakenBack store_ghosts 1 words code content → TakenComesBack (Documents content) words code
    store_taken_back (Session session) back = λ done. store_taken (arc_value session.service) (back done)
    store_taken_back (Closed r) back = tt
    store_taken_back (Kept kept) back = tt
    store_taken_back (Unclosed rest) back = tt
    store_taken_back Gone back = tt

    -- an image that a session of a queue took is recovered again; where the handle holds no session, nothing is to be shown
    pub queue_taken_back : (content : HandleState Fifo) → ContentTakenBack queue_ghosts 2 words code content → TakenComesBack (Queue content) words code
    queue_taken_back (Session session) back = λ done. queue_taken (arc_value session.service) (back done)
    queue_taken_back (Closed r) back = tt
    queue_taken_back (Kept kept) back = tt
    queue_taken_back (Unclosed rest) back = tt
    queue_taken_back Gone back = tt

    -- an image that a session of a program's object took is recovered again; where the handle holds no session, nothing is to be shown
    pub program_taken_back : TakenIsTakenUp → (content : HandleState ProgramObject) → ContentTakenBack program_ghosts 3 words code content → TakenComesBack (Program content) words code
    program_taken_back law (Session session) back = λ done. program_taken law (arc_value session.service) (back done)
    program_taken_back law (Closed r) back = tt
    program_taken_back law (Kept kept) back = tt
    program_taken_back law (Unclosed rest) back = tt
    program_taken_back law Gone back = tt
