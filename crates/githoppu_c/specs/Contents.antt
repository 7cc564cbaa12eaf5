-- What C has, and what a call of it answers.
use Rattle.std.specs.Prelude.{◌≡◌, ◌⊎◌, ◌≤◌, ◌^◌, ℕ, ℤ, pos, All, List, length}
use Rattle.std.specs.Arc.{arc_value}
use Rattle.std.specs.Global.{Global}
use Rattle.std_alloc.specs.declared.boxed.Box.{Box}
use Rattle.cx_base.specs.declared.object.Object.{Ghosts}
use Rattle.cx_core.specs.declared.entry.Base.{Base}
use Rattle.table_invariant.specs.Running.{Running}
use Rattle.cx_service.specs.Closes.{seats_of}
use Rattle.cx_service.specs.declared.close.Handed.{Handed}
use Rattle.cx_table.specs.Remains.{AreSeats}
use Rattle.doc_store.specs.contracts.store.DocStoreObject.TheImpl.{ghosts as store_ghosts}
use Rattle.doc_store.specs.declared.store.DocStore.{DocStore}
use Rattle.fifo_object.specs.contracts.fifo.FifoObject.TheImpl.{ghosts as queue_ghosts}
use Rattle.fifo_object.specs.declared.fifo.Fifo.{Fifo}
use Rattle.program_object.specs.contracts.object.ProgramObjectObject.TheImpl.{ghosts as program_ghosts}
use Rattle.program_object.specs.declared.object.ProgramObject.{ProgramObject}
use Rattle.c_images.specs.Replies.{HoldsReplies, IsReplyOfKind}
use Rattle.c_images.specs.declared.replies.ReplyKind.{ReplyKind}
use Rattle.c_images.specs.declared.replies.ReplyKind.TheVariants.{Document, Queue as QueueReplies, Program as ProgramReplies}
use Rattle.c_sessions.specs.Closings.{IsClosedOf}
use Rattle.c_sessions.specs.Handing.{IsSessionRestOf}
use Rattle.c_sessions.specs.Sessions.{CallsIn, FinishesIn, IsSessionOpen, IsOpenSessionOf}
use Rattle.c_sessions.specs.declared.session.Session.{Session as SessionOf}
use Rattle.c_sessions.specs.declared.steps.Called.{Called}
use Rattle.c_sessions.specs.declared.steps.Called.TheVariants.{OutOfTurn}
use Rattle.githoppu_c.specs.Codes.{IsOpenCode, code_of}
use Rattle.githoppu_c.specs.declared.content.AnyHandleState.{AnyHandleState}
use Rattle.githoppu_c.specs.declared.content.AnyHandleState.TheVariants.{Documents, Queue, Program}
use Rattle.githoppu_c.specs.declared.content.HandleState.{HandleState}
use Rattle.githoppu_c.specs.declared.content.HandleState.TheVariants.{Session, Kept, Unclosed, Closed, Gone}

-- of what a handle holds, `content`: that one of the three properties that is for its kind of object
abbrev pub OfAny : (HandleState DocStore → Type 0) → (HandleState Fifo → Type 0) → (HandleState ProgramObject → Type 0) → AnyHandleState → Type 0
OfAny documents queue program (Documents content) = documents content
OfAny documents queue program (Queue content) = queue content
OfAny documents queue program (Program content) = program content

-- of what a handle held before a call and holds after it: they are of one kind of object, and that one of the three relations holds that is for this
-- kind
abbrev pub OfBoth : (HandleState DocStore → HandleState DocStore → Type 0) → (HandleState Fifo → HandleState Fifo → Type 0)
    → (HandleState ProgramObject → HandleState ProgramObject → Type 0) → AnyHandleState → AnyHandleState → Type 0
OfBoth documents queue program (Documents before) (Documents after) = documents before after
OfBoth documents queue program (Queue before) (Queue after) = queue before after
OfBoth documents queue program (Program before) (Program after) = program before after
OfBoth documents queue program before after = ⊥

-- each result slot with a number, in the base that the service `r` started from, keeps a reply of the kind `replies`, or 144 zeros
abbrev pub KeepsReplies : {O : Type 0} → ReplyKind → Running O → Type 0
KeepsReplies replies r = HoldsReplies (IsReplyOfKind replies) r.base.words

-- What a handle may hold when a call is made. It is one of: an open session; a service with all its callers, which is to be closed again; what the
-- last session found, which is to be closed again; what a closed service left; nothing any more. The base that the service started from keeps replies
-- of the kind `replies`.
abbrev pub IsContentCallable : {O : Type 0} → Ghosts O → ReplyKind → HandleState O → Type 0
IsContentCallable o replies (Session session) = IsSessionOpen session × KeepsReplies replies (arc_value session.service)
IsContentCallable o replies (Kept kept) = AreSeats kept.service (seats_of kept.callers.items) × KeepsReplies replies kept.service
IsContentCallable {O = O} o replies (Unclosed rest) = (r : Running O) × (given : List Handed) × IsSessionRestOf r given rest × KeepsReplies replies r
IsContentCallable {O = O} o replies (Closed remains) = (r : Running O) × IsClosedOf o.line_count o.lawful o.step o.only_reads r remains × KeepsReplies replies r
IsContentCallable o replies Gone = Unit {0}

-- what a handle may hold when a call is made, of any of the three kinds of objects
abbrev pub IsCallable : AnyHandleState → Type 0
IsCallable = OfAny (IsContentCallable store_ghosts Document) (IsContentCallable queue_ghosts QueueReplies) (IsContentCallable program_ghosts ProgramReplies)

-- after a call the handle holds `after`, with which a further call may be made, and `Done` holds of the call
pub record LeavesContentCallable {O : Type 0} (o : Ghosts O) (replies : ReplyKind) (after : HandleState O) (Done : Type 0) : Type 0 where
  pub callable : IsContentCallable o replies after
  pub done : Done

-- after a call the handle holds `after`, of any kind of object, with which a further call may be made, and `Done` holds of the call
pub record LeavesCallable (after : AnyHandleState) (Done : Type 0) : Type 0 where
  pub callable : IsCallable after
  pub done : Done

-- a session of a store, as C has it
abbrev pub store_session : SessionOf DocStore → AnyHandleState
store_session session = Documents (Session session)

-- a session of a queue, as C has it
abbrev pub queue_session : SessionOf Fifo → AnyHandleState
queue_session session = Queue (Session session)

-- a session of a program's object, as C has it
abbrev pub program_session : SessionOf ProgramObject → AnyHandleState
program_session session = Program (Session session)

-- `content` is an open session of the service `r`, as `any` makes of it what a handle holds
pub record IsSessionIn {O : Type 0} (any : SessionOf O → AnyHandleState) (r : Running O) (content : AnyHandleState) : Type 0 where
  pub session : SessionOf O
  pub of : IsOpenSessionOf r session
  pub is : content ≡ any session

-- `boxes` are `count` boxes: in each stands what a further call may be made with, and `is` holds of it
pub record AreBoxes (is : AnyHandleState → Type 0) (count : ℕ) (boxes : List (Box AnyHandleState Global)) : Type 0 where
  pub all : length boxes ≡ count
  pub each : All (λ (b : Box AnyHandleState Global). is b.value × IsCallable b.value) boxes

-- `sessions` are `count` open sessions of one service of `object`, which starts from a base of which the property `base` holds
pub record AreSessionsOf {O : Type 0} (object : O) (lines count : ℕ) (base : Base → Type 0) (sessions : List (SessionOf O)) : Type 0 where
  pub service : Running O
  pub object_is : service.object ≡ object
  pub callers_are : service.callers ≡ count
  pub lines_are : service.lines ≡ lines
  pub said : base service.base
  pub all : length sessions ≡ count
  pub each : All (IsOpenSessionOf service) sessions

-- the sizes with which an object may be opened: 64 to 16,384 lines, and 1 to 8 sessions, which is `count`
pub record MayOpen (lines count : ℕ) : Type 0 where
  pub least : 64 ≤ lines
  pub most : lines ≤ 16384
  pub some : 1 ≤ count
  pub few : count ≤ 8

-- why no sessions are opened, as the status `code`: 7 where the sizes are wrong; where they are right, 8 where memory ran out, or 2 where the
-- sessions' new queue did not take its first entry
abbrev pub Refuses : ℕ → ℕ → ℤ → Type 0
Refuses lines count code = ((¬ MayOpen lines count) × (code ≡ pos 7)) ⊎ (MayOpen lines count × IsOpenCode code)

-- the status `code` that C is given where it opens `count` sessions of an object in this many lines: 0 where they are opened, or why they are not
abbrev pub AnswersOpening : ℕ → ℕ → ℤ → Type 0
AnswersOpening lines count code = (MayOpen lines count × (code ≡ pos 0)) ⊎ Refuses lines count code

-- `boxes` are `count` boxes of sessions of one service of an object in this many lines; these sizes may be opened. `any` makes of a session what a
-- handle holds.
pub record AreOpened {O : Type 0} (any : SessionOf O → AnyHandleState) (lines count : ℕ) (boxes : List (Box AnyHandleState Global)) : Type 0 where
  pub may : MayOpen lines count
  pub service : Running O
  pub callers_are : service.callers ≡ count
  pub lines_are : service.lines ≡ lines
  pub of : AreBoxes (IsSessionIn any service) count boxes

-- the call is refused as out of turn, and what the handle holds stays as it is
abbrev pub IsNoTurn : {O : Type 0} → HandleState O → Called → HandleState O → Type 0
IsNoTurn before called after = (called ≡ OutOfTurn) × (after ≡ before)

-- The operation `op`, asked of what a handle holds, in at most `tries` tries, has the result `called`, and `reply` is what stands in the reply's
-- buffer then. A session stays a session; of anything else the call is refused as out of turn.
abbrev pub ContentCalls : {O : Type 0} → Ghosts O → List ℕ → ℕ → Called → List ℕ → HandleState O → HandleState O → Type 0
ContentCalls o op tries called reply (Session before) (Session after) = CallsIn o.only_reads op tries before called after reply
ContentCalls o op tries called reply (Session before) after = ⊥
ContentCalls o op tries called reply before after = IsNoTurn before called after

-- the operation `op`, asked of what a handle holds, of any kind of object, in at most `tries` tries, has the result `called`, and leaves `after` and
-- `reply`; of what is no session the call is refused as out of turn
abbrev pub CallHasResult : List ℕ → ℕ → AnyHandleState → Called → AnyHandleState → List ℕ → Type 0
CallHasResult op tries before called after reply =
    OfBoth (ContentCalls store_ghosts op tries called reply) (ContentCalls queue_ghosts op tries called reply)
    (ContentCalls program_ghosts op tries called reply) before after

-- Finishing the linked entry of the session that a handle holds, in at most `tries` attempts, has the result `called`, and `reply` is what stands in
-- the reply's buffer then. A session stays a session; of anything else the call is refused as out of turn.
abbrev pub ContentFinishes : {O : Type 0} → ℕ → Called → List ℕ → HandleState O → HandleState O → Type 0
ContentFinishes tries called reply (Session before) (Session after) = FinishesIn tries before called after reply
ContentFinishes tries called reply (Session before) after = ⊥
ContentFinishes tries called reply before after = IsNoTurn before called after

-- finishing the linked entry, of what a handle holds of any kind of object, in at most `tries` attempts, has the result `called`, and leaves `after`
-- and `reply`; of what is no session the call is refused as out of turn
abbrev pub FinishesSession : ℕ → AnyHandleState → Called → AnyHandleState → List ℕ → Type 0
FinishesSession tries before called after reply =
    OfBoth (ContentFinishes tries called reply) (ContentFinishes tries called reply) (ContentFinishes tries called reply) before after

-- `tries` is how many tries a call makes where C asks for `asked`: as many, but at least 1 and at most 2^20
pub record IsTriesFor (asked tries : ℕ) : Type 0 where
  pub some : 1 ≤ tries
  pub most : tries ≤ 2 ^ 20
  pub few : (tries ≤ asked) ⊎ (tries ≡ 1)
  pub all : (asked ≤ tries) ⊎ (tries ≡ 2 ^ 20)

-- `code` is the status of the result `called` of a call for which C asked for `asked` tries. `come_to` relates the tries that were allowed, that
-- result, and what the handle holds after the call, with which a further call may be made.
pub record AnswersTries (asked : ℕ) (come_to : ℕ → Called → AnyHandleState → Type 0) (code : ℤ) : Type 0 where
  pub tries : ℕ
  pub asked_for : IsTriesFor asked tries
  pub called : Called
  pub after : AnyHandleState
  pub callable : IsCallable after
  pub comes_to : come_to tries called after
  pub is : code ≡ code_of called
