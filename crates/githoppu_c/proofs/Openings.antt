-- Sessions that were opened or recovered, as C has them, or why there are none.
use Rattle.std.proofs.Common.{◌≡◌, ◌∙◌, ◌⊎◌, List, Result, Ok, Err, inl, inr, map, pos, sym, subst, ℕ, ℤ}
use Rattle.std.specs.Prelude.{MatchResult}
use Rattle.cx_base.specs.declared.object.Object.{Ghosts}
use Rattle.cx_core.specs.declared.entry.Base.{Base}
use Rattle.table_invariant.specs.Running.{Running}
use Rattle.c_images.specs.Replies.{HoldsReplies, IsReplyOfKind}
use Rattle.c_images.specs.declared.reader.WordsFault.{WordsFault}
use Rattle.c_images.specs.declared.replies.ReplyKind.{ReplyKind}
use Rattle.c_sessions.specs.Sessions.{IsOpenSessionOf}
use Rattle.c_sessions.specs.declared.session.Session.{Session}
use Rattle.c_sessions.specs.declared.start.OpenFault.{OpenFault}
use Rattle.c_sessions.specs.declared.start.OpenFault.TheVariants.{Start, InTheWay}
use Rattle.githoppu_c.specs.Codes.{IsOpenCode, open_code}
use Rattle.githoppu_c.specs.Contents.{AreOpened, AreSessionsOf, IsCallable, IsContentCallable, KeepsReplies, MayOpen, Refuses}
use Rattle.githoppu_c.specs.Objects.{IsObjectFault}
use Rattle.githoppu_c.specs.Recoveries.{AreFew, AreRecovered, IsRefusal, RefusesWords}
use Rattle.githoppu_c.specs.declared.content.AnyHandleState.{AnyHandleState}
use Rattle.githoppu_c.specs.declared.content.HandleState.TheVariants.{Session as ContentSession}
use Rattle.githoppu_c.proofs.InBoxes.{Boxed, as_boxes, value_of}

-- sessions of an object, each of which C may call as `any` makes it
module _ {O : Type 0} (any : Session O → AnyHandleState) (replies : ReplyKind) (callable : (r : Running O) (s : Session O) → KeepsReplies replies r → IsOpenSessionOf r s → IsCallable (any s))
    (object : O) (lines count : ℕ) (base : Base → Type 0) (keeps : (b : Base) → base b → HoldsReplies (IsReplyOfKind replies) b.words) (sessions : List (Session O)) (of : AreSessionsOf object lines count base sessions) where
  -- boxes that have these sessions in order are as `AreOpened` says, for `wanted` lines, which are the object's
  abbrev pub are_opened : (wanted : ℕ) → lines ≡ wanted → MayOpen wanted count → (boxes : List Boxed) → map value_of boxes ≡ map any sessions → AreOpened any wanted count boxes
  are_opened wanted same may boxes made = record {
    may = may;
    service = of.service;
    callers_are = of.callers_are;
    lines_are = of.lines_are ∙ same;
    of = as_boxes any of.service count (λ s. callable of.service s (keeps of.service.base of.said)) boxes sessions made of.all of.each;
  }

  -- boxes that have these sessions in order are as `AreRecovered` says, where `taken` holds of each base of which `base` holds
  abbrev pub are_recovered : (taken : Base → Type 0) → ((b : Base) → base b → taken b) → AreFew count → (boxes : List Boxed) → map value_of boxes ≡ map any sessions → AreRecovered any taken count boxes
  are_recovered taken goes few boxes made = record {
    few = few;
    service = of.service;
    callers_are = of.callers_are;
    said = goes of.service.base of.said;
    of = as_boxes any of.service count (λ s. callable of.service s (keeps of.service.base of.said)) boxes sessions made of.all of.each;
  }

  -- putting the sessions that were opened into boxes is an answer to an opening: the boxes, or the status that memory ran out
  pub opened_boxes : {V : Type 0} (items : V → List Boxed) (wanted : ℕ) → lines ≡ wanted → MayOpen wanted count → (answer : Result V ℤ)
      → MatchResult answer (λ v. map value_of (items v) ≡ map any sessions) (λ code. code ≡ pos 8) → MatchResult answer (λ v. AreOpened any wanted count (items v)) (Refuses wanted count)
  opened_boxes items wanted same may (Ok v) made = are_opened wanted same may (items v) made
  opened_boxes items wanted same may (Err code) is = inr (may, inl is)

  -- putting the sessions that were recovered into boxes is an answer to a recovery: the boxes, or the status that memory ran out
  pub recovered_boxes : {V : Type 0} (items : V → List Boxed) (kind : ℕ) (taken : Base → Type 0) (faulty : WordsFault → Type 0) (words : List ℕ) → ((b : Base) → base b → taken b) → AreFew count → (answer : Result V ℤ)
      → MatchResult answer (λ v. map value_of (items v) ≡ map any sessions) (λ code. code ≡ pos 8) → MatchResult answer (λ v. AreRecovered any taken count (items v)) (RefusesWords kind faulty words count)
  recovered_boxes items kind taken faulty words goes few (Ok v) made = are_recovered taken goes few (items v) made
  recovered_boxes items kind taken faulty words goes few (Err code) is = inr (few, inr (inl is))

-- a refusal by one kind of replies is one by an equal kind
pub kind_refused : {O : Type 0} (o : Ghosts O) (object : O) (words : List ℕ) (a b : ReplyKind) (code : ℤ) → a ≡ b → IsRefusal (IsObjectFault o a object words) code → IsRefusal (IsObjectFault o b object words) code
kind_refused o object words a b code same refused = subst (λ k. IsRefusal (IsObjectFault o k object words) code) same refused

-- the status for a fault of opening sessions is one of `IsOpenCode`
pub opening_code : (fault : OpenFault) (code : ℤ) → code ≡ open_code fault → IsOpenCode code
opening_code (Start fault) code is = inl is
opening_code InTheWay code is = inr is

-- an open session may be called, where its service keeps replies
pub open_callable : {O : Type 0} (o : Ghosts O) (replies : ReplyKind) (r : Running O) (s : Session O) → KeepsReplies replies r → IsOpenSessionOf r s → IsContentCallable o replies (ContentSession s)
open_callable o replies r s keeps of = (of.opened, subst (KeepsReplies replies) (sym of.same) keeps)

-- The status for why no sessions are recovered from words with a head is one of `RefusesWords`, where each fault of which `refused` holds is one of
-- which `faulty` holds.
pub refused_sessions : (kind : ℕ) (faulty refused : WordsFault → Type 0) (words : List ℕ) (count : ℕ) (code : ℤ) → AreFew count → ((fault : WordsFault) → refused fault → faulty fault)
    → IsRefusal refused code ⊎ IsOpenCode code → RefusesWords kind faulty words count code
refused_sessions kind faulty refused words count code few goes (inl of) = inr (few, inl (record { fault = of.0; because = inr (goes of.0 of.1); is = of.2 }))
refused_sessions kind faulty refused words count code few goes (inr queue) = inr (few, inr queue)
