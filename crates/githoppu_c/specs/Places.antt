-- What C is answered where it asks for the place that a session has seen, and where a session catches up with one.
use Rattle.std.specs.Prelude.{◌≡◌, ℕ, ℤ, Option, Some, None, pos}
use Rattle.c_sessions.specs.Sessions.{SeesIn}
use Rattle.c_sessions.specs.declared.catch_up.SessionCatchUp.{SessionCatchUp}
use Rattle.c_sessions.specs.declared.catch_up.SessionCatchUp.TheVariants.{Caught, Behind, Stopped, OutOfTurn}
use Rattle.githoppu_c.specs.Contents.{IsCallable, OfAny, OfBoth}
use Rattle.githoppu_c.specs.declared.content.AnyHandleState.{AnyHandleState}
use Rattle.githoppu_c.specs.declared.content.HandleState.{HandleState}
use Rattle.githoppu_c.specs.declared.content.HandleState.TheVariants.{Session}

-- the status that C is given for the result of catching up with a place: 23 where the current place is below it
abbrev pub sight_code : SessionCatchUp → ℤ
sight_code Caught = pos 0
sight_code (Behind found) = pos 23
sight_code Stopped = pos 5
sight_code OutOfTurn = pos 6

-- `place` is that of the session which the handle holds, and the status `code` is 0; where it holds no session, `place` is 0, and `code` is 6, out of
-- turn
abbrev pub ContentTellsPlace : {O : Type 0} → ℕ → ℤ → HandleState O → Type 0
ContentTellsPlace place code (Session session) = (place ≡ session.place) × (code ≡ pos 0)
ContentTellsPlace place code content = (place ≡ 0) × (code ≡ pos 6)

-- `place` is that of the session which the handle holds, of any kind of object, and the status `code` is 0; where it holds no session, `place` is 0,
-- and `code` is 6
abbrev pub TellsPlace : AnyHandleState → ℕ → ℤ → Type 0
TellsPlace content place code = OfAny (ContentTellsPlace place code) (ContentTellsPlace place code) (ContentTellsPlace place code) content

-- some place is that of the session which the handle holds; none says that it holds no session
abbrev pub ContentMayHavePlace : {O : Type 0} → HandleState O → Option ℕ → Type 0
ContentMayHavePlace content (Some place) = ContentTellsPlace place (pos 0) content
ContentMayHavePlace content None = ContentTellsPlace 0 (pos 6) content

-- some place is that of the session which the handle holds, of any kind of object; none says that it holds no session
abbrev pub MayHavePlace : AnyHandleState → Option ℕ → Type 0
MayHavePlace content (Some place) = TellsPlace content place (pos 0)
MayHavePlace content None = TellsPlace content 0 (pos 6)

-- What a handle holds was to catch up with `place`, and `sight` is the result. A session stays a session; of anything else the call is refused as out
-- of turn, and nothing is changed.
abbrev pub ContentSees : {O : Type 0} → ℕ → SessionCatchUp → HandleState O → HandleState O → Type 0
ContentSees place sight (Session before) (Session after) = SeesIn place before sight after
ContentSees place sight (Session before) after = ⊥
ContentSees place sight before after = (sight ≡ OutOfTurn) × (after ≡ before)

-- what a handle holds, of any kind of object, was to catch up with `place`, and `sight` is the result; of what is no session the call is refused as
-- out of turn, and nothing is changed
abbrev pub ContentCatchesUp : ℕ → AnyHandleState → SessionCatchUp → AnyHandleState → Type 0
ContentCatchesUp place before sight after = OfBoth (ContentSees place sight) (ContentSees place sight) (ContentSees place sight) before after

-- `code` is the status of the result of catching up with `place`; after the call the handle holds `after`, with which a further call may be made
pub record AnswersSight (place : ℕ) (before : AnyHandleState) (code : ℤ) : Type 0 where
  pub sight : SessionCatchUp
  pub after : AnyHandleState
  pub callable : IsCallable after
  pub comes_to : ContentCatchesUp place before sight after
  pub is : code ≡ sight_code sight
