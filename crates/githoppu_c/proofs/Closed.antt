-- What is left by a closing may be called.
use Rattle.std.proofs.Common.{List, subst, sym}
use Rattle.std.specs.Arc.{arc_value}
use Rattle.cx_base.specs.declared.object.Object.{Ghosts}
use Rattle.table_invariant.specs.Running.{Running}
use Rattle.cx_service.specs.Closes.{seats_of}
use Rattle.cx_service.specs.declared.close.Handed.{Handed}
use Rattle.cx_table.specs.Remains.{AreSeats}
use Rattle.seat_pool.specs.Gathering.{kept_list}
use Rattle.c_images.specs.declared.replies.ReplyKind.{ReplyKind}
use Rattle.c_sessions.specs.Closings.{Closes, ClosesTo}
use Rattle.c_sessions.specs.declared.close.Closing.{Closing}
use Rattle.c_sessions.specs.declared.close.Closing.TheVariants.{Others, Again, Closed, Kept, Missing, Shared}
use Rattle.c_sessions.specs.declared.handover.ReturnQueue.{ReturnQueue}
use Rattle.c_sessions.specs.declared.session.Session.{Session}
use Rattle.githoppu_c.specs.Closings.{content_left}
use Rattle.githoppu_c.specs.Contents.{IsContentCallable, KeepsReplies}

module _ {O : Type 0} (o : Ghosts O) (replies : ReplyKind) where
  -- what a handle holds after an open session was closed is what a further call may be made with
  pub session_callable : (session : Session O) (closing : Closing O) → KeepsReplies replies (arc_value session.service) → Closes o.line_count o.lawful o.step o.only_reads session closing
      → IsContentCallable o replies (content_left closing)
  session_callable session Others keeps is = tt
  session_callable session (Again other) keeps is = (is.0, subst (KeepsReplies replies) (sym is.1) keeps)
  session_callable session (Closed remains account) keeps is = (arc_value session.service, record { seats = seats_of is.handed; is = is.closed }, keeps)
  session_callable session (Kept kept account) keeps is = (subst (λ (r : Running O). AreSeats r (seats_of kept.callers.items)) (sym is.0.0) is.0.1, subst (KeepsReplies replies) (sym is.0.0) keeps)
  session_callable session (Missing rest) keeps is = (arc_value session.service, kept_list session.handed, is.0.of, keeps)
  session_callable session (Shared rest) keeps is = (arc_value session.service, kept_list session.handed, is.0, keeps)

  -- what a handle holds after what the last session found was closed is what a further call may be made with
  pub rest_callable : (r : Running O) (handover : ReturnQueue O) (given : List Handed) (closing : Closing O) → KeepsReplies replies r
      → ClosesTo o.line_count o.lawful o.step o.only_reads r handover given closing → IsContentCallable o replies (content_left closing)
  rest_callable r handover given Others keeps is = tt
  rest_callable r handover given (Again other) keeps is = absurd is
  rest_callable r handover given (Closed remains account) keeps is = (r, record { seats = seats_of is.handed; is = is.closed }, keeps)
  rest_callable r handover given (Kept kept account) keeps is = (subst (λ (s : Running O). AreSeats s (seats_of kept.callers.items)) (sym is.0.0) is.0.1, subst (KeepsReplies replies) (sym is.0.0) keeps)
  rest_callable r handover given (Missing rest) keeps is = (r, given, is.0.of, keeps)
  rest_callable r handover given (Shared rest) keeps is = (r, given, is.0, keeps)
