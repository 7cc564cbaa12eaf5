-- What a session has seen stands through its calls.
use Rattle.std.proofs.Common.{◌≡◌, ◌+◌, ◌*◌, ◌≤◌, ℕ, max, Bool, true, false, List, [], ◌∷◌, Some, Option, IfSome, length, inl, inr, arith, ap, ap₂, refl, subst, sym, ◌∙◌}
use Rattle.std.proofs.lemmas.Bool.{cases_lt}
use Rattle.std.proofs.lemmas.Option.{same_Some}
use Rattle.std.specs.Arc.{arc_value}
use Rattle.std.specs.List.{slice_get}
use Rattle.std.specs.Option.{option_map}
use Rattle.cx_core.specs.declared.local.Answer.{Answer}
use Rattle.cx_core.specs.declared.local.Linked.{Linked as OwnEntry}
use Rattle.table_invariant.specs.Running.{Running}
use Rattle.table_invariant.specs.Seats.{Seated, unanswered_ticket}
use Rattle.cx_service.specs.Callers.{IsCallerOf}
use Rattle.cx_base.specs.declared.object.Object.{Ghosts}
use Rattle.cx_service.specs.CatchUps.{HasSeen}
use Rattle.cx_service.specs.declared.close.Handed.{Handed}
use Rattle.cx_service.specs.declared.close.Handed.TheVariants.{Idle, Linked, Stopped}
use Rattle.cx_service.proofs.Seeing.{answered_read_seen, catch_up_seen, driven_seen, image_behind, image_seen, read_behind, read_seen, submit_linked_behind, submit_seen}
use Rattle.seat_pool.specs.Gathering.{IsHandedOf, handed_number}
use Rattle.c_sessions.specs.declared.catch_up.SessionCatchUp.{SessionCatchUp}
use Rattle.c_sessions.specs.declared.catch_up.SessionCatchUp.TheVariants.{Caught, Behind, Stopped as SightStopped, OutOfTurn as SightOutOfTurn}
use Rattle.c_sessions.specs.declared.steps.Called.{Called}
use Rattle.c_sessions.specs.declared.steps.Called.TheVariants.{Done, Pending, Again, Full, Worn, Stopped as CalledStopped, OutOfTurn}
use Rattle.c_sessions.specs.Calls.{AsksBy, CallsFrom, DrivesTo, EntersNot, EntersTo, FinishesFrom, LooksTo, place_after}
use Rattle.c_sessions.specs.Handing.{IsExitOf}
use Rattle.c_sessions.specs.Images.{TakesFrom, TakesTo, place_taken}
use Rattle.c_sessions.specs.Places.{HasSeenPlace, CatchesUpFrom, SeesTo, place_seen}
use Rattle.c_sessions.specs.Sessions.{IsSessionOpen, SessionStands}
use Rattle.c_sessions.specs.declared.session.Session.{Session}
use Rattle.c_sessions.specs.declared.checkpoint.SessionCheckpoint.{SessionCheckpoint}
use Rattle.c_sessions.specs.declared.checkpoint.SessionCheckpoint.TheVariants.{At, Again as TakenAgain, Stopped as TakenStopped, OutOfTurn as TakenOutOfTurn}

-- a caller in whichever state has seen place 0
pub none_seen : {O : Type 0} (r : Running O) (handed : Handed) → HasSeenPlace r 0 handed
none_seen r (Idle caller) = record { front = omega arith; read = inl (omega arith) }
none_seen r (Linked linked) = λ ticket at. omega arith
none_seen r (Stopped stopped) = tt

-- the place does not fall from `before` to `after`, and the caller `number`, in whichever state it is then, has seen the place `after`
pub record Goes {O : Type 0} (r : Running O) (number before after : ℕ) (handed : Handed) : Type 0 where
  pub rises : before ≤ after
  pub seen : HasSeenPlace r after handed
  pub same : handed_number handed ≡ number

-- the number of a caller
abbrev number_at : Seated → ℕ
number_at u = u.known.local.number

module _ {O : Type 0} (r : Running O) (place : ℕ) where
  -- the place stays, where the caller has seen it and has the number `n`
  stays : (n : ℕ) (handed : Handed) → HasSeenPlace r place handed → handed_number handed ≡ n → Goes r n place place handed
  stays n handed seen same = record { rises = omega arith; seen = seen; same = same }

  -- a call that is out of turn leaves the caller and the place as they were
  out_of_turn : (called : Called) (before after : Handed) → HasSeenPlace r place before → called ≡ OutOfTurn → after ≡ before → Goes r (handed_number before) place (place_after called place) after
  out_of_turn called before after seen is same =
      subst (λ (c : Called). Goes r (handed_number before) place (place_after c place) after) (sym is) (subst (λ (h : Handed). Goes r (handed_number before) place place h) (sym same) (stays (handed_number before) before seen refl))

  -- callers with the same entries and answers have the same unanswered ticket
  same_ticket : (u v : Seated) → v.known.local.own ≡ u.known.local.own → v.known.local.answered ≡ u.known.local.answered → unanswered_ticket v.known.local ≡ unanswered_ticket u.known.local
  same_ticket u v own answered = ap₂ (λ (xs : List OwnEntry) (given : List Answer). option_map (λ (x : OwnEntry). x.ticket) (slice_get xs (length given))) own answered

  -- after driving the linked entry the place did not fall, and the caller has seen it
  drives_goes : (tries : ℕ) (u : Seated) (called : Called) (after : Handed) (reply : List ℕ) → HasSeenPlace r place (Linked u) → DrivesTo r tries u called after reply → Goes r (number_at u) place (place_after called place) after
  drives_goes tries u (Done p) (Idle v) reply low drives =
      let done = drives.2.0 in
      let answer : Answer = record { ticket = drives.0; reply = reply } in
      let at = drives.1 in
      let above = low drives.0 done.ticket in
      record { rises = omega (arith, at, above); seen = driven_seen r p u v answer (omega (arith, at)) done; same = done.keeps.number }
  drives_goes tries u Pending (Linked v) reply low drives = stays (number_at u) (Linked v) (λ ticket at. low ticket (sym (same_ticket u v drives.keeps.own drives.answered) ∙ at)) drives.keeps.number
  drives_goes tries u CalledStopped (Stopped v) reply low drives = stays (number_at u) (Stopped v) tt drives.0.keeps.number
  drives_goes tries u called after reply low drives = absurd drives

  -- after a read beside the queue the place did not fall, and the caller has seen it
  looks_goes : (op : List ℕ) (tries : ℕ) (u : Seated) (called : Called) (after : Handed) (reply : List ℕ) → IsCallerOf r u → HasSeen r.callers place u.known.local → LooksTo r op tries u called after reply →
      Goes r (number_at u) place (place_after called place) after
  looks_goes op tries u (Done p) (Idle v) reply caller was looks =
      record { rises = (read_behind r op u v place (record { place = p; reply = reply }) was looks.0).0; seen = answered_read_seen r op u v (record { place = p; reply = reply }) looks.0; same = looks.0.keeps.number }
  looks_goes op tries u Again (Idle v) reply caller was looks = stays (number_at u) (Idle v) (read_seen r place u v caller was looks.keeps) looks.keeps.number
  looks_goes op tries u CalledStopped (Stopped v) reply caller was looks = stays (number_at u) (Stopped v) tt looks.0.keeps.number
  looks_goes op tries u called after reply caller was looks = absurd looks

  -- where an operation is not entered, the place stays, and the caller has seen it
  enters_not : (op : List ℕ) (tries : ℕ) (u : Seated) (called : Called) (after : Handed) → IsCallerOf r u → HasSeen r.callers place u.known.local → EntersNot r op tries u called after → Goes r (number_at u) place (place_after called place) after
  enters_not op tries u Again (Idle v) caller was enters = stays (number_at u) (Idle v) (submit_seen r (200 + r.callers + 3 * tries) place u v caller was enters.0.keeps) enters.0.keeps.number
  enters_not op tries u Full (Idle v) caller was enters = stays (number_at u) (Idle v) (submit_seen r (200 + r.callers + 3 * tries) place u v caller was enters.1.keeps) enters.1.keeps.number
  enters_not op tries u Worn (Idle v) caller was enters = stays (number_at u) (Idle v) (submit_seen r (200 + r.callers + 3 * tries) place u v caller was enters.keeps) enters.keeps.number
  enters_not op tries u CalledStopped (Stopped v) caller was enters = stays (number_at u) (Stopped v) tt enters.0.keeps.number
  enters_not op tries u called after caller was enters = absurd enters

  -- after an operation is entered, or not, the place did not fall, and the caller has seen it
  enters_goes : (op : List ℕ) (tries : ℕ) (u : Seated) (called : Called) (after : Handed) (reply : List ℕ) → IsCallerOf r u → HasSeen r.callers place u.known.local → EntersTo r op tries u called after reply →
      Goes r (number_at u) place (place_after called place) after
  enters_goes op tries u called after reply caller was (inl e) =
      let low = submit_linked_behind r op (200 + r.callers + 3 * tries) place u e.linked was e.entered in
      subst (λ n. Goes r n place (place_after called place) after) e.entered.keeps.number (drives_goes tries e.linked called after reply (λ ticket at. (let same = same_Some e.entered.ticket ticket (sym e.entered.lends ∙ at) in omega (arith, low, same))) e.driven)
  enters_goes op tries u called after reply caller was (inr n) = enters_not op tries u called after caller was n

  -- after a call of an idle caller the place did not fall, and the caller has seen it
  asks_goes : (reads : Bool) (op : List ℕ) (tries : ℕ) (u : Seated) (called : Called) (after : Handed) (reply : List ℕ) → IsCallerOf r u → HasSeen r.callers place u.known.local → AsksBy reads r op tries u called after reply →
      Goes r (number_at u) place (place_after called place) after
  asks_goes true op tries u called after reply caller was asks = looks_goes op tries u called after reply caller was asks
  asks_goes false op tries u called after reply caller was asks = enters_goes op tries u called after reply caller was asks

  -- after a call of a caller in any state the place did not fall, and the caller has seen it
  pub calls_go : (reads : O → List ℕ → Bool) (op : List ℕ) (tries : ℕ) (before : Handed) (called : Called) (after : Handed) (reply : List ℕ) → IsHandedOf r before → HasSeenPlace r place before → CallsFrom reads r op tries before called after reply →
      Goes r (handed_number before) place (place_after called place) after
  calls_go reads op tries (Idle u) called after reply caller was calls = asks_goes (reads r.object op) op tries u called after reply caller was calls
  calls_go reads op tries (Linked u) called after reply caller was calls = out_of_turn called (Linked u) after was calls.0 calls.1
  calls_go reads op tries (Stopped u) called after reply caller was calls = out_of_turn called (Stopped u) after was calls.0 calls.1

  -- after finishing the linked entry of a caller in any state the place did not fall, and the caller has seen it
  pub finishes_go : (tries : ℕ) (before : Handed) (called : Called) (after : Handed) (reply : List ℕ) → HasSeenPlace r place before → FinishesFrom r tries before called after reply → Goes r (handed_number before) place (place_after called place) after
  finishes_go tries (Linked u) called after reply was finishes = drives_goes tries u called after reply was finishes
  finishes_go tries (Idle u) called after reply was finishes = out_of_turn called (Idle u) after was finishes.0 finishes.1
  finishes_go tries (Stopped u) called after reply was finishes = out_of_turn called (Stopped u) after was finishes.0 finishes.1

  -- a caller that has seen two places has seen the greater
  both_seen : (callers one two : ℕ) (u : Seated) → HasSeen callers one u.known.local → HasSeen callers two u.known.local → HasSeen callers (max one two) u.known.local
  both_seen callers one two u a b = elim (cases_lt one two) [
    | inl less ↦ subst (λ n. HasSeen callers n u.known.local) (omega (arith, less)) b
    | inr more ↦ subst (λ n. HasSeen callers n u.known.local) (omega (arith, more)) a
  ]

  -- after an idle caller was to see the place `wanted`, the session's place did not fall, and the caller has seen it
  sees_goes : (wanted : ℕ) (u : Seated) (sight : SessionCatchUp) (after : Handed) → IsCallerOf r u → HasSeen r.callers place u.known.local → SeesTo r wanted u sight after → Goes r (number_at u) place (place_seen sight wanted place) after
  sees_goes wanted u Caught (Idle v) caller was sees = record { rises = omega arith; seen = both_seen r.callers place wanted v (catch_up_seen r place u v caller was sees.keeps) sees.seen; same = sees.keeps.number }
  sees_goes wanted u (Behind found) (Idle v) caller was sees = stays (number_at u) (Idle v) (catch_up_seen r place u v caller was sees.keeps) sees.keeps.number
  sees_goes wanted u SightStopped (Stopped v) caller was sees = stays (number_at u) (Stopped v) tt sees.keeps.number
  sees_goes wanted u sight after caller was sees = absurd sees

  -- catching up out of turn leaves the caller and the place as they were
  no_sight : (wanted : ℕ) (sight : SessionCatchUp) (before after : Handed) → HasSeenPlace r place before → sight ≡ SightOutOfTurn → after ≡ before → Goes r (handed_number before) place (place_seen sight wanted place) after
  no_sight wanted sight before after seen is same =
      subst (λ (c : SessionCatchUp). Goes r (handed_number before) place (place_seen c wanted place) after) (sym is) (subst (λ (h : Handed). Goes r (handed_number before) place place h) (sym same) (stays (handed_number before) before seen refl))

  -- after a caller in any state was to see the place `wanted`, the session's place did not fall, and the caller has seen it
  pub sees_go : (wanted : ℕ) (before : Handed) (sight : SessionCatchUp) (after : Handed) → IsHandedOf r before → HasSeenPlace r place before → CatchesUpFrom r wanted before sight after → Goes r (handed_number before) place (place_seen sight wanted place) after
  sees_go wanted (Idle u) sight after caller was sees = sees_goes wanted u sight after caller was sees
  sees_go wanted (Linked u) sight after caller was sees = no_sight wanted sight (Linked u) after was sees.0 sees.1
  sees_go wanted (Stopped u) sight after caller was sees = no_sight wanted sight (Stopped u) after was sees.0 sees.1

  -- after an idle caller was to take an image the place did not fall, and the caller has seen it
  takes_goes : (o : Ghosts O) (words : List ℕ) (tries : ℕ) (u : Seated) (taken : SessionCheckpoint) (after : Handed) → IsCallerOf r u → HasSeen r.callers place u.known.local → TakesTo o r words tries u taken after →
      Goes r (number_at u) place (place_taken taken place) after
  takes_goes o words tries u (At at) (Idle v) caller was takes =
      record { rises = (image_behind o r words at u v takes.0 place was).0; seen = image_seen o r words at u v takes.0; same = takes.0.keeps.lists.number }
  takes_goes o words tries u TakenAgain (Idle v) caller was takes = stays (number_at u) (Idle v) (read_seen r place u v caller was takes.keeps) takes.keeps.number
  takes_goes o words tries u TakenStopped (Stopped v) caller was takes = stays (number_at u) (Stopped v) tt takes.0.keeps.lists.number
  takes_goes o words tries u taken after caller was takes = absurd takes

  -- taking an image out of turn leaves the caller and the place as they were
  no_image : (taken : SessionCheckpoint) (before after : Handed) → HasSeenPlace r place before → taken ≡ TakenOutOfTurn → after ≡ before → Goes r (handed_number before) place (place_taken taken place) after
  no_image taken before after seen is same =
      subst (λ (t : SessionCheckpoint). Goes r (handed_number before) place (place_taken t place) after) (sym is) (subst (λ (h : Handed). Goes r (handed_number before) place place h) (sym same) (stays (handed_number before) before seen refl))

  -- after a caller in any state was to take an image the place did not fall, and the caller has seen it
  pub takes_go : (o : Ghosts O) (words : List ℕ) (tries : ℕ) (before : Handed) (taken : SessionCheckpoint) (after : Handed) → IsHandedOf r before → HasSeenPlace r place before → TakesFrom o r words tries before taken after →
      Goes r (handed_number before) place (place_taken taken place) after
  takes_go o words tries (Idle u) taken after caller was takes = takes_goes o words tries u taken after caller was takes
  takes_go o words tries (Linked u) taken after caller was takes = no_image taken (Linked u) after was takes.0 takes.1
  takes_go o words tries (Stopped u) taken after caller was takes = no_image taken (Stopped u) after was takes.0 takes.1

-- the session after a call: its share as before, its caller as the call left it, and this place
abbrev after : {O : Type 0} → Session O → Handed → ℕ → Session O
after s h place = record { service = s.service; exit = s.exit; handed = Some h; place = place }

-- the session is open after a call, and the call came to this
pub record Left {O : Type 0} (s : Session O) (h : Handed) (place reached : ℕ) (come_to : Running O → Handed → Handed → Type 0) : Type 0 where
  pub opened : IsSessionOpen (after s h place)
  pub stands : SessionStands s (after s h place) reached (come_to (arc_value s.service))

-- a call leaves the session open, with this result, where its caller had seen the session's place before and goes on to the place reached (`Goes`)
pub left_by : {O : Type 0} (come_to : Running O → Handed → Handed → Type 0) (s : Session O) (b h : Handed) (service : Running O) (place reached : ℕ) → service ≡ arc_value s.service → IsSessionOpen s → s.handed ≡ Some b → place ≡ reached
    → IsHandedOf service h → come_to service b h → (IsHandedOf service b → HasSeenPlace service s.place b → Goes service (handed_number b) s.place reached h) → Left s h place reached come_to
left_by come_to s b h service place reached same opened at is of came going =
    let r = arc_value s.service in
    -- the session's caller is the one that made the call, and has seen the session's place
    let was : opened.handed ≡ b = same_Some opened.handed b (sym opened.is ∙ at) in
    let stood : IsHandedOf service b × HasSeenPlace service s.place b =
    subst (λ (q : Running _). IsHandedOf q b × HasSeenPlace q s.place b) (sym same) (subst (λ (x : Handed). IsHandedOf r x × HasSeenPlace r s.place x) was (opened.of, opened.seen)) in
    let goes : Goes r (handed_number b) s.place place h = subst (λ n. Goes r (handed_number b) s.place n h) (sym is) (subst (λ (q : Running _). Goes q (handed_number b) s.place reached h) same (going stood.0 stood.1)) in
    record {
      opened = record {
        handed = h;
        is = refl;
        of = subst (λ (q : Running _). IsHandedOf q h) same of;
        seen = goes.seen;
        exit = subst (λ n. IsExitOf r (n ∷ []) s.exit) (ap handed_number was ∙ sym goes.same) opened.exit;
      };
      stands = record {
        same = refl;
        came = subst (λ (o : Option Handed). IfSome o (λ x. come_to r x h)) (sym at) (subst (λ (q : Running _). come_to q b h) same came);
        is = is;
        rises = goes.rises;
      };
    }
