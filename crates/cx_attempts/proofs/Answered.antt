-- What publishing, raising and retiring leave of an attempt's seat.
use Rattle.std.proofs.Common.{◌≡◌, ◌+◌, ◌*◌, ◌<◌, ◌≤◌, inl, inr, ℕ, List, [], ◌∷◌, ◌++◌, append-nil, length, refl, ap, sym, subst, ◌∙◌, arith, Option, Some, None, Result, Ok, Err, MatchResult, OnErr, OnOk}
use Rattle.std.proofs.Math.Nat.{le-max_right}
use Rattle.std.proofs.lemmas.Option.{none-some, same_Some}
use Rattle.std.specs.Option.{option_map}
use Rattle.std.specs.Result.{IsErrAnd}
use Rattle.cx_base.specs.Codes.{root_place_of}
use Rattle.cx_base.specs.declared.object.Object.{Ghosts}
use Rattle.cx_core.specs.declared.kinds.Kind.TheVariants.{Retire}
use Rattle.cx_core.specs.declared.local.HeldDowngraded.{HeldDowngraded}
use Rattle.cx_core.specs.declared.local.HeldShared.{HeldShared}
use Rattle.cx_core.specs.declared.local.Linked.{Linked}
use Rattle.cx_core.specs.declared.local.WonCode.{WonCode}
use Rattle.cx_core.specs.Rights.{shared_on}
use Rattle.cx_core.specs.RootEvents.{code_in, unanswered}
use Rattle.cx_core.specs.State.{one_more}
use Rattle.cx_core.proofs.RootCodes.{code_place}
use Rattle.table_invariant.specs.Raises.{TellsAnswers, TellsReply}
use Rattle.table_invariant.specs.Running.{Running}
use Rattle.table_invariant.specs.Seats.{IsAtLimit, Seated, unanswered_ticket}
use Rattle.table_invariant.specs.Steps.{Halts, Steps}
use Rattle.table_invariant.specs.Timing.{EndsIn}
use Rattle.table_invariant.specs.Fitting.{has_of}
use Rattle.table_invariant.proofs.Raising.{reply_still, tells_one}
use Rattle.table_invariant.proofs.Stepping.{on_one, on_same, on_step, on_then}
use Rattle.cx_table.specs.Right.{Right, WonRight}
use Rattle.cx_table.specs.Tokens.{IsWonOf}
use Rattle.cx_attempts.specs.Answering.{AnswersBy, AnswersEntry, AnswersNone, AnswersOne, AnswersReadBy, HaltsFor, HaltsLookup, HaltsWon, IsPublishedFor, IsReadyFor, unchanged_by_hand_over, unchanged_by_settling, unchanged_by_update, with_answer, reads_with}
use Rattle.cx_attempts.specs.Preparing.{Prepares}
use Rattle.cx_attempts.specs.Attempts.{IsAtRest, KeepsSeatIn, RaisesFront, RaisesFrontIn, unchanged_by_prepare, except_sets, cur_rises}
use Rattle.publish.proofs.Options.{none_of, some_of}
use Rattle.publish.specs.Publishing.{KeepsRest, PassedBy, unchanged_by_publish, place_in}
use Rattle.strong_trylock.specs.Held.{AllRights}

-- the place of a downgraded replica's code is the replica's
downgraded_place : (callers : ℕ) (o : Option HeldDowngraded) (q : ℕ) → option_map (λ (h : HeldDowngraded). h.replica) o ≡ Some q → q < 2 * callers → root_place_of callers (code_in callers o) ≡ place_in o
downgraded_place callers None q on few = absurd (none-some q on)
downgraded_place callers (Some h) q on few = code_place callers h.place h.replica (subst (λ n. n < 2 * callers) (sym (same_Some h.replica q on)) few)

module _ {O : Type 0} (o : Ghosts O) (r : Running O) (ticket : ℕ) (reply : List ℕ) where
  -- the reply that whatever fits tells stays through a publication
  still_tells : (before after : Seated) → unchanged_by_publish after ≡ unchanged_by_publish before → TellsReply r.lines (o.lawful r.object) r.base (o.step r.object) before.known ticket reply → TellsReply r.lines (o.lawful r.object) r.base (o.step r.object) after.known ticket reply
  still_tells before after rest tells =
      reply_still r.lines (o.lawful r.object) r.base (o.step r.object) before.known after.known ticket reply (ap (λ (s : Seated). has_of s.known) rest) (ap (λ (s : Seated). s.known.accesses) rest) (ap (λ (s : Seated). s.known.local.number) rest) tells

  -- the ticket of the unanswered entry stays through a publication
  still_last : (before after : Seated) → unchanged_by_publish after ≡ unchanged_by_publish before → unanswered_ticket before.known.local ≡ Some ticket → unanswered_ticket after.known.local ≡ Some ticket
  still_last before after rest last = ap (λ (s : Seated). unanswered_ticket s.known.local) rest ∙ last

  -- a caller that is at rest but for what a publication changes is so after the publication
  still_rests : (before after : Seated) → unchanged_by_publish after ≡ unchanged_by_publish before → IsAtRest (unchanged_by_publish before).known.local → IsAtRest (unchanged_by_publish after).known.local
  still_rests before after rest at = subst (λ (s : Seated). IsAtRest s.known.local) (sym rest) at

  -- after a win the caller's code is published, and after it was passed by the code found
  pub won_published : (code q : ℕ) (before after : Seated) → unchanged_by_publish after ≡ unchanged_by_publish before → IsReadyFor o r ticket reply before → code ≡ code_in r.callers before.known.local.downgraded →
      option_map (λ (h : HeldDowngraded). h.replica) before.known.local.downgraded ≡ Some q → q < 2 * r.callers → after.known.local.downgraded ≡ None → after.known.local.seen_cur ≡ code → IsPublishedFor o r code ticket reply after
  won_published code q before after rest ready is on few ended seen = record {
    rest = still_rests before after rest ready.rest;
    ended = ended;
    seen = sym seen;
    above = subst (λ n. ticket < n) (sym (ap (root_place_of r.callers) is ∙ downgraded_place r.callers before.known.local.downgraded q on few)) ready.above;
    tells = still_tells before after rest ready.tells;
    last = still_last before after rest ready.last;
  }

  pub passed_published : (found : ℕ) (before after : Seated) → unchanged_by_publish after ≡ unchanged_by_publish before → IsReadyFor o r ticket reply before → PassedBy r.callers found before after → IsPublishedFor o r found ticket reply after
  passed_published found before after rest ready passed =
      let above = passed.above in
      let below = ready.above in
      record {
        rest = still_rests before after rest ready.rest;
        ended = passed.ended;
        seen = sym passed.seen;
        above = omega (arith, above, below);
        tells = still_tells before after rest ready.tells;
        last = still_last before after rest ready.last;
      }

  -- what was published above the entry's ticket tells the answer with which a raise by its code answers the entry
  pub answers_known : (code : ℕ) (seat : Seated) → IsPublishedFor o r code ticket reply seat → TellsAnswers r.lines (o.lawful r.object) r.base (o.step r.object) seat.known (root_place_of r.callers code) (record { ticket = ticket; reply = reply } ∷ [])
  answers_known code seat p =
      let last = some_of (λ (x : Linked). x.ticket) (unanswered seat.known.local) ticket p.last in
      let x = last.0 in
      let is = last.2 in
      subst (λ t. TellsAnswers r.lines (o.lawful r.object) r.base (o.step r.object) seat.known (root_place_of r.callers code) (record { ticket = t; reply = reply } ∷ [])) is
      (tells_one r.lines (o.lawful r.object) r.base (o.step r.object) seat.known (root_place_of r.callers code) x reply last.1 (subst (λ t. t < root_place_of r.callers code) (sym is) p.above)
      (subst (λ t. TellsReply r.lines (o.lawful r.object) r.base (o.step r.object) seat.known t reply) (sym is) p.tells))

-- what is ready once it is prepared
pub prepared_ready : {O : Type 0} (o : Ghosts O) (r : Running O) (ticket : ℕ) (reply : List ℕ) (before after : Seated) (held : Right) → unchanged_by_prepare after ≡ unchanged_by_prepare before → IsAtRest before.known.local → unanswered_ticket before.known.local ≡ Some ticket → Prepares o r ticket reply before after held → IsReadyFor o r ticket reply after
prepared_ready o r ticket reply before after held same rest last p = record {
  rest = record {
    exclusive = none_of _ after.known.local.exclusive (ap (λ (a : AllRights). a.exclusive) p.rights);
    shared = none_of _ after.known.local.shared (ap (λ (a : AllRights). a.shared) p.rights);
    passer = ap (λ (a : AllRights). a.passer) p.rights;
    downgraded = refl;
    won = refl;
    protection = p.protection;
    scan = ap (λ (s : Seated). s.known.local.scan) same ∙ rest.scan;
    refused = p.refused;
    fresh = refl;
  };
  none = ap (λ (a : AllRights). a.won) p.rights;
  above = subst (λ o. ticket < place_in o) (sym p.downgraded) p.place;
  tells = record { replayed = p.replayed; above = p.place; slot = p.reply };
  last = ap (λ (s : Seated). unanswered_ticket s.known.local) same ∙ last;
}

-- what was answered behind what answers nothing
ended_since : (before mid : Seated) (last : ℕ) (new : List ℕ) → mid.known.times.answered ≡ before.known.times.answered → EndsIn last mid.known.times.answered new → EndsIn last before.known.times.answered new
ended_since before mid last new same ended = record { at = ended.at; to = ended.to; is = ended.is ∙ ap (λ ts. ts ++ ended.at ∷ []) same }

none_since : (before mid after : Seated) → mid.known.local.answered ≡ before.known.local.answered → mid.known.times.answered ≡ before.known.times.answered → AnswersNone mid after → AnswersNone before after
none_since before mid after same times none = record { same = none.same ∙ same; times = none.times ∙ times }

one_since : (ticket : ℕ) (reply : List ℕ) (before mid after : Seated) → mid.known.local.answered ≡ before.known.local.answered → mid.known.times.answered ≡ before.known.times.answered → AnswersOne ticket reply mid after →
    AnswersOne ticket reply before after
one_since ticket reply before mid after same times one =
    record { is = one.is ∙ ap (with_answer ticket reply) same; ended = ended_since before mid after.known.local.steps after.known.times.answered times one.ended }

-- what the attempt comes to after it, by which no refusal was met
module _ (ticket : ℕ) (before mid after : Seated) (same : unchanged_by_prepare mid ≡ unchanged_by_prepare before) (met : mid.known.local.met ≡ before.known.local.met) where
  pub answered_attempt : (reply : List ℕ) → AnswersEntry 1 ticket reply mid after → AnswersEntry 1 ticket reply before after
  answered_attempt reply a = record {
    rest = a.rest;
    met = omega (arith, met, a.met);
    most = omega (arith, met, a.most);
    answered = a.answered ∙ ap (λ (s : Seated). with_answer ticket reply s.known.local.answered) same;
    ended = ended_since before mid after.known.local.steps after.known.times.answered (ap (λ (s : Seated). s.known.times.answered) same) a.ended;
  }

  pub halted_attempt : (callers : ℕ) → HaltsFor callers ticket mid after → HaltsFor callers ticket before after
  halted_attempt callers h = record {
    limit = h.limit;
    counted = omega (arith, met, h.counted);
    most = omega (arith, met, h.most);
    due = λ none. elim (h.due none) [ inl e ↦ inl (e ∙ met) | inr above ↦ inr above ];
    answered = elim h.answered [
      | inl none ↦ inl (none_since before mid after (ap (λ (s : Seated). s.known.local.answered) same) (ap (λ (s : Seated). s.known.times.answered) same) none)
      | inr one ↦ inr (one.0, one_since ticket one.0 before mid after (ap (λ (s : Seated). s.known.local.answered) same) (ap (λ (s : Seated). s.known.times.answered) same) one.1, one.2)
    ];
  }

module _ {O : Type 0} (o : Ghosts O) (r : Running O) (code ticket : ℕ) (reply : List ℕ) (before after : Seated) (by : AnswersBy o r code ticket reply before after) where
  pub raised_answered : after.known.local.answered ≡ with_answer ticket reply before.known.local.answered
  raised_answered = ap (λ (s : Seated). s.known.local.answered) by.made

  raised_ended : EndsIn after.known.local.steps before.known.times.answered after.known.times.answered
  raised_ended = record { at = one_more before.known.local.steps; to = (let same = ap (λ (s : Seated). s.known.local.steps) by.made in omega (arith, same)); is = ap (λ (s : Seated). s.known.times.answered) by.made }

  raised_rest : unchanged_by_settling after ≡ unchanged_by_settling before
  raised_rest =
      let b = unchanged_by_settling before in
      ap unchanged_by_settling by.made
      ∙ ap (λ rs. (let s : Seated = record b { known = record b.known { local = record b.known.local { seen_reads = rs }; times = record b.known.times { reads = b.known.times.reads ++ [] } } } in s)) (append-nil before.known.local.seen_reads)
      ∙ ap (λ rs. (let s : Seated = record b { known = record b.known { times = record b.known.times { reads = rs } } } in s)) (append-nil before.known.times.reads)

  -- a raise makes at most one step, and changes only what settling an answer changes
  pub raised_leaves : KeepsSeatIn r unchanged_by_settling 1 before after
  raised_leaves = (let one = ap (λ (s : Seated). s.known.local.steps) by.made in record { seat = by.seat; since = on_one before after one; rest = raised_rest; steps = omega (arith, one) })

  -- with no win to retire the caller is at rest
  pub raised_rests : IsAtRest (unchanged_by_publish before).known.local → before.known.local.downgraded ≡ None → before.known.local.won ≡ None → IsAtRest after.known.local
  raised_rests rest ended none = subst (λ (s : Seated). IsAtRest s.known.local) (sym by.made) (record {
    exclusive = rest.exclusive;
    shared = rest.shared;
    passer = rest.passer;
    downgraded = ended;
    won = none;
    protection = rest.protection;
    scan = rest.scan;
    refused = rest.refused;
    fresh = refl;
  })

  -- DUR was raised at least by the code
  pub raised_most : code ≤ after.known.local.raised
  raised_most = subst (λ (s : Seated). code ≤ s.known.local.raised) (sym by.made) (le-max_right before.known.local.raised code)

  -- the win stands
  pub still_won : (won : WonRight) → IsWonOf r.callers before won → IsWonOf r.callers after won
  still_won won was = record { few = was.few; caller = was.caller ∙ sym (ap (λ (s : Seated). s.known.local.number) by.made); holds = ap (λ (s : Seated). s.known.local.won) by.made ∙ was.holds }

  -- the limit was come to before the win was retired
  pub halted_leaves : (last : Seated) → Halts r after last → KeepsSeatIn r unchanged_by_settling 2 before last
  halted_leaves last h = record {
    seat = h.seat;
    since = on_then before after last raised_leaves.since (on_same after last h.same);
    rest = ap unchanged_by_settling h.same ∙ raised_rest;
    steps = (let same = ap (λ (s : Seated). s.known.local.steps) h.same in let one = raised_leaves.steps in omega (arith, same, one));
  }

  -- what comes behind answers nothing
  ended_until : (mid last : Seated) → last ≡ mid → mid ≡ after → EndsIn last.known.local.steps before.known.times.answered last.known.times.answered
  ended_until mid last same is = subst (λ (s : Seated). EndsIn s.known.local.steps before.known.times.answered s.known.times.answered) (sym (same ∙ is)) raised_ended

  pub retired_halted : (last : Seated) → Halts r after last → HaltsWon ticket before last
  retired_halted last h = record {
    limit = subst (λ (s : Seated). IsAtLimit s.known.local) (sym h.same) h.limit;
    met = ap (λ (s : Seated). s.known.local.met) (h.same ∙ by.made);
    won = ap (λ (s : Seated). s.known.local.won) (h.same ∙ by.made);
    answered = inr (reply, record { is = ap (λ (s : Seated). s.known.local.answered) h.same ∙ raised_answered; ended = ended_until after last h.same refl });
  }

  -- the win is retired then
  module _ (found : ℕ) (last : Seated) (s : Steps r o.step o.only_reads Retire found after last) where
    pub retired_leaves : KeepsSeatIn r unchanged_by_settling 2 before last
    retired_leaves = record {
      seat = s.seat;
      since = on_then before after last raised_leaves.since (on_step r o.step o.only_reads Retire found after last s);
      rest = ap unchanged_by_settling s.made
          ∙ ap (λ ns. (let b : Seated = record (unchanged_by_settling after) { known = record (unchanged_by_settling after).known { noted = ns } } in b)) (append-nil after.known.noted)
          ∙ raised_rest;
      steps = (let more = ap (λ (t : Seated). t.known.local.steps) s.made in let one = raised_leaves.steps in omega (arith, more, one));
    }

    retired_rests : IsAtRest (unchanged_by_publish before).known.local → before.known.local.downgraded ≡ None → IsAtRest last.known.local
    retired_rests rest ended = subst (λ (t : Seated). IsAtRest t.known.local) (sym s.made) (subst (λ (t : Seated). IsAtRest (record t.known.local { won = None; steps = one_more t.known.local.steps })) (sym by.made) (record {
      exclusive = rest.exclusive;
      shared = rest.shared;
      passer = rest.passer;
      downgraded = ended;
      won = refl;
      protection = rest.protection;
      scan = rest.scan;
      refused = rest.refused;
      fresh = refl;
    }))

    retired_ended : EndsIn last.known.local.steps before.known.times.answered last.known.times.answered
    retired_ended = record {
      at = raised_ended.at;
      to = (let more = ap (λ (t : Seated). t.known.local.steps) s.made in let one = ap (λ (t : Seated). t.known.local.steps) by.made in omega (arith, more, one, raised_ended.to));
      is = ap (λ (t : Seated). t.known.times.answered) s.made ∙ raised_ended.is;
    }

    pub retired_answers : IsAtRest (unchanged_by_publish before).known.local → before.known.local.downgraded ≡ None → AnswersEntry 0 ticket reply before last
    retired_answers rest ended =
        let met : last.known.local.met ≡ before.known.local.met = ap (λ (t : Seated). t.known.local.met) s.made ∙ ap (λ (t : Seated). t.known.local.met) by.made in
        record { rest = retired_rests rest ended; met = omega (arith, met); most = omega (arith, met); answered = ap (λ (t : Seated). t.known.local.answered) s.made ∙ raised_answered; ended = retired_ended }

-- a seat but for what a raise that answers an entry changes of it
abbrev except_answers : Seated → Seated
except_answers s = record s { known = record s.known { local = record s.known.local { raised = 0; floor = 0; answered = [] }; times = record s.known.times { answered = [] } } }

-- what a publication and the few steps behind it leave of the seat
pub settled_attempts : {O : Type 0} (r : Running O) (n : ℕ) (before mid after : Seated) → n ≤ 2 → KeepsRest r 1 before mid → KeepsSeatIn r unchanged_by_settling n mid after → RaisesFrontIn r unchanged_by_hand_over (3 + cur_rises before after) before after
settled_attempts r n before mid after few leaves last =
    let cur : after.known.local.seen_cur ≡ mid.known.local.seen_cur = ap (λ (s : Seated). s.known.local.seen_cur) last.rest in
    let front : after.known.local.front ≡ mid.known.local.front = ap (λ (s : Seated). s.known.local.front) last.rest in
    record {
      seat = last.seat;
      since = on_then before mid after leaves.since last.since;
      rest = ap unchanged_by_hand_over last.rest ∙ ap unchanged_by_hand_over leaves.rest;
      front = (let rose = leaves.front in omega (arith, rose, front));
      steps = (let most = leaves.steps in let more = last.steps in omega (arith, most, more, cur, few));
    }

-- what an attempt for an entry leaves of the seat that prepared a replica and handed it over
pub handed_attempts : {O : Type 0} (r : Running O) (n : ℕ) (before mid after : Seated) → RaisesFront r unchanged_by_prepare before mid → RaisesFrontIn r unchanged_by_hand_over n mid after → RaisesFront r unchanged_by_update before after
handed_attempts r n before mid after prepared handed = record {
  seat = handed.seat;
  since = on_then before mid after prepared.since handed.since;
  rest = ap except_sets handed.rest ∙ ap except_answers prepared.rest;
  front = (let low = prepared.front in let high = handed.front in omega (arith, low, high));
}

-- what comes after a publication, by which at most one refusal was met
module _ (ticket : ℕ) (before mid after : Seated) (rest : unchanged_by_publish mid ≡ unchanged_by_publish before) (low : before.known.local.met ≤ mid.known.local.met) (high : mid.known.local.met ≤ before.known.local.met + 1) where
  -- the entry is answered
  pub answered_later : (reply : List ℕ) → AnswersEntry 0 ticket reply mid after → AnswersEntry 1 ticket reply before after
  answered_later reply a = record {
    rest = a.rest;
    met = omega (arith, low, a.met);
    most = omega (arith, high, a.most);
    answered = a.answered ∙ ap (λ (s : Seated). with_answer ticket reply s.known.local.answered) rest;
    ended = ended_since before mid after.known.local.steps after.known.times.answered (ap (λ (s : Seated). s.known.times.answered) rest) a.ended;
  }

  -- the limit was come to while the win stood
  pub won_halted : (callers : ℕ) (code : WonCode) → mid.known.local.won ≡ Some code → HaltsWon ticket mid after → HaltsFor callers ticket before after
  won_halted callers code won h =
      let stands : after.known.local.won ≡ Some code = h.won ∙ won in record {
        limit = h.limit;
        counted = (let met = h.met in omega (arith, met, low));
        most = (let met = h.met in omega (arith, met, high));
        due = λ none. absurd (none-some code (sym (ap (λ (a : AllRights). a.won) none) ∙ stands));
        answered = elim h.answered [
          | inl none ↦ inl (none_since before mid after (ap (λ (s : Seated). s.known.local.answered) rest) (ap (λ (s : Seated). s.known.times.answered) rest) none)
          | inr one ↦ inr (one.0, one_since ticket one.0 before mid after (ap (λ (s : Seated). s.known.local.answered) rest) (ap (λ (s : Seated). s.known.times.answered) rest) one.1, λ none. none-some code (sym none ∙ stands))
        ];
      }

  -- the limit was come to before the raise by a code that was found
  pub passed_halted : {O : Type 0} (o : Ghosts O) (r : Running O) (code : ℕ) (reply : List ℕ) → IsPublishedFor o r code ticket reply mid → Halts r mid after → HaltsFor r.callers ticket before after
  passed_halted o r code reply p h = record {
    limit = subst (λ (s : Seated). IsAtLimit s.known.local) (sym h.same) h.limit;
    counted = subst (λ (s : Seated). before.known.local.met ≤ s.known.local.met) (sym h.same) low;
    most = subst (λ (s : Seated). s.known.local.met ≤ before.known.local.met + 1) (sym h.same) high;
    due = λ _. inr (subst (λ (s : Seated). ticket < root_place_of r.callers s.known.local.seen_cur) (sym h.same) (subst (λ n. ticket < root_place_of r.callers n) p.seen p.above));
    answered = inl (record { same = ap (λ (s : Seated). s.known.local.answered) (h.same) ∙ ap (λ (s : Seated). s.known.local.answered) rest; times = ap (λ (s : Seated). s.known.times.answered) h.same ∙ ap (λ (s : Seated). s.known.times.answered) rest });
  }

  -- what the raise leaves of the seat, whether it was made or not
  pub passed_attempts : {O X E : Type 0} (o : Ghosts O) (r : Running O) (code : ℕ) (reply : List ℕ) (result : Result X E) → KeepsRest r 1 before mid → OnOk result (AnswersBy o r code ticket reply mid after) → OnErr result (Halts r mid after) → RaisesFrontIn r unchanged_by_hand_over (3 + cur_rises before after) before after
  passed_attempts o r code reply (Ok x) leaves by none = settled_attempts r 1 before mid after (omega arith) leaves (raised_leaves o r code ticket reply mid after by)
  passed_attempts o r code reply (Err e) leaves none h =
      settled_attempts r 0 before mid after (omega arith) leaves (record { seat = h.seat; since = on_same mid after h.same; rest = ap unchanged_by_settling h.same; steps = (let same = ap (λ (s : Seated). s.known.local.steps) h.same in omega (arith, same)) })

  -- the raise by it answers the entry
  pub passed_answers : {O : Type 0} (o : Ghosts O) (r : Running O) (code : ℕ) (reply : List ℕ) → IsPublishedFor o r code ticket reply mid → mid.known.local.won ≡ None → AnswersBy o r code ticket reply mid after → AnswersEntry 1 ticket reply before after
  passed_answers o r code reply p none by =
      let met : after.known.local.met ≡ mid.known.local.met = ap (λ (s : Seated). s.known.local.met) by.made in
      answered_later reply (record { rest = raised_rests o r code ticket reply mid after by p.rest p.ended none; met = omega (arith, met); most = omega (arith, met); answered = raised_answered o r code ticket reply mid after by; ended = raised_ended o r code ticket reply mid after by })

-- the limit was come to before the shared right was given back under which a read was answered
pub read_halted : {O : Type 0} (o : Ghosts O) (r : Running O) (code q : ℕ) (op reply : List ℕ) (before after last : Seated) → shared_on before.known.local ≡ Some q →
    AnswersReadBy o r code op reply before after → Halts r after last → HaltsLookup before.known.times.loaded op before last
read_halted o r code q op reply before after last holds by h =
    let same = h.same ∙ by.made in
    let met : last.known.local.met ≡ before.known.local.met = ap (λ (s : Seated). s.known.local.met) same in record {
      halts = record { limit = subst (λ (s : Seated). IsAtLimit s.known.local) (sym h.same) h.limit; counted = omega (arith, met); most = omega (arith, met); due = λ _. met };
      reads = inr (
        root_place_of r.callers code,
        reply,
        ap (λ (s : Seated). s.known.local.seen_reads) same ∙ ap (λ n. reads_with (root_place_of r.callers code) op reply n before.known.local.seen_reads) (none_more (length before.known.local.answered)),
        record { ended = one_more before.known.local.steps; to = (let steps = ap (λ (s : Seated). s.known.local.steps) same in omega (arith, steps)); is = ap (λ (s : Seated). s.known.times.reads) same },
        λ none. none-some q (sym (ap (option_map (λ (x : HeldShared). x.replica)) none) ∙ ap (λ (s : Seated). shared_on s.known.local) same ∙ holds),
      );
    }
  where
    none_more : (n : ℕ) → n + 0 ≡ n
    none_more n = omega arith

-- what follows of a value, and of an error
pub both_weaker : {A E P Q P' Q' : Type 0} (r : Result A E) → (P → P') → (Q → Q') → OnOk r P → OnErr r Q → MatchResult r (λ _. P') (λ _. Q')
both_weaker (Ok a) f g p q = f p
both_weaker (Err e) f g p q = g q

-- of an error alone
pub only_err : {A E : Type 0} (P Q : Type 0) (R : E → Type 0) (result : Result A E) → IsErrAnd result R → Q → MatchResult result (λ _. P) (λ _. Q)
only_err P Q R (Ok x) err q = absurd err
only_err P Q R (Err e) err q = q

-- what holds in any case holds of an error
pub if_any_err : {A E P : Type 0} (r : Result A E) → P → OnErr r P
if_any_err (Ok a) p = tt
if_any_err (Err e) p = p
