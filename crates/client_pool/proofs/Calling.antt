-- A client's calls, with one more.
use Rattle.std.proofs.Common.{◌≡◌, ◌≤◌, ◌+◌, ℕ, List, [], ◌∷◌, ◌++◌, map, sym, subst, refl, ap, ◌∙◌, arith, Option}
use Rattle.std.proofs.lemmas.List.{map-append}
use Rattle.atomic_table.specs.Seated.{TableId}
use Rattle.crossbeam_queue.specs.Passes.{view}
use Rattle.cx_core.specs.declared.local.Answer.{Answer}
use Rattle.cx_core.specs.declared.local.FullNote.{FullNote}
use Rattle.cx_core.specs.declared.local.SeenRead.{SeenRead}
use Rattle.table_invariant.specs.Running.{Running}
use Rattle.table_invariant.specs.Seats.{Seated}
use Rattle.cx_service.specs.Callers.{StoppedSeat}
use Rattle.cx_service.specs.Lookups.{ReadAnswered}
use Rattle.cx_attempts.specs.declared.lookup.Seen.{Seen}
use Rattle.seat_pool.specs.Pooling.{total_weight}
use Rattle.seat_pool.specs.declared.hand.AnsweredCall.{AnsweredCall}
use Rattle.seat_pool.proofs.Poolings.{total_both}
use Rattle.client_pool.specs.Clients.{AreInTurn, HasItsCalls, HasNoMore, HasRead, HasUpdated, IsSameClient, IsReadShown, answered_by, entries_called, floor_after, next_place_of, answer_place_of, reads_called}
use Rattle.client_pool.specs.Lending.{ComesFrom, IsGivenBack, IsLentTo, KeepsFull, KeepsStopped, KeepsWorn, ReturnsFirst, ShowsRead, TellsSame}
use Rattle.client_pool.proofs.Lends.{TellsEntry, comes_on}
use Rattle.client_pool.specs.declared.call.Answered.{Answered}
use Rattle.client_pool.specs.declared.call.Answered.TheVariants.{Read, Updated}
use Rattle.client_pool.specs.declared.call.Call.{Call}
use Rattle.client_pool.specs.declared.call.Call.TheVariants.{Entry, Look}
use Rattle.client_pool.specs.declared.client.Client.{Client}

-- the floor behind calls is that of the last one
pub floor_more : (floor : ℕ) (calls : List Call) (call : Call) → floor_after floor (calls ++ call ∷ []) ≡ next_place_of call
floor_more floor [] call = refl
floor_more floor (c ∷ calls) call = floor_more (next_place_of c) calls call

-- one call more is in turn where its answer holds at or above the floor behind the others
pub in_turn_more : (floor : ℕ) (calls : List Call) (call : Call) → AreInTurn floor calls → floor_after floor calls ≤ answer_place_of call → AreInTurn floor (calls ++ call ∷ [])
in_turn_more floor [] call turn from = (from, tt)
in_turn_more floor (c ∷ calls) call turn from = (turn.0, in_turn_more (next_place_of c) calls call turn.1 from)

-- one entry more among calls is the last of their entries
pub entries_more : (calls : List Call) (call : AnsweredCall) → entries_called (calls ++ Entry call ∷ []) ≡ entries_called calls ++ call ∷ []
entries_more [] call = refl
entries_more (Entry t ∷ calls) call = ap (λ (l : List AnsweredCall). t ∷ l) (entries_more calls call)
entries_more (Look x ∷ calls) call = entries_more calls call

-- a read more among calls leaves their entries as they are
pub entries_same : (calls : List Call) (read : SeenRead) → entries_called (calls ++ Look read ∷ []) ≡ entries_called calls
entries_same [] read = refl
entries_same (Entry t ∷ calls) read = ap (λ (l : List AnsweredCall). t ∷ l) (entries_same calls read)
entries_same (Look x ∷ calls) read = entries_same calls read

-- an entry more among calls leaves their reads as they are
pub reads_same : (calls : List Call) (call : AnsweredCall) → reads_called (calls ++ Entry call ∷ []) ≡ reads_called calls
reads_same [] call = refl
reads_same (Entry t ∷ calls) call = reads_same calls call
reads_same (Look x ∷ calls) call = ap (λ (l : List SeenRead). x ∷ l) (reads_same calls call)

-- one read more among calls is the last of their reads
pub reads_more : (calls : List Call) (read : SeenRead) → reads_called (calls ++ Look read ∷ []) ≡ reads_called calls ++ read ∷ []
reads_more [] read = refl
reads_more (Entry t ∷ calls) read = reads_more calls read
reads_more (Look x ∷ calls) read = ap (λ (l : List SeenRead). x ∷ l) (reads_more calls read)

module _ {O : Type 0} (r : Running O) (table : TableId) (before after : Client) where
  -- a client that was told an entry made that call more
  abbrev pub updated : (op : List ℕ) (floor caller : ℕ) (asked : Seated) (answer : Answer) → before.floor ≤ floor → before.caught_up ≤ floor → TellsEntry r table op floor asked before.lent after.lent caller answer → IsSameClient before after
      → after.caught_up ≡ before.caught_up → after.answers.items ≡ before.answers.items ++ Updated caller answer ∷ [] → after.floor ≡ answer.ticket + 1 → HasUpdated r table op before after answer
  updated op least caller asked answer above above_seen tells same seen answers floor =
      let t = tells.call in
      let mine : answered_by (Entry t) ≡ Updated caller answer = ap (λ n. Updated n t.answer) tells.is.0 ∙ ap (Updated caller) tells.is.1 in
      let at : t.answer.ticket ≡ answer.ticket = ap (λ (a : Answer). a.ticket) tells.is.1 in
      record {
        call = t;
        is = (tells.is.1, tells.ticket, tells.op_is);
        made = record {
          client = tells.lent;
          back = tells.back;
          same = same;
          seen = seen;
          from = omega (arith, above_seen, tells.from, at);
          calls = λ calls has. record {
            answers = answers ∙ ap (λ (l : List Answered). l ++ Updated caller answer ∷ []) has.answers ∙ ap (λ (a : Answered). map answered_by calls ++ a ∷ []) (sym mine) ∙ sym (map-append answered_by calls (Entry t ∷ []));
            floor = floor ∙ ap (λ n. n + 1) (sym at) ∙ sym (floor_more r.base.place calls (Entry t));
            in_turn = in_turn_more r.base.place calls (Entry t) has.in_turn (omega (arith, has.floor, above, tells.from, at));
            told_calls = tells.tells ∙ ap (λ (l : List AnsweredCall). l ++ t ∷ []) has.told_calls ∙ sym (entries_more calls t);
            shown = λ h. (let same_ : total_weight h (reads_called (calls ++ Entry t ∷ [])) ≡ total_weight h (reads_called calls) = ap (total_weight h) (reads_same calls t) in omega (arith, same_, has.shown h, tells.shows h));
          };
        };
      }

  -- a read beside the queue is of the caller that was asked, which was given back
  pub read_is : (op : List ℕ) (floor : ℕ) (first caller : Seated) (seen : Seen) → ComesFrom r first caller → (s : ShowsRead r table op floor caller before.lent after.lent seen) → ReturnsFirst before.lent after.lent first s.now
      → IsReadShown r op before.lent after.lent s.read
  read_is op floor first caller seen came s back = record {
    first = first;
    asked = s.asked;
    since = comes_on r first caller s.asked came s.since;
    now = s.now;
    returns = back;
    shown = (subst (ReadAnswered r op s.asked s.now) (sym (ap (λ (y : SeenRead). (let z : Seen = record { place = y.place; reply = y.reply } in z)) s.is)) s.shown.0, s.shown.1);
    answers = ap (λ (y : SeenRead). y.before) s.is;
  }

  -- a client that was told and shown nothing more has the calls that it had
  pub no_more : IsLentTo r table after.lent → TellsSame before.lent after.lent → IsSameClient before after → after.answers.items ≡ before.answers.items → after.floor ≡ before.floor → after.caught_up ≡ before.caught_up → HasNoMore r table before after
  no_more lent tells same answers floor seen = record {
    client = lent;
    same = same;
    answers = answers;
    floor = floor;
    seen = seen;
    calls = λ calls has. record {
      answers = answers ∙ has.answers;
      floor = floor ∙ has.floor;
      in_turn = has.in_turn;
      told_calls = tells.told_calls ∙ has.told_calls;
      shown = λ h. (let same_ : total_weight h (view after.lent.pass).shown ≡ total_weight h (view before.lent.pass).shown = ap (total_weight h) tells.shown in omega (arith, same_, has.shown h));
    };
  }

  -- a client of which no more than what was lent to it and the room of its answers changed
  module _ (beside : after ≡ record before { answers = after.answers; lent = after.lent }) (items : after.answers.items ≡ before.answers.items) where
    none_more : IsLentTo r table after.lent → TellsSame before.lent after.lent → HasNoMore r table before after
    none_more lent tells =
        no_more lent tells (record { number = ap (λ (c : Client). c.number) beside; limits = tells.limits; closing = ap (λ (c : Client). c.closing) beside }) items (ap (λ (c : Client). c.floor) beside) (ap (λ (c : Client). c.caught_up) beside)

    -- the client was answered nothing: no cell was idle, there was no further ticket, or its caller is stopped
    pub full_more : (way : Seated → Seated → Type 0) (note : FullNote) → KeepsFull r table way before.lent after.lent note → HasNoMore r table before after × KeepsFull r table way before.lent after.lent note
    full_more way note full = (none_more full.lent full.tells, full)

    pub worn_more : (way : Seated → Seated → Type 0) → KeepsWorn r table way before.lent after.lent → HasNoMore r table before after × KeepsWorn r table way before.lent after.lent
    worn_more way worn = (none_more worn.lent worn.tells, worn)

    pub stopped_more : (halts : Seated → StoppedSeat → Type 0) (linked : Option ℕ) → KeepsStopped r table halts before.lent after.lent linked → HasNoMore r table before after × KeepsStopped r table halts before.lent after.lent linked
    stopped_more halts linked stopped = (none_more stopped.lent stopped.tells, stopped)

  -- a client whose caller was given back with no call more has the calls that it had
  pub given_more : after ≡ record before { caught_up = after.caught_up; lent = after.lent } → IsGivenBack r table before.lent after.lent → HasItsCalls r table before after
  given_more beside given = (let answers = ap (λ (c : Client). c.answers.items) beside in let floor = ap (λ (c : Client). c.floor) beside in record {
    client = given.lent;
    back = given.back;
    same = record { number = ap (λ (c : Client). c.number) beside; limits = given.limits; closing = ap (λ (c : Client). c.closing) beside };
    answers = answers;
    floor = floor;
    calls = λ calls has. record {
      answers = answers ∙ has.answers;
      floor = floor ∙ has.floor;
      in_turn = has.in_turn;
      told_calls = given.tells ∙ has.told_calls;
      shown = λ h. omega (arith, has.shown h, given.shows h);
    };
  })

  -- a client that was shown a read made that call more
  abbrev pub read_more : (op : List ℕ) (floor : ℕ) (caller : Seated) (seen : Seen) → before.floor ≤ floor → before.caught_up ≤ floor → ShowsRead r table op floor caller before.lent after.lent seen → IsSameClient before after
      → after.caught_up ≡ before.caught_up → after.answers.items ≡ before.answers.items ++ Read seen ∷ [] → after.floor ≡ seen.place → HasRead r table op before after seen
  read_more op least caller seen above above_seen shows same same_seen answers floor =
      let x = shows.read in
      let at : x.place ≡ seen.place = ap (λ (y : SeenRead). y.place) shows.is in
      let mine : answered_by (Look x) ≡ Read seen = ap (λ (y : SeenRead). answered_by (Look y)) shows.is in
      record {
        read = x;
        is = (at, ap (λ (y : SeenRead). y.op) shows.is, ap (λ (y : SeenRead). y.reply) shows.is);
        made = record {
          client = shows.lent;
          back = shows.back;
          same = same;
          seen = same_seen;
          from = omega (arith, above_seen, shows.from, at);
          calls = λ calls has. record {
            answers = answers ∙ ap (λ (l : List Answered). l ++ Read seen ∷ []) has.answers ∙ ap (λ (a : Answered). map answered_by calls ++ a ∷ []) (sym mine) ∙ sym (map-append answered_by calls (Look x ∷ []));
            floor = floor ∙ sym at ∙ sym (floor_more r.base.place calls (Look x));
            in_turn = in_turn_more r.base.place calls (Look x) has.in_turn (omega (arith, has.floor, above, shows.from, at));
            told_calls = shows.tells ∙ has.told_calls ∙ sym (entries_same calls x);
            shown = λ h. (let same_ : total_weight h (reads_called (calls ++ Look x ∷ [])) ≡ total_weight h (reads_called calls ++ x ∷ []) = ap (total_weight h) (reads_more calls x) in omega (arith, same_, total_both h (reads_called calls) (x ∷ []), has.shown h, shows.shows h));
          };
        };
      }
