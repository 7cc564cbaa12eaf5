-- A caller that is out with a client.
use Rattle.std.proofs.Common.{◌≡◌, ◌<◌, ◌≤◌, ◌^◌, ◌⊎◌, inl, inr, ⊎_elim, ℕ, List, [], ◌∷◌, ◌++◌, append_assoc, drop, length, sym, refl, ap, ◌∙◌, subst, arith, Option, Some, None, slice_get}
use Rattle.std.proofs.lemmas.List.{append-nil}
use Rattle.std.proofs.lemmas.Option.{same_Some}
use Rattle.atomic_table.specs.Seated.{TableId}
use Rattle.crossbeam_queue.specs.Passes.{view}
use Rattle.cx_core.proofs.Locals.{slice_get-last}
use Rattle.cx_core.specs.declared.local.Answer.{Answer}
use Rattle.cx_core.specs.declared.local.FullNote.{FullNote}
use Rattle.cx_core.specs.declared.local.Linked.{Linked as OwnEntry}
use Rattle.cx_core.specs.declared.local.SeenRead.{SeenRead}
use Rattle.table_invariant.specs.Running.{Running}
use Rattle.table_invariant.specs.Seats.{Seated}
use Rattle.cx_service.specs.Callers.{IsCallerOf, StoppedSeat}
use Rattle.cx_service.specs.CatchUps.{CatchUpHalted, CatchUpKeeps}
use Rattle.cx_service.specs.Drives.{MeetsFewer, answer_with}
use Rattle.cx_service.specs.Lookups.{ReadAnswered, ReadHalted, ReadKeeps, ReadPending}
use Rattle.cx_service.specs.Submits.{next_entry}
use Rattle.cx_service.specs.Updates.{KeepsLists, ReadQueues, ReadStops, UpdateDone, UpdateFull, UpdateHalted, UpdateWorn, Updates}
use Rattle.cx_service.specs.declared.close.Handed.TheVariants.{Idle, Stopped}
use Rattle.cx_service.specs.declared.update.Updated.{Updated}
use Rattle.cx_service.specs.declared.update.Updated.TheVariants.{Done as UpdatedDone, Full as UpdatedFull, Worn as UpdatedWorn, Halted as UpdatedHalted}
use Rattle.cx_attempts.specs.declared.lookup.Seen.{Seen}
use Rattle.seat_pool.specs.Gathering.{Gathers, StaysIdle}
use Rattle.seat_pool.specs.Pooling.{HasLimit, IsFirstOf, IsHomeOf, call_with, given_from, limits_at, total_weight, with_given}
use Rattle.seat_pool.specs.declared.hand.LenderPass.{LenderPass}
use Rattle.seat_pool.specs.declared.hand.Returned.{Returned}
use Rattle.seat_pool.specs.declared.hand.AnsweredCall.{AnsweredCall}
use Rattle.seat_pool.specs.declared.lent.Lent.{Lent}
use Rattle.seat_pool.proofs.Poolings.{total_both}
use Rattle.seat_pool.proofs.Telling.{are_kept, are_shown, are_told, same_calls}
use Rattle.client_pool.specs.Clients.{HaltsClientUpdate, HaltsClientRead, IsClientAnswered}
use Rattle.client_pool.specs.Lending.{ComesFrom, EntersRead, GivesBack, HaltsLater, HaltsBesideQueue, HoldsIdle, HoldsKept, IsBegun, IsFirstCaller, IsGivenBack, IsLentTo, IsOut, IsPart, IsReadRefused, KeepsFull, KeepsStopped, KeepsWorn, LooksOn, MayGive, MaySettle, Returns, ReturnsFirst, Settles, ShowsRead, TellsSame, limits_of}
use Rattle.client_pool.specs.declared.lend.EntryOutcome.TheVariants.{Done, Full, Worn, Halted}

-- The call is answered as an entry of the caller that was asked, as it was when it entered the queue. The call with its answer was told to the client, its
-- ticket is not below the floor, and the caller was given back.
pub record TellsEntry {O : Type 0} (r : Running O) (table : TableId) (op : List ℕ) (floor : ℕ) (asked : Seated) (before after : Lent) (caller : ℕ) (answer : Answer) : Type 0 where
  pub lent : IsLentTo r table after
  pub back : after.kept ≡ None
  pub limits : limits_of after ≡ limits_of before
  pub call : AnsweredCall
  pub entry : call ≡ call_with asked.known.local.number (next_entry r asked.known.local op answer.ticket) answer
  pub is : (call.caller ≡ caller) × (call.answer ≡ answer)
  pub op_is : call.entry.entry.op ≡ op
  pub ticket : call.entry.ticket ≡ answer.ticket
  pub from : floor ≤ answer.ticket
  pub small : answer.ticket < 2 ^ 40
  pub tells : (view after.pass).told_calls ≡ (view before.pass).told_calls ++ call ∷ []
  pub shows : (h : SeenRead → ℕ) → total_weight h (view before.pass).shown ≤ total_weight h (view after.pass).shown

module _ {O : Type 0} (r : Running O) where
  pub stays : (x : Seated) → IsCallerOf r x → StaysIdle r x x
  stays x is = record { caller = is; number = refl; limit = refl; calls = refl; more = []; reads = sym (append-nil x.known.local.seen_reads) }

  abbrev pub stays_on : (x y z : Seated) → StaysIdle r x y → StaysIdle r y z → StaysIdle r x z
  stays_on x y z a b = record {
    caller = b.caller;
    number = b.number ∙ a.number;
    limit = b.limit ∙ a.limit;
    calls = b.calls ∙ a.calls;
    more = a.more ++ b.more;
    reads = b.reads ∙ ap (λ (l : List SeenRead). l ++ b.more) a.reads ∙ append_assoc x.known.local.seen_reads a.more b.more;
  }

  abbrev pub looked : (x y : Seated) (more : List SeenRead) → IsCallerOf r y → ReadKeeps x y → y.known.local.seen_reads ≡ x.known.local.seen_reads ++ more → StaysIdle r x y
  looked x y more is keeps reads = record {
    caller = is;
    number = keeps.number;
    limit = keeps.limit;
    calls = same_calls y x.known.local.number x.known.local.own x.known.local.answered keeps.number keeps.own keeps.answered;
    more = more;
    reads = reads;
  }

  pub still : (x y : Seated) → y.known.local.seen_reads ≡ x.known.local.seen_reads → y.known.local.seen_reads ≡ x.known.local.seen_reads ++ []
  still x y same = same ∙ sym (append-nil x.known.local.seen_reads)

  abbrev pub read_on : (op : List ℕ) (x y z : Seated) (seen : Seen) → StaysIdle r x y → ReadAnswered r op y z seen → StaysIdle r x z
  read_on op x y z seen idle a =
      stays_on x y z idle (looked y z (record { place = seen.place; op = op; reply = seen.reply; before = length y.known.local.answered } ∷ []) a.caller a.keeps a.reads)

  abbrev pub refused_on : (tries : ℕ) (x y z : Seated) → StaysIdle r x y → ReadPending r tries y z → StaysIdle r x z
  refused_on tries x y z idle a = stays_on x y z idle (looked y z [] a.caller a.keeps (still y z a.reads))

  -- two lists of reads that make an empty one are empty
  none_both : (xs ys : List SeenRead) → xs ++ ys ≡ [] → (xs ≡ []) × (ys ≡ [])
  none_both [] ys none = (refl, none)
  none_both (x ∷ xs) ys none = (let long = ap (λ (l : List SeenRead). length l) none in absurd (omega (arith, long)))

  -- a caller of the service comes from itself (`ComesFrom`)
  pub comes_first : (x : Seated) → IsCallerOf r x → ComesFrom r x x
  comes_first x is = record { idle = stays x is; scans = omega arith; met = omega arith; front = omega arith; steps = λ _. omega arith }

  -- a caller that is `y` later in a call that began with `x`, and `z` later than `y`, is `z` later in the call that began with `x`
  pub comes_on : (x y z : Seated) → ComesFrom r x y → ComesFrom r y z → ComesFrom r x z
  comes_on x y z a b = record {
    idle = stays_on x y z a.idle b.idle;
    scans = omega (arith, a.scans, b.scans);
    met = omega (arith, a.met, b.met);
    front = omega (arith, a.front, b.front);
    steps = λ none. (let both = none_both a.idle.more b.idle.more none in let first = a.steps both.0 in let then = b.steps both.1 in omega (arith, first, then));
  }

  -- a caller that answers a read beside the queue, from `y` to `z`, is still the caller `x` that the call began with
  pub comes_reading : (op : List ℕ) (x y z : Seated) (seen : Seen) → ComesFrom r x y → ReadAnswered r op y z seen → ComesFrom r x z
  comes_reading op x y z seen from a = record {
    idle = read_on op x y z seen from.idle a;
    scans = (let same = a.keeps.scans in omega (arith, same, from.scans));
    met = (let kept = a.keeps.met in omega (arith, from.met, kept));
    front = (let kept = a.keeps.front in omega (arith, from.front, kept));
    steps = λ none. (
        let one = (none_both from.idle.more (record { place = seen.place; op = op; reply = seen.reply; before = length y.known.local.answered } ∷ []) none).1 in
        let long = ap (λ (l : List SeenRead). length l) one in
        absurd (omega (arith, long)));
  }

  -- a caller of which `tries` attempts for a read were refused, from `y` to `z`, is still the caller `x` that the call began with
  pub comes_refused : (tries : ℕ) (x y z : Seated) → ComesFrom r x y → ReadPending r tries y z → ComesFrom r x z
  comes_refused tries x y z from a = record {
    idle = refused_on tries x y z from.idle a;
    scans = (let same = a.keeps.scans in omega (arith, same, from.scans));
    met = (let kept = a.keeps.met in omega (arith, from.met, kept));
    front = (let kept = a.keeps.front in omega (arith, from.front, kept));
    steps = λ none. (let first = from.steps (none_both from.idle.more [] none).0 in omega (arith, first, a.keeps.since));
  }

  asked : (x y : Seated) → IsCallerOf r y → KeepsLists x y → StaysIdle r x y
  asked x y is keeps = record {
    caller = is;
    number = keeps.number;
    limit = keeps.limit;
    calls = same_calls y x.known.local.number x.known.local.own x.known.local.answered keeps.number keeps.own keeps.answered;
    more = [];
    reads = still x y keeps.reads;
  }

  pub caught_on : (x y : Seated) → IsCallerOf r y → CatchUpKeeps x y → StaysIdle r x y
  caught_on x y is keeps = record {
    caller = is;
    number = keeps.number;
    limit = keeps.limit;
    calls = same_calls y x.known.local.number x.known.local.own x.known.local.answered keeps.number keeps.own keeps.answered;
    more = [];
    reads = still x y keeps.reads;
  }

  -- a caller that was stopped while it caught up is as one that was stopped in a read and answered nothing
  caught_halted : (op : List ℕ) (x : Seated) (s : StoppedSeat) → CatchUpHalted r x s → ReadHalted r op x s
  caught_halted op x s halted =
      let keeps = halted.keeps in
      record {
        caller = halted.caller;
        linked = halted.linked;
        keeps = record {
          number = keeps.number;
          limit = keeps.limit;
          own = keeps.own;
          answered = keeps.answered;
          scans = keeps.scans;
          sets = keeps.sets;
          front = keeps.front;
          cur = keeps.cur;
          met = (let same = keeps.met in omega (arith, same));
          since = halted.due.since;
          linked = keeps.times.linked;
          ended = keeps.times.answered;
        };
        reads = inl keeps.reads;
        times = inl keeps.times.reads;
        images = keeps.images;
      }

  -- the ticket at which an update answered its caller is below the caller's front
  own_below : (op : List ℕ) (x y : Seated) (answer : Answer) → UpdateDone r op x y answer → answer.ticket < y.known.local.front
  own_below op x y answer done =
      let e = next_entry r x.known.local op answer.ticket in
      done.caller.cells.to (length x.known.local.own) e (ap (λ (l : List OwnEntry). slice_get l (length x.known.local.own)) done.links.own ∙ slice_get-last x.known.local.own e)

  -- a pass `v` that holds a caller as it is at `x` holds it as it is at `y`, where it stays in no call and is answered nothing but reads
  pub holds_on : (v : LenderPass) (x y : Seated) → HoldsIdle r v x → StaysIdle r x y → HoldsIdle r v y
  holds_on v x y holds idle = record { taken = holds.taken; held = holds.held; limit = holds.limit; idle = stays_on holds.taken x y holds.idle idle }

  -- a caller that a pass holds has the limit that the pass knows of it, also later
  pub limit_of : (v : LenderPass) (x y : Seated) → HoldsIdle r v x → y.known.local.number ≡ x.known.local.number → y.known.local.limit ≡ x.known.local.limit → HasLimit (limits_at v.home) y
  limit_of v x y holds number limit =
      ap (slice_get (limits_at v.home)) (number ∙ holds.idle.number) ∙ holds.limit ∙ ap Some (sym (limit ∙ holds.idle.limit))

  -- a caller that an update or a read stopped has the number and the limit that it had
  halted_same : (op : List ℕ) (x : Seated) (s : StoppedSeat) → UpdateHalted r op x s ⊎ ReadHalted r op x s → (s.seat.known.local.number ≡ x.known.local.number) × (s.seat.known.local.limit ≡ x.known.local.limit)
  halted_same op x s (inl update) = (update.number, ⊎_elim (λ h. h.keeps.limit) (λ h. h.links.limit) update.lists)
  halted_same op x s (inr read) = (read.keeps.number, read.keeps.limit)

  module _ (table : TableId) where
    -- what was lent with another pass of the queue is a part too, where that knows the same service, with the same part
    pub part_like : (before after : Lent) (w : LenderPass) → IsPart r table before → (after.pass.table_id ≡ table) × (after.pass.me.1 ≡ []) → view after.pass ≡ w
        → w.home ≡ (view before.pass).home → w.parts ≡ (view before.pass).parts → w.placed ≡ (view before.pass).placed → IsPart r table after
    part_like before after w part pass is home parts placed = record {
      pass = pass;
      home = subst (λ h. IsHomeOf r h) (sym (ap (λ (u : LenderPass). u.home) is ∙ home)) part.home;
      parts = ap (λ (u : LenderPass). u.parts) is ∙ parts ∙ part.parts;
      placed = ap (λ (u : LenderPass). u.placed) is ∙ placed ∙ part.placed;
    }

    pub out_on : (lent : Lent) (x y : Seated) → IsOut r table lent x → StaysIdle r x y → IsOut r table lent y
    out_on lent x y out idle = record { part = out.part; none = out.none; holds = holds_on (view lent.pass) x y out.holds idle }

    -- the caller that was out was given back
    pub returns : (mid after : Lent) (x y : Seated) → IsOut r table mid x → view after.pass ≡ with_given (view mid.pass) y → Returns mid after y
    returns mid after x y out is = record {
      taken = out.holds.taken;
      held = out.holds.held;
      returned = ap (λ (u : LenderPass). u.returned) is ∙ ap (λ l. (given_from (view mid.pass) l y).returned) out.holds.held;
    }

    -- where the caller that was out is given back, it is the one that the call began with
    pub returns_first : (before mid after : Lent) (first y : Seated) → TellsSame before mid → IsFirstCaller before.kept (view mid.pass) first → Returns mid after y → ReturnsFirst before after first y
    returns_first before mid after first y same is back = record {
      kept = is.kept;
      taken = back.taken;
      returned = back.returned ∙ ap (λ (l : List Returned). l ++ record { taken = back.taken; back = y } ∷ []) same.returned;
      first_is = λ none. same_Some first back.taken (ap (λ (l : List Seated). slice_get l 0) (sym (is.taken none) ∙ back.held));
    }

    -- a caller that was out since its call began, and is given back, is the one that the call began with
    pub returned : (before mid after : Lent) (first y : Seated) → TellsSame before mid → IsFirstCaller before.kept (view mid.pass) first → IsOut r table mid first → view after.pass ≡ with_given (view mid.pass) y → ReturnsFirst before after first y
    returned before mid after first y same is out given = returns_first before mid after first y same is (returns mid after first y out given)

    -- a read was shown
    unfoldable pub read_shown : (op : List ℕ) (floor : ℕ) (before after : Lent) (caller x y : Seated) (seen : Seen) → IsOut r table before x → ComesFrom r caller x → floor ≤ seen.place → ReadAnswered r op x y seen × MeetsFewer 8 x y → after.kept ≡ None
        → (after.pass.table_id ≡ table) × (after.pass.me.1 ≡ []) → view after.pass ≡ with_given (view before.pass) y → ShowsRead r table op floor caller before after seen
    read_shown op floor before after caller x y seen out since from shown none pass is =
        let v = view before.pass in
        let holds = out.holds in
        let x_ : SeenRead = record { place = seen.place; op = op; reply = seen.reply; before = length x.known.local.answered } in
        let idle = read_on op holds.taken x y seen holds.idle shown.0 in
        let given : view after.pass ≡ given_from v (holds.taken ∷ []) y = is ∙ ap (λ l. given_from v l y) holds.held in
        let are = are_shown r holds.taken y [] v holds.held idle in
        record {
          lent = record {
            part = part_like before after (given_from v (holds.taken ∷ []) y) out.part pass given refl refl refl;
            kept = subst (HoldsKept r (view after.pass)) (sym none) (ap (λ (u : LenderPass). u.held) given);
          };
          back = none;
          limits = ap (λ (u : LenderPass). limits_at u.home) given;
          asked = x;
          since = since;
          now = y;
          shown = shown;
          read = x_;
          is = refl;
          from = from;
          tells = ap (λ (u : LenderPass). u.told_calls) is ∙ are.1;
          shows = λ h. (let same : total_weight h (view after.pass).shown ≡ total_weight h (v.shown ++ (holds.idle.more ++ x_ ∷ [])) = ap (λ (u : LenderPass). total_weight h u.shown) is ∙ ap (total_weight h) are.2 in omega (arith, same, total_both h v.shown (holds.idle.more ++ x_ ∷ []), total_both h holds.idle.more (x_ ∷ [])));
        }

    -- a caller was given back that was in no call
    pub given_back : (before after : Lent) (x y : Seated) → IsOut r table before x → StaysIdle r x y → after.kept ≡ None → (after.pass.table_id ≡ table) × (after.pass.me.1 ≡ []) → view after.pass ≡ with_given (view before.pass) y → IsGivenBack r table before after
    given_back before after x y out stay none pass is =
        let v = view before.pass in
        let holds = out.holds in
        let idle = stays_on holds.taken x y holds.idle stay in
        let given : view after.pass ≡ given_from v (holds.taken ∷ []) y = is ∙ ap (λ l. given_from v l y) holds.held in
        let shown = are_shown r holds.taken y [] v holds.held idle in
        record {
          lent = record {
            part = part_like before after (given_from v (holds.taken ∷ []) y) out.part pass given refl refl refl;
            kept = subst (HoldsKept r (view after.pass)) (sym none) (ap (λ (u : LenderPass). u.held) given);
          };
          back = none;
          limits = ap (λ (u : LenderPass). limits_at u.home) given;
          tells = ap (λ (u : LenderPass). u.told_calls) is ∙ shown.1;
          shows = λ h. (let same : total_weight h (view after.pass).shown ≡ total_weight h (v.shown ++ idle.more) = ap (λ (u : LenderPass). total_weight h u.shown) is ∙ ap (total_weight h) shown.2 in omega (arith, same, total_both h v.shown idle.more));
        }

    -- a client that was told and shown nothing more from `a` to `b`, nor from `b` to `c`, was not from `a` to `c` either
    pub tells_on : (a b c : Lent) → TellsSame a b → TellsSame b c → TellsSame a c
    tells_on a b c s t = record { limits = t.limits ∙ s.limits; told_calls = t.told_calls ∙ s.told_calls; shown = t.shown ∙ s.shown; returned = t.returned ∙ s.returned }

    -- the client keeps the caller that was out, and the pass is as it was
    module _ (before mid after : Lent) (tells : TellsSame before mid) (first : Seated) (begins : IsFirstCaller before.kept (view mid.pass) first) (same : after.pass ≡ mid.pass) where
      w : view after.pass ≡ view mid.pass
      w = ap (λ p. view p) same

      part_kept : IsPart r table mid → IsPart r table after
      part_kept part = part_like mid after (view mid.pass) part (ap (λ p. p.table_id) same ∙ part.pass.0, ap (λ p. p.me.1) same ∙ part.pass.1) w refl refl refl

      tells_kept : TellsSame before after
      tells_kept = tells_on before mid after tells (record { limits = ap (λ (u : LenderPass). limits_at u.home) w; told_calls = ap (λ (u : LenderPass). u.told_calls) w; shown = ap (λ (u : LenderPass). u.shown) w; returned = ap (λ (u : LenderPass). u.returned) w })

      first_kept : IsFirstCaller before.kept (view after.pass) first
      first_kept = subst (λ (u : LenderPass). IsFirstCaller before.kept u first) (sym w) begins

      idle_again : (x y : Seated) → IsOut r table mid x → StaysIdle r x y → after.kept ≡ Some (Idle y) → IsLentTo r table after
      idle_again x y out idle keeps = record {
        part = part_kept out.part;
        kept = subst (HoldsKept r (view after.pass)) (sym keeps) (subst (λ (u : LenderPass). HoldsIdle r u y) (sym w) (holds_on (view mid.pass) x y out.holds idle));
      }

      pub full_kept : (way : Seated → Seated → Type 0) (x y : Seated) (note : FullNote) → way first x → IsOut r table mid x → UpdateFull r x y note → after.kept ≡ Some (Idle y) → KeepsFull r table way before after note
      full_kept way x y note came out full keeps = record {
        lent = idle_again x y out (asked x y full.caller full.keeps) keeps;
        tells = tells_kept;
        first = first;
        is = first_kept;
        asked = x;
        came = came;
        held = subst (λ (u : LenderPass). HoldsIdle r u x) (sym w) out.holds;
        now = y;
        keeps = keeps;
        full = full;
      }

      pub worn_kept : (way : Seated → Seated → Type 0) (x y : Seated) → way first x → IsOut r table mid x → UpdateWorn r x y → after.kept ≡ Some (Idle y) → KeepsWorn r table way before after
      worn_kept way x y came out worn keeps = record {
        lent = idle_again x y out (asked x y worn.caller worn.keeps) keeps;
        tells = tells_kept;
        first = first;
        is = first_kept;
        asked = x;
        came = came;
        held = subst (λ (u : LenderPass). HoldsIdle r u x) (sym w) out.holds;
        now = y;
        keeps = keeps;
        worn = worn;
      }

      -- a caller that was stopped in its call is kept: it had been asked, and may have met refusals since
      pub stopped_kept : (halts : Seated → StoppedSeat → Type 0) (op : List ℕ) (a x : Seated) (s : StoppedSeat) → ComesFrom r first a → halts a s → IsOut r table mid x → UpdateHalted r op x s ⊎ ReadHalted r op x s → after.kept ≡ Some (Stopped s)
          → KeepsStopped r table halts before after s.linked
      stopped_kept halts op a x s since halted out how keeps =
          let like : (s.seat.known.local.number ≡ x.known.local.number) × (s.seat.known.local.limit ≡ x.known.local.limit) = halted_same op x s how in
          let g = are_kept r op out.holds.taken x s out.holds.idle how in
          let limit = limit_of (view mid.pass) x s.seat out.holds like.0 like.1 in
          record {
            lent = record {
              part = part_kept out.part;
              kept = subst (HoldsKept r (view after.pass)) (sym keeps) (subst (λ l. Gathers r l (Stopped s ∷ [])) (sym (ap (λ (u : LenderPass). u.held) w ∙ out.holds.held)) g, subst (λ (u : LenderPass). HasLimit (limits_at u.home) s.seat) (sym w) limit);
            };
            tells = tells_kept;
            first = first;
            begins = first_kept;
            asked = a;
            since = since;
            stopped = s;
            halted = halted;
            keeps = keeps;
            is = refl;
          }

      -- a caller that was stopped in a read beside the queue is kept
      pub looking_stopped : (x : Seated) (s : StoppedSeat) → ComesFrom r first x → IsOut r table mid x → HaltsLater r x s → after.kept ≡ Some (Stopped s) → KeepsStopped r table (HaltsBesideQueue r) before after s.linked
      looking_stopped x s since out halts keeps =
          stopped_kept (HaltsBesideQueue r) halts.halts.op halts.asked halts.asked s (comes_on first x halts.asked since halts.since) halts.halts (out_on mid x halts.asked out halts.since.idle) (inr halts.halts.halted) keeps

      -- a caller that was stopped as it caught up with a place is kept
      pub caught_stopped : (s : StoppedSeat) → IsOut r table mid first → CatchUpHalted r first s → after.kept ≡ Some (Stopped s) → KeepsStopped r table (CatchUpHalted r) before after s.linked
      caught_stopped s out halted keeps = stopped_kept (CatchUpHalted r) [] first first s (comes_first first out.holds.idle.caller) halted out (inr (caught_halted [] first s halted)) keeps

    -- a caller that is stopped in one way is kept as one stopped in another, where whatever is stopped in the one is stopped in the other
    pub stopped_so : (halts more : Seated → StoppedSeat → Type 0) → ((x : Seated) (s : StoppedSeat) → halts x s → more x s) → (before after : Lent) (linked : Option ℕ) → KeepsStopped r table halts before after linked → KeepsStopped r table more before after linked
    stopped_so halts more so before after linked k = record { lent = k.lent; tells = k.tells; first = k.first; begins = k.begins; asked = k.asked; since = k.since; stopped = k.stopped; halted = so k.asked k.stopped k.halted; keeps = k.keeps; is = k.is }

    -- a caller whose update is answered may be given back
    done_back : (op : List ℕ) (lent : Lent) (x y : Seated) (answer : Answer) → IsOut r table lent x → UpdateDone r op x y answer → MayGive r lent y
    done_back op lent x y answer out done = record {
      caller = done.caller;
      limit = limit_of (view lent.pass) x y out.holds done.links.number done.links.limit;
      first = (are_told r op out.holds.taken x y [] answer (view lent.pass) out.holds.held out.holds.idle done).0;
    }

    -- a caller that caught up with a place, or found a lower one, may be given back
    pub idle_back : (lent : Lent) (x y : Seated) → IsOut r table lent x → IsCallerOf r y → CatchUpKeeps x y → IsCallerOf r y × HasLimit (limits_at (view lent.pass).home) y × IsFirstOf (view lent.pass).held y
    idle_back lent x y out is keeps = (
      is,
      limit_of (view lent.pass) x y out.holds keeps.number keeps.limit,
      (are_shown r out.holds.taken y [] (view lent.pass) out.holds.held (stays_on out.holds.taken x y out.holds.idle (caught_on x y is keeps))).0,
    )

    -- a caller that met refusals beside the queue before its read entered the queue is still out
    queued_out : (op reply : List ℕ) (lent : Lent) (x : Seated) (u : Updated) → IsOut r table lent x → (q : ReadQueues r op reply x u) → IsOut r table lent q.refused
    queued_out op reply lent x u out q = out_on lent x q.refused out (refused_on 8 x x q.refused (stays x out.holds.idle.caller) q.pending)

    -- the caller that is out with an update may be given back once the update is answered
    pub update_settles : (op reply : List ℕ) (lent : Lent) (x : Seated) → IsOut r table lent x → (u : Updated) → Updates r op reply x u → MaySettle r lent u
    update_settles op reply lent x out (UpdatedDone y ticket) is = done_back op lent x y (answer_with ticket reply) out is
    update_settles op reply lent x out (UpdatedFull y note) is = tt
    update_settles op reply lent x out (UpdatedWorn y) is = tt
    update_settles op reply lent x out (UpdatedHalted s) is = tt

    -- the caller that is out with a read that entered the queue may be given back once the read is answered
    pub read_settles : (op reply : List ℕ) (lent : Lent) (x : Seated) → IsOut r table lent x → (u : Updated) → EntersRead r op reply x u → MaySettle r lent u
    read_settles op reply lent x out (UpdatedDone y ticket) q = done_back op lent q.refused y (answer_with ticket reply) (queued_out op reply lent x (UpdatedDone y ticket) out q) q.entered
    read_settles op reply lent x out (UpdatedFull y note) is = tt
    read_settles op reply lent x out (UpdatedWorn y) is = tt
    read_settles op reply lent x out (UpdatedHalted s) is = tt

    -- the results of a call that entered the queue
    module _ (op reply : List ℕ) (floor : ℕ) (before mid after : Lent) where
      -- the caller of an answered update was given back, and its entry was told to the client
      tells_entry : (x y : Seated) (caller : ℕ) (answer : Answer) → TellsSame before mid → IsOut r table mid x → floor ≤ x.known.local.front → UpdateDone r op x y answer → caller ≡ y.known.local.number → y.known.local.front ≤ 2 ^ 40 → GivesBack table mid after y
          → TellsEntry r table op floor x before after caller answer
      tells_entry x y caller answer same out floor_ done number front back =
          let v = view mid.pass in
          let holds = out.holds in
          let t = call_with x.known.local.number (next_entry r x.known.local op answer.ticket) answer in
          let is = back.view_is in
          let given : view after.pass ≡ given_from v (holds.taken ∷ []) y = is ∙ ap (λ l. given_from v l y) holds.held in
          let is_told = are_told r op holds.taken x y [] answer v holds.held holds.idle done in
          let new = drop (length holds.taken.known.local.seen_reads) y.known.local.seen_reads in
          let none : after.kept ≡ None = back.kept ∙ out.none in
          record {
            lent = record {
              part = part_like mid after (given_from v (holds.taken ∷ []) y) out.part back.pass given refl refl refl;
              kept = subst (HoldsKept r (view after.pass)) (sym none) (ap (λ (u : LenderPass). u.held) given);
            };
            back = none;
            limits = ap (λ (u : LenderPass). limits_at u.home) given ∙ same.limits;
            call = t;
            entry = refl;
            is = (sym done.links.number ∙ sym number, refl);
            op_is = refl;
            ticket = refl;
            from = omega (arith, floor_, done.from);
            small = (let below = own_below op x y answer done in omega (arith, below, front));
            tells = ap (λ (u : LenderPass). u.told_calls) is ∙ is_told.1 ∙ ap (λ (l : List AnsweredCall). l ++ t ∷ []) same.told_calls;
            shows = λ h. (let first : total_weight h v.shown ≡ total_weight h (view before.pass).shown = ap (total_weight h) same.shown in let more : total_weight h (view after.pass).shown ≡ total_weight h (v.shown ++ new) = ap (λ (u : LenderPass). total_weight h u.shown) given in omega (arith, first, more, total_both h v.shown new));
          }

      -- the call that the client was told is what its caller answered
      answered : (way : Seated → Seated → Type 0) (first x y : Seated) (caller : ℕ) (answer : Answer) → ReturnsFirst before after first y → way first x → UpdateDone r op x y answer → (t : TellsEntry r table op floor x before after caller answer) → IsClientAnswered r way op before after t.call
      answered way first x y caller answer back came done t = record {
        first = first;
        asked = x;
        came = came;
        now = y;
        returns = back;
        done = subst (UpdateDone r op x y) (sym t.is.1) done;
        entry = subst (λ (a : Answer). t.call ≡ call_with x.known.local.number (next_entry r x.known.local op a.ticket) a) (sym t.is.1) t.entry;
      }

      -- what an update comes to that is answered: its entry was told, and is what its caller answered
      pub update_done : (x : Seated) (caller ticket : ℕ) → IsBegun r table floor before mid x → (u : Updated) → Updates r op reply x u → Settles table mid after u (Done caller ticket) → (t : TellsEntry r table op floor x before after caller (answer_with ticket reply)) × IsClientAnswered r (ComesFrom r) op before after t.call
      update_done x caller ticket begun u is s =
          let answer = answer_with ticket reply in
          let done : UpdateDone r op x s.0 answer = subst (Updates r op reply x) s.1 is in
          let t = tells_entry x s.0 caller answer begun.tells begun.out begun.from done s.2 s.3 s.4 in
          let back = returns_first before mid after begun.first s.0 begun.tells begun.is (returns mid after x s.0 begun.out s.4.view_is) in
          (t, answered (ComesFrom r) begun.first x s.0 caller answer back begun.since done t)

      -- what a read comes to that entered the queue and is answered: its entry was told, and is what its caller answered
      pub read_done : (x : Seated) (caller ticket : ℕ) → IsBegun r table floor before mid x → LooksOn r table op reply x mid after (Done caller ticket) → (a : Seated) × (t : TellsEntry r table op floor a before after caller (answer_with ticket reply)) × IsClientAnswered r (IsReadRefused r) op before after t.call
      read_done x caller ticket begun l =
          let answer = answer_with ticket reply in
          let s = l.settles in
          let q : ReadQueues r op reply l.asked (UpdatedDone s.0 ticket) = subst (EntersRead r op reply l.asked) s.1 l.enters in
          let out = queued_out op reply mid l.asked (UpdatedDone s.0 ticket) (out_on mid x l.asked begun.out l.since.idle) q in
          let front = l.since.front in
          let kept = q.pending.keeps.front in
          let t = tells_entry q.refused s.0 caller answer begun.tells out (omega (arith, begun.from, front, kept)) q.entered s.2 s.3 s.4 in
          let came : IsReadRefused r begun.first q.refused = record { looked = l.asked; since = comes_on begun.first x l.asked begun.since l.since; refused = q.pending } in
          let back = returns_first before mid after begun.first s.0 begun.tells begun.is (returns mid after q.refused s.0 out s.4.view_is) in
          (q.refused, t, answered (IsReadRefused r) begun.first q.refused s.0 caller answer back came q.entered t)

      -- what an update comes to that is not answered
      module _ (x : Seated) (begun : IsBegun r table floor before mid x) where
        pub update_full : (note : FullNote) (u : Updated) → Updates r op reply x u → Settles table mid after u (Full note) → KeepsFull r table (ComesFrom r) before after note
        update_full note u is s = full_kept before mid after begun.tells begun.first begun.is s.2.0 (ComesFrom r) x s.0 note begun.since begun.out (subst (Updates r op reply x) s.1 is) s.2.1

        pub update_worn : (u : Updated) → Updates r op reply x u → Settles table mid after u Worn → KeepsWorn r table (ComesFrom r) before after
        update_worn u is s = worn_kept before mid after begun.tells begun.first begun.is s.2.0 (ComesFrom r) x s.0 begun.since begun.out (subst (Updates r op reply x) s.1 is) s.2.1

        pub update_stopped : (linked : Option ℕ) (u : Updated) → Updates r op reply x u → Settles table mid after u (Halted linked) → KeepsStopped r table (HaltsClientUpdate r op) before after linked
        update_stopped linked u is s =
            let halted : UpdateHalted r op x s.0 = subst (Updates r op reply x) s.1 is in
            subst (KeepsStopped r table (HaltsClientUpdate r op) before after) s.2
            (stopped_kept before mid after begun.tells begun.first begun.is s.3.0 (HaltsClientUpdate r op) op x x s.0 begun.since (inr halted) begun.out (inl halted) s.3.1)

        -- what a read comes to that entered the queue and is not answered
        came_to : (u : Updated) (a : Seated) → ComesFrom r x a → (q : ReadQueues r op reply a u) → IsReadRefused r begun.first q.refused
        came_to u a since q = record { looked = a; since = comes_on begun.first x a begun.since since; refused = q.pending }

        pub read_full : (note : FullNote) → LooksOn r table op reply x mid after (Full note) → KeepsFull r table (IsReadRefused r) before after note
        read_full note l =
            let s = l.settles in
            let u = UpdatedFull s.0 note in
            let q : ReadQueues r op reply l.asked u = subst (EntersRead r op reply l.asked) s.1 l.enters in
            full_kept before mid after begun.tells begun.first begun.is s.2.0 (IsReadRefused r) q.refused s.0 note (came_to u l.asked l.since q) (queued_out op reply mid l.asked u (out_on mid x l.asked begun.out l.since.idle) q) q.entered s.2.1

        pub read_worn : LooksOn r table op reply x mid after Worn → KeepsWorn r table (IsReadRefused r) before after
        read_worn l =
            let s = l.settles in
            let u = UpdatedWorn s.0 in
            let q : ReadQueues r op reply l.asked u = subst (EntersRead r op reply l.asked) s.1 l.enters in
            worn_kept before mid after begun.tells begun.first begun.is s.2.0 (IsReadRefused r) q.refused s.0 (came_to u l.asked l.since q) (queued_out op reply mid l.asked u (out_on mid x l.asked begun.out l.since.idle) q) q.entered s.2.1

        pub read_stopped : (linked : Option ℕ) → LooksOn r table op reply x mid after (Halted linked) → KeepsStopped r table (HaltsClientRead r op) before after linked
        read_stopped linked l =
            let s = l.settles in
            let h = UpdatedHalted s.0 in
            let stops : ReadStops r op l.asked s.0 = subst (EntersRead r op reply l.asked) s.1 l.enters in
            let out = out_on mid x l.asked begun.out l.since.idle in
            let kept = stopped_kept before mid after begun.tells begun.first begun.is s.3.0 (HaltsClientRead r op) op l.asked in
            let since = comes_on begun.first x l.asked begun.since l.since in
            subst (KeepsStopped r table (HaltsClientRead r op) before after) s.2
            (⊎_elim (λ b. kept l.asked s.0 since (inr stops) out (inr b.0) s.3.1) (λ q. kept q.refused s.0 since (inr stops) (queued_out op [] mid l.asked h out q) (inl q.entered) s.3.1) stops.lists)

    -- what was shown and given back since a caller was taken out was shown and given back since the call began
    module _ (before mid after : Lent) (same : TellsSame before mid) where
      unfoldable pub read_since : (op : List ℕ) (floor : ℕ) (caller : Seated) (seen : Seen) → ShowsRead r table op floor caller mid after seen → ShowsRead r table op floor caller before after seen
      read_since op floor caller seen t = record {
        lent = t.lent;
        back = t.back;
        limits = t.limits ∙ same.limits;
        asked = t.asked;
        since = t.since;
        now = t.now;
        shown = t.shown;
        read = t.read;
        is = t.is;
        from = t.from;
        tells = t.tells ∙ same.told_calls;
        shows = λ h. (let same_ : total_weight h (view mid.pass).shown ≡ total_weight h (view before.pass).shown = ap (total_weight h) same.shown in omega (arith, same_, t.shows h));
      }

      given_since : IsGivenBack r table mid after → IsGivenBack r table before after
      given_since t = record {
        lent = t.lent;
        back = t.back;
        limits = t.limits ∙ same.limits;
        tells = t.tells ∙ same.told_calls;
        shows = λ h. (let same_ : total_weight h (view mid.pass).shown ≡ total_weight h (view before.pass).shown = ap (total_weight h) same.shown in omega (arith, same_, t.shows h));
      }

      -- a caller that caught up with a place, or found a lower one, was given back with no call more
      pub caught_given : (x y : Seated) → IsOut r table mid x → IsCallerOf r y → CatchUpKeeps x y → after.kept ≡ mid.kept → (after.pass.table_id ≡ table) × (after.pass.me.1 ≡ []) → view after.pass ≡ with_given (view mid.pass) y → IsGivenBack r table before after
      caught_given x y out is keeps kept pass view_is = given_since (given_back mid after x y out (caught_on x y is keeps) (kept ∙ out.none) pass view_is)
