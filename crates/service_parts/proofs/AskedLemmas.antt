-- What a caller has seen before it asks for an operation, it has seen then.
use Rattle.std.proofs.Common.{◌≡◌, ◌∙◌, ◌+◌, ◌≤◌, inr, ℕ, List, [], ◌∷◌, ◌++◌, length, ap, arith}
use Rattle.cx_core.specs.declared.local.Answer.{Answer}
use Rattle.cx_core.specs.declared.local.Linked.{Linked as OwnEntry}
use Rattle.cx_core.specs.Region.{slot_number}
use Rattle.table_invariant.specs.Running.{Running}
use Rattle.table_invariant.specs.Seats.{Seated}
use Rattle.cx_service.specs.Callers.{IsCallerOf}
use Rattle.cx_service.specs.CatchUps.{HasSeen}
use Rattle.cx_service.specs.Drives.{answer_with}
use Rattle.cx_service.specs.Lookups.{ReadAnswered, ReadPending}
use Rattle.cx_service.specs.Submits.{next_entry}
use Rattle.cx_service.specs.Updates.{KeepsLists, ReadQueues, UpdateDone, UpdateWorn}
use Rattle.cx_service.specs.declared.update.Updated.TheVariants.{Done, Worn}
use Rattle.cx_service.proofs.Seeing.{lists_seen, queued_sees, read_behind, update_behind}
use Rattle.cx_attempts.specs.declared.lookup.Seen.{Seen}
use Rattle.cx_attempts.specs.Answering.{with_answer}
use Rattle.service_parts.specs.Asking.{IsAsked, IsIdleSince, IsOperationAnswered}
use Rattle.service_parts.specs.declared.call.AskOutcome.TheVariants.{Told}

-- an update behind tries that changed nothing of the caller's lists
module _ {O : Type 0} (r : Running O) (op : List ℕ) (before u : Seated) (keeps : KeepsLists before u) (idle : IsIdleSince before u) where
  -- the entry that the caller links next is at `u` as it was before
  same_entry : (ticket : ℕ) → next_entry r u.known.local op ticket ≡ next_entry r before.known.local op ticket
  same_entry ticket =
      ap (λ (n : ℕ). (let e : OwnEntry = record { ticket = ticket; entry = record { caller = n; number = slot_number n r.base.words + length u.known.local.own + 1; op = op } } in e)) keeps.number
      ∙ ap (λ (xs : List OwnEntry). (let e : OwnEntry = record { ticket = ticket; entry = record { caller = before.known.local.number; number = slot_number before.known.local.number r.base.words + length xs + 1; op = op } } in e)) keeps.own

  done_answered : (after : Seated) (answer : Answer) → UpdateDone r op u after answer → IsOperationAnswered r op answer.ticket answer.reply before after
  done_answered after answer done = record {
    links = record {
      number = done.links.number ∙ keeps.number;
      limit = done.links.limit ∙ keeps.limit;
      own = done.links.own ∙ ap (λ (xs : List OwnEntry). xs ++ next_entry r u.known.local op answer.ticket ∷ []) keeps.own ∙ ap (λ (x : OwnEntry). before.known.local.own ++ x ∷ []) (same_entry answer.ticket);
      reads = done.links.reads ∙ keeps.reads;
      begun = record {
        at = done.links.begun.at;
        from = (let from = done.links.begun.from in let since = idle.since in omega (arith, from, since));
        is = done.links.begun.is ∙ ap (λ xs. xs ++ done.links.begun.at ∷ []) idle.times.linked;
      };
      read = done.links.read ∙ idle.times.reads;
    };
    answered = done.answered ∙ ap (with_answer answer.ticket answer.reply) keeps.answered;
    ended = record { at = done.ended.at; to = done.ended.to; is = done.ended.is ∙ ap (λ xs. xs ++ done.ended.at ∷ []) idle.times.answered };
  }

  pub done_asked : (after : Seated) (answer : Answer) (place : ℕ) → UpdateDone r op u after answer → place ≡ answer.ticket + 1 → IsAsked r op answer.reply before (Told after place)
  done_asked after answer place done is = (
    record { caller = done.caller; number = done.links.number ∙ keeps.number },
    inr (answer.ticket, is, done_answered after answer done),
  )

-- a read that entered the queue, behind tries that changed nothing of the caller's lists
module _ {O : Type 0} (r : Running O) (op : List ℕ) (before u : Seated) (keeps : KeepsLists before u) (idle : IsIdleSince before u) where
  pending_keeps : (v : Seated) → ReadPending r 8 u v → KeepsLists before v
  pending_keeps v p = record {
    number = p.keeps.number ∙ keeps.number;
    limit = p.keeps.limit ∙ keeps.limit;
    own = p.keeps.own ∙ keeps.own;
    answered = p.keeps.answered ∙ keeps.answered;
    reads = p.reads ∙ keeps.reads;
    front = (let first = keeps.front in let more = p.keeps.front in omega (arith, first, more));
    cur = (let first = keeps.cur in let more = p.keeps.cur in omega (arith, first, more));
  }

  pending_idle : (v : Seated) → ReadPending r 8 u v → IsIdleSince before v
  pending_idle v p = record {
    times = record { linked = p.keeps.linked ∙ idle.times.linked; answered = p.keeps.ended ∙ idle.times.answered; reads = p.times ∙ idle.times.reads };
    since = (let first = idle.since in let more = p.keeps.since in omega (arith, first, more));
  }

  pub queued_asked : (reply : List ℕ) (after : Seated) (ticket place : ℕ) → ReadQueues r op reply u (Done after ticket) → place ≡ ticket + 1 → IsAsked r op reply before (Told after place)
  queued_asked reply after ticket place queues is = done_asked r op before queues.refused (pending_keeps queues.refused queues.pending) (pending_idle queues.refused queues.pending) after (answer_with ticket reply) place queues.entered is

module _ {O : Type 0} (r : Running O) (op : List ℕ) (before u : Seated) (caller : IsCallerOf r before) (now : IsCallerOf r u) (keeps : KeepsLists before u) where
  abbrev Sees : ℕ → Seated → Type 0
  Sees place after = (seen : ℕ) → HasSeen r.callers seen before.known.local → (seen ≤ place) × HasSeen r.callers seen after.known.local

  pub done_sees : (after : Seated) (answer : Answer) (place : ℕ) → UpdateDone r op u after answer → place ≡ answer.ticket + 1 → Sees place after
  done_sees after answer place done is seen was =
      let b = update_behind r op u after seen answer (lists_seen r seen before u caller was keeps) done in
      let low = b.0 in
      (omega (arith, low, is), b.1)

  pub queued_done_sees : (reply : List ℕ) (after : Seated) (ticket place : ℕ) → ReadQueues r op reply u (Done after ticket) → place ≡ ticket + 1 → Sees place after
  queued_done_sees reply after ticket place queues is seen was =
      let b = queued_sees r op reply seen u (Done after ticket) now (lists_seen r seen before u caller was keeps) queues in
      let low = b.0 in
      (omega (arith, low, is), b.1)

  pub read_sees : (after : Seated) (found : Seen) → ReadAnswered r op u after found → Sees found.place after
  read_sees after found read seen was = read_behind r op u after seen found (lists_seen r seen before u caller was keeps) read

  pub worn_sees : (after : Seated) → UpdateWorn r u after → (seen : ℕ) → HasSeen r.callers seen before.known.local → HasSeen r.callers seen after.known.local
  worn_sees after worn seen was = lists_seen r seen u after now (lists_seen r seen before u caller was keeps) worn.keeps

  pub queued_worn_sees : (reply : List ℕ) (after : Seated) → ReadQueues r op reply u (Worn after) → (seen : ℕ) → HasSeen r.callers seen before.known.local → HasSeen r.callers seen after.known.local
  queued_worn_sees reply after queues seen was = queued_sees r op reply seen u (Worn after) now (lists_seen r seen before u caller was keeps) queues
