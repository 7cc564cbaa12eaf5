-- One call more of a client, and its line.
use Rattle.std.proofs.Common.{◌≡◌, ◌∙◌, ◌+◌, ◌-◌, ◌<◌, ◌≤◌, Bool, true, false, ℕ, List, [], ◌∷◌, ◌++◌, Some, ap, arith, length, length-append, refl, slice_get, subst, sym, inl, inr}
use Rattle.std.specs.Prelude.{All}
use Rattle.std.proofs.lemmas.List.Elements.{All-nil, All-push, All-weaker}
use Rattle.atomic_table.specs.Seated.{TableId}
use Rattle.cx_core.proofs.ListLemmas.{slice_get-append_left}
use Rattle.cx_core.proofs.Locals.{slice_get-last}
use Rattle.cx_core.specs.declared.local.Answer.{Answer}
use Rattle.cx_core.specs.declared.local.SeenRead.{SeenRead}
use Rattle.cx_lives.specs.Lines.{AddsClientEntry, AddsClientRead, NotesEntryLine, NotesRead}
use Rattle.cx_lives.specs.declared.lines.Lines.{Lines}
use Rattle.cx_lives.proofs.Serving.{few_own, named_within, serves_entry, serves_none, serves_read}
use Rattle.table_invariant.specs.Running.{Running}
use Rattle.cx_attempts.specs.declared.lookup.Seen.{Seen}
use Rattle.seat_pool.specs.declared.hand.AnsweredCall.{AnsweredCall}
use Rattle.client_pool.proofs.Calling.{entries_more, entries_same}
use Rattle.client_pool.specs.Clients.{HasCalls, HasNoMore, HasRead, HasUpdated, IsSameClient, entries_called}
use Rattle.client_pool.specs.Lending.{is_live}
use Rattle.client_pool.specs.declared.call.Call.{Call}
use Rattle.client_pool.specs.declared.call.Call.TheVariants.{Entry, Look}
use Rattle.client_pool.specs.declared.client.Client.{Client}
use Rattle.life_records.specs.Records.{AreOfNoReply, JournalLine, Life, Meaning, ReadLine}
use Rattle.life_records.specs.Scripts.{named_op, own_ops}
use Rattle.pool_lives.proofs.Asking.{may_again, may_still}
use Rattle.pool_lives.proofs.Ghosts.{answers, answers_still, even, links, own_long, own_still, sees}
use Rattle.pool_lives.specs.Asking.{KeepsLast, MayAsk}
use Rattle.pool_lives.specs.Ghosts.{IsCallAt, local_of}
use Rattle.pool_lives.specs.Working.{HasMadeCalls, IsAtWork, IsCalling, IsOver, MakesCommand}

-- the call that answered a command is still that call when the client made further calls
pub stays_at : (calls more : List Call) (command at next : ℕ) → IsCallAt calls command at next → IsCallAt (calls ++ more) command at next
stays_at calls more command at next is = record { some = is.some; call = is.call; there = slice_get-append_left calls more (command - 1) is.call is.there; place = is.place; behind = is.behind }

-- a client that may ask again after a call goes on with its commands
abbrev pub calling_on : {O : Type 0} (r : Running O) (table : TableId) (clients number : ℕ) (before after : Client) → IsCalling r table clients number before → MayAsk r table after → IsSameClient before after → (calls : List Call) → HasCalls r after calls → IsCalling r table clients number after
calling_on r table clients number before after who may same calls has = record {
  may = may;
  by = same.number ∙ who.by;
  closing = λ last. (let c = who.closing (ap (λ n. n + 1) (sym same.number) ∙ last) in (c.0, same.closing ∙ c.1, c.2));
  calls = calls;
  has = has;
}

module _ {Op Reply Store : Type 0} (m : Meaning Op Reply Store) (life : Life Op) (client : ℕ) where
  -- no call was made
  pub makes_none : (es : List (JournalLine Reply)) (rs : List (ReadLine Reply)) → life.cuts ≡ [] → es ≡ [] → rs ≡ [] → HasMadeCalls m life client 0 [] es rs
  makes_none es rs uncut no_es no_rs = record {
    lists = serves_none m life (local_of client []) es rs refl refl refl (rw uncut refl) no_es no_rs;
    count_is = refl;
    entries_at = rw no_es (All-nil (λ (line : JournalLine Reply). IsCallAt [] line.command line.ticket (line.ticket + 1)));
    reads_at = rw no_rs (All-nil (λ (line : ReadLine Reply). IsCallAt [] line.command line.place line.place));
  }

  -- a client has at most as many entries as it was answered commands
  pub few_calls : (n : ℕ) (calls : List Call) (es : List (JournalLine Reply)) (rs : List (ReadLine Reply)) → HasMadeCalls m life client n calls es rs → length (entries_called calls) ≤ n
  few_calls n calls es rs h = (let own = few_own m life client n (local_of client calls) es rs h.lists in omega (arith, own, own_long client calls))

  module _ (n number : ℕ) (calls : List Call) (es : List (JournalLine Reply)) (rs : List (ReadLine Reply)) (h : HasMadeCalls m life client n calls es rs) (next : number ≡ n + 1) (op : Op) (ws : List ℕ) (are : ws ≡ m.encoding.op_words op) (named : named_op life client number ≡ Some op) where
    module _ (call : Call) where
      entries_still : All (λ (line : JournalLine Reply). IsCallAt (calls ++ call ∷ []) line.command line.ticket (line.ticket + 1)) es
      entries_still = All-weaker (λ (line : JournalLine Reply). IsCallAt calls line.command line.ticket (line.ticket + 1)) (λ (line : JournalLine Reply). IsCallAt (calls ++ call ∷ []) line.command line.ticket (line.ticket + 1)) (λ line is. stays_at calls (call ∷ []) line.command line.ticket (line.ticket + 1) is) es h.entries_at

      reads_still : All (λ (line : ReadLine Reply). IsCallAt (calls ++ call ∷ []) line.command line.place line.place) rs
      reads_still = All-weaker (λ (line : ReadLine Reply). IsCallAt calls line.command line.place line.place) (λ (line : ReadLine Reply). IsCallAt (calls ++ call ∷ []) line.command line.place line.place) (λ line is. stays_at calls (call ∷ []) line.command line.place line.place is) rs h.reads_at

      longer : length (calls ++ call ∷ []) ≡ number
      longer = omega (arith, length-append calls (call ∷ []), h.count_is, next)

      here : slice_get (calls ++ call ∷ []) (number - 1) ≡ Some call
      here = (let at : number - 1 ≡ length calls = omega (arith, h.count_is, next) in ap (slice_get (calls ++ call ∷ [])) at ∙ slice_get-last calls call)

    within : number ≤ length (own_ops client life.commands)
    within = named_within life client number op named

    pub fewer : length (entries_called calls) < length (own_ops client life.commands)
    fewer = (let few = few_calls n calls es rs h in omega (arith, few, within, next))

    -- with an entry more
    pub makes_entry : (answered : AnsweredCall) (answer : Answer) (reply : Reply) (es' : List (JournalLine Reply)) (rs' : List (ReadLine Reply)) → answered.answer ≡ answer → answered.entry.ticket ≡ answer.ticket → answered.entry.entry.op ≡ ws → m.encoding.reply_words reply ≡ answer.reply
        → es' ≡ es ++ record { ticket = answer.ticket; client = client; command = number; reply = Some reply } ∷ [] → rs' ≡ rs → HasMadeCalls m life client number (calls ++ Entry answered ∷ []) es' rs'
    makes_entry answered answer reply es' rs' is ticket op_is words entries reads =
        let line : JournalLine Reply = record { ticket = answer.ticket; client = client; command = number; reply = Some reply } in
        let at : answered.answer.ticket ≡ answer.ticket = ap (λ (a : Answer). a.ticket) is in
        let P : JournalLine Reply → Type 0 = λ l. IsCallAt (calls ++ Entry answered ∷ []) l.command l.ticket (l.ticket + 1) in
        record {
          lists = serves_entry m life client n (local_of client calls) es rs h.lists number next op ws are named (local_of client (calls ++ Entry answered ∷ [])) es' rs' answer reply (links client calls answered ws answer.ticket ticket op_is) (answers client calls answered answer is) words entries reads;
          count_is = longer (Entry answered);
          entries_at = rw entries (All-push P es line (entries_still (Entry answered)) (record { some = omega (arith, next); call = Entry answered; there = here (Entry answered); place = at; behind = ap (λ t. t + 1) at }));
          reads_at = rw reads (reads_still (Entry answered));
        }

    -- with a read more
    pub makes_read : (read : SeenRead) (seen : Seen) (reply : Reply) (es' : List (JournalLine Reply)) (rs' : List (ReadLine Reply)) → read.place ≡ seen.place → read.op ≡ ws → read.reply ≡ seen.reply → m.encoding.reply_words reply ≡ seen.reply
        → es' ≡ es → rs' ≡ rs ++ record { client = client; command = number; place = seen.place; reply = reply } ∷ [] → HasMadeCalls m life client number (calls ++ Look read ∷ []) es' rs'
    makes_read read seen reply es' rs' place op_is same words entries reads =
        let line : ReadLine Reply = record { client = client; command = number; place = seen.place; reply = reply } in
        let P : ReadLine Reply → Type 0 = λ l. IsCallAt (calls ++ Look read ∷ []) l.command l.place l.place in
        record {
          lists = serves_read m life client n (local_of client calls) es rs h.lists number next op ws are named (even client calls) seen reply words (local_of client (calls ++ Look read ∷ [])) es' rs' refl refl (own_still client calls read) (answers_still client calls read) (sees client calls read ws seen place op_is same) entries reads;
          count_is = longer (Look read);
          entries_at = rw entries (entries_still (Look read));
          reads_at = rw reads (All-push P rs line (reads_still (Look read)) (record { some = omega (arith, next); call = Look read; there = here (Look read); place = place; behind = place }));
        }

-- what a command comes to
module _ {O Op Reply Store : Type 0} (m : Meaning Op Reply Store) (life : Life Op) (r : Running O) (table : TableId) (clients client n number : ℕ) (before after : Client) (old new : Lines Reply) (w : IsAtWork m life r table clients client n before old) (next : number ≡ n + 1)
    (op : Op) (ws : List ℕ) (are : ws ≡ m.encoding.op_words op) (named : named_op life client number ≡ Some op) (limits : m.is_op op) (value : m.is_op_value op) where
  pub entry_made : (answer : Answer) → HasUpdated r table ws before after answer → NotesEntryLine m client number answer old new → IsAtWork m life r table clients client number after new
  entry_made answer u notes = record {
    who = calling_on r table clients client before after w.who (may_again r table before after w.who.may (Entry u.call) u.made) u.made.same (w.who.calls ++ Entry u.call ∷ []) (u.made.calls w.who.calls w.who.has);
    made = makes_entry m life client n number w.who.calls old.entries.items old.reads.items w.made next op ws are named u.call answer notes.reply new.entries.items new.reads.items u.is.0 u.is.1 u.is.2 notes.words notes.entries_are notes.reads_are;
  }

  pub read_made : (seen : Seen) → HasRead r table ws before after seen → NotesRead m client number seen old new → IsAtWork m life r table clients client number after new
  read_made seen u notes = record {
    who = calling_on r table clients client before after w.who (may_again r table before after w.who.may (Look u.read) u.made) u.made.same (w.who.calls ++ Look u.read ∷ []) (u.made.calls w.who.calls w.who.has);
    made = makes_read m life client n number w.who.calls old.entries.items old.reads.items w.made next op ws are named u.read seen notes.reply new.entries.items new.reads.items u.is.0 u.is.1 u.is.2 notes.words notes.entries_are notes.reads_are;
  }

  fewer_before : length (entries_called w.who.calls) < length (own_ops client life.commands)
  fewer_before = fewer m life client n number w.who.calls old.entries.items old.reads.items w.made next op ws are named

  pub entry_bad : (answer : Answer) → HasUpdated r table ws before after answer → AreOfNoReply m answer.reply → IsOver m life r table clients client after
  entry_bad answer u bad = record {
    who = calling_on r table clients client before after w.who (may_again r table before after w.who.may (Entry u.call) u.made) u.made.same (w.who.calls ++ Entry u.call ∷ []) (u.made.calls w.who.calls w.who.has);
    few = omega (arith, fewer_before, ap length (entries_more w.who.calls u.call), length-append (entries_called w.who.calls) (u.call ∷ []));
    cannot = inr (record {
      place = length w.who.calls;
      call = Entry u.call;
      there = slice_get-last w.who.calls (Entry u.call);
      op = op;
      is = record { limits = limits; value = value; has = sym (u.is.2 ∙ are) };
      bad = subst (AreOfNoReply m) (sym (ap (λ (a : Answer). a.reply) u.is.0)) bad;
    });
  }

  pub read_bad : (seen : Seen) → HasRead r table ws before after seen → AreOfNoReply m seen.reply → IsOver m life r table clients client after
  read_bad seen u bad = record {
    who = calling_on r table clients client before after w.who (may_again r table before after w.who.may (Look u.read) u.made) u.made.same (w.who.calls ++ Look u.read ∷ []) (u.made.calls w.who.calls w.who.has);
    few = omega (arith, fewer_before, ap length (entries_same w.who.calls u.read));
    cannot = inr (record {
      place = length w.who.calls;
      call = Look u.read;
      there = slice_get-last w.who.calls (Look u.read);
      op = op;
      is = record { limits = limits; value = value; has = sym (u.is.1 ∙ are) };
      bad = subst (AreOfNoReply m) (sym u.is.2) bad;
    });
  }

  pub worn_over : HasNoMore r table before after → KeepsLast after → IsOver m life r table clients client after
  worn_over more last = record {
    who = calling_on r table clients client before after w.who (may_still r table before after w.who.may (ap is_live last.keeps) more) more.same w.who.calls (more.calls w.who.calls w.who.has);
    few = omega (arith, fewer_before);
    cannot = inl (record { last = last; fewer = fewer_before });
  }

  -- what an answered command comes to, by whether the words of the answer are a reply's
  pub entry_makes : (answer : Answer) → HasUpdated r table ws before after answer → (is_reply : Bool) → AddsClientEntry m client number answer old new is_reply → MakesCommand m life r table clients client number after new is_reply
  entry_makes answer u true notes = entry_made answer u notes
  entry_makes answer u false bad = entry_bad answer u bad.1

  pub read_makes : (seen : Seen) → HasRead r table ws before after seen → (is_reply : Bool) → AddsClientRead m client number seen old new is_reply → MakesCommand m life r table clients client number after new is_reply
  read_makes seen u true notes = read_made seen u notes
  read_makes seen u false bad = read_bad seen u bad.1
