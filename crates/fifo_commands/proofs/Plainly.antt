-- No client is stopped where there is no cut, and so none runs out of free cells.
use Rattle.std.proofs.Common.{◌≡◌, ◌+◌, ◌-◌, ◌^◌, inl, inr, ℕ, true, List, [], ◌∷◌, length, get_or, take, Option, Some, None, IsSome, IfSome, refl, sym, ap, subst, ◌∙◌, arith}
use Rattle.std.specs.Prelude.{All}
use Rattle.std.proofs.lemmas.List.Elements.{All-head, All-weaker}
use Rattle.life_records.specs.Lives.{HasEnded, IsEndedEntry, IsLegal, IsLegalFull, IsLegalLife, IsLegalRead, IsLegalStop, has_full, has_stop, is_stopped, ops_of, store_after_all, store_at}
use Rattle.life_records.specs.Records.{JournalLine, LifeRecord, ReadLine}
use Rattle.life_records.specs.Scripts.{named_op, own_ops}
use Rattle.fifo_object.specs.Queue.{Queue, queue_after, queue_after_all, reply_to}
use Rattle.fifo_object.specs.declared.operations.FifoOp.{FifoOp}
use Rattle.fifo_object.specs.declared.operations.FifoReply.{FifoReply}
use Rattle.fifo_object.specs.FifoMeaning.{fifo_meaning}
use Rattle.fifo_commands.specs.FifoLives.{CommandHasReply, IsFifoLife, IsFifoRead, queue_at, uncut}
use Rattle.fifo_commands.specs.Leaving.{without_cuts}
use Rattle.fifo_commands.specs.declared.record.FifoLife.{FifoLife}

none_of : {X : Type 0} (P : X → Type 0) (xs : List X) → All P xs → ((x : X) → P x → ⊥) → xs ≡ []
none_of P [] all never = refl
none_of P (x ∷ xs) all never = absurd (never x (All-head P x xs all))

-- the store after operations is the queue after them
pub after_is : (lines : ℕ) (queue : Queue) (ops : List FifoOp) → store_after_all (fifo_meaning lines) queue ops ≡ queue_after_all lines queue ops
after_is lines queue [] = refl
after_is lines queue (op ∷ ops) = after_is lines (queue_after lines queue op) ops

reply_at : (lines : ℕ) (one other : Queue) (life : FifoLife) (client command : ℕ) (reply : FifoReply) → one ≡ other →
    IfSome (named_op (uncut life) client command) (λ op. reply ≡ reply_to lines one op) → CommandHasReply lines other life client command reply
reply_at lines one other life client command reply same has = subst (λ q. CommandHasReply lines q life client command reply) same has

module _ (lines place : ℕ) (queue : Queue) (life : FifoLife) (report : LifeRecord FifoReply) (is : IsLegalLife (fifo_meaning lines) place queue (uncut life) report) where
  abbrev legal : IsLegal (fifo_meaning lines) place queue (uncut life) report
  legal = is.legal

  pub no_stop : report.stops ≡ []
  no_stop = none_of (IsLegalStop (uncut life)) report.stops legal.stops (λ line stop. (let limit : line.steps ≡ 2 ^ 64 - 1 = stop.steps in omega (arith, limit, stop.limit)))

  pub no_full : report.fulls ≡ []
  no_full = none_of (IsLegalFull (uncut life) report) report.fulls legal.fulls (λ line full.
      let stopped : is_stopped line.note.holder [] ≡ true = ap (is_stopped line.note.holder) (sym no_stop) ∙ full.stopped in cc)

  all_of : (client : ℕ) (e : HasEnded (uncut life) report client) → e.answered ≡ length (own_ops client life.commands)
  all_of client e = elim e.over [
    | inl all ↦ all
    | inr (inl stop) ↦ (let no : has_stop client (e.answered + 1) [] ≡ true = ap (has_stop client (e.answered + 1)) (sym no_stop) ∙ stop in cc)
    | inr (inr full) ↦ (let no : has_full client (e.answered + 1) [] ≡ true = ap (has_full client (e.answered + 1)) (sym no_full) ∙ full in cc)
  ]

  replied : (client answered : ℕ) (line : JournalLine FifoReply) → IsEndedEntry client answered report.stops line → IsSome line.reply
  replied client answered line (inl done) = done.2
  replied client answered line (inr last) = (let no : has_stop client (answered + 1) [] ≡ true = ap (has_stop client (answered + 1)) (sym no_stop) ∙ last.2 in cc)

  at_is : (n : ℕ) → store_at (fifo_meaning lines) queue (uncut life) report.journal n ≡ queue_at lines queue life report.journal n
  at_is n = after_is lines queue (ops_of (uncut life) (take n report.journal))

  reply_is : (n client command : ℕ) (reply : Option FifoReply) → IfSome reply (CommandHasReply lines (store_at (fifo_meaning lines) queue (uncut life) report.journal n) life client command) →
      IfSome reply (CommandHasReply lines (queue_at lines queue life report.journal n) life client command)
  reply_is n client command (Some reply) has = reply_at lines (store_at (fifo_meaning lines) queue (uncut life) report.journal n) (queue_at lines queue life report.journal n) life client command reply (at_is n) has
  reply_is n client command None has = has

  read_is : (line : ReadLine FifoReply) → IsLegalRead (fifo_meaning lines) place queue (uncut life) report.journal line → IsFifoRead lines place queue life report.journal line
  read_is line r = record {
    named = r.named;
    reads = r.reads;
    from = r.from;
    to = r.to;
    reply = reply_at lines (store_at (fifo_meaning lines) queue (uncut life) report.journal (line.place - place)) (queue_at lines queue life report.journal (line.place - place)) life line.client line.command line.reply (at_is (line.place - place)) r.reply;
  }

  pub fifo_life : IsFifoLife lines place queue life (without_cuts report)
  fifo_life = record {
    clients = is.clients;
    choice = is.choice;
    from = is.from;
    tickets = legal.tickets;
    interleaved = legal.interleaved;
    reads_in_order = legal.reads_in_order;
    answered = record {
      once = λ client command takes_part one up. (
          let e = legal.ended client takes_part in
          e.once command one (omega (arith, up, all_of client e)));
      replies = λ k d within. (
          let line = get_or report.journal k d in
          let e = legal.ended line.client (legal.interleaved.named k d within).takes_part in
          replied line.client e.answered line (e.entries k d within refl));
    };
    replies = λ i line there. reply_is i line.client line.command line.reply (legal.replies i line there);
    legal_reads = All-weaker (IsLegalRead (fifo_meaning lines) place queue (uncut life) report.journal) (IsFifoRead lines place queue life report.journal) read_is report.reads legal.legal_reads;
    in_turn = legal.in_turn;
    prefix = is.kept.prefix;
    kept = is.kept.answered;
    items = is.kept.items ∙ ap length (at_is report.kept);
  }
