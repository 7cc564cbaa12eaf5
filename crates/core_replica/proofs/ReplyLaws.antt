-- What answers tell their callers.
use Rattle.std.proofs.Common.{◌≡◌, ◌<◌, ◌↔◌, inl, inr, ℕ, List, Some, ap, sym, ◌∙◌, arith}
use Rattle.std.proofs.lemmas.Bool.{cases_lt}
use Rattle.std.proofs.lemmas.Option.{same_Some}
use Rattle.std.specs.List.{slice_get}
use Rattle.cx_core.specs.declared.entry.Entry.{Entry}
use Rattle.cx_core.specs.declared.local.Answer.{Answer}
use Rattle.cx_core.specs.declared.local.Linked.{Linked}
use Rattle.cx_core.specs.declared.local.Local.{Local}
use Rattle.cx_core.specs.declared.local.SeenRead.{SeenRead}
use Rattle.cx_core.specs.Lawful.{Tickets}
use Rattle.cx_core.specs.LawfulAnswers.{Answers}
use Rattle.cx_core.specs.State.{Instance}
use Rattle.core_replica.specs.Replies.{IsReplyToOwn}
use Rattle.core_replica.proofs.OwnLaws.{answered_own, own_linked, own_reply}

module _ (instance : Instance) (history : List Entry) (words : List ℕ) (locals : List Local) (caller : ℕ) (l : Local) (answers : Answers instance history words locals) (at : slice_get locals caller ≡ Some l) where
  pub reply_own : Tickets instance history locals → (i : ℕ) (x : Answer) → slice_get l.answered i ≡ Some x → IsReplyToOwn instance history l i x
  reply_own tickets i x there =
      let own = answered_own instance history locals caller l tickets at i x there in
      let y : Linked = record { ticket = x.ticket; entry = own.0.entry } in
      let mine : slice_get l.own i ≡ Some y = own.1 ∙ ap (λ t. Some (let z : Linked = record { ticket = t; entry = own.0.entry } in z)) own.2 in
      let linked = own_linked instance history locals caller l tickets at i y mine in
      let answer = (answers.each caller l at).entries i x there in
      record {
        entry = own.0.entry;
        own = mine;
        linked = record { from = linked.0; at = linked.1 };
        reply = same_Some x.reply _ (sym answer.reply ∙ own_reply instance history locals caller l tickets at i y mine);
      }

  -- a read is above those of its caller's own entries that it counts, and no others
  pub read_counts : (n i : ℕ) (x : SeenRead) (y : Linked) → slice_get l.seen_reads n ≡ Some x → slice_get l.own i ≡ Some y → (y.ticket < x.place) ↔ (i < x.before)
  read_counts n i x y there own =
      let is = (answers.each caller l at).reads n x there in
      (λ lower. elim (cases_lt i x.before) [ inl counted ↦ counted | inr past ↦ (let higher = is.above i y own past in absurd (omega arith)) ], λ counted. is.below i y own counted)
