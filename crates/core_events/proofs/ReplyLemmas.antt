-- What a raise answers, by the entry that is not answered and by the read.
use Rattle.std.proofs.Common.{◌≡◌, ◌<◌, ◌≤◌, ℕ, List, [], ◌∷◌, cond, Option, Some, ap, sym, ◌∙◌}
use Rattle.std.proofs.lemmas.Bool.{le-ltb, lt-ltb}
use Rattle.cx_core.specs.declared.entry.Entry.{Entry}
use Rattle.cx_core.specs.declared.local.Answer.{Answer}
use Rattle.cx_core.specs.declared.local.Linked.{Linked}
use Rattle.cx_core.specs.RootEvents.{answers_below, reply_after}
use Rattle.cx_core.specs.State.{Instance}

module _ (instance : Instance) (history : List Entry) (place : ℕ) (o : Option Linked) where
  abbrev answer_of : Linked → List Answer
  answer_of x = record { ticket = x.ticket; reply = reply_after instance history x.ticket x.entry.op } ∷ []

  -- an unanswered entry below the place is answered with the reply that the history gives
  pub answered_one : (x : Linked) (reply : List ℕ) → o ≡ Some x → x.ticket < place → reply ≡ reply_after instance history x.ticket x.entry.op →
      (record { ticket = x.ticket; reply = reply } ∷ []) ≡ answers_below instance history place o
  answered_one x reply is below same =
      ap (λ (r : List ℕ). record { ticket = x.ticket; reply = r } ∷ []) same
      ∙ sym (ap (answers_below instance history place) is ∙ ap (λ b. cond b (answer_of x) []) (lt-ltb x.ticket place below))

  -- nothing is answered of an unanswered entry at or above the place
  pub answered_late : (x : Linked) → o ≡ Some x → place ≤ x.ticket → [] ≡ answers_below instance history place o
  answered_late x is late = sym (ap (answers_below instance history place) is ∙ ap (λ b. cond b (answer_of x) []) (le-ltb x.ticket place late))
