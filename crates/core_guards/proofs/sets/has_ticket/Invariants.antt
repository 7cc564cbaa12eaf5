use Rattle.std.proofs.Common.{◌≢◌, ◌≡◌, ◌<◌, ℕ, Some}
use Rattle.std.specs.List.{slice_get}
use Rattle.cx_core.specs.declared.local.Linked.{Linked}
use Rattle.core_guards.proofs.sets.has_ticket.Given as goal

abbrev pub invariant-loop-linked : goal.invariant-loop-linked
invariant-loop-linked l = (i : ℕ) (x : Linked) → i < l.linked-index → slice_get l.own i ≡ Some x → x.ticket ≢ l.ticket
