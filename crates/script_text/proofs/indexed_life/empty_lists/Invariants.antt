use Rattle.std.proofs.Common.{◌≡◌, length, All, []}
use Rattle.script_text.proofs.indexed_life.empty_lists.Given as goal

abbrev pub invariant-loop : goal.invariant-loop
invariant-loop g l = record { count : length l.lists.items ≡ l.counter; empty : All (λ own. own.items ≡ []) l.lists.items }
