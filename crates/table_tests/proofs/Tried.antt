-- What tries of a replica hand out, and the words of an operation that was read.
use Rattle.std.proofs.Common.{Bool, ◌≡◌, ◌^◌, ◌<◌, ℕ, List, drop, slice_index, take, length, Option, Some, None, IfSome, Result, Ok, Err}
use Rattle.std.proofs.lemmas.List.Elements.{All-drop, All-from_get_or, All-same, All-take}
use Rattle.std.specs.Result.{result_ok}
use Rattle.cx_base.specs.Memory.{Words}
use Rattle.cx_core.specs.declared.kinds.Kind.TheVariants.{TryExclusive}
use Rattle.table_invariant.specs.Fitting.{Fitting}
use Rattle.table_invariant.specs.Running.{IsSeatOf, Running}
use Rattle.table_invariant.specs.Seats.{Seated}
use Rattle.table_invariant.specs.Steps.{Steps}
use Rattle.cx_table.specs.Right.{Right}
use Rattle.cx_table.specs.Tokens.{TriedExclusive, TriedShared}
use Rattle.replica.specs.Held.{IsHeldShared, IsSized}
use Rattle.replica.specs.Laws.{IsTaken, shared_held, taken_held}

module _ {O : Type 0} (lines : ℕ) (r : Running O) (step : O → List ℕ → List ℕ → List ℕ × List ℕ) (reads : O → List ℕ → Bool) (lawful : List ℕ → Type 0) where
  -- where an exclusive try of replica `q` handed a right out, the replica was just taken by it
  pub taken_tried : (q found : ℕ) (before after : Seated) (o : Option Right) → IsSized lines r → Steps r step reads (TryExclusive q) found before after → TriedExclusive r.callers q after found o → Fitting r.lines lawful r.base (step r.object) after.known → IfSome o (IsTaken lines r lawful (step r.object) after)
  taken_tried q found before after (Some held) sized s tried fits = taken_held lines r step reads lawful q found before after held sized s tried fits
  taken_tried q found before after None sized s tried fits = tt

  -- where a shared try of replica `q` handed a hold out, the caller holds the replica shared
  pub shared_tried : (q found : ℕ) (after : Seated) (o : Result Right Right) → IsSized lines r → IsSeatOf r after → TriedShared r.callers q after found o → Fitting r.lines lawful r.base (step r.object) after.known → IfSome (result_ok o) (IsHeldShared lines r lawful after)
  shared_tried q found after (Ok held) sized of tried fits = shared_held lines r lawful step after held sized of tried.2 fits
  shared_tried q found after (Err mark) sized of tried fits = tt

-- the 144 words behind the first one of a list of 64-bit words are the words of an operation
pub rest_words : (ws op : List ℕ) → length op ≡ 144 → ((i : ℕ) → slice_index ws i < 2 ^ 64) → op ≡ take 144 (drop 1 ws) → Words 144 op
rest_words ws op long fit is = record {
  long = long;
  fit = All-same (λ x. x < 2 ^ 64) op (take 144 (drop 1 ws)) is (All-take (λ x. x < 2 ^ 64) 144 (drop 1 ws) (All-drop (λ x. x < 2 ^ 64) 1 ws (All-from_get_or (λ x. x < 2 ^ 64) ws 0 (λ i below. fit i))));
}
