-- The lawful state's part on locks: each lock word counts the rights on its replica and its pins, and exclusive rights
-- exclude the others.
use Rattle.std.specs.Prelude.{◌≡◌, ◌+◌, ◌*◌, ◌<◌, ◌≤◌, ℕ, List, Some, slice_index, [], ◌∷◌}
use Rattle.cx_base.specs.Codes.{root_replica_of}
use Rattle.cx_core.specs.declared.local.Local.{Local}
use Rattle.cx_core.specs.Layout.{cur_at, lock_at}
use Rattle.cx_core.specs.LockEvents.{exclusive_mark}
use Rattle.cx_core.specs.Rights.{claims, downgraded_on, holds, is_on, rights, rights_on, shared_on}
use Rattle.cx_core.specs.State.{EachLocal}

-- what a caller's rights on a replica add to its lock word: an exclusive right 2^32, and each other one 1
abbrev pub marks : ℕ → ℕ → Local → ℕ
marks callers r l = exclusive_mark * holds r l + claims callers r l + is_on r l.passer

-- the pin on the replica that the code in CUR names
abbrev pub pin : ℕ → ℕ → ℕ → ℕ
pin callers r cur = is_on r (Some (root_replica_of callers cur))

-- a sum over all callers
abbrev pub total : (Local → ℕ) → List Local → ℕ
total f [] = 0
total f (l ∷ ls) = f l + total f ls

-- a lock word is the sum of all marks and the pin. At most one caller holds the replica exclusively, and then nobody
-- has another right there but passers, and it is not pinned.
pub record LockWord (callers cur : ℕ) (locals : List Local) (r word : ℕ) : Type 0 where
  pub counted : word ≡ total (marks callers r) locals + pin callers r cur
  pub one : total (holds r) locals ≤ 1
  pub alone : 0 < total (holds r) locals → total (claims callers r) locals + pin callers r cur ≡ 0

-- a caller has at most two rights, on replicas that there are, and on each at most one beside a win
pub record FewRights (callers : ℕ) (l : Local) : Type 0 where
  pub two : rights callers l ≤ 2
  pub below : (r : ℕ) → 0 < rights_on callers r l → r < 2 * callers
  pub apart : (r : ℕ) → holds r l + is_on r (shared_on l) + is_on r (downgraded_on l) + is_on r l.passer ≤ 1

-- Locks: each lock word is the sum of all marks and the pin, held exclusively by one caller at most, and each caller has at most two rights
pub record Locks (callers : ℕ) (words : List ℕ) (locals : List Local) : Type 0 where
  pub each : (r : ℕ) → r < 2 * callers → LockWord callers (slice_index words cur_at) locals r (slice_index words (lock_at callers r))
  pub few : EachLocal locals (λ _ l. FewRights callers l)
