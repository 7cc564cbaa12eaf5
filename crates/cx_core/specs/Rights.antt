-- The rights of a caller on replicas: exclusive, shared, a passer's mark, downgraded, and an unretired win, which is a
-- right on the replica of the code before it.
use Rattle.std.specs.Prelude.{ℕ, ◌+◌, ◌==◌, Bool, false, if◌then◌else◌, List, [], Option, Some, None}
use Rattle.std.specs.Option.{option_map}
use Rattle.cx_base.specs.Codes.{root_replica_of}
use Rattle.cx_core.specs.declared.local.HeldDowngraded.{HeldDowngraded}
use Rattle.cx_core.specs.declared.local.HeldExclusive.{HeldExclusive}
use Rattle.cx_core.specs.declared.local.HeldShared.{HeldShared}
use Rattle.cx_core.specs.declared.local.Local.{Local}
use Rattle.cx_core.specs.declared.local.WonCode.{WonCode}

-- the replica on which a caller has an exclusive right, if any
abbrev pub exclusive_on : Local → Option ℕ
exclusive_on l = option_map (λ (h : HeldExclusive). h.replica) l.exclusive

-- the replica on which a caller has a shared right, if any
abbrev pub shared_on : Local → Option ℕ
shared_on l = option_map (λ (h : HeldShared). h.replica) l.shared

-- the replica on which a caller has a downgraded right, if any
abbrev pub downgraded_on : Local → Option ℕ
downgraded_on l = option_map (λ (h : HeldDowngraded). h.replica) l.downgraded

-- the replica of the code before an unretired win of a caller, if it has one
abbrev pub won_on : ℕ → Local → Option ℕ
won_on callers l = option_map (λ (w : WonCode). root_replica_of callers w.before) l.won

-- whether a right, if any, is on this replica
abbrev pub is_at : ℕ → Option ℕ → Bool
is_at r None = false
is_at r (Some q) = q == r

-- 1 where a right is on this replica, and else 0
abbrev pub is_on : ℕ → Option ℕ → ℕ
is_on r o = if is_at r o then 1 else 0

-- 1 where there is a right
abbrev pub has : Option ℕ → ℕ
has None = 0
has (Some q) = 1

-- the number of a caller's rights
abbrev pub rights : ℕ → Local → ℕ
rights callers l = has (exclusive_on l) + has (shared_on l) + has l.passer + has (downgraded_on l) + has (won_on callers l)

-- the number of a caller's exclusive rights on a replica, 0 or 1
abbrev pub holds : ℕ → Local → ℕ
holds r l = is_on r (exclusive_on l)

-- the number of a caller's rights on a replica that exclude an exclusive one of another caller: shared, downgraded and an unretired win
abbrev pub claims : ℕ → ℕ → Local → ℕ
claims callers r l = is_on r (shared_on l) + is_on r (downgraded_on l) + is_on r (won_on callers l)

-- the number of a caller's rights on a replica
abbrev pub rights_on : ℕ → ℕ → Local → ℕ
rights_on callers r l = holds r l + claims callers r l + is_on r l.passer

-- the words of the replica that is held exclusively, none where there is none
abbrev pub held_words : Option HeldExclusive → List ℕ
held_words None = []
held_words (Some h) = h.words

-- the dirty addresses of the replica that is held exclusively, none where there is none
abbrev pub held_dirty : Option HeldExclusive → List ℕ
held_dirty None = []
held_dirty (Some h) = h.dirty
