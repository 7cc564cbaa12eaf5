-- The replicas that the root names are held exclusively by nobody: each is pinned, or claimed by a right.
use Rattle.std.proofs.Common.{◌≡◌, ◌+◌, ◌*◌, ◌<◌, ◌≤◌, ℕ, List, Some, slice_index, refl, ap, ◌∙◌, arith}
use Rattle.std.proofs.lemmas.Nat.{mod_below}
use Rattle.std.specs.List.{slice_get}
use Rattle.std.specs.Option.{option_map}
use Rattle.cx_base.specs.Codes.{root_replica_of}
use Rattle.cx_core.specs.declared.local.HeldDowngraded.{HeldDowngraded}
use Rattle.cx_core.specs.declared.local.Local.{Local}
use Rattle.cx_core.specs.declared.local.WonCode.{WonCode}
use Rattle.cx_core.specs.LawfulLocks.{Locks, pin, total}
use Rattle.cx_core.specs.Layout.{cur_at}
use Rattle.cx_core.specs.Rights.{claims, downgraded_on, holds, is_on, won_on}
use Rattle.cx_core.proofs.Claims.{unheld_claimed}
use Rattle.cx_core.proofs.Sums.{on_same, total_member}

-- a replica that there is, which nobody holds exclusively
pub record NobodyHolds (callers : ℕ) (locals : List Local) (r : ℕ) : Type 0 where
  pub below : r < 2 * callers
  pub unheld : total (holds r) locals ≡ 0

-- a win is on the replica of the code before it, and a downgraded right on its replica
pub won_one : (callers : ℕ) (l : Local) (w : WonCode) → l.won ≡ Some w → is_on (root_replica_of callers w.before) (won_on callers l) ≡ 1
won_one callers l w has =
    let r = root_replica_of callers w.before in
    ap (λ o. is_on r (option_map (λ (x : WonCode). root_replica_of callers x.before) o)) has ∙ on_same r r refl

pub downgraded_one : (l : Local) (h : HeldDowngraded) → l.downgraded ≡ Some h → is_on h.replica (downgraded_on l) ≡ 1
downgraded_one l h has = ap (λ o. is_on h.replica (option_map (λ (x : HeldDowngraded). x.replica) o)) has ∙ on_same h.replica h.replica refl

module _ (callers : ℕ) (words : List ℕ) (locals : List Local) (some : 1 ≤ callers) (locks : Locks callers words locals) where
  abbrev cur : ℕ
  cur = slice_index words cur_at

  pub nobody_holds : (r : ℕ) → r < 2 * callers → 0 < total (claims callers r) locals + pin callers r cur → NobodyHolds callers locals r
  nobody_holds r small claimed = record { below = small; unheld = unheld_claimed callers cur locals r _ (locks.each r small) claimed }

  pub current_unheld : NobodyHolds callers locals (root_replica_of callers cur)
  current_unheld =
      let r = root_replica_of callers cur in
      nobody_holds r (mod_below cur (2 * callers) (omega arith)) (omega (arith, on_same r r refl))

  pub won_unheld : (caller : ℕ) (l : Local) (w : WonCode) → slice_get locals caller ≡ Some l → l.won ≡ Some w → NobodyHolds callers locals (root_replica_of callers w.before)
  won_unheld caller l w at has =
      let r = root_replica_of callers w.before in
      nobody_holds r (mod_below w.before (2 * callers) (omega arith)) (omega (arith, won_one callers l w has, total_member (claims callers r) locals caller l at))

  pub downgraded_unheld : (caller : ℕ) (l : Local) (h : HeldDowngraded) → slice_get locals caller ≡ Some l → l.downgraded ≡ Some h → NobodyHolds callers locals h.replica
  downgraded_unheld caller l h at has =
      let one = downgraded_one l h has in
      nobody_holds h.replica ((locks.few caller l at).below h.replica (omega (arith, one))) (omega (arith, one, total_member (claims callers h.replica) locals caller l at))
