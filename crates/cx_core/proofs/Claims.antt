-- Who holds a replica exclusively, where the part on locks stands: whoever claims a replica, or pins it, excludes it.
use Rattle.std.proofs.Common.{◌≡◌, ◌≢◌, ◌+◌, ◌*◌, ◌<◌, inl, inr, ℕ, List, Some, ap, sym, ◌∙◌, arith, refl}
use Rattle.std.proofs.lemmas.Bool.{cases_eq}
use Rattle.std.specs.List.{slice_get}
use Rattle.std.specs.Option.{option_map}
use Rattle.cx_core.specs.declared.local.HeldExclusive.{HeldExclusive}
use Rattle.cx_core.specs.declared.local.HeldShared.{HeldShared}
use Rattle.cx_core.specs.declared.local.Local.{Local}
use Rattle.cx_core.specs.LawfulLocks.{Locks, LockWord, pin, total}
use Rattle.cx_core.specs.LawfulRegions.{IsUnheld}
use Rattle.cx_core.specs.Rights.{claims, holds, is_on, shared_on}
use Rattle.cx_core.proofs.Sums.{on_same, total_member, total_two}

-- a replica that is claimed or pinned is held exclusively by nobody
pub unheld_claimed : (callers cur : ℕ) (locals : List Local) (r word : ℕ) → LockWord callers cur locals r word → 0 < total (claims callers r) locals + pin callers r cur → total (holds r) locals ≡ 0
unheld_claimed callers cur locals r word lock some =
    elim (cases_eq (total (holds r) locals) 0) [
      | inl none ↦ none
      | inr held ↦ (let nobody = lock.alone (omega (arith, held)) in absurd (omega arith))
    ]

-- a caller that holds a replica exclusively, or shared
pub holds_one : (l : Local) (h : HeldExclusive) → l.exclusive ≡ Some h → holds h.replica l ≡ 1
holds_one l h has = ap (λ o. is_on h.replica (option_map (λ (x : HeldExclusive). x.replica) o)) has ∙ on_same h.replica h.replica refl

pub shared_one : (l : Local) (h : HeldShared) → l.shared ≡ Some h → is_on h.replica (shared_on l) ≡ 1
shared_one l h has = ap (λ o. is_on h.replica (option_map (λ (x : HeldShared). x.replica) o)) has ∙ on_same h.replica h.replica refl

-- where nobody adds to the sum, nobody holds the replica
pub unheld_none : (locals : List Local) (r : ℕ) → total (holds r) locals ≡ 0 → IsUnheld locals r
unheld_none locals r none d x there held =
    let member = total_member (holds r) locals d x there in
    let one : holds r x ≡ 1 = ap (is_on r) held ∙ on_same r r refl in
    omega (arith, member, one)

-- a caller's rights are on replicas that there are, and a shared one on none that another holds exclusively
module _ (callers : ℕ) (words : List ℕ) (locals : List Local) (locks : Locks callers words locals) where
  -- a replica that the caller `d` holds exclusively is below twice the number of callers
  pub held_below : (d : ℕ) (x : Local) (h : HeldExclusive) → slice_get locals d ≡ Some x → x.exclusive ≡ Some h → h.replica < 2 * callers
  held_below d x h there has = (locks.few d x there).below h.replica (omega (arith, holds_one x h has))

  -- a replica that the caller `d` holds shared is below twice the number of callers
  pub shared_below : (d : ℕ) (x : Local) (h : HeldShared) → slice_get locals d ≡ Some x → x.shared ≡ Some h → h.replica < 2 * callers
  shared_below d x h there has = (locks.few d x there).below h.replica (omega (arith, shared_one x h has))

  -- a replica that the caller `d` holds shared is held exclusively by no caller
  pub shared_alone : (d : ℕ) (x : Local) (h : HeldShared) → slice_get locals d ≡ Some x → x.shared ≡ Some h → total (holds h.replica) locals ≡ 0
  shared_alone d x h there has =
      let word = locks.each h.replica (shared_below d x h there has) in
      let claim = total_member (claims callers h.replica) locals d x there in
      let one = shared_one x h has in
      elim (cases_eq (total (holds h.replica) locals) 0) [
        | inl none ↦ none
        | inr some ↦ (let nobody = word.alone (omega (arith, some)) in absurd (omega arith))
      ]

  -- the exclusive rights `h` and `k` of two callers `c` and `d` are on different replicas
  pub held_alone : (c d : ℕ) (l x : Local) (h k : HeldExclusive) → slice_get locals c ≡ Some l → l.exclusive ≡ Some h → slice_get locals d ≡ Some x → x.exclusive ≡ Some k → d ≢ c → k.replica ≢ h.replica
  held_alone c d l x h k at has there has_too apart same =
      let word = locks.each h.replica (held_below c l h at has) in
      let both = total_two (holds h.replica) locals c d l x at there (λ e. apart (sym e)) in
      let one = holds_one l h has in
      let too : holds h.replica x ≡ 1 = ap (λ n. holds n x) (sym same) ∙ holds_one x k has_too in
      omega (arith, word.one, both, one, too)
