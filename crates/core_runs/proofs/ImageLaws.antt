-- Which replicas are the full image after their place.
use Rattle.std.proofs.Common.{◌≡◌, ◌+◌, ◌*◌, ◌<◌, ℕ, Some, slice_index, refl, ap, ◌∙◌, arith}
use Rattle.std.proofs.lemmas.Nat.{mod_below}
use Rattle.std.specs.List.{slice_get}
use Rattle.cx_base.specs.Codes.{root_replica_of}
use Rattle.cx_core.specs.declared.local.Local.{Local}
use Rattle.cx_core.specs.Lawful.{Lawful}
use Rattle.cx_core.specs.LawfulLocks.{pin, total}
use Rattle.cx_core.specs.LawfulRegions.{IsReplicaImage}
use Rattle.cx_core.specs.Layout.{cur_at, lock_at}
use Rattle.cx_core.specs.Rights.{claims, is_on, shared_on}
use Rattle.cx_core.specs.State.{Instance, State}
use Rattle.cx_core.proofs.Claims.{unheld_claimed, unheld_none}
use Rattle.cx_core.proofs.Sums.{on_same, total_member}

module _ (instance : Instance) (s : State) (law : Lawful instance s) where
  pub image_unheld : (r : ℕ) → r < 2 * instance.callers → 0 < total (claims instance.callers r) s.locals + pin instance.callers r (slice_index s.words cur_at) → IsReplicaImage instance law.history s.words r
  image_unheld r small some =
      let word = slice_index s.words (lock_at instance.callers r) in
      law.regions.unheld r small (unheld_none s.locals r (unheld_claimed instance.callers (slice_index s.words cur_at) s.locals r word (law.locks.each r small) some))

  pub image_claimed : (caller r : ℕ) (l : Local) → slice_get s.locals caller ≡ Some l → 0 < claims instance.callers r l → IsReplicaImage instance law.history s.words r
  image_claimed caller r l at some =
      image_unheld r ((law.locks.few caller l at).below r (omega (arith, some))) (omega (arith, some, total_member (claims instance.callers r) s.locals caller l at))

  pub image_shared : (caller r : ℕ) (l : Local) → slice_get s.locals caller ≡ Some l → shared_on l ≡ Some r → IsReplicaImage instance law.history s.words r
  image_shared caller r l at held =
      let one : is_on r (shared_on l) ≡ 1 = ap (is_on r) held ∙ on_same r r refl in
      image_claimed caller r l at (omega arith)

  pub image_current : IsReplicaImage instance law.history s.words (root_replica_of instance.callers (slice_index s.words cur_at))
  image_current =
      let cur = slice_index s.words cur_at in
      let r = root_replica_of instance.callers cur in
      let small : r < 2 * instance.callers = mod_below cur (2 * instance.callers) (omega (arith, law.shape.some)) in
      image_unheld r small (omega (arith, on_same r r refl))
