-- The part on the ring: its frames, and what a step has to leave of it.
use Rattle.std.proofs.Common.{◌≡◌, ◌≢◌, ◌<◌, ◌≤◌, ◌⊎◌, inl, inr, ℕ, List, set, slice_index, refl, ap, sym, subst, ◌∙◌, arith, Some}
use Rattle.std.proofs.lemmas.List.{get_or-set_other, get_or-set_same}
use Rattle.std.proofs.lemmas.Option.{slice_get_within}
use Rattle.std.specs.List.{slice_get}
use Rattle.cx_base.specs.Codes.{root_place_of}
use Rattle.cx_core.specs.declared.local.Local.{Local}
use Rattle.cx_core.specs.declared.local.Protection.TheVariants.{Confirmed}
use Rattle.cx_core.specs.declared.local.Scan.{Scan}
use Rattle.cx_core.specs.Layout.{cur_at, free_at, lock_at, low_at, need_at}
use Rattle.cx_core.specs.Lawful.{Shape}
use Rattle.cx_core.specs.LawfulRing.{InRing, Ring, ScanStands}
use Rattle.cx_core.specs.RingEvents.{need_word}
use Rattle.cx_core.specs.State.{Instance}
use Rattle.cx_core.proofs.Locals.{item_after}
use Rattle.cx_core.proofs.RootCodes.{place_up}
use Rattle.core_queue.specs.Frames.{SameRing}

-- what is confirmed in a put local state was confirmed before, or is not closed
abbrev pub IsConfirmedOpen : List ℕ → Local → Local → Type 0
IsConfirmedOpen words l l' = (p : ℕ) → l'.protection ≡ Confirmed p → (slice_index words low_at ≤ p) ⊎ (l.protection ≡ Confirmed p)

-- what a caller that needs cells by a confirmed protection is not to lose
abbrev pub KeepsConfirmed : ℕ → List Local → Type 0
KeepsConfirmed free locals = (d : ℕ) (x : Local) → slice_get locals d ≡ Some x → (p : ℕ) → x.protection ≡ Confirmed p → free ≤ p

-- what is left of the words that the ring names, but for one caller's need
pub record RingStands (instance : Instance) (words words' : List ℕ) (caller : ℕ) : Type 0 where
  pub closed : slice_index words' free_at ≤ slice_index words' low_at
  pub current : slice_index words' low_at ≤ root_place_of instance.callers (slice_index words' cur_at)
  pub low : slice_index words low_at ≤ slice_index words' low_at
  pub needs : (d : ℕ) → d < instance.callers → d ≢ caller → slice_index words' (need_at d) ≡ slice_index words (need_at d)

-- A scan stands where one caller's local state was put: it passed a caller that confirmed since, but its bound is closed, and so
-- at most what was found open.
pub scan_still : (instance : Instance) (words words' : List ℕ) (locals : List Local) (caller : ℕ) (l l' : Local) (s : Scan) → slice_get locals caller ≡ Some l →
    slice_index words low_at ≤ slice_index words' low_at → IsConfirmedOpen words l l' → ScanStands instance words locals s → ScanStands instance words' (set locals caller l') s
scan_still instance words words' locals caller l l' s at up confirmed old = record {
  bound = old.bound;
  closed = omega (arith, old.closed);
  next = old.next;
  passed = λ d x there before p is. elim (item_after locals caller d l' x (slice_get_within locals caller l at) there) [
    | inl e ↦ elim (confirmed p (ap (λ (y : Local). y.protection) e.1 ∙ is)) [
      | inl open_ ↦ omega (arith, open_, old.bound, old.closed)
      | inr same ↦ old.passed caller l at (subst (λ n. n < s.next) e.0 before) p same
    ]
    | inr ne ↦ old.passed d x ne.1 before p is
  ];
}

-- the part after words and one caller's local state were put
pub ring_put : (instance : Instance) (words words' : List ℕ) (locals : List Local) (caller : ℕ) (l l' : Local) → Shape instance words locals → Ring instance words locals →
    slice_get locals caller ≡ Some l → RingStands instance words words' caller → KeepsConfirmed (slice_index words' free_at) locals → IsConfirmedOpen words l l' →
    InRing instance words' (set locals caller l') caller l' → Ring instance words' (set locals caller l')
ring_put instance words words' locals caller l l' shape ring at left kept confirmed here =
    let locals' = set locals caller l' in
    record {
      closed = left.closed;
      current = left.current;
      each = λ d x there. elim (item_after locals caller d l' x (slice_get_within locals caller l at) there) [
        | inl e ↦ subst (λ n. InRing instance words' locals' n x) (sym e.0) (subst (InRing instance words' locals' caller) e.1 here)
        | inr ne ↦ (
            let old = ring.each d x ne.1 in
            let within : d < instance.callers = (let w = slice_get_within locals d x ne.1 in omega (arith, w, shape.count)) in
            record {
              need = left.needs d within ne.0 ∙ old.need;
              kept = kept d x ne.1;
              scan = λ s is. scan_still instance words words' locals caller l l' s at left.low confirmed (old.scan s is);
            })
      ];
    }

-- a caller's protection that stays is confirmed only where it was
pub same_confirmed : (words : List ℕ) (l l' : Local) → l'.protection ≡ l.protection → IsConfirmedOpen words l l'
same_confirmed words l l' same p is = inr (sym same ∙ is)

-- a caller whose protection and scan are as before
pub in_ring_same : (instance : Instance) (words words' : List ℕ) (locals : List Local) (caller : ℕ) (l l' : Local) → Ring instance words locals → slice_get locals caller ≡ Some l →
    slice_index words' (need_at caller) ≡ slice_index words (need_at caller) → slice_index words' free_at ≡ slice_index words free_at →
    slice_index words low_at ≤ slice_index words' low_at → SameRing l l' → InRing instance words' (set locals caller l') caller l'
in_ring_same instance words words' locals caller l l' ring at need free up same =
    let old = ring.each caller l at in
    record {
      need = need ∙ old.need ∙ ap need_word (sym same.protection);
      kept = λ p is. subst (λ f. f ≤ p) (sym free) (old.kept p (sym same.protection ∙ is));
      scan = λ s is. scan_still instance words words' locals caller l l' s at up (same_confirmed words l l' same.protection) (old.scan s (sym same.scan ∙ is));
    }

-- the needs, LOW and FREE as before, and CUR at a place not below the one before
pub ring_up : (instance : Instance) (words words' : List ℕ) (locals : List Local) (caller : ℕ) (l l' : Local) → Shape instance words locals → Ring instance words locals →
    slice_get locals caller ≡ Some l → ((d : ℕ) → d < instance.callers → slice_index words' (need_at d) ≡ slice_index words (need_at d)) →
    slice_index words' low_at ≡ slice_index words low_at → slice_index words' free_at ≡ slice_index words free_at →
    root_place_of instance.callers (slice_index words cur_at) ≤ root_place_of instance.callers (slice_index words' cur_at) → SameRing l l' →
    Ring instance words' (set locals caller l')
ring_up instance words words' locals caller l l' shape ring at needs low free up same =
    let within : caller < instance.callers = (let w = slice_get_within locals caller l at in omega (arith, w, shape.count)) in
    let left : RingStands instance words words' caller = record {
      closed = omega (arith, low, free, ring.closed);
      current = omega (arith, low, up, ring.current);
      low = omega (arith, low);
      needs = λ d below _. needs d below;
    } in
    ring_put instance words words' locals caller l l' shape ring at left
    (λ d x there p is. subst (λ f. f ≤ p) (sym free) ((ring.each d x there).kept p is))
    (same_confirmed words l l' same.protection)
    (in_ring_same instance words words' locals caller l l' ring at (needs caller within) free left.low same)

-- where no word was put
pub ring_local : (instance : Instance) (words : List ℕ) (locals : List Local) (caller : ℕ) (l l' : Local) → Shape instance words locals → Ring instance words locals →
    slice_get locals caller ≡ Some l → SameRing l l' → Ring instance words (set locals caller l')
ring_local instance words locals caller l l' shape ring at same = ring_up instance words words locals caller l l' shape ring at (λ _ _. refl) refl refl (omega arith) same

-- the framing law: the ring names CUR, LOW, FREE and the needs, and of a local state the fields of SameRing
pub ring_framed : (instance : Instance) (words : List ℕ) (locals : List Local) (at v caller : ℕ) (l l' : Local) → Shape instance words locals → Ring instance words locals →
    slice_get locals caller ≡ Some l → (at ≡ 1) ⊎ (lock_at instance.callers 0 ≤ at) → SameRing l l' → Ring instance (set words at v) (set locals caller l')
ring_framed instance words locals at v caller l l' shape ring there off same =
    let other : (k : ℕ) → k ≢ at → slice_index (set words at v) k ≡ slice_index words k = λ k ne. get_or-set_other words at k v 0 ne in
    let zero : 0 ≢ at = elim off [ inl a ↦ omega arith | inr b ↦ omega arith ] in
    let two : 2 ≢ at = elim off [ inl a ↦ omega arith | inr b ↦ omega arith ] in
    let three : 3 ≢ at = elim off [ inl a ↦ omega arith | inr b ↦ omega arith ] in
    let need : (d : ℕ) → d < instance.callers → need_at d ≢ at = λ d below. elim off [ inl a ↦ omega arith | inr b ↦ omega arith ] in
    ring_up instance words (set words at v) locals caller l l' shape ring there (λ d below. other (need_at d) (need d below)) (other 2 two) (other 3 three)
    (let cur = ap (root_place_of instance.callers) (other 0 zero) in omega (arith, cur)) same

-- a step that leaves in CUR a code not below the one before
pub ring_current : (instance : Instance) (words : List ℕ) (locals : List Local) (v caller : ℕ) (l l' : Local) → Shape instance words locals → Ring instance words locals →
    slice_get locals caller ≡ Some l → slice_index words cur_at ≤ v → SameRing l l' → Ring instance (set words cur_at v) (set locals caller l')
ring_current instance words locals v caller l l' shape ring there rises same =
    let words' = set words cur_at v in
    let cur : slice_index words' cur_at ≡ v = get_or-set_same words cur_at v 0 (omega (arith, shape.long)) in
    ring_up instance words words' locals caller l l' shape ring there
    (λ d below. get_or-set_other words cur_at (need_at d) v 0 (omega arith))
    (get_or-set_other words cur_at low_at v 0 (omega arith)) (get_or-set_other words cur_at free_at v 0 (omega arith))
    (place_up instance.callers (slice_index words cur_at) (slice_index words' cur_at) shape.some (omega arith)) same
