-- The part on locks: its frame, and what a step on a lock word leaves of it.
use Rattle.std.proofs.Common.{◌≡◌, ◌≢◌, ◌+◌, ◌-◌, ◌*◌, ◌^◌, ◌<◌, ◌≤◌, inl, inr, ℕ, List, Option, Some, length, set, slice_index, ap, sym, subst, arith}
use Rattle.std.proofs.lemmas.Bool.{cases_eq}
use Rattle.std.proofs.lemmas.List.{get_or-set_other, get_or-set_same}
use Rattle.std.specs.List.{slice_get}
use Rattle.std.specs.Option.{option_map}
use Rattle.cx_base.specs.Codes.{root_replica_of}
use Rattle.cx_core.specs.declared.local.Local.{Local}
use Rattle.cx_core.specs.declared.local.WonCode.{WonCode}
use Rattle.cx_core.specs.Lawful.{Shape}
use Rattle.cx_core.specs.LawfulLocks.{FewRights, LockWord, Locks, marks, pin, total}
use Rattle.cx_core.specs.Layout.{cur_at, link_at, lock_at}
use Rattle.cx_core.specs.LockEvents.{exclusive_mark, minus, plus}
use Rattle.cx_core.specs.Rights.{claims, downgraded_on, exclusive_on, has, holds, is_on, rights, shared_on, won_on}
use Rattle.cx_core.specs.State.{Instance}
use Rattle.cx_core.proofs.Locals.{EachLocal-set}
use Rattle.cx_core.proofs.Putting.{no_word}
use Rattle.core_replica.specs.Frames.{OffLocks, SameRights}
use Rattle.cx_core.proofs.Sums.{marks_most, on_most, total_member, total_most, total_parts, total_set}

-- the rights of a caller on a replica are as before
pub record SameOn (callers q : ℕ) (l l' : Local) : Type 0 where
  pub exclusive : is_on q (exclusive_on l') ≡ is_on q (exclusive_on l)
  pub shared : is_on q (shared_on l') ≡ is_on q (shared_on l)
  pub passer : is_on q l'.passer ≡ is_on q l.passer
  pub downgraded : is_on q (downgraded_on l') ≡ is_on q (downgraded_on l)
  pub won : is_on q (won_on callers l') ≡ is_on q (won_on callers l)

won_same : (callers : ℕ) (l l' : Local) → l'.won ≡ l.won → won_on callers l' ≡ won_on callers l
won_same callers l l' same = ap (λ (o : Option WonCode). option_map (λ (w : WonCode). root_replica_of callers w.before) o) same

-- a caller whose rights are as before has the same rights on the replica `q` as before
pub same_on : (callers q : ℕ) (l l' : Local) → SameRights l l' → SameOn callers q l l'
same_on callers q l l' same = record {
  exclusive = ap (is_on q) same.exclusive;
  shared = ap (is_on q) same.shared;
  passer = ap (is_on q) same.passer;
  downgraded = ap (is_on q) same.downgraded;
  won = ap (is_on q) (won_same callers l l' same.won);
}

-- a lock word as it is, of a replica on which the caller's claims and the pin together stay, and so do its other rights
pub lock_repinned : (callers cur cur' : ℕ) (locals : List Local) (caller q word : ℕ) (l l' : Local) → LockWord callers cur locals q word → slice_get locals caller ≡ Some l →
    holds q l' ≡ holds q l → is_on q l'.passer ≡ is_on q l.passer → claims callers q l' + pin callers q cur' ≡ claims callers q l + pin callers q cur →
    LockWord callers cur' (set locals caller l') q word
lock_repinned callers cur cur' locals caller q word l l' old at hold pass moves =
    let marked = total_set (marks callers q) locals caller l l' at in
    let held = total_set (holds q) locals caller l l' at in
    let claimed = total_set (claims callers q) locals caller l l' at in
    record {
      counted = omega (arith, old.counted);
      one = omega (arith, old.one);
      alone = λ some. (let none = old.alone (omega arith) in omega arith);
    }

-- a lock word of a replica on which the caller's rights stay
pub lock_else : (callers cur : ℕ) (locals : List Local) (caller q word : ℕ) (l l' : Local) → LockWord callers cur locals q word → slice_get locals caller ≡ Some l → SameOn callers q l l' →
    LockWord callers cur (set locals caller l') q word
lock_else callers cur locals caller q word l l' old at same =
    lock_repinned callers cur cur locals caller q word l l' old at same.exclusive same.passer (omega (arith, same.shared, same.downgraded, same.won))

pub few_same : (callers : ℕ) (l l' : Local) → FewRights callers l → SameRights l l' → FewRights callers l'
few_same callers l l' few same =
    let on = λ (q : ℕ). same_on callers q l l' same in
    let won = won_same callers l l' same.won in
    record {
      two =
          omega (arith, few.two, ap has same.exclusive, ap has same.shared, ap has same.passer, ap has same.downgraded, ap has won);
      below = λ q some. (let k = on q in few.below q (omega (arith, k.exclusive, k.shared, k.passer, k.downgraded, k.won)));
      apart = λ q. (let k = on q in omega (arith, few.apart q, k.exclusive, k.shared, k.passer, k.downgraded));
    }

-- the framing law: locks name CUR and the lock words, and of a local state on which replicas its rights are
pub locks_framed : (instance : Instance) (words : List ℕ) (locals : List Local) (at v caller : ℕ) (l l' : Local) → Locks instance.callers words locals → slice_get locals caller ≡ Some l →
    OffLocks instance at → SameRights l l' → Locks instance.callers (set words at v) (set locals caller l')
locks_framed instance words locals at v caller l l' locks there off same =
    let callers = instance.callers in
    let cur : slice_index (set words at v) cur_at ≡ slice_index words cur_at = get_or-set_other words at cur_at v 0 (λ e. off.0 (sym e)) in
    record {
      each = λ q small. (
          let apart : lock_at callers q ≢ at = elim off.1 [ inl a ↦ omega arith | inr b ↦ omega arith ] in
          let word : slice_index (set words at v) (lock_at callers q) ≡ slice_index words (lock_at callers q) = get_or-set_other words at (lock_at callers q) v 0 apart in
          subst (λ c. LockWord callers c (set locals caller l') q (slice_index (set words at v) (lock_at callers q))) (sym cur)
          (subst (LockWord callers (slice_index words cur_at) (set locals caller l') q) (sym word)
          (lock_else callers (slice_index words cur_at) locals caller q (slice_index words (lock_at callers q)) l l' (locks.each q small) there (same_on callers q l l' same))));
      few = EachLocal-set locals caller l l' (λ _ x. FewRights callers x) there locks.few (few_same callers l l' (locks.few caller l there) same);
    }

-- where no word was put
pub locks_local : (instance : Instance) (words : List ℕ) (locals : List Local) (caller : ℕ) (l l' : Local) → Locks instance.callers words locals → slice_get locals caller ≡ Some l → SameRights l l' →
    Locks instance.callers words (set locals caller l')
locks_local instance words locals caller l l' locks there same =
    let far = link_at instance.callers 0 in
    no_word (λ ws. Locks instance.callers ws (set locals caller l')) words far
    (locks_framed instance words locals far (slice_index words far) caller l l' locks there (omega arith, inr (omega arith)) same)

-- the rights after a step that touches those on one replica
pub few_moved : (callers r : ℕ) (l l' : Local) → FewRights callers l → ((q : ℕ) → q ≢ r → SameOn callers q l l') → r < 2 * callers → rights callers l' ≤ 2 →
    holds r l' + is_on r (shared_on l') + is_on r (downgraded_on l') + is_on r l'.passer ≤ 1 → FewRights callers l'
few_moved callers r l l' few else small two apart = record {
  two = two;
  below = λ q some. elim (cases_eq q r) [
    | inl e ↦ omega (arith, e)
    | inr ne ↦ (let k = else q ne in few.below q (omega (arith, k.exclusive, k.shared, k.passer, k.downgraded, k.won)))
  ];
  apart = λ q. elim (cases_eq q r) [
    | inl e ↦ subst (λ n. holds n l' + is_on n (shared_on l') + is_on n (downgraded_on l') + is_on n l'.passer ≤ 1) (sym e) apart
    | inr ne ↦ (let k = else q ne in omega (arith, few.apart q, k.exclusive, k.shared, k.passer, k.downgraded))
  ];
}

-- a step on the lock word of a replica, of which this is known: what it leaves there, and that rights elsewhere stay
pub locks_put : (instance : Instance) (words : List ℕ) (locals : List Local) (r v caller : ℕ) (l l' : Local) → Shape instance words locals → Locks instance.callers words locals →
    slice_get locals caller ≡ Some l → r < 2 * instance.callers → ((q : ℕ) → q ≢ r → SameOn instance.callers q l l') → FewRights instance.callers l' →
    LockWord instance.callers (slice_index words cur_at) (set locals caller l') r v → Locks instance.callers (set words (lock_at instance.callers r) v) (set locals caller l')
locks_put instance words locals r v caller l l' shape locks there small else few here =
    let callers = instance.callers in
    let at = lock_at callers r in
    let locals' = set locals caller l' in
    let cur : slice_index (set words at v) cur_at ≡ slice_index words cur_at = get_or-set_other words at cur_at v 0 (λ e. omega arith) in
    let within : at < length words = omega (arith, shape.long) in
    record {
      each = λ q q_small. subst (λ c. LockWord callers c locals' q (slice_index (set words at v) (lock_at callers q))) (sym cur) (elim (cases_eq q r) [
        | inl e ↦ subst (λ n. LockWord callers (slice_index words cur_at) locals' n (slice_index (set words at v) (lock_at callers n))) (sym e)
            (subst (LockWord callers (slice_index words cur_at) locals' r) (sym (get_or-set_same words at v 0 within)) here)
        | inr ne ↦ subst (LockWord callers (slice_index words cur_at) locals' q) (sym (get_or-set_other words at (lock_at callers q) v 0 (λ e. ne (omega arith))))
            (lock_else callers (slice_index words cur_at) locals caller q (slice_index words (lock_at callers q)) l l' (locks.each q q_small) there (else q ne))
      ]);
      few = EachLocal-set locals caller l l' (λ _ x. FewRights callers x) there locks.few few;
    }

-- a code put into CUR: each lock word stays, and claims make good for the pin that goes
pub locks_repinned : (instance : Instance) (words : List ℕ) (locals : List Local) (code caller : ℕ) (l l' : Local) → Shape instance words locals → Locks instance.callers words locals →
    slice_get locals caller ≡ Some l → FewRights instance.callers l' → ((q : ℕ) → holds q l' ≡ holds q l) → l'.passer ≡ l.passer →
    ((q : ℕ) → claims instance.callers q l' + pin instance.callers q code ≡ claims instance.callers q l + pin instance.callers q (slice_index words cur_at)) →
    Locks instance.callers (set words cur_at code) (set locals caller l')
locks_repinned instance words locals code caller l l' shape locks there few hold pass moves =
    let callers = instance.callers in
    let within : cur_at < length words = omega (arith, shape.long) in
    let cur : slice_index (set words cur_at code) cur_at ≡ code = get_or-set_same words cur_at code 0 within in
    record {
      each = λ q small. (
          let word : slice_index (set words cur_at code) (lock_at callers q) ≡ slice_index words (lock_at callers q) = get_or-set_other words cur_at (lock_at callers q) code 0 (λ e. omega arith) in
          subst (λ c. LockWord callers c (set locals caller l') q (slice_index (set words cur_at code) (lock_at callers q))) (sym cur)
          (subst (LockWord callers code (set locals caller l') q) (sym word)
          (lock_repinned callers (slice_index words cur_at) code locals caller q (slice_index words (lock_at callers q)) l l' (locks.each q small) there (hold q) (ap (is_on q) pass) (moves q))));
      few = EachLocal-set locals caller l l' (λ _ x. FewRights callers x) there locks.few few;
    }

-- the lock word on which a right begins or ends
module _ (callers cur : ℕ) (locals : List Local) (caller r word : ℕ) (l l' : Local) (old : LockWord callers cur locals r word) (at : slice_get locals caller ≡ Some l) where
  record Sums : Type 0 where
    marked : total (marks callers r) (set locals caller l') + marks callers r l ≡ total (marks callers r) locals + marks callers r l'
    held : total (holds r) (set locals caller l') + holds r l ≡ total (holds r) locals + holds r l'
    claimed : total (claims callers r) (set locals caller l') + claims callers r l ≡ total (claims callers r) locals + claims callers r l'
    parts : total (marks callers r) locals ≡ 2 ^ 32 * total (holds r) locals + total (claims callers r) locals + total (λ x. is_on r x.passer) locals
    holder : holds r l ≤ total (holds r) locals
    member : marks callers r l ≤ total (marks callers r) locals
    counted : word ≡ total (marks callers r) locals + pin callers r cur
    one : total (holds r) locals ≤ 1
    pinned : pin callers r cur ≤ 1

  sums : Sums
  sums = record {
    marked = total_set (marks callers r) locals caller l l' at;
    held = total_set (holds r) locals caller l l' at;
    claimed = total_set (claims callers r) locals caller l l' at;
    parts = total_parts callers r locals;
    holder = total_member (holds r) locals caller l at;
    member = total_member (marks callers r) locals caller l at;
    counted = old.counted;
    one = old.one;
    pinned = on_most r (Some (root_replica_of callers cur));
  }

  -- a lock word is far from its type's end
  pub word_small : length locals ≤ 8 → word < 2 ^ 63
  word_small few = let s = sums in let most = total_most (marks callers r) (2 ^ 32 + 4) locals (marks_most callers r) in omega (arith, most)

  -- taken exclusively where the word was 0
  pub lock_taken : word ≡ 0 → holds r l' ≡ holds r l + 1 → claims callers r l' ≡ claims callers r l → is_on r l'.passer ≡ is_on r l.passer → LockWord callers cur (set locals caller l') r exclusive_mark
  lock_taken zero_ hold claim pass = let s = sums in record { counted = omega arith; one = omega arith; alone = λ _. omega arith }

  -- a claim that begins where the word shows no exclusive right
  pub lock_claimed : word < exclusive_mark → holds r l' ≡ holds r l → claims callers r l' ≡ claims callers r l + 1 → is_on r l'.passer ≡ is_on r l.passer → LockWord callers cur (set locals caller l') r (plus word 1)
  lock_claimed under hold claim pass = let s = sums in record { counted = omega arith; one = omega arith; alone = λ some. absurd (omega arith) }

  -- a passer's mark, whatever the word
  pub lock_passed : length locals ≤ 8 → holds r l' ≡ holds r l → claims callers r l' ≡ claims callers r l → is_on r l'.passer ≡ is_on r l.passer + 1 → LockWord callers cur (set locals caller l') r (plus word 1)
  lock_passed few hold claim pass =
      let s = sums in
      let small = word_small few in
      record { counted = omega arith; one = omega arith; alone = λ some. (let none = old.alone (omega arith) in omega arith) }

  -- a right that ends which is no exclusive one
  pub lock_left : length locals ≤ 8 → holds r l' ≡ holds r l → claims callers r l' ≤ claims callers r l → claims callers r l' + is_on r l'.passer + 1 ≡ claims callers r l + is_on r l.passer →
      LockWord callers cur (set locals caller l') r (minus word 1)
  lock_left few hold fewer less =
      let s = sums in
      let small = word_small few in
      record { counted = omega arith; one = omega arith; alone = λ some. (let none = old.alone (omega arith) in omega arith) }

  -- an exclusive right that ends as a claim, or with nothing
  pub lock_downgraded : length locals ≤ 8 → holds r l ≡ 1 → holds r l' ≡ 0 → claims callers r l' ≡ claims callers r l + 1 → is_on r l'.passer ≡ is_on r l.passer →
      LockWord callers cur (set locals caller l') r (minus word (exclusive_mark - 1))
  lock_downgraded few hold none claim pass =
      let s = sums in
      let small = word_small few in
      record { counted = omega arith; one = omega arith; alone = λ some. absurd (omega arith) }

  pub lock_released : length locals ≤ 8 → holds r l ≡ 1 → holds r l' ≡ 0 → claims callers r l' ≡ claims callers r l → is_on r l'.passer ≡ is_on r l.passer →
      LockWord callers cur (set locals caller l') r (minus word exclusive_mark)
  lock_released few hold none claim pass =
      let s = sums in
      let small = word_small few in
      record { counted = omega arith; one = omega arith; alone = λ some. absurd (omega arith) }
