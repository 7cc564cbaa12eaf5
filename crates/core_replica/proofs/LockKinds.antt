-- Each kind of step keeps the part on locks.
use Rattle.std.proofs.Common.{◌≡◌, ◌≢◌, ◌+◌, ◌-◌, ◌*◌, ◌==◌, ◌<◌, ◌≤◌, inl, inr, ℕ, nat_lt, Bool, cond, List, Option, Some, None, length, set, slice_index, refl, ap, sym, subst, ◌∙◌, arith}
use Rattle.std.proofs.lemmas.Bool.{cases_Bool, cases_eq, cases_lt, eqb-true, ltb-true}
use Rattle.std.proofs.lemmas.List.{set-get_or}
use Rattle.std.proofs.lemmas.Nat.{mod_below, mod-mul-add}
use Rattle.std.specs.List.{slice_get}
use Rattle.std.specs.Option.{option_map}
use Rattle.cx_base.specs.Codes.{root_replica_of}
use Rattle.cx_core.specs.declared.kinds.Kind.{Kind}
use Rattle.cx_core.specs.declared.kinds.Kind.TheVariants.{Link, TryExclusive, TryShared, BackOff, Downgrade, ReleaseExclusive, LoadWord, StoreWord, Persist, LoadCur, Publish, Retire, Scan}
use Rattle.cx_core.specs.declared.local.HeldDowngraded.{HeldDowngraded}
use Rattle.cx_core.specs.declared.local.HeldExclusive.{HeldExclusive}
use Rattle.cx_core.specs.declared.local.HeldShared.{HeldShared}
use Rattle.cx_core.specs.declared.local.Local.{Local}
use Rattle.cx_core.specs.declared.local.WonCode.{WonCode}
use Rattle.cx_core.specs.Events.{Guard, found_by, local_after, step_word, words_after}
use Rattle.cx_core.specs.Lawful.{Shape}
use Rattle.cx_core.specs.LawfulLocks.{FewRights, LockWord, Locks, pin}
use Rattle.cx_core.specs.Layout.{cur_at, link_at, lock_at}
use Rattle.cx_core.specs.LockEvents.{downgraded_to, exclusive_mark, minus, passing, plus, refused_by, shared_by, taken}
use Rattle.cx_core.specs.QueueEvents.{seen_word}
use Rattle.cx_core.specs.RegionEvents.{loaded_into, persisted, stored_into}
use Rattle.cx_core.specs.Rights.{downgraded_on, exclusive_on, has, holds, is_at, is_on, rights, shared_on, won_on}
use Rattle.cx_core.specs.RootEvents.{before_in, code_in, outrun, published}
use Rattle.cx_core.specs.State.{Instance, Scene, one_more}
use Rattle.cx_core.proofs.RootCodes.{above_parts, retire_parts}
use Rattle.cx_core.proofs.Putting.{either}
use Rattle.core_replica.specs.Frames.{OffLocks, SameRights}
use Rattle.cx_core.proofs.HeldLists.{at_false, at_true, is_none}
use Rattle.core_replica.proofs.LockLaws.{SameOn, few_moved, lock_claimed, lock_downgraded, lock_left, lock_passed, lock_released, lock_taken, locks_framed, locks_local, locks_put, locks_repinned}
use Rattle.cx_core.proofs.StepWords.{own_small}
use Rattle.cx_core.proofs.Sums.{on_other, on_same}

-- which replica a right is on stays where its words change
exclusive_map : (f : HeldExclusive → HeldExclusive) → ((h : HeldExclusive) → (f h).replica ≡ h.replica) → (o : Option HeldExclusive) →
    option_map (λ (h : HeldExclusive). h.replica) (option_map f o) ≡ option_map (λ (h : HeldExclusive). h.replica) o
exclusive_map f same None = refl
exclusive_map f same (Some h) = ap Some (same h)

shared_map : (f : HeldShared → HeldShared) → ((h : HeldShared) → (f h).replica ≡ h.replica) → (o : Option HeldShared) →
    option_map (λ (h : HeldShared). h.replica) (option_map f o) ≡ option_map (λ (h : HeldShared). h.replica) o
shared_map f same None = refl
shared_map f same (Some h) = ap Some (same h)

module _ (instance : Instance) (scene : Scene) (locals : List Local) (caller : ℕ) (l : Local) (shape : Shape instance scene.words locals) (locks : Locks instance.callers scene.words locals)
    (at : slice_get locals caller ≡ Some l) where
  abbrev callers : ℕ
  callers = instance.callers

  abbrev After : Kind → Type 0
  After kind = Locks callers (words_after instance kind l scene.words) (set locals caller (local_after instance scene kind l))

  -- a step apart from locks
  apart_kept : (kind : Kind) → OffLocks instance (step_word instance kind l) → SameRights l (local_after instance scene kind l) → After kind
  apart_kept kind off same = locks_framed instance scene.words locals (step_word instance kind l) _ caller l (local_after instance scene kind l) locks at off same

  -- a word at or above the lock words is behind them
  off_locks : (place : ℕ) → place ≢ cur_at → (lock_at callers 0 ≤ place → link_at callers 0 ≤ place) → OffLocks instance place
  off_locks place ne past = (ne, elim (cases_lt place (lock_at callers 0)) [ inl below ↦ inl below | inr from ↦ inr (past from) ])

  -- a step that changes no word, and no right
  word_kept : (place : ℕ) (l' : Local) → SameRights l l' → Locks callers (set scene.words place (slice_index scene.words place)) (set locals caller l')
  word_kept place l' same =
      subst (λ ws. Locks callers ws (set locals caller l')) (sym (set-get_or scene.words place 0)) (locks_local instance scene.words locals caller l l' locks at same)

  -- a right that begins or ends on a replica
  moved : (r v : ℕ) (l' : Local) → r < 2 * callers → ((q : ℕ) → q ≢ r → SameOn callers q l l') → rights callers l' ≤ 2 →
      holds r l' + is_on r (shared_on l') + is_on r (downgraded_on l') + is_on r l'.passer ≤ 1 →
      LockWord callers (slice_index scene.words cur_at) (set locals caller l') r v → Locks callers (set scene.words (lock_at callers r) v) (set locals caller l')
  moved r v l' small else two apart here =
      locks_put instance scene.words locals r v caller l l' shape locks at small else (few_moved callers r l l' (locks.few caller l at) else small two apart) here

  abbrev word : ℕ → ℕ
  word r = slice_index scene.words (lock_at callers r)

  eight : length locals ≤ 8
  eight = omega (arith, shape.count, shape.few)

  few : FewRights callers l
  few = locks.few caller l at

  try_exclusive_won : (r : ℕ) → Guard instance scene (TryExclusive r) l → word r ≡ 0 → Locks callers (set scene.words (lock_at callers r) exclusive_mark) (set locals caller (taken instance scene r l))
  try_exclusive_won r guard zero_ =
      let l' = taken instance scene r l in
      let off : (q : ℕ) → is_on q (exclusive_on l) ≡ 0 = λ q. ap (λ o. is_on q (option_map (λ (h : HeldExclusive). h.replica) o)) (is_none l.exclusive guard.1) in
      let on = on_same r r refl in
      moved r exclusive_mark l' guard.0
      (λ q ne. record { exclusive = on_other r q (λ e. ne (sym e)) ∙ sym (off q); shared = refl; passer = refl; downgraded = refl; won = refl })
      (omega (arith, guard.2)) (omega (arith, guard.3, on))
      (lock_taken callers _ locals caller r (word r) l l' (locks.each r guard.0) at zero_ (omega (arith, on, off r)) refl refl)

  try_exclusive_kept : (r : ℕ) → Guard instance scene (TryExclusive r) l → After (TryExclusive r)
  try_exclusive_kept r guard =
      let P : Bool → Type 0 = λ b. Locks callers (set scene.words (lock_at callers r) (cond b exclusive_mark (word r))) (set locals caller (cond b (taken instance scene r l) (refused_by callers r l (word r)))) in
      elim (cases_Bool (word r == 0)) [
        | inl e ↦ subst P (sym e) (try_exclusive_won r guard (eqb-true (word r) 0 e))
        | inr e ↦ subst P (sym e) (word_kept (lock_at callers r) (refused_by callers r l (word r)) (record { exclusive = refl; shared = refl; passer = refl; downgraded = refl; won = refl }))
      ]

  try_shared_won : (r : ℕ) → Guard instance scene (TryShared r) l → word r < exclusive_mark → Locks callers (set scene.words (lock_at callers r) (plus (word r) 1)) (set locals caller (shared_by r l (word r)))
  try_shared_won r guard under =
      let l' = shared_by r l (word r) in
      let off : (q : ℕ) → is_on q (shared_on l) ≡ 0 = λ q. ap (λ o. is_on q (option_map (λ (h : HeldShared). h.replica) o)) (is_none l.shared guard.1) in
      let on = on_same r r refl in
      moved r (plus (word r) 1) l' guard.0
      (λ q ne. record { exclusive = refl; shared = on_other r q (λ e. ne (sym e)) ∙ sym (off q); passer = refl; downgraded = refl; won = refl })
      (omega (arith, guard.3)) (omega (arith, guard.4, on))
      (lock_claimed callers _ locals caller r (word r) l l' (locks.each r guard.0) at under refl (omega (arith, on, off r)) refl)

  try_shared_lost : (r : ℕ) → Guard instance scene (TryShared r) l → Locks callers (set scene.words (lock_at callers r) (plus (word r) 1)) (set locals caller (passing callers r l (word r)))
  try_shared_lost r guard =
      let l' = passing callers r l (word r) in
      let off : (q : ℕ) → is_on q l.passer ≡ 0 = λ q. ap (is_on q) (is_none l.passer guard.2) in
      let on = on_same r r refl in
      moved r (plus (word r) 1) l' guard.0
      (λ q ne. record { exclusive = refl; shared = refl; passer = on_other r q (λ e. ne (sym e)) ∙ sym (off q); downgraded = refl; won = refl })
      (omega (arith, guard.3)) (omega (arith, guard.4, on))
      (lock_passed callers _ locals caller r (word r) l l' (locks.each r guard.0) at eight refl refl (omega (arith, on, off r)))

  try_shared_kept : (r : ℕ) → Guard instance scene (TryShared r) l → After (TryShared r)
  try_shared_kept r guard =
      let P : Bool → Type 0 = λ b. Locks callers (set scene.words (lock_at callers r) (plus (word r) 1)) (set locals caller (cond b (shared_by r l (word r)) (passing callers r l (word r)))) in
      elim (cases_Bool (nat_lt (word r) exclusive_mark)) [
        | inl e ↦ subst P (sym e) (try_shared_won r guard (ltb-true (word r) exclusive_mark e))
        | inr e ↦ subst P (sym e) (try_shared_lost r guard)
      ]

  -- a right that ends which is no exclusive one
  shared_left : (r : ℕ) → r < 2 * callers → shared_on l ≡ Some r → Locks callers (set scene.words (lock_at callers r) (minus (word r) 1)) (set locals caller (record l { shared = None; steps = one_more l.steps }))
  shared_left r small held =
      let l' = record l { shared = None; steps = one_more l.steps } in
      let was : (q : ℕ) → is_on q (shared_on l) ≡ is_on q (Some r) = λ q. ap (is_on q) held in
      let on = on_same r r refl in
      moved r (minus (word r) 1) l' small
      (λ q ne. record { exclusive = refl; shared = sym (was q ∙ on_other r q (λ e. ne (sym e))); passer = refl; downgraded = refl; won = refl })
      (omega (arith, few.two)) (omega (arith, few.apart r))
      (lock_left callers _ locals caller r (word r) l l' (locks.each r small) at eight refl (omega arith) (omega (arith, was r, on)))

  passer_left : (r : ℕ) → r < 2 * callers → l.passer ≡ Some r → Locks callers (set scene.words (lock_at callers r) (minus (word r) 1)) (set locals caller (record l { passer = None; steps = one_more l.steps }))
  passer_left r small held =
      let l' = record l { passer = None; steps = one_more l.steps } in
      let was : (q : ℕ) → is_on q l.passer ≡ is_on q (Some r) = λ q. ap (is_on q) held in
      let on = on_same r r refl in
      moved r (minus (word r) 1) l' small
      (λ q ne. record { exclusive = refl; shared = refl; passer = sym (was q ∙ on_other r q (λ e. ne (sym e))); downgraded = refl; won = refl })
      (omega (arith, few.two)) (omega (arith, few.apart r))
      (lock_left callers _ locals caller r (word r) l l' (locks.each r small) at eight refl (omega arith) (omega (arith, was r, on)))

  downgraded_left : (r : ℕ) → r < 2 * callers → downgraded_on l ≡ Some r → Locks callers (set scene.words (lock_at callers r) (minus (word r) 1)) (set locals caller (record l { downgraded = None; steps = one_more l.steps }))
  downgraded_left r small held =
      let l' = record l { downgraded = None; steps = one_more l.steps } in
      let was : (q : ℕ) → is_on q (downgraded_on l) ≡ is_on q (Some r) = λ q. ap (is_on q) held in
      let on = on_same r r refl in
      moved r (minus (word r) 1) l' small
      (λ q ne. record { exclusive = refl; shared = refl; passer = refl; downgraded = sym (was q ∙ on_other r q (λ e. ne (sym e))); won = refl })
      (omega (arith, few.two)) (omega (arith, few.apart r))
      (lock_left callers _ locals caller r (word r) l l' (locks.each r small) at eight refl (omega arith) (omega (arith, was r, on)))

  back_off_kept : (r : ℕ) → Guard instance scene (BackOff r) l → After (BackOff r)
  back_off_kept r guard =
      let put = λ (x : Local). Locks callers (set scene.words (lock_at callers r) (minus (word r) 1)) (set locals caller x) in
      let a = record l { shared = None; steps = one_more l.steps } in
      let b = record l { passer = None; steps = one_more l.steps } in
      let d = record l { downgraded = None; steps = one_more l.steps } in
      elim (cases_Bool (is_at r (shared_on l))) [
        | inl e ↦ subst (λ t. put (cond t a (cond (is_at r l.passer) b d))) (sym e) (shared_left r guard.0 (at_true r (shared_on l) e))
        | inr e ↦ subst (λ t. put (cond t a (cond (is_at r l.passer) b d))) (sym e) (elim (cases_Bool (is_at r l.passer)) [
          | inl f ↦ subst (λ t. put (cond t b d)) (sym f) (passer_left r guard.0 (at_true r l.passer f))
          | inr f ↦ subst (λ t. put (cond t b d)) (sym f) (elim guard.1 [
            | inl x ↦ absurd (at_false r (shared_on l) e x)
            | inr y ↦ elim y [
              | inl x ↦ absurd (at_false r l.passer f x)
              | inr x ↦ downgraded_left r guard.0 x
            ]
          ])
        ])
      ]

  downgrade_kept : (r : ℕ) → Guard instance scene (Downgrade r) l → After (Downgrade r)
  downgrade_kept r guard =
      let l' = downgraded_to r l in
      let was : (q : ℕ) → is_on q (exclusive_on l) ≡ is_on q (Some r) = λ q. ap (is_on q) guard.0.1 in
      let none : (q : ℕ) → is_on q (downgraded_on l) ≡ 0 = λ q. ap (λ o. is_on q (option_map (λ (h : HeldDowngraded). h.replica) o)) (is_none l.downgraded guard.0.2) in
      let one : has (exclusive_on l) ≡ 1 = ap has guard.0.1 in
      let on = on_same r r refl in
      moved r (minus (word r) (exclusive_mark - 1)) l' guard.0.0
      (λ q ne. (let off = on_other r q (λ e. ne (sym e)) in record { exclusive = sym (was q ∙ off); shared = refl; passer = refl; downgraded = off ∙ sym (none q); won = refl }))
      (omega (arith, few.two, one)) (omega (arith, few.apart r, was r, on))
      (lock_downgraded callers _ locals caller r (word r) l l' (locks.each r guard.0.0) at eight (was r ∙ on) refl (omega (arith, none r, on)) refl)

  release_kept : (r : ℕ) → Guard instance scene (ReleaseExclusive r) l → After (ReleaseExclusive r)
  release_kept r guard =
      let l' = record l { exclusive = None; steps = one_more l.steps } in
      let was : (q : ℕ) → is_on q (exclusive_on l) ≡ is_on q (Some r) = λ q. ap (is_on q) guard.0.1 in
      let on = on_same r r refl in
      moved r (minus (word r) exclusive_mark) l' guard.0.0
      (λ q ne. record { exclusive = sym (was q ∙ on_other r q (λ e. ne (sym e))); shared = refl; passer = refl; downgraded = refl; won = refl })
      (omega (arith, few.two)) (omega (arith, few.apart r))
      (lock_released callers _ locals caller r (word r) l l' (locks.each r guard.0.0) at eight (was r ∙ on) refl refl refl)

  -- a publication that won
  publish_won : Guard instance scene Publish l → slice_index scene.words cur_at ≡ l.seen_cur → Locks callers (set scene.words cur_at (code_in callers l.downgraded)) (set locals caller (published callers l))
  publish_won guard cur =
      let l' = published callers l in
      let code = code_in callers l.downgraded in
      let m = above_parts callers l.seen_cur l.downgraded guard.0 in
      let r = m.0.replica in
      let was : (q : ℕ) → is_on q (downgraded_on l) ≡ is_on q (Some r) = λ q. ap (λ o. is_on q (option_map (λ (h : HeldDowngraded). h.replica) o)) m.1 in
      let small : r < 2 * callers = few.below r (omega (arith, was r, on_same r r refl)) in
      let replica : root_replica_of callers code ≡ r = ap (λ o. root_replica_of callers (code_in callers o)) m.1 ∙ mod-mul-add m.0.place (2 * callers) r small in
      let pinned : (q : ℕ) → pin callers q code ≡ is_on q (Some r) = λ q. ap (λ n. is_on q (Some n)) replica in
      let unpinned : (q : ℕ) → pin callers q (slice_index scene.words cur_at) ≡ pin callers q l.seen_cur = λ q. ap (pin callers q) cur in
      let none : l.won ≡ None = is_none l.won guard.1 in
      let unwon : (q : ℕ) → is_on q (won_on callers l) ≡ 0 = λ q. ap (λ o. is_on q (option_map (λ (w : WonCode). root_replica_of callers w.before) o)) none in
      let one : has (downgraded_on l) ≡ 1 = ap (λ o. has (option_map (λ (h : HeldDowngraded). h.replica) o)) m.1 in
      let old : root_replica_of callers l.seen_cur < 2 * callers = mod_below l.seen_cur (2 * callers) (omega (arith, shape.some)) in
      locks_repinned instance scene.words locals code caller l l' shape locks at
      (record {
        two = omega (arith, few.two, one);
        below = λ q some. elim (cases_eq (root_replica_of callers l.seen_cur) q) [
          | inl e ↦ subst (λ n. n < 2 * callers) e old
          | inr ne ↦ few.below q (omega (arith, some, on_other (root_replica_of callers l.seen_cur) q ne))
        ];
        apart = λ q. omega (arith, few.apart q);
      })
      (λ q. refl) refl (λ q. omega (arith, was q, pinned q, unpinned q, unwon q))

  publish_kept : Guard instance scene Publish l → After Publish
  publish_kept guard =
      let found = slice_index scene.words cur_at in
      let P : Bool → Type 0 = λ b. Locks callers (set scene.words cur_at (cond b (code_in callers l.downgraded) found)) (set locals caller (cond b (published callers l) (outrun callers l found))) in
      elim (cases_Bool (found == l.seen_cur)) [
        | inl e ↦ subst P (sym e) (publish_won guard (eqb-true found l.seen_cur e))
        | inr e ↦ subst P (sym e) (word_kept cur_at (outrun callers l found) (record { exclusive = refl; shared = refl; passer = refl; downgraded = refl; won = refl }))
      ]

  -- a win whose claim ends
  retire_kept : Guard instance scene Retire l → After Retire
  retire_kept guard =
      let l' = record l { won = None; steps = one_more l.steps } in
      let r = root_replica_of callers (before_in l.won) in
      let m = retire_parts l.raised l.won guard in
      let on = on_same r r refl in
      let replica = λ (o : Option WonCode). option_map (λ (w : WonCode). root_replica_of callers w.before) o in
      let was : (q : ℕ) → is_on q (won_on callers l) ≡ is_on q (Some r) = λ q. ap (λ o. is_on q (replica o)) m.1 ∙ sym (ap (λ o. is_on q (Some (root_replica_of callers (before_in o)))) m.1) in
      let small : r < 2 * callers = mod_below (before_in l.won) (2 * callers) (omega (arith, shape.some)) in
      moved r (minus (word r) 1) l' small
      (λ q ne. record { exclusive = refl; shared = refl; passer = refl; downgraded = refl; won = sym (was q ∙ on_other r q (λ e. ne (sym e))) })
      (omega (arith, few.two)) (omega (arith, few.apart r))
      (lock_left callers _ locals caller r (word r) l l' (locks.each r small) at eight refl (omega arith) (omega (arith, was r, on)))

-- an allowed step of any kind keeps the part on locks
pub locks_kept : (instance : Instance) (scene : Scene) (locals : List Local) (caller : ℕ) (l : Local) (kind : Kind) → Shape instance scene.words locals → Locks instance.callers scene.words locals →
    slice_get locals caller ≡ Some l → Guard instance scene kind l →
    Locks instance.callers (words_after instance kind l scene.words) (set locals caller (local_after instance scene kind l))
locks_kept instance scene locals caller l (Link j) shape locks at guard =
    apart_kept instance scene locals caller l shape locks at (Link j) (omega arith, inr (omega arith))
    (either (SameRights l) (found_by instance (Link j) l scene.words == seen_word l.seen_slot) _ _ (record { exclusive = refl; shared = refl; passer = refl; downgraded = refl; won = refl }) (record { exclusive = refl; shared = refl; passer = refl; downgraded = refl; won = refl }))
locks_kept instance scene locals caller l (TryExclusive r) shape locks at guard = try_exclusive_kept instance scene locals caller l shape locks at r guard
locks_kept instance scene locals caller l (TryShared r) shape locks at guard = try_shared_kept instance scene locals caller l shape locks at r guard
locks_kept instance scene locals caller l (BackOff r) shape locks at guard = back_off_kept instance scene locals caller l shape locks at r guard
locks_kept instance scene locals caller l (Downgrade r) shape locks at guard = downgrade_kept instance scene locals caller l shape locks at r guard
locks_kept instance scene locals caller l (ReleaseExclusive r) shape locks at guard = release_kept instance scene locals caller l shape locks at r guard
locks_kept instance scene locals caller l (LoadWord r i refused) shape locks at guard =
    apart_kept instance scene locals caller l shape locks at (LoadWord r i refused) (omega arith, inr (omega arith))
    (record { exclusive = refl; shared = shared_map (loaded_into r i _) (λ _. refl) l.shared; passer = refl; downgraded = refl; won = refl })
locks_kept instance scene locals caller l (StoreWord r i v) shape locks at guard =
    apart_kept instance scene locals caller l shape locks at (StoreWord r i v) (omega arith, inr (omega arith))
    (record { exclusive = exclusive_map (stored_into i v) (λ _. refl) l.exclusive; shared = refl; passer = refl; downgraded = refl; won = refl })
locks_kept instance scene locals caller l (Persist r i) shape locks at guard =
    apart_kept instance scene locals caller l shape locks at (Persist r i) (omega arith, inr (omega arith))
    (record { exclusive = exclusive_map (persisted i) (λ _. refl) l.exclusive; shared = refl; passer = refl; downgraded = refl; won = refl })
locks_kept instance scene locals caller l LoadCur shape locks at guard =
    word_kept instance scene locals caller l shape locks at cur_at _ (record { exclusive = refl; shared = refl; passer = refl; downgraded = refl; won = refl })
locks_kept instance scene locals caller l Publish shape locks at guard = publish_kept instance scene locals caller l shape locks at guard
locks_kept instance scene locals caller l Retire shape locks at guard = retire_kept instance scene locals caller l shape locks at guard
locks_kept instance scene locals caller l (Scan d) shape locks at guard = word_kept instance scene locals caller l shape locks at _ _ (record { exclusive = refl; shared = refl; passer = refl; downgraded = refl; won = refl })
locks_kept instance scene locals caller l kind shape locks at guard =
    let own = own_small instance scene scene.words locals caller l shape at in
    apart_kept instance scene locals caller l shape locks at kind (off_locks instance scene locals caller l shape locks at _ (omega arith) (λ from. omega (arith, from, own)))
    (record { exclusive = refl; shared = refl; passer = refl; downgraded = refl; won = refl })
