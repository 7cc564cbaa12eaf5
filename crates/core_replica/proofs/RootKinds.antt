-- Each kind of step keeps the part on the root.
use Rattle.std.proofs.Common.{◌≡◌, ◌≢◌, ◌*◌, ◌==◌, ◌<◌, ◌≤◌, inl, inr, ℕ, max, nat_lt, Bool, cond, List, [], ◌∷◌, ◌++◌, Option, Some, length, set, slice_index, refl, ap, sym, subst, ◌∙◌, arith}
use Rattle.std.proofs.lemmas.Bool.{cases_Bool, cases_lt, eqb-true}
use Rattle.std.proofs.lemmas.List.{get_or-set_other, get_or-set_same}
use Rattle.std.proofs.lemmas.List.Elements.{Contains-append_left, Contains-push}
use Rattle.std.proofs.lemmas.Nat.{mod_below}
use Rattle.std.proofs.lemmas.Option.{same_Some, none-some, slice_get_within}
use Rattle.std.specs.List.{Contains, slice_get}
use Rattle.cx_base.specs.Codes.{root_code_of, root_place_of, root_replica_of}
use Rattle.cx_core.specs.declared.entry.Entry.{Entry}
use Rattle.cx_core.specs.declared.kinds.Kind.{Kind}
use Rattle.cx_core.specs.declared.kinds.Kind.TheVariants.{Link, TryExclusive, TryShared, BackOff, Downgrade, LoadWord, StoreWord, Persist, LoadCur, Publish, Raise, Retire}
use Rattle.cx_core.specs.declared.local.HeldDowngraded.{HeldDowngraded}
use Rattle.cx_core.specs.declared.local.HeldExclusive.{HeldExclusive}
use Rattle.cx_core.specs.declared.local.Local.{Local}
use Rattle.cx_core.specs.declared.local.WonCode.{WonCode}
use Rattle.cx_core.specs.Chain.{HasWon, Leads}
use Rattle.cx_core.specs.Events.{Guard, found_by, local_after, new_word, step_word, words_after}
use Rattle.cx_core.specs.Lawful.{Fronts, Shape}
use Rattle.cx_core.specs.LawfulLocks.{Locks}
use Rattle.cx_core.specs.LawfulRegions.{Regions, vol_word}
use Rattle.cx_core.specs.LawfulRoot.{IsPlaced, OnChain, Root, WinStands}
use Rattle.cx_core.specs.Layout.{cur_at, dur_at, lock_at, replicas_at, vol_at}
use Rattle.cx_core.specs.LockEvents.{downgraded_to, exclusive_mark}
use Rattle.cx_core.specs.QueueEvents.{seen_word}
use Rattle.cx_core.specs.Region.{place_of}
use Rattle.cx_core.specs.Rights.{held_words, holds, is_at, is_on, shared_on}
use Rattle.cx_core.specs.RootEvents.{before_in, code_in, outrun, published}
use Rattle.cx_core.specs.State.{Instance, Scene}
use Rattle.cx_core.proofs.HeldLists.{is_none, mapped}
use Rattle.cx_core.proofs.ListLemmas.{slice_get-set_same}
use Rattle.cx_core.proofs.Putting.{either}
use Rattle.cx_core.proofs.ReplicaWords.{held_place, vol_apart, vol_per_apart}
use Rattle.cx_core.proofs.RootCodes.{above_parts, code_place, code_replica, code_up, retire_parts, won_parts}
use Rattle.cx_core.proofs.StepWords.{step_low}
use Rattle.cx_core.proofs.Sums.{on_same, total_member}
use Rattle.core_replica.specs.RootFrames.{OffRoot, SameRoot}
use Rattle.core_replica.proofs.ChainLemmas.{leads_from, leads_push, leads_put, wins_put, wins_stay}
use Rattle.core_replica.proofs.RootLaws.{Moves, cur_stands, current_moved, in_chain_local, in_chain_moved, in_chain_still, low_off, root_framed, root_left, root_moved, root_same, root_stays, still_off, word_kept}
use Rattle.core_replica.proofs.Unheld.{NobodyHolds, downgraded_unheld}

same_root : (l l' : Local) → l'.seen_cur ≡ l.seen_cur → l'.won ≡ l.won → l'.downgraded ≡ l.downgraded → SameRoot l l'
same_root l l' seen won downgraded = record { seen_cur = seen; won = won; downgraded = λ h has. sym downgraded ∙ has }

module _ (instance : Instance) (scene : Scene) (locals : List Local) (caller : ℕ) (l : Local) (shape : Shape instance scene.words locals) (locks : Locks instance.callers scene.words locals)
    (root : Root instance scene.words locals) (at : slice_get locals caller ≡ Some l) where
  abbrev callers : ℕ
  callers = instance.callers

  abbrev region : ℕ
  region = length instance.base.words

  abbrev words : List ℕ
  words = scene.words

  abbrev cur : ℕ
  cur = slice_index words cur_at

  abbrev dur : ℕ
  dur = slice_index words dur_at

  abbrev After : Kind → Type 0
  After kind = Root instance (words_after instance kind l words) (set locals caller (local_after instance scene kind l))

  some : 1 ≤ callers
  some = shape.some

  -- a step on another word
  framed : (place v : ℕ) (l' : Local) → OffRoot instance place → SameRoot l l' → Root instance (set words place v) (set locals caller l')
  framed place v l' off same = root_framed instance words locals caller l some locks root at place v l' off same

  -- a step on a word between DUR and the replicas
  low_kept : (kind : Kind) → 2 ≤ step_word instance kind l → step_word instance kind l < replicas_at callers → SameRoot l (local_after instance scene kind l) → After kind
  low_kept kind from below same = framed _ _ _ (low_off instance _ from below) same

  -- a step that puts the word it found
  load_framed : (place : ℕ) (l' : Local) → SameRoot l l' → Root instance (set words place (slice_index words place)) (set locals caller l')
  load_framed place l' same =
      let old = root.each caller l at in
      word_kept instance words locals caller l some locks root at place l' same.won
      (in_chain_local instance words root.above l l' old (subst (OnChain words root.above) (sym same.seen_cur) old.seen) same.won same.downgraded)

  -- the right that a downgrade leaves has the place of the words held, which are the replica's
  downgrade_kept : (history : List Entry) (r : ℕ) → Regions instance history words locals → Guard instance scene (Downgrade r) l → After (Downgrade r)
  downgrade_kept history r regions guard =
      let l' = downgraded_to r l in
      let small = guard.0.0 in
      let place = place_of (held_words l.exclusive) in
      let m = mapped (λ (x : HeldExclusive). x.replica) l.exclusive r guard.0.1 in
      let same : place_of m.0.words ≡ place = ap (λ o. place_of (held_words o)) (sym m.1) in
      let placed : vol_word instance words r 0 ≡ place =
      subst (λ q. vol_word instance words q 0 ≡ place) m.2 (held_place instance words m.0 shape.long (regions.held caller l at m.0 m.1) ∙ same) in
      let v = new_word instance (Downgrade r) l (slice_index words (lock_at callers r)) in
      let words' = set words (lock_at callers r) v in
      let still = still_off instance words locals (lock_at callers r) v (low_off instance (lock_at callers r) (omega arith) (omega (arith, small))) in
      let old = in_chain_still instance words locals caller l some locks root at words' still in
      let put : vol_word instance words' r 0 ≡ vol_word instance words r 0 = get_or-set_other words (lock_at callers r) (vol_at callers region r 0) v 0 (λ e. omega arith) in
      root_stays instance words locals caller l some locks root at words' still l' refl
      (record {
        seen = old.seen;
        won = old.won;
        downgraded = λ h has. subst (λ (x : HeldDowngraded). vol_word instance words' x.replica 0 ≡ x.place) (same_Some _ h has) (put ∙ placed);
      })

  -- no replica that the root names is the one that its holder stores to
  store_kept : (r i v : ℕ) → Guard instance scene (StoreWord r i v) l → After (StoreWord r i v)
  store_kept r i v guard =
      let place = vol_at callers region r i in
      let below = guard.1 in
      let one : holds r l ≡ 1 = ap (is_on r) guard.2 ∙ on_same r r refl in
      let apart : (q : ℕ) → NobodyHolds callers locals q → q ≢ r = λ q nobody e. (
      let none = subst (λ n. NobodyHolds callers locals n) e nobody in
      omega (arith, none.unheld, one, total_member (holds r) locals caller l at)) in
      root_same instance words locals caller l some locks root at (set words place v)
      (record {
        cur = get_or-set_other words place cur_at v 0 (λ e. omega arith);
        dur = get_or-set_other words place dur_at v 0 (λ e. omega arith);
        places = λ q nobody. get_or-set_other words place (vol_at callers region q 0) v 0 (vol_apart callers region q r 0 i (omega (arith, below)) below (inl (apart q nobody)));
      })
      (local_after instance scene (StoreWord r i v) l) (same_root l _ refl refl refl)

  persist_kept : (r i : ℕ) → Guard instance scene (Persist r i) l → After (Persist r i)
  persist_kept r i guard =
      let below = guard.0.1 in
      framed _ _ _
      (record {
        cur = λ e. omega arith;
        dur = λ e. omega arith;
        places = λ q small e. vol_per_apart callers region q r 0 i small (omega (arith, below)) (sym e);
      })
      (same_root l _ refl refl refl)

  -- a caller that finds CUR
  seen_kept : (l' : Local) → l'.seen_cur ≡ cur → l'.won ≡ l.won → l'.downgraded ≡ l.downgraded → Root instance (set words cur_at cur) (set locals caller l')
  seen_kept l' seen won downgraded =
      word_kept instance words locals caller l some locks root at cur_at l' won
      (in_chain_local instance words root.above l l' (root.each caller l at)
      (subst (OnChain words root.above) (sym seen) (cur_stands instance words locals caller l some locks root at)) won (λ h has. sym downgraded ∙ has))

  -- a publication that won is at the end of the chain
  publish_won : Guard instance scene Publish l → cur ≡ l.seen_cur → Root instance (set words cur_at (code_in callers l.downgraded)) (set locals caller (published callers l))
  publish_won guard found =
      let p = above_parts callers l.seen_cur l.downgraded guard.0 in
      let h = p.0 in
      let down : l.downgraded ≡ Some h = p.1 in
      let none = is_none l.won guard.1 in
      let l' = published callers l in
      let code = code_in callers l.downgraded in
      let words' = set words cur_at code in
      let above' = root.above ++ code ∷ [] in
      let long = shape.long in
      let small : h.replica < 2 * callers = below_two h down in
      let is : code ≡ root_code_of callers h.place h.replica = ap (code_in callers) down in
      let replica : root_replica_of callers code ≡ h.replica = ap (root_replica_of callers) is ∙ code_replica callers h.place h.replica small in
      let place : root_place_of callers code ≡ h.place = ap (root_place_of callers) is ∙ code_place callers h.place h.replica small in
      let rises : root_place_of callers cur < root_place_of callers code = subst (λ n. root_place_of callers n < root_place_of callers code) (sym found) (omega (arith, place, p.2)) in
      let up : cur < code = code_up callers cur code some rises in
      let cur_then : slice_index words' cur_at ≡ code = get_or-set_same words cur_at code 0 (omega arith) in
      let dur_then : slice_index words' dur_at ≡ dur = get_or-set_other words cur_at dur_at code 0 (omega arith) in
      let vol : (r : ℕ) → vol_word instance words' r 0 ≡ vol_word instance words r 0 = λ r. get_or-set_other words cur_at (vol_at callers region r 0) code 0 (λ e. omega arith) in
      let won : l'.won ≡ Some (record { code = code; before = cur }) = ap (λ n. Some (record { code = code; before = n })) (sym found) in
      let has : HasWon (set locals caller l') cur code = record { caller = caller; local = l'; of_caller = slice_get-set_same locals caller l' (slice_get_within locals caller l at); won = won } in
      let new : OnChain words' above' code = record { most = omega (arith, cur_then); among = λ _. Contains-push root.above code } in
      root_moved instance words locals caller l some locks root at words' above' l'
      (record {
        cur = omega (arith, cur_then, up);
        dur = omega (arith, dur_then);
        keeps = λ y among _. Contains-append_left root.above (code ∷ []) y among;
        places = λ r _. vol r;
      })
      (subst (λ n. Leads (set locals caller l') n above' (slice_index words' cur_at)) (sym dur_then)
      (subst (λ n. Leads (set locals caller l') dur above' n) (sym cur_then)
      (leads_push (set locals caller l') dur root.above cur code up has
      (leads_put locals caller l l' at dur root.above cur (λ b c _ had. absurd (none-some _ (sym none ∙ had))) root.leads))))
      (wins_put locals caller l l' at root.apart (λ w is_won d x v there ne had same. (
      let mine : cur ≡ w.before = ap (λ (y : WonCode). y.before) (same_Some _ w (sym won ∙ is_won)) in
      let its = (root.each d x there).won v had in
      let below = code_up callers v.before v.code some its.rises in
      omega (arith, its.stands.most))))
      (subst (IsPlaced instance words') (sym cur_then) (ap (λ r. vol_word instance words' r 0) replica ∙ vol h.replica ∙ (root.each caller l at).downgraded h down ∙ sym place))
      (record {
        seen = new;
        won = λ w is_won. subst (WinStands instance words' above') (same_Some _ w (sym won ∙ is_won)) (record { rises = rises; stands = new; placed = vol (root_replica_of callers cur) ∙ root.current });
        downgraded = λ x none_. absurd (none-some x none_);
      })
    where
      below_two : (h : HeldDowngraded) → l.downgraded ≡ Some h → h.replica < 2 * callers
      below_two h down = (downgraded_unheld callers words locals some locks caller l h at down).below

  publish_kept : Guard instance scene Publish l → After Publish
  publish_kept guard =
      let P : Bool → Type 0 = λ b. Root instance (set words cur_at (cond b (code_in callers l.downgraded) cur)) (set locals caller (cond b (published callers l) (outrun callers l cur))) in
      elim (cases_Bool (cur == l.seen_cur)) [
        | inl e ↦ subst P (sym e) (publish_won guard (eqb-true cur l.seen_cur e))
        | inr e ↦ subst P (sym e) (seen_kept (outrun callers l cur) refl refl refl)
      ]

  -- DUR risen to a word, with the codes that lead from there
  raised_to : (v : ℕ) (above' : List ℕ) (l' : Local) → dur ≤ v → Leads locals v above' cur → ((y : ℕ) → Contains root.above y → v < y → Contains above' y) → SameRoot l l' →
      Root instance (set words dur_at v) (set locals caller l')
  raised_to v above' l' up leads keeps same =
      let words' = set words dur_at v in
      let long = shape.long in
      let cur_then : slice_index words' cur_at ≡ cur = get_or-set_other words dur_at cur_at v 0 (omega arith) in
      let dur_then : slice_index words' dur_at ≡ v = get_or-set_same words dur_at v 0 (omega arith) in
      let m : Moves instance words words' locals root.above above' = record {
        cur = omega (arith, cur_then);
        dur = omega (arith, dur_then, up);
        keeps = λ y among over. keeps y among (omega (arith, dur_then, over));
        places = λ r _. get_or-set_other words dur_at (vol_at callers region r 0) v 0 (λ e. omega arith);
      } in
      let old = in_chain_moved instance words locals caller l some locks root at words' above' caller l m at in
      root_moved instance words locals caller l some locks root at words' above' l' m
      (subst (λ n. Leads (set locals caller l') n above' (slice_index words' cur_at)) (sym dur_then)
      (subst (λ n. Leads (set locals caller l') v above' n) (sym cur_then)
      (leads_put locals caller l l' at v above' cur (λ b c _ has. same.won ∙ has) leads)))
      (wins_stay locals caller l l' at root.apart (λ w has. sym same.won ∙ has))
      (subst (IsPlaced instance words') (sym cur_then) (current_moved instance words locals caller l some locks root at words' above' m))
      (in_chain_local instance words' above' l l' old (subst (OnChain words' above') (sym same.seen_cur) old.seen) same.won same.downgraded)

  -- the code of a raise stands
  raise_stands : (code : ℕ) (read : Option (List ℕ)) → Guard instance scene (Raise code read) l → OnChain words root.above code
  raise_stands code read guard =
      let mine = root.each caller l at in
      elim guard.0 [
        | inl e ↦ subst (OnChain words root.above) (sym e) mine.seen
        | inr is ↦ (let p = won_parts code l.won is in subst (OnChain words root.above) (sym p.2) (mine.won p.0 p.1).stands)
      ]

  -- also where DUR has passed it
  raise_kept : (code : ℕ) (read : Option (List ℕ)) → Guard instance scene (Raise code read) l → After (Raise code read)
  raise_kept code read guard =
      let l' = local_after instance scene (Raise code read) l in
      let same = same_root l l' refl refl refl in
      elim (cases_lt dur code) [
        | inl up ↦ (
            let r = leads_from locals dur root.above cur code root.leads ((raise_stands code read guard).among up) in
            let is : max dur code ≡ code = omega arith in
            subst (λ v. Root instance (set words dur_at v) (set locals caller l')) (sym is) (raised_to code r.rest l' (omega arith) r.leads r.keeps same))
        | inr low ↦ (
            let is : max dur code ≡ dur = omega arith in
            subst (λ v. Root instance (set words dur_at v) (set locals caller l')) (sym is) (raised_to dur root.above l' (omega arith) root.leads (λ _ among _. among) same))
      ]

  -- a win retired, which DUR has passed
  retire_kept : l.raised ≤ dur → Guard instance scene Retire l → After Retire
  retire_kept raised guard =
      let p = retire_parts l.raised l.won guard in
      let w = p.0 in
      let l' = local_after instance scene Retire l in
      let place = step_word instance Retire l in
      let small : place < replicas_at callers = omega (arith, mod_below (before_in l.won) (2 * callers) (omega (arith, some))) in
      let v = new_word instance Retire l (slice_index words place) in
      let still = still_off instance words locals place v (low_off instance place (omega arith) small) in
      let old = in_chain_still instance words locals caller l some locks root at (set words place v) still in
      root_left instance words locals caller l some locks root at (set words place v) still l'
      (λ b c over has. (
      let same : w.code ≡ c = ap (λ (x : WonCode). x.code) (same_Some w _ (sym p.1 ∙ has)) in
      absurd (omega (arith, p.2))))
      (λ x has. absurd (none-some x has))
      (record { seen = old.seen; won = λ x has. absurd (none-some x has); downgraded = old.downgraded })

-- an allowed step of any kind keeps the part on the root
pub root_kind_kept : (instance : Instance) (history : List Entry) (scene : Scene) (locals : List Local) (caller : ℕ) (l : Local) (kind : Kind) → Shape instance scene.words locals → Locks instance.callers scene.words locals →
    Regions instance history scene.words locals → Fronts instance history scene.words locals → Root instance scene.words locals → slice_get locals caller ≡ Some l → Guard instance scene kind l →
    Root instance (words_after instance kind l scene.words) (set locals caller (local_after instance scene kind l))
root_kind_kept instance history scene locals caller l (Downgrade r) shape locks regions fronts root at guard = downgrade_kept instance scene locals caller l shape locks root at history r regions guard
root_kind_kept instance history scene locals caller l (LoadWord r i refused) shape locks regions fronts root at guard = load_framed instance scene locals caller l shape locks root at _ _ (same_root l _ refl refl refl)
root_kind_kept instance history scene locals caller l (StoreWord r i v) shape locks regions fronts root at guard = store_kept instance scene locals caller l shape locks root at r i v guard
root_kind_kept instance history scene locals caller l (Persist r i) shape locks regions fronts root at guard = persist_kept instance scene locals caller l shape locks root at r i guard
root_kind_kept instance history scene locals caller l LoadCur shape locks regions fronts root at guard = seen_kept instance scene locals caller l shape locks root at _ refl refl refl
root_kind_kept instance history scene locals caller l Publish shape locks regions fronts root at guard = publish_kept instance scene locals caller l shape locks root at guard
root_kind_kept instance history scene locals caller l (Raise code read) shape locks regions fronts root at guard = raise_kept instance scene locals caller l shape locks root at code read guard
root_kind_kept instance history scene locals caller l Retire shape locks regions fronts root at guard = retire_kept instance scene locals caller l shape locks root at (fronts.each caller l at).raised guard
root_kind_kept instance history scene locals caller l (Link j) shape locks regions fronts root at guard =
    low_kept instance scene locals caller l shape locks root at (Link j) (omega arith) (step_low instance scene scene.words locals caller l shape at (Link j) guard)
    (either (SameRoot l) (found_by instance (Link j) l scene.words == seen_word l.seen_slot) _ _ (same_root l _ refl refl refl) (same_root l _ refl refl refl))
root_kind_kept instance history scene locals caller l (TryExclusive r) shape locks regions fronts root at guard =
    low_kept instance scene locals caller l shape locks root at (TryExclusive r) (omega arith) (step_low instance scene scene.words locals caller l shape at (TryExclusive r) guard)
    (either (SameRoot l) (found_by instance (TryExclusive r) l scene.words == 0) _ _ (same_root l _ refl refl refl) (same_root l _ refl refl refl))
root_kind_kept instance history scene locals caller l (TryShared r) shape locks regions fronts root at guard =
    low_kept instance scene locals caller l shape locks root at (TryShared r) (omega arith) (step_low instance scene scene.words locals caller l shape at (TryShared r) guard)
    (either (SameRoot l) (nat_lt (found_by instance (TryShared r) l scene.words) exclusive_mark) _ _ (same_root l _ refl refl refl) (same_root l _ refl refl refl))
root_kind_kept instance history scene locals caller l (BackOff r) shape locks regions fronts root at guard =
    low_kept instance scene locals caller l shape locks root at (BackOff r) (omega arith) (step_low instance scene scene.words locals caller l shape at (BackOff r) guard)
    (either (SameRoot l) (is_at r (shared_on l)) _ _ (same_root l _ refl refl refl) (either (SameRoot l) (is_at r l.passer) _ _ (same_root l _ refl refl refl) (record { seen_cur = refl; won = refl; downgraded = λ h has. absurd (none-some h has) })))
root_kind_kept instance history scene locals caller l kind shape locks regions fronts root at guard =
    low_kept instance scene locals caller l shape locks root at kind (omega arith) (step_low instance scene scene.words locals caller l shape at kind guard) (same_root l _ refl refl refl)
