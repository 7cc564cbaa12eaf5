-- The part on the root: what a step leaves of it, and its frame.
use Rattle.std.proofs.Common.{◌≡◌, ◌<◌, ◌≤◌, inl, inr, ℕ, List, Some, length, set, slice_index, refl, sym, subst, ◌∙◌, arith}
use Rattle.std.proofs.lemmas.List.{get_or-set_other, set-get_or}
use Rattle.std.proofs.lemmas.Option.{slice_get_within}
use Rattle.std.specs.List.{Contains, slice_get}
use Rattle.cx_core.specs.declared.local.HeldDowngraded.{HeldDowngraded}
use Rattle.cx_core.specs.declared.local.Local.{Local}
use Rattle.cx_core.specs.declared.local.WonCode.{WonCode}
use Rattle.cx_core.specs.Chain.{Leads, WinsApart}
use Rattle.cx_core.specs.LawfulLocks.{Locks}
use Rattle.cx_core.specs.LawfulRegions.{vol_word}
use Rattle.cx_core.specs.LawfulRoot.{InChain, IsPlaced, OnChain, Root}
use Rattle.cx_core.specs.Layout.{cur_at, dur_at, replicas_at, vol_at}
use Rattle.cx_core.specs.State.{Instance}
use Rattle.cx_core.proofs.Locals.{item_after}
use Rattle.core_replica.specs.RootFrames.{OffRoot, SameRoot}
use Rattle.core_replica.proofs.ChainLemmas.{leads_last, leads_put, wins_stay}
use Rattle.core_replica.proofs.Unheld.{NobodyHolds, current_unheld, downgraded_unheld, won_unheld}

-- what a step leaves of the words and of the codes above DUR: neither CUR nor DUR falls, the codes that are still above DUR
-- stay, and so does the place word of each replica that nobody holds exclusively
pub record Moves (instance : Instance) (words words' : List ℕ) (locals : List Local) (above above' : List ℕ) : Type 0 where
  pub cur : slice_index words cur_at ≤ slice_index words' cur_at
  pub dur : slice_index words dur_at ≤ slice_index words' dur_at
  pub keeps : (code : ℕ) → Contains above code → slice_index words' dur_at < code → Contains above' code
  pub places : (r : ℕ) → NobodyHolds instance.callers locals r → vol_word instance words' r 0 ≡ vol_word instance words r 0

-- a step that leaves CUR and DUR, and the place words of those replicas
pub record Still (instance : Instance) (words words' : List ℕ) (locals : List Local) : Type 0 where
  pub cur : slice_index words' cur_at ≡ slice_index words cur_at
  pub dur : slice_index words' dur_at ≡ slice_index words dur_at
  pub places : (r : ℕ) → NobodyHolds instance.callers locals r → vol_word instance words' r 0 ≡ vol_word instance words r 0

pub still_words : (instance : Instance) (words : List ℕ) (locals : List Local) → Still instance words words locals
still_words instance words locals = record { cur = refl; dur = refl; places = λ _ _. refl }

pub still_off : (instance : Instance) (words : List ℕ) (locals : List Local) (at v : ℕ) → OffRoot instance at → Still instance words (set words at v) locals
still_off instance words locals at v off = record {
  cur = get_or-set_other words at cur_at v 0 (λ e. off.cur (sym e));
  dur = get_or-set_other words at dur_at v 0 (λ e. off.dur (sym e));
  places = λ r nobody. get_or-set_other words at (vol_at instance.callers (length instance.base.words) r 0) v 0 (λ e. off.places r nobody.below (sym e));
}

on_chain_moved : (instance : Instance) (words words' : List ℕ) (locals : List Local) (above above' : List ℕ) (code : ℕ) → Moves instance words words' locals above above' → OnChain words above code → OnChain words' above' code
on_chain_moved instance words words' locals above above' code m old = record {
  most = omega (arith, old.most, m.cur);
  among = λ up. m.keeps code (old.among (omega (arith, m.dur, up))) up;
}

-- what a caller knows of the root, where it sees another code or its downgraded right ends
pub in_chain_local : (instance : Instance) (words above : List ℕ) (l l' : Local) → InChain instance words above l → OnChain words above l'.seen_cur → l'.won ≡ l.won →
    ((h : HeldDowngraded) → l'.downgraded ≡ Some h → l.downgraded ≡ Some h) → InChain instance words above l'
in_chain_local instance words above l l' old seen won downgraded = record {
  seen = seen;
  won = λ w has. old.won w (sym won ∙ has);
  downgraded = λ h has. old.downgraded h (downgraded h has);
}

module _ (instance : Instance) (words : List ℕ) (locals : List Local) (caller : ℕ) (l : Local) (some : 1 ≤ instance.callers) (locks : Locks instance.callers words locals) (root : Root instance words locals)
    (at : slice_get locals caller ≡ Some l) where
  abbrev cur : ℕ
  cur = slice_index words cur_at

  abbrev dur : ℕ
  dur = slice_index words dur_at

  -- CUR stands
  pub cur_stands : OnChain words root.above cur
  cur_stands = record { most = omega arith; among = λ up. leads_last locals dur root.above cur root.leads up }

  -- each caller still knows what it knew
  pub in_chain_moved : (words' above' : List ℕ) (d : ℕ) (x : Local) → Moves instance words words' locals root.above above' → slice_get locals d ≡ Some x → InChain instance words' above' x
  in_chain_moved words' above' d x m there =
      let old = root.each d x there in
      let stands = λ (code : ℕ). on_chain_moved instance words words' locals root.above above' code m in
      record {
        seen = stands x.seen_cur old.seen;
        won = λ w has. record {
          rises = (old.won w has).rises;
          stands = stands w.code (old.won w has).stands;
          placed = m.places _ (won_unheld instance.callers words locals some locks d x w there has) ∙ (old.won w has).placed;
        };
        downgraded = λ h has. m.places h.replica (downgraded_unheld instance.callers words locals some locks d x h there has) ∙ old.downgraded h has;
      }

  -- CUR's replica is where it was
  pub current_moved : (words' above' : List ℕ) → Moves instance words words' locals root.above above' → IsPlaced instance words' cur
  current_moved words' above' m = m.places _ (current_unheld instance.callers words locals some locks) ∙ root.current

  -- the part after a step, from what it leaves and from what its caller then knows
  pub root_moved : (words' above' : List ℕ) (l' : Local) → Moves instance words words' locals root.above above' →
      Leads (set locals caller l') (slice_index words' dur_at) above' (slice_index words' cur_at) → WinsApart (set locals caller l') →
      IsPlaced instance words' (slice_index words' cur_at) → InChain instance words' above' l' → Root instance words' (set locals caller l')
  root_moved words' above' l' m leads apart current here = record {
    above = above';
    leads = leads;
    apart = apart;
    current = current;
    each = λ d x there. elim (item_after locals caller d l' x (slice_get_within locals caller l at) there) [
      | inl e ↦ subst (InChain instance words' above') e.1 here
      | inr other ↦ in_chain_moved words' above' d x m other.1
    ];
  }

  -- a step that leaves CUR and DUR
  module _ (words' : List ℕ) (still : Still instance words words' locals) where
    pub moves : Moves instance words words' locals root.above root.above
    moves = record {
      cur = omega (arith, still.cur);
      dur = omega (arith, still.dur);
      keeps = λ code among _. among;
      places = still.places;
    }

    -- what its caller knew, it still knows
    pub in_chain_still : InChain instance words' root.above l
    in_chain_still = in_chain_moved words' root.above caller l moves at

    -- where the caller's win may end that DUR has passed
    pub root_left : (l' : Local) → ((before code : ℕ) → dur < code → l.won ≡ Some (record { code = code; before = before }) → l'.won ≡ Some (record { code = code; before = before })) →
        ((w : WonCode) → l'.won ≡ Some w → l.won ≡ Some w) → InChain instance words' root.above l' → Root instance words' (set locals caller l')
    root_left l' keeps stays here =
        root_moved words' root.above l' moves
        (subst (λ n. Leads (set locals caller l') n root.above (slice_index words' cur_at)) (sym still.dur)
        (subst (λ n. Leads (set locals caller l') dur root.above n) (sym still.cur)
        (leads_put locals caller l l' at dur root.above cur keeps root.leads)))
        (wins_stay locals caller l l' at root.apart stays)
        (subst (IsPlaced instance words') (sym still.cur) (current_moved words' root.above moves))
        here

    -- where its win stays
    pub root_stays : (l' : Local) → l'.won ≡ l.won → InChain instance words' root.above l' → Root instance words' (set locals caller l')
    root_stays l' won here = root_left l' (λ b c _ has. won ∙ has) (λ w has. sym won ∙ has) here

    -- where all stays that the part names of its local state
    pub root_same : (l' : Local) → SameRoot l l' → Root instance words' (set locals caller l')
    root_same l' same =
        root_stays l' same.won (in_chain_local instance words' root.above l l' in_chain_still (subst (OnChain words' root.above) (sym same.seen_cur) in_chain_still.seen) same.won same.downgraded)

  -- the framing law
  pub root_framed : (place v : ℕ) (l' : Local) → OffRoot instance place → SameRoot l l' → Root instance (set words place v) (set locals caller l')
  root_framed place v l' off same = root_same (set words place v) (still_off instance words locals place v off) l' same

  -- a step that puts the word it found
  pub word_kept : (place : ℕ) (l' : Local) → l'.won ≡ l.won → InChain instance words root.above l' → Root instance (set words place (slice_index words place)) (set locals caller l')
  word_kept place l' won here =
      subst (λ ws. Root instance ws (set locals caller l')) (sym (set-get_or words place 0)) (root_stays words (still_words instance words locals) l' won here)

-- the words between DUR and the replicas
pub low_off : (instance : Instance) (at : ℕ) → 2 ≤ at → at < replicas_at instance.callers → OffRoot instance at
low_off instance at from below = record { cur = omega arith; dur = omega arith; places = λ r small. omega arith }
