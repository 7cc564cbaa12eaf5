-- No allowed step stores to a word of a replica that nobody holds exclusively, so each of its words stays.
use Rattle.std.proofs.Common.{◌≡◌, ◌≢◌, ◌*◌, ◌<◌, inl, ℕ, List, Some, length, set, slice_index, refl, ap, sym, subst, ◌∙◌, arith}
use Rattle.std.proofs.lemmas.List.{get_or-set_other, set-get_or}
use Rattle.std.specs.List.{Contains, slice_get}
use Rattle.cx_base.specs.Codes.{root_replica_of}
use Rattle.cx_core.specs.declared.kinds.Event.{Event}
use Rattle.cx_core.specs.declared.kinds.Kind.{Kind}
use Rattle.cx_core.specs.declared.kinds.Kind.TheVariants.{LoadWord, StoreWord, Persist}
use Rattle.cx_core.specs.declared.local.Local.{Local}
use Rattle.cx_core.specs.Chain.{IsCodeChain}
use Rattle.cx_core.specs.Events.{Guard, Makes, words_after}
use Rattle.cx_core.specs.Lawful.{Shape}
use Rattle.cx_core.specs.LawfulLocks.{Locks}
use Rattle.cx_core.specs.LawfulRoot.{Root}
use Rattle.cx_core.specs.Layout.{per_at, replicas_at, vol_at}
use Rattle.cx_core.specs.Merge.{scene_of}
use Rattle.cx_core.specs.Rights.{exclusive_on, holds, is_on}
use Rattle.cx_core.specs.State.{Instance, Scene, State}
use Rattle.cx_core.proofs.ReplicaWords.{per_apart, vol_apart, vol_per_apart}
use Rattle.cx_core.proofs.StepWords.{step_low}
use Rattle.cx_core.proofs.Sums.{on_same, total_member}
use Rattle.core_replica.specs.Chain.{LeavesReplicas, SameWords}
use Rattle.core_replica.proofs.ChainLaws.{chain_unheld}
use Rattle.core_replica.proofs.Unheld.{NobodyHolds}

-- a word put before the replicas
low_words : (instance : Instance) (words : List ℕ) (at v r : ℕ) → at < replicas_at instance.callers → SameWords instance words (set words at v) r
low_words instance words at v r low = record {
  vol = λ i _. get_or-set_other words at (vol_at instance.callers (length instance.base.words) r i) v 0 (λ e. omega arith);
  per = λ i _. get_or-set_other words at (per_at instance.callers (length instance.base.words) r i) v 0 (λ e. omega arith);
}

-- a word put that was found there
found_words : (instance : Instance) (words : List ℕ) (at r : ℕ) → SameWords instance words (set words at (slice_index words at)) r
found_words instance words at r = subst (λ ws. SameWords instance words ws r) (sym (set-get_or words at 0)) (record { vol = λ _ _. refl; per = λ _ _. refl })

module _ (instance : Instance) (scene : Scene) (locals : List Local) (caller : ℕ) (l : Local) (r : ℕ) (shape : Shape instance scene.words locals) (nobody : NobodyHolds instance.callers locals r)
    (at : slice_get locals caller ≡ Some l) where
  abbrev callers : ℕ
  callers = instance.callers

  abbrev region : ℕ
  region = length instance.base.words

  abbrev words : List ℕ
  words = scene.words

  abbrev Same : Kind → Type 0
  Same kind = SameWords instance words (words_after instance kind l words) r

  -- the replica that a caller holds exclusively is another one
  held_else : (q : ℕ) → exclusive_on l ≡ Some q → q ≢ r
  held_else q held e =
      let one : holds r l ≡ 1 = ap (is_on r) held ∙ on_same q r e in
      omega (arith, nobody.unheld, one, total_member (holds r) locals caller l at)

  pub leaves : (kind : Kind) → Guard instance scene kind l → LeavesReplicas kind r
  leaves (StoreWord q i v) guard = held_else q guard.2
  leaves (Persist q i) guard = held_else q guard.0.2
  leaves kind guard = tt

  -- a store to the word `i` of a replica `q` other than `r` leaves the words of `r` as they were, in both memories
  stored : (q i v : ℕ) → q < 2 * callers → i < region → q ≢ r → SameWords instance words (set words (vol_at callers region q i) v) r
  stored q i v small below ne = record {
    vol = λ j j_below. get_or-set_other words (vol_at callers region q i) (vol_at callers region r j) v 0 (vol_apart callers region r q j i j_below below (inl (λ e. ne (sym e))));
    per = λ j j_below. get_or-set_other words (vol_at callers region q i) (per_at callers region r j) v 0 (λ e. vol_per_apart callers region q r i j small below (sym e));
  }

  pub words_left : (kind : Kind) → Guard instance scene kind l → Same kind
  words_left (LoadWord q i refused) guard = found_words instance words _ r
  words_left (StoreWord q i v) guard = stored q i v guard.0 guard.1 (held_else q guard.2)
  words_left (Persist q i) guard = record {
    vol = λ j j_below. get_or-set_other words (per_at callers region q i) (vol_at callers region r j) _ 0 (vol_per_apart callers region r q j i nobody.below j_below);
    per = λ j j_below. get_or-set_other words (per_at callers region q i) (per_at callers region r j) _ 0 (per_apart callers region r q j i j_below guard.0.1 (inl (λ e. held_else q guard.0.2 (sym e))));
  }
  words_left kind guard = low_words instance words _ _ r (step_low instance scene words locals caller l shape at kind guard)

-- no event stores to a replica that a code of the chain names
module _ (instance : Instance) (before after : State) (event : Event) (codes : List ℕ) (code : ℕ) (shape : Shape instance before.words before.locals) (locks : Locks instance.callers before.words before.locals)
    (root : Root instance before.words before.locals) (chain : IsCodeChain before.words before.locals codes) (among : Contains codes code) (made : Makes instance event before after) where
  abbrev named : ℕ
  named = root_replica_of instance.callers code

  nobody_there : NobodyHolds instance.callers before.locals named
  nobody_there = chain_unheld instance before root shape locks codes code chain among

  pub chain_leaves : LeavesReplicas event.kind named
  chain_leaves = leaves instance (scene_of instance before) before.locals event.caller made.local named shape nobody_there made.of_caller event.kind made.guard

  pub chain_left : SameWords instance before.words after.words named
  chain_left =
      subst (λ ws. SameWords instance before.words ws named) (sym made.words)
      (words_left instance (scene_of instance before) before.locals event.caller made.local named shape nobody_there made.of_caller event.kind made.guard)
