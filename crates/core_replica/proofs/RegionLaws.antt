-- The part on regions: its frame, and what a step leaves of it.
use Rattle.std.proofs.Common.{◌≡◌, ◌+◌, ◌*◌, ◌<◌, inl, inr, ℕ, List, [], Some, length, set, slice_index, ap, sym, ◌∙◌, arith, length-append}
use Rattle.std.proofs.lemmas.Bool.{cases_eq}
use Rattle.std.proofs.lemmas.List.{get_or-set_other}
use Rattle.std.proofs.lemmas.List.Elements.{All-weaker}
use Rattle.std.proofs.lemmas.Option.{same_Some, slice_get_within}
use Rattle.std.specs.List.{Contains, slice_get}
use Rattle.std.specs.Option.{option_map}
use Rattle.cx_core.specs.declared.entry.Entry.{Entry}
use Rattle.cx_core.specs.declared.local.HeldExclusive.{HeldExclusive}
use Rattle.cx_core.specs.declared.local.HeldShared.{HeldShared}
use Rattle.cx_core.specs.declared.local.Local.{Local}
use Rattle.cx_core.specs.History.{IsFull, full_image}
use Rattle.cx_core.specs.LawfulRegions.{HasLoaded, HasWords, IsReplicaImage, IsUnheld, Regions, per_word, vol_word}
use Rattle.cx_core.specs.Layout.{per_at, vol_at, word_count}
use Rattle.cx_core.specs.Rights.{exclusive_on}
use Rattle.cx_core.specs.State.{Instance}
use Rattle.cx_core.proofs.ReplicaWords.{held_place}
use Rattle.cx_core.proofs.HistoryLemmas.{full_stays}
use Rattle.cx_core.proofs.ListLemmas.{slice_get-set_same, slice_get-set_other}
use Rattle.cx_core.specs.Frames.{Continues}
use Rattle.cx_core.proofs.Locals.{EachLocal-set}
use Rattle.core_replica.specs.Frames.{OffRegions, SameHeld}

-- the words of a replica are as before, in both memories
pub record SameReplica (instance : Instance) (words words' : List ℕ) (r : ℕ) : Type 0 where
  pub place : vol_word instance words' r 0 ≡ vol_word instance words r 0
  pub vol : (i : ℕ) → i < length instance.base.words → vol_word instance words' r i ≡ vol_word instance words r i
  pub per : (i : ℕ) → i < length instance.base.words → per_word instance words' r i ≡ per_word instance words r i

pub image_same : (instance : Instance) (history : List Entry) (words words' : List ℕ) (r : ℕ) → SameReplica instance words words' r → IsReplicaImage instance history words r → IsReplicaImage instance history words' r
image_same instance history words words' r same old =
    let image = full_image instance.step instance.base history in
    record {
      from = rw same.place old.from;
      to = rw same.place old.to;
      vol = λ i below. same.vol i below ∙ old.vol i below ∙ ap (λ p. slice_index (image p) i) (sym same.place);
      per = λ i below. same.per i below ∙ old.per i below ∙ ap (λ p. slice_index (image p) i) (sym same.place);
    }

pub image_longer : (instance : Instance) (history history' : List Entry) (words : List ℕ) (r : ℕ) → Continues history history' → IsReplicaImage instance history words r → IsReplicaImage instance history' words r
image_longer instance history history' words r continues old =
    let place = vol_word instance words r 0 in
    let same : full_image instance.step instance.base history' place ≡ full_image instance.step instance.base history place =
    ap (λ h. full_image instance.step instance.base h place) continues.is ∙ full_stays instance history continues.more place old.to in
    let longer : length history' ≡ length history + length continues.more = ap length continues.is ∙ length-append history continues.more in
    record {
      from = old.from;
      to = omega (arith, old.to);
      vol = λ i below. old.vol i below ∙ ap (λ ws. slice_index ws i) (sym same);
      per = λ i below. old.per i below ∙ ap (λ ws. slice_index ws i) (sym same);
    }

pub words_same : (instance : Instance) (words words' : List ℕ) (h : HeldExclusive) → SameReplica instance words words' h.replica → HasWords instance words h → HasWords instance words' h
words_same instance words words' h same old = record {
  long = old.long;
  vol = λ i below. same.vol i below ∙ old.vol i below;
  per = λ i below clean. same.per i below ∙ old.per i below clean;
  dirty = old.dirty;
}

pub loaded_same : (instance : Instance) (words words' : List ℕ) (h : HeldShared) → SameReplica instance words words' h.replica → HasLoaded instance words h → HasLoaded instance words' h
loaded_same instance words words' h same old =
    let Was : List ℕ → ℕ × ℕ → Type 0 = λ ws x. (x.0 < length instance.base.words) × (vol_word instance ws h.replica x.0 ≡ x.1) in
    All-weaker (Was words) (Was words') (λ x here. (here.0, same.vol x.0 here.0 ∙ here.1)) h.loaded old

-- a step on no word of a replica
pub same_off : (instance : Instance) (words : List ℕ) (at v r : ℕ) → OffRegions instance at → SameReplica instance words (set words at v) r
same_off instance words at v r off =
    let vol : (i : ℕ) → vol_word instance (set words at v) r i ≡ vol_word instance words r i = λ i.
    get_or-set_other words at (vol_at instance.callers (length instance.base.words) r i) v 0 (λ e. omega arith) in
    record {
      place = vol 0;
      vol = λ i _. vol i;
      per = λ i _. get_or-set_other words at (per_at instance.callers (length instance.base.words) r i) v 0 (λ e. omega arith);
    }

-- the part on regions with the same words of each replica
pub regions_words : (instance : Instance) (history : List Entry) (words words' : List ℕ) (locals : List Local) → ((r : ℕ) → SameReplica instance words words' r) →
    Regions instance history words locals → Regions instance history words' locals
regions_words instance history words words' locals same old = record {
  unheld = λ r small nobody. image_same instance history words words' r (same r) (old.unheld r small nobody);
  held = λ c l there h has. words_same instance words words' h (same h.replica) (old.held c l there h has);
  loaded = λ c l there h has. loaded_same instance words words' h (same h.replica) (old.loaded c l there h has);
}

-- with a history that goes on
pub regions_longer : (instance : Instance) (history history' : List Entry) (words : List ℕ) (locals : List Local) → Continues history history' →
    Regions instance history words locals → Regions instance history' words locals
regions_longer instance history history' words locals continues old = record {
  unheld = λ r small nobody. image_longer instance history history' words r continues (old.unheld r small nobody);
  held = old.held;
  loaded = old.loaded;
}

-- who holds nothing after a caller's local state was put held nothing before, where that caller did not
pub unheld_before : (locals : List Local) (caller : ℕ) (l l' : Local) (r : ℕ) → slice_get locals caller ≡ Some l → (exclusive_on l ≡ Some r → exclusive_on l' ≡ Some r) →
    IsUnheld (set locals caller l') r → IsUnheld locals r
unheld_before locals caller l l' r at stays nobody d x there holds =
    elim (cases_eq d caller) [
      | inl e ↦ (
          let is : l ≡ x = same_Some l x (sym at ∙ ap (slice_get locals) (sym e) ∙ there) in
          nobody caller l' (slice_get-set_same locals caller l' (slice_get_within locals caller l at)) (stays (ap (λ (y : Local). exclusive_on y) is ∙ holds)))
      | inr ne ↦ nobody d x (slice_get-set_other locals caller d l' ne ∙ there) holds
    ]

-- A caller's local state is put and no word changes: the part on replicas stays, where each replica that then nobody holds is an image, and the words that
-- the caller then holds or has loaded are the replica's.
pub regions_local : (instance : Instance) (history : List Entry) (words : List ℕ) (locals : List Local) (caller : ℕ) (l l' : Local) → Regions instance history words locals → slice_get locals caller ≡ Some l →
    ((r : ℕ) → r < 2 * instance.callers → IsUnheld (set locals caller l') r → IsReplicaImage instance history words r) →
    ((h : HeldExclusive) → l'.exclusive ≡ Some h → HasWords instance words h) →
    ((h : HeldShared) → l'.shared ≡ Some h → HasLoaded instance words h) → Regions instance history words (set locals caller l')
regions_local instance history words locals caller l l' old at unheld held loaded = record {
  unheld = unheld;
  held = EachLocal-set locals caller l l' (λ _ x. (h : HeldExclusive) → x.exclusive ≡ Some h → HasWords instance words h) at old.held held;
  loaded = EachLocal-set locals caller l l' (λ _ x. (h : HeldShared) → x.shared ≡ Some h → HasLoaded instance words h) at old.loaded loaded;
}

-- where the exclusive right is as before
pub regions_shared : (instance : Instance) (history : List Entry) (words : List ℕ) (locals : List Local) (caller : ℕ) (l l' : Local) → Regions instance history words locals → slice_get locals caller ≡ Some l →
    l'.exclusive ≡ l.exclusive → ((h : HeldShared) → l'.shared ≡ Some h → HasLoaded instance words h) → Regions instance history words (set locals caller l')
regions_shared instance history words locals caller l l' old at same loaded =
    regions_local instance history words locals caller l l' old at
    (λ r small nobody. old.unheld r small (unheld_before locals caller l l' r at (λ holds. ap (option_map (λ (h : HeldExclusive). h.replica)) same ∙ holds) nobody))
    (λ h has. old.held caller l at h (sym same ∙ has)) loaded

-- the framing law: regions name the words of replicas, and of a local state what is held exclusively and shared
pub regions_framed : (instance : Instance) (history : List Entry) (words : List ℕ) (locals : List Local) (at v caller : ℕ) (l l' : Local) → Regions instance history words locals → slice_get locals caller ≡ Some l →
    OffRegions instance at → SameHeld l l' → Regions instance history (set words at v) (set locals caller l')
regions_framed instance history words locals at v caller l l' old there off same =
    let kept = regions_words instance history words (set words at v) locals (λ r. same_off instance words at v r off) old in
    regions_shared instance history (set words at v) locals caller l l' kept there same.exclusive (λ h has. kept.loaded caller l there h (sym same.shared ∙ has))

-- what is held, clean and the full image after its place, may be released
pub image_given : (instance : Instance) (history : List Entry) (words : List ℕ) (h : HeldExclusive) → length words ≡ word_count instance.callers (length instance.base.words) → HasWords instance words h →
    h.dirty ≡ [] → IsFull instance history h.words → IsReplicaImage instance history words h.replica
image_given instance history words h long has clean full =
    let place = held_place instance words h long has in
    let image = full_image instance.step instance.base history in
    let none : (i : ℕ) → Contains h.dirty i → ⊥ = λ i there. empty h.dirty i clean there in
    let word : (i : ℕ) → slice_index h.words i ≡ slice_index (image (vol_word instance words h.replica 0)) i = λ i.
    ap (λ ws. slice_index ws i) full.full ∙ ap (λ p. slice_index (image p) i) (sym place) in
    record {
      from = rw place full.from;
      to = rw place full.to;
      vol = λ i below. has.vol i below ∙ word i;
      per = λ i below. has.per i below (none i) ∙ word i;
    }
  where
    empty : (xs : List ℕ) (i : ℕ) → xs ≡ [] → Contains xs i → ⊥
    empty xs i is there = (let below : there.0 < length xs = there.1 in let nothing : length xs ≡ 0 = ap length is in omega arith)
