-- What a crash may leave of a state, and what is recovered from it.
use Rattle.std.specs.Prelude.{◌≡◌, ◌+◌, ◌*◌, ◌<◌, ◌≤◌, ℕ, List, Some, drop, length, slice_get, slice_index, take}
use Rattle.std.specs.List.{Contains}
use Rattle.cx_base.specs.Codes.{root_place_of, root_replica_of}
use Rattle.cx_core.specs.declared.entry.Base.{Base}
use Rattle.cx_core.specs.declared.entry.Entry.{Entry}
use Rattle.cx_core.specs.declared.local.Answer.{Answer}
use Rattle.cx_core.specs.declared.local.HeldExclusive.{HeldExclusive}
use Rattle.cx_core.specs.declared.local.Local.{Local}
use Rattle.cx_core.specs.declared.local.SeenRead.{SeenRead}
use Rattle.cx_core.specs.Chain.{IsCodeChain}
use Rattle.cx_core.specs.History.{full_image}
use Rattle.cx_core.specs.LawfulAnswers.{durable_place}
use Rattle.cx_core.specs.LawfulRegions.{per_word, vol_word}
use Rattle.cx_core.specs.State.{EachLocal, Instance, State}
use Rattle.pmem_model.specs.Medium.{MediumState, IsDirtyMark, medium_word}

-- what a crash leaves: a root code, and the words of all replicas one after another
pub record CrashImage : Type 0 where
  pub root : ℕ
  pub words : List ℕ

-- where word i of a replica stands in an image
abbrev pub image_at : Instance → ℕ → ℕ → ℕ
image_at instance r i = length instance.base.words * r + i

-- some caller holds a replica exclusively, with this address dirty
pub record IsDirtyIn (locals : List Local) (r i : ℕ) : Type 0 where
  pub caller : ℕ
  pub local : Local
  pub held : HeldExclusive
  pub of_caller : slice_get locals caller ≡ Some local
  pub has : local.exclusive ≡ Some held
  pub replica : held.replica ≡ r
  pub dirty : Contains held.dirty i

-- A crash image of a state has as root any code of the chain. Each word that is not dirty is the medium's, and each dirty
-- one is any number. A word persisted stands for its write-back and fence, so a crash comes between any two words.
pub record IsCrashImage (instance : Instance) (s : State) (image : CrashImage) : Type 0 where
  pub chain : List ℕ
  pub is_chain : IsCodeChain s.words s.locals chain
  pub root : Contains chain image.root
  pub long : length image.words ≡ length instance.base.words * (2 * instance.callers)
  pub settled : (r i : ℕ) → r < 2 * instance.callers → i < length instance.base.words → (IsDirtyIn s.locals r i → ⊥) →
      slice_index image.words (image_at instance r i) ≡ per_word instance s.words r i

-- a medium holds the words of all replicas: what a load gives of a word is its value, what the medium has of it is durable, and
-- a word that may be lost is dirty
pub record IsMediumOf (instance : Instance) (s : State) (medium : MediumState) : Type 0 where
  pub long : length medium.words ≡ length instance.base.words * (2 * instance.callers)
  pub value : (r i : ℕ) → r < 2 * instance.callers → i < length instance.base.words → (medium_word medium (image_at instance r i)).value ≡ vol_word instance s.words r i
  pub durable : (r i : ℕ) → r < 2 * instance.callers → i < length instance.base.words → (medium_word medium (image_at instance r i)).durable ≡ per_word instance s.words r i
  pub dirty : (r i : ℕ) → r < 2 * instance.callers → i < length instance.base.words → IsDirtyMark (medium_word medium (image_at instance r i)).mark → IsDirtyIn s.locals r i

-- what is recovered from an image that a service left: the region that its root names, with the root's place
abbrev pub recovered : Instance → CrashImage → Base
recovered instance image = record {
  place = root_place_of instance.callers image.root;
  words = take (length instance.base.words) (drop (image_at instance (root_replica_of instance.callers image.root) 0) image.words);
}

-- A base is the full image after its place, which is at or above DUR's and at most the history's end. So it holds each entry
-- that was answered, and the place of each read that was.
pub record IsKept (instance : Instance) (history : List Entry) (s : State) (base : Base) : Type 0 where
  pub from : instance.base.place ≤ base.place
  pub durable : durable_place instance s.words ≤ base.place
  pub to : base.place ≤ instance.base.place + length history
  pub long : length base.words ≡ length instance.base.words
  pub full : (i : ℕ) → i < length instance.base.words → slice_index base.words i ≡ slice_index (full_image instance.step instance.base history base.place) i
  pub answered : EachLocal s.locals (λ _ l. (i : ℕ) (x : Answer) → slice_get l.answered i ≡ Some x → x.ticket < base.place)
  pub reads : EachLocal s.locals (λ _ l. (i : ℕ) (x : SeenRead) → slice_get l.seen_reads i ≡ Some x → x.place ≤ base.place)
