-- What a crash leaves of a state, by choice.
use Rattle.std.specs.Prelude.{◌≡◌, ◌*◌, ◌%◌, ◌<◌, ℕ, List, length, slice_index}
use Rattle.cx_core.specs.declared.entry.Image.{Image}
use Rattle.cx_core.specs.Chain.{IsCodeChain}
use Rattle.cx_core.specs.Crash.{IsDirtyIn, image_at}
use Rattle.cx_core.specs.LawfulRegions.{per_word, vol_word}
use Rattle.cx_core.specs.State.{Instance, State}
use Rattle.pmem_model.specs.Medium.{any_value}
use Rattle.pmem_model.specs.declared.medium.Mark.TheVariants.{Dirty}
use Rattle.recovery.specs.Images.{Gives}

-- The root is the code at the choice in the chain from DUR to CUR. A word that is not dirty is the medium's. A dirty one is the
-- medium's by choice 0, the one that loads give by choice 1, and by each other choice the product of the choice and the address
-- plus 1, which wraps.
pub record IsImageOf (lines : ℕ) (instance : Instance) (s : State) (choice : ℕ) (image : Image) : Type 0 where
  pub callers : image.callers ≡ instance.callers
  pub of : image.lines ≡ lines
  pub count : image.count ≡ length instance.base.words * (2 * instance.callers)
  pub chain : List ℕ
  pub is_chain : IsCodeChain s.words s.locals chain
  pub root : image.root ≡ slice_index chain (choice % length chain)
  pub word : ℕ → ℕ
  pub pairs : Gives word image.count image.pairs
  pub settled : (r i : ℕ) → r < 2 * instance.callers → i < length instance.base.words → (IsDirtyIn s.locals r i → ⊥) →
      word (image_at instance r i) ≡ per_word instance s.words r i
  pub lost : (r i : ℕ) → r < 2 * instance.callers → i < length instance.base.words → IsDirtyIn s.locals r i →
      word (image_at instance r i) ≡ any_value choice (image_at instance r i) (record { value = vol_word instance s.words r i; durable = per_word instance s.words r i; mark = Dirty })
