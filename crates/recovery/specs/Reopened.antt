-- What a medium is made for the next life.
use Rattle.std.specs.Prelude.{◌≡◌, ◌≢◌, ◌+◌, ◌*◌, ◌^◌, ◌%◌, ◌<◌, ◌≤◌, ◌⊎◌, ℕ, Bool, true, false, length, slice_index}
use Rattle.cx_base.specs.Codes.{root_replica_of}
use Rattle.pmem_model.specs.Medium.{MediumState, IsDirtyMark, fenced, medium_word}
use Rattle.pmem_model.specs.declared.medium.Mark.TheVariants.{Dirty}
use Rattle.cx_core.specs.declared.entry.Image.{Image}
use Rattle.cx_core.specs.Region.{region_words}
use Rattle.recovery.specs.Images.{image_size, region_of}

-- the value of a word
abbrev pub value_at : MediumState → ℕ → ℕ
value_at m at = (medium_word m at).value

-- a line has the values of another
abbrev pub IsEqualLine : MediumState → ℕ → ℕ → Type 0
IsEqualLine m source line = (i : ℕ) → i < 8 → value_at m (8 * line + i) ≡ value_at m (8 * source + i)

-- the lines of a region, and the first line of the region that the root names
abbrev pub region_lines : ℕ → ℕ
region_lines lines = 146 + lines

abbrev pub root_line : ℕ → ℕ → ℕ → ℕ
root_line callers lines root = region_lines lines * root_replica_of callers root

-- a medium holds the words of all replicas, of 1 to 8 callers and 64 to 16,384 lines
pub record HasReplicas (callers lines : ℕ) (m : MediumState) : Type 0 where
  pub some : 1 ≤ callers
  pub few : callers ≤ 8
  pub enough : 64 ≤ lines
  pub small : lines ≤ 16384
  pub words : length m.words ≡ image_size callers lines
  pub stores : length m.stores ≡ region_lines lines * (2 * callers)

-- Every region, of this many lines, has the values of the one that begins at a line. Nothing is dirty that was clean. A line that had
-- these values is as often stored to as before. So is each line of that region, whose words are left as a fence leaves them.
pub record IsReopened (region regions from : ℕ) (old new : MediumState) : Type 0 where
  pub long : length new.words ≡ length old.words
  pub lines : length new.stores ≡ length old.stores
  pub values : (line i : ℕ) → line < region * regions → i < 8 → value_at new (8 * line + i) ≡ value_at old (8 * (from + line % region) + i)
  pub clean : (at : ℕ) → IsDirtyMark (medium_word new at).mark → IsDirtyMark (medium_word old at).mark
  pub idle : (line : ℕ) → line < region * regions → IsEqualLine old (from + line % region) line → slice_index new.stores line ≡ slice_index old.stores line
  pub own : (line : ℕ) → from ≤ line → line < from + region → slice_index new.stores line ≡ slice_index old.stores line
  pub kept : (line i : ℕ) → from ≤ line → line < from + region → i < 8 → medium_word new (8 * line + i) ≡ fenced (medium_word old (8 * line + i))

-- a medium has in each region the words of the region that an image's root names, and none of them is dirty
pub record HoldsRegion (image : Image) (m : MediumState) : Type 0 where
  pub replicas : HasReplicas image.callers image.lines m
  pub values : (replica i : ℕ) → replica < 2 * image.callers → i < region_words image.lines → value_at m (region_words image.lines * replica + i) ≡ slice_index (region_of image) i
  pub clean : (at : ℕ) → ¬ IsDirtyMark (medium_word m at).mark

-- a medium has both of these lines, and eight words to each of its lines, of which there are below 2^60
pub record HasBothLines (source line : ℕ) (m : MediumState) : Type 0 where
  pub words : length m.words ≡ 8 * length m.stores
  pub small : length m.stores < 2 ^ 60
  pub source_within : source < length m.stores
  pub line_within : line < length m.stores

-- The first words of a line have the values of another's, those that differed by a store, and no other word changed. The medium is as
-- it was where none differed.
pub record IsStoredFrom (source line n : ℕ) (differs : Bool) (old new : MediumState) : Type 0 where
  pub long : length new.words ≡ length old.words
  pub lines : length new.stores ≡ length old.stores
  pub outside : (at : ℕ) → (at < 8 * line) ⊎ (8 * line + n ≤ at) → medium_word new at ≡ medium_word old at
  pub values : (i : ℕ) → i < n → value_at new (8 * line + i) ≡ value_at old (8 * source + i)
  pub others : (other : ℕ) → other ≢ line → slice_index new.stores other ≡ slice_index old.stores other
  pub same : differs ≡ false → new ≡ old
  pub changed : differs ≡ true → (i : ℕ) × (i < n) × (value_at old (8 * line + i) ≢ value_at old (8 * source + i))

-- A line has the values of another, and no word waits to be written back that did not before. The medium is as it was where the line
-- had these values.
pub record IsLineCopied (source line : ℕ) (old new : MediumState) : Type 0 where
  pub long : length new.words ≡ length old.words
  pub lines : length new.stores ≡ length old.stores
  pub outside : (at : ℕ) → (at < 8 * line) ⊎ (8 * line + 8 ≤ at) → medium_word new at ≡ medium_word old at
  pub values : (i : ℕ) → i < 8 → value_at new (8 * line + i) ≡ value_at old (8 * source + i)
  pub waits : (at : ℕ) → (medium_word new at).mark ≡ Dirty → (medium_word old at).mark ≡ Dirty
  pub others : (other : ℕ) → other ≢ line → slice_index new.stores other ≡ slice_index old.stores other
  pub same : IsEqualLine old source line → new ≡ old
