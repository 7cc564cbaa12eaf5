-- What a crash leaves of a closed table, by choice.
use Rattle.std.specs.Prelude.{◌≡◌, ◌%◌, ◌≤◌, ℕ, false, length, slice_index, slice_index_or, if◌then◌else◌}
use Rattle.cx_core.specs.declared.entry.Image.{Image}
use Rattle.cx_table.specs.declared.remains.Remains.{Remains}
use Rattle.pmem_model.specs.Medium.{any_value}
use Rattle.pmem_model.specs.declared.medium.Mark.TheVariants.{Dirty}
use Rattle.recovery.specs.Images.{Gives, image_size}

-- what a closed table left is all there: 1 to 8 callers, 64 to 16,384 lines, some code, and each word of all replicas
pub record AreRemainsWhole (r : Remains) : Type 0 where
  pub some : 1 ≤ r.callers
  pub few : r.callers ≤ 8
  pub enough : 64 ≤ r.lines
  pub small : r.lines ≤ 16384
  pub published : 1 ≤ length r.published.items
  pub volatile : length r.volatile.items ≡ image_size r.callers r.lines
  pub durable : length r.durable.items ≡ image_size r.callers r.lines
  pub dirty : length r.dirty.items ≡ image_size r.callers r.lines

-- What is left of a word: its durable value where it is not dirty. A dirty one has its durable value by choice 0, its volatile
-- value by choice 1, and by each other choice the product of the choice and the address plus 1, which wraps.
abbrev pub left_word : Remains → ℕ → ℕ → ℕ
left_word r choice at =
    if slice_index_or r.dirty.items at false
    then any_value choice at (record { value = slice_index r.volatile.items at; durable = slice_index r.durable.items at; mark = Dirty })
    else slice_index r.durable.items at

-- the root that is left: one of the codes published from the durable one on
abbrev pub left_root : Remains → ℕ → ℕ
left_root r choice = slice_index r.published.items (choice % length r.published.items)

-- the image has that root, and pairs for those of these words that are not 0
pub record IsLeftOf (r : Remains) (choice : ℕ) (image : Image) : Type 0 where
  pub callers : image.callers ≡ r.callers
  pub lines : image.lines ≡ r.lines
  pub count : image.count ≡ image_size r.callers r.lines
  pub root : image.root ≡ left_root r choice
  pub pairs : Gives (left_word r choice) image.count image.pairs
