-- How many words a table opens with.
use Rattle.std.specs.Prelude.{◌≡◌, ◌≤◌, ℕ, length}
use Rattle.cx_core.specs.Layout.{word_count}
use Rattle.cx_core.specs.State.{opening_words}
use Rattle.cx_core.specs.declared.entry.Base.{Base}
use Rattle.cx_core.proofs.StateLemmas.{length-opening}

pub long_opening : (callers : ℕ) (base : Base) → 1 ≤ callers → length (opening_words callers base) ≡ word_count callers (length base.words)
long_opening = length-opening
