-- Bytes packed in words.
use Rattle.std.specs.Prelude.{◌≡◌, ◌*◌, ◌≤◌, ℕ, List}
use Rattle.cx_base.specs.Packing.{packed, unpacked}

-- at most 8n bytes in n words, unused bytes 0
pub record IsPacked (n len : ℕ) (words : List ℕ) : Type 0 where
  pub short : len ≤ 8 * n
  pub unused : words ≡ packed n (unpacked len words)
