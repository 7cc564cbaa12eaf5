-- An object that answers by zeros.
use Rattle.std.specs.Prelude.{◌<◌, ◌^◌, ℕ, List, replicate}
use Rattle.std.proofs.Common.{lit<}
use Rattle.std.proofs.lemmas.List.{length-replicate}
use Rattle.std.proofs.lemmas.List.Elements.{All-replicate}
use Rattle.cx_base.specs.Memory.{Words}

-- the step of an object whose operations all leave the image as it is, and are answered by 144 zeros
abbrev pub idle_step : List ℕ → List ℕ → List ℕ × List ℕ
idle_step image op = (image, replicate 144 0)

-- 144 zeros are the words of a reply
pub zeros_are_words : Words 144 (replicate 144 0)
zeros_are_words = record { long = length-replicate {A = ℕ} 144 0; fit = All-replicate (λ x. x < 2 ^ 64) 144 0 (lit< tt) }
