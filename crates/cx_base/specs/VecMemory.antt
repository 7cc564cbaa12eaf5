-- What a memory over a vector holds.
use Rattle.std.specs.Prelude.{ℕ, List}
use Rattle.cx_base.specs.declared.memory.VecMemory.{VecMemory}

-- the words of a memory over a vector
abbrev pub words_of : VecMemory → List ℕ
words_of memory = memory.words.items
