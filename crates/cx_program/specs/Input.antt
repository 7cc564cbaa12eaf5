-- What reading an input to its end shows of it.
use Rattle.std.specs.Prelude.{◌≡◌, ◌+◌, ◌<◌, ◌≤◌, ℕ, Bool, true, false, List, [], ◌++◌, length, take, drop, Option, Some, IfSome, IsTrue, Result, IfOk, OnErr, vec_len}
use Rattle.std.specs.Global.{Vec}
use Rattle.std.specs.declared.alloc.AllocError.{AllocError}
use Rattle.cx_base.specs.Outside.{Rose}
use Rattle.cx_base.specs.declared.outside.Failed.{Failed as Failure}
use Rattle.cx_base.specs.declared.outside.Source.{Ghosts}
use Rattle.cx_program.specs.declared.input.Input.{Input}
use Rattle.cx_program.specs.declared.input.Input.TheVariants.{Whole, TooLong, Failed}

-- the bytes are an input: what the source had left, where contracts see that; nothing where no input is read
abbrev pub IsInput : Bool → Option (List ℕ) → List ℕ → Type 0
IsInput true given input = IfSome given (λ all. input ≡ all)
IsInput false given input = input ≡ []

-- what reading shows of an input, if one is read, with the source's count of faults before and after
abbrev pub ShowsInput : Bool → Option (List ℕ) → ℕ → ℕ → Input → Type 0
ShowsInput reads given before after (Whole bytes) = (length bytes.items ≤ 16777216) × IsInput reads given bytes.items
ShowsInput reads given before after TooLong = (input : List ℕ) × (16777216 < length input) × IsInput reads given input
ShowsInput reads given before after Failed = IsTrue reads × Rose before after

-- a piece of n bytes moved from the front of what was left behind the bytes read so far; no byte is the end
pub record Moves (n : ℕ) (rest bytes longer : List ℕ) (after : Option (List ℕ)) : Type 0 where
  pub enough : n ≤ length rest
  pub read : longer ≡ bytes ++ take n rest
  pub left : after ≡ Some (drop n rest)
  pub end : n ≡ 0 → rest ≡ []

-- a piece moved from the front of what was left behind the bytes read so far, where the source says which bytes it has left
abbrev pub Moved : ℕ → Option (List ℕ) → List ℕ → List ℕ → Option (List ℕ) → Type 0
Moved n before bytes longer after = IfSome before (λ rest. Moves n rest bytes longer after)

-- bytes were taken from the front, at most this many
pub record TakesBytes (most : ℕ) (all : List ℕ) (rest : Option (List ℕ)) : Type 0 where
  pub count : ℕ
  pub few : count ≤ most
  pub left : rest ≡ Some (drop count all)

-- at most this many bytes were taken from the front of what was left, where the source says which bytes it has left
abbrev pub TookAtMost : ℕ → Option (List ℕ) → Option (List ℕ) → Type 0
TookAtMost most before after = IfSome before (λ all. TakesBytes most all after)

-- at most this many bytes were taken from a source, by at most as many reads
pub record Draws {Source : Type 0} (s : Ghosts Source) (most : ℕ) (old new : Source) : Type 0 where
  pub taken : TookAtMost most (s.left old) (s.left new)
  pub few : s.reads new ≤ s.reads old + most

-- The result of reading one piece of at most this many bytes: it stands after the bytes read so far; or the source failed, and nothing was
-- taken; or memory ran out, and the piece is lost.
pub record IsPiece (most : ℕ) (result : Result (Result ℕ Failure) AllocError) (bytes longer : Vec ℕ) (before after : Option (List ℕ)) (faults faults' : ℕ) : Type 0 where
  pub moved : IfOk result (λ read. IfOk read (λ n. Moved n before bytes.items longer.items after))
  pub added : IfOk result (λ read. IfOk read (λ n. (n ≤ most) × (vec_len longer ≡ vec_len bytes + n)))
  pub failed : IfOk result (λ read. OnErr read (Rose faults faults'))
  pub untouched : IfOk result (λ read. OnErr read (after ≡ before))
  pub lost : OnErr result (TookAtMost most before after)
  pub count : faults ≤ faults'
