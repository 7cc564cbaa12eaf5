-- What sources and sinks do.
use Rattle.std.specs.Prelude.{◌≡◌, ◌⊎◌, ◌+◌, ◌-◌, ◌^◌, ◌<◌, ◌≤◌, ℕ, min, List, [], ◌++◌, length, take, drop, Option, Some, IfSome, Result, IfOk, OnErr}

-- A count of faults rose. It stands still at its type's end, where it counts as having risen.
abbrev pub Rose : ℕ → ℕ → Type 0
Rose old new = (old < new) ⊎ (new ≡ 2 ^ 64 - 1)

-- n bytes came from the front of what was left, to the front of a buffer; 0 is the end of the input
pub record GivesBytes (n : ℕ) (bytes buffer : List ℕ) (rest : Option (List ℕ)) : Type 0 where
  pub enough : n ≤ length bytes
  pub read : take n buffer ≡ take n bytes
  pub left : rest ≡ Some (drop n bytes)
  pub end : n ≡ 0 → bytes ≡ []

-- n bytes came from the front of the bytes that were left, where these are known, to the front of a buffer; 0 is the end of the input
abbrev pub Gave : ℕ → Option (List ℕ) → List ℕ → Option (List ℕ) → Type 0
Gave n before buffer after = IfSome before (λ bytes. GivesBytes n bytes buffer after)

-- the first n bytes of a piece were appended, where the bytes written are known
abbrev pub Took : ℕ → List ℕ → Option (List ℕ) → Option (List ℕ) → Type 0
Took n piece before after = IfSome before (λ written. after ≡ Some (written ++ take n piece))

-- A source was asked for at most this number of bytes: those read are a prefix of what was left, or it failed, and none was taken. It
-- counts this as one read at the most.
pub record IsSourceRead {E : Type 0} (most : ℕ) (result : Result ℕ E) (buffer : List ℕ) (before after : Option (List ℕ)) (faults faults' reads reads' : ℕ) : Type 0 where
  pub ok : IfOk result (λ n. Gave n before buffer after)
  pub within : IfOk result (λ n. n ≤ most)
  pub failed : OnErr result (Rose faults faults')
  pub untouched : OnErr result (after ≡ before)
  pub count : faults ≤ faults'
  pub once : reads' ≤ reads + 1

-- A sink was handed a piece: some of its bytes were appended, or it failed, and none was.
pub record IsWritten {E : Type 0} (piece : List ℕ) (result : Result ℕ E) (before after : Option (List ℕ)) (faults faults' : ℕ) : Type 0 where
  pub ok : IfOk result (λ n. Took n piece before after)
  pub some : IfOk result (λ n. 0 < n)
  pub within : IfOk result (λ n. n ≤ length piece)
  pub failed : OnErr result (Rose faults faults')
  pub untouched : OnErr result (after ≡ before)
  pub count : faults ≤ faults'

-- what a sink in memory holds: the bytes, the room for them, and how often it has failed
pub record Holding : Type 0 where
  pub written : List ℕ
  pub room : ℕ
  pub faults : ℕ

-- what a source in memory has left, or a sink in memory holds; how many bytes go at most in a call; the numbers of the calls that
-- fail; how many calls were made; how often it has failed
pub record ByteStream : Type 0 where
  pub bytes : List ℕ
  pub chunk : ℕ
  pub fails : List ℕ
  pub calls : ℕ
  pub faults : ℕ

-- a sink in memory: what it holds and how its calls go, and its room
pub record Filling : Type 0 where
  pub stream : ByteStream
  pub room : ℕ

-- the number of the next call; a count stays at 2^64 - 1 once there
abbrev pub next_call : ℕ → ℕ
next_call made = min (made + 1) (2 ^ 64 - 1)

-- a call leaves how many bytes go in one and which calls fail as they were chosen, and it is counted
pub record CountsCall (old new : ByteStream) : Type 0 where
  pub chunk : new.chunk ≡ old.chunk
  pub fails : new.fails ≡ old.fails
  pub calls : new.calls ≡ next_call old.calls
