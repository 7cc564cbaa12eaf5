-- What a memory tells: which words it may have held first, and which it then holds now.
use Rattle.std.specs.Prelude.{◌≡◌, ◌+◌, ◌-◌, ◌^◌, ◌<◌, ◌↔◌, ℕ, Bool, List, [], ◌∷◌, length, All, Option, Some, None, is_some, Result, IsErr, OnErr, slice_index, slice_set}
use Rattle.std.proofs.Common.{ap}
use Rattle.std.proofs.lemmas.List.Elements.{All-same}

-- n words of 64 bits
pub record Words (n : ℕ) (ws : List ℕ) : Type 0 where
  pub long : length ws ≡ n
  pub fit : All (λ x. x < 2 ^ 64) ws

-- what is left of a limit after one access more; no limit stays none
abbrev pub one_less : Option ℕ → Option ℕ
one_less None = None
one_less (Some n) = Some (n - 1)

-- the pairs that stand now are those that stood before
pub record Same {Key : Type 0} (old new : Key → List ℕ → Type 0) : Type 0 where
  pub back : (first : Key) (now : List ℕ) → new first now → old first now
  pub on : (first : Key) (now : List ℕ) → old first now → new first now

-- the pairs that stand after a load at a place that gave v: those from before that have v there
pub record Loaded {Key : Type 0} (at v : ℕ) (old new : Key → List ℕ → Type 0) : Type 0 where
  pub back : (first : Key) (now : List ℕ) → new first now → old first now × (slice_index now at ≡ v)
  pub on : (first : Key) (now : List ℕ) → old first now → slice_index now at ≡ v → new first now

-- the pairs that stand after a store of v at a place: those from before with v put there
pub record Stored {Key : Type 0} (at v : ℕ) (old new : Key → List ℕ → Type 0) : Type 0 where
  pub back : (first : Key) (now : List ℕ) → new first now → (before : List ℕ) × old first before × (now ≡ slice_set before at v)
  pub on : (first : Key) (before : List ℕ) → old first before → new first (slice_set before at v)

-- each pair that stands now comes from one before, with the words before and after so related
pub record Becomes {Key : Type 0} (old new : Key → List ℕ → Type 0) (R : List ℕ → List ℕ → Type 0) : Type 0 where
  pub from : (first : Key) (now : List ℕ) → new first now → (before : List ℕ) × old first before × R before now

-- each pair that stands now stood before, and P holds of its words now
pub record Reads {Key : Type 0} (old new : Key → List ℕ → Type 0) (P : List ℕ → Type 0) : Type 0 where
  pub from : (first : Key) (now : List ℕ) → new first now → old first now × P now

-- Calls over a memory leave it the same memory: as many words, as writable, and a limit where there was one.
pub record Framed {Memory Fixed : Type 0} (size : Memory → ℕ) (fixed : Memory → Fixed) (writable : Memory → Bool) (left : Memory → Option ℕ) (old new : Memory) : Type 0 where
  pub size_kept : size new ≡ size old
  pub fixed_kept : fixed new ≡ fixed old
  pub writable_kept : writable new ≡ writable old
  pub limited : is_some (left new) ≡ is_some (left old)

-- One access: it halts exactly where none is left, and then nothing changes. It is counted, and leaves the same memory.
pub record Accessed {Memory Fixed Key T E : Type 0} (size : Memory → ℕ) (fixed : Memory → Fixed) (writable : Memory → Bool) (left : Memory → Option ℕ) (stands : Memory → Key → List ℕ → Type 0) (old new : Memory) (result : Result T E) : Type 0 where
  pub halts : IsErr result ↔ (left old ≡ Some 0)
  pub kept : OnErr result (Same (stands old) (stands new))
  pub counted : left new ≡ one_less (left old)
  pub size_kept : size new ≡ size old
  pub fixed_kept : fixed new ≡ fixed old
  pub writable_kept : writable new ≡ writable old

-- these words stand from a place on
abbrev pub AreAt : ℕ → List ℕ → List ℕ → Type 0
AreAt at words now = (i : ℕ) → i < length words → slice_index now (at + i) ≡ slice_index words i

-- words put over those from a place on
unfoldable pub overwritten : ℕ → List ℕ → List ℕ → List ℕ
overwritten at [] words = words
overwritten at (v ∷ vs) words = overwritten (at + 1) vs (slice_set words at v)

-- P holds of all the words that may be there now
abbrev pub Always : {Key : Type 0} → (Key → List ℕ → Type 0) → (List ℕ → Type 0) → Type 0
Always {Key = Key} stands P = (first : Key) (now : List ℕ) → stands first now → P now

-- a pair whose words now are known: any words first
pub record Known (words first now : List ℕ) : Type 0 where
  pub first_fits : Words (length words) first
  pub same : now ≡ words

-- where the words now are known, they are as many and as small as the known ones
pub words_from_known : (words first now : List ℕ) → All (λ x. x < 2 ^ 64) words → Known words first now → Words (length words) now
words_from_known words first now fit k = record { long = ap length k.same; fit = All-same (λ x. x < 2 ^ 64) now words k.same fit }
