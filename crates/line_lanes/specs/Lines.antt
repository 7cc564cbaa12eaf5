-- Which lines two lists of words differ in, and which lines a list of addresses touches. A line is 8 words.
use Rattle.std.specs.Prelude.{◌≡◌, ◌≢◌, ◌/◌, ◌<◌, ◌≤◌, ◌↔◌, ◌==◌, ◌||◌, ℕ, Bool, false, IsTrue, List, length, slice_index, slice_index_or}
use Rattle.std.specs.List.{Any, list_any}

-- two lists of words differ in a line: some word of the line is not the same in both
abbrev pub DiffersInLine : List ℕ → List ℕ → ℕ → Type 0
DiffersInLine a b line = (at : ℕ) × (at / 8 ≡ line) × (slice_index a at ≢ slice_index b at)

-- two lists have the same words from one place on to below another
abbrev pub AgreeFrom : List ℕ → List ℕ → ℕ → ℕ → Type 0
AgreeFrom a b from to = (at : ℕ) → from ≤ at → at < to → slice_index a at ≡ slice_index b at

-- some address lies in a line
abbrev pub TouchesLine : List ℕ → ℕ → Type 0
TouchesLine addresses line = Any (λ address. address / 8 ≡ line) addresses

-- of the first n lines, the marks are true exactly at those of which that holds
abbrev pub MarksBelow : (ℕ → Type 0) → List Bool → ℕ → Type 0
MarksBelow P marks n = (line : ℕ) → line < n → (IsTrue (slice_index_or marks line false) ↔ P line)

-- the marks are true exactly at the lines of which that holds
abbrev pub MarksLines : (ℕ → Type 0) → List Bool → Type 0
MarksLines P marks = MarksBelow P marks (length marks)

-- two vectors differ in some lane
abbrev pub DifferSomewhere : List ℕ → List ℕ → Type 0
DifferSomewhere a b = (lane : ℕ) × (slice_index a lane ≢ slice_index b lane)

-- marks to which those of the lines were added that pass the test
abbrev pub AddsMarks : (ℕ → Bool) → List Bool → List Bool → Type 0
AddsMarks added old new = (line : ℕ) → line < length new → slice_index_or new line false ≡ (slice_index_or old line false || added line)

-- whether a line is one of these lines
abbrev pub is_line_of : List ℕ → ℕ → Bool
is_line_of lines line = list_any (λ l. l == line) lines

-- whether a line is one of these addresses' lines
abbrev pub is_touched : List ℕ → ℕ → Bool
is_touched addresses line = list_any (λ address. address / 8 == line) addresses
