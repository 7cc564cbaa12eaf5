-- What lines say together, and which of them is the first that may not stand where it does.
use Rattle.std.specs.Prelude.{◌≡◌, ◌-◌, ◌<◌, ◌≤◌, ℕ, List, [], ◌∷◌, length, take, slice_get, Option, None, Some, Result, Ok, Err}
use Rattle.plain_text.specs.Lines.{text_lines}
use Rattle.plain_text.specs.declared.reader.TextFault.{TextFault}
use Rattle.plain_text.specs.declared.reader.TextFault.TheVariants.{Refused, Memory}

-- A language whose texts are read line by line: what a text without lines says, what it says with one more line, and why
-- a line may not stand behind what was said so far.
pub record LineGrammar (Said Reason : Type 0) : Type 1 where
  pub nothing : Said
  pub Adds : Said → List ℕ → Said → Type 0
  pub IsReason : Said → List ℕ → Reason → Type 0

module _ {Said Reason : Type 0} where
  -- what is said with more lines
  abbrev pub AddsAll : LineGrammar Said Reason → Said → List (List ℕ) → Said → Type 0
  AddsAll g before [] after = after ≡ before
  AddsAll g before (line ∷ lines) after = (between : Said) × g.Adds before line between × AddsAll g between lines after

  -- what these lines say together
  abbrev pub AreLinesOf : LineGrammar Said Reason → List (List ℕ) → Said → Type 0
  AreLinesOf g lines said = AddsAll g g.nothing lines said

  -- what a text says
  abbrev pub IsTextOf : LineGrammar Said Reason → List ℕ → Said → Type 0
  IsTextOf g text said = AreLinesOf g (text_lines text) said

  -- the first line with which the lines so far say nothing together, counted from 1
  pub record IsFirstFault (g : LineGrammar Said Reason) (text : List ℕ) (line : ℕ) : Type 0 where
    pub some : 0 < line
    pub there : line ≤ length (text_lines text)
    pub before : (said : Said) × AreLinesOf g (take (line - 1) (text_lines text)) said
    pub none : (said : Said) → AreLinesOf g (take line (text_lines text)) said → ⊥

  -- why the line, counted from 1, may not stand behind those before it
  pub record IsReasonAt (g : LineGrammar Said Reason) (text : List ℕ) (line : ℕ) (reason : Reason) : Type 0 where
    pub before : Said
    pub are : AreLinesOf g (take (line - 1) (text_lines text)) before
    pub this : List ℕ
    pub stands : slice_get (text_lines text) (line - 1) ≡ Some this
    pub because : g.IsReason before this reason

  -- what is told of a text that was not read
  abbrev pub IsFault : LineGrammar Said Reason → List ℕ → TextFault Reason → Type 0
  IsFault g text (Refused line reason) = IsFirstFault g text line × IsReasonAt g text line reason
  IsFault g text Memory = Unit {0}

  -- this was read, or memory was wanting
  abbrev pub IsOkOr : Said → Result Said (TextFault Reason) → Type 0
  IsOkOr said (Ok read) = read ≡ said
  IsOkOr said (Err (Refused line reason)) = ⊥
  IsOkOr said (Err Memory) = Unit {0}

  -- what is known after a line: what is said with it, or why it is refused
  abbrev pub outcome : Option Reason → Said → Result Said Reason
  outcome None after = Ok after
  outcome (Some reason) after = Err reason

  -- Lines are read by their grammar: what is said with one more line, or why it is refused.
  pub record ReadsLines (g : LineGrammar Said Reason) (judged : Said → List ℕ → Result Said Reason) : Type 0 where
    pub sound : (before : Said) (line : List ℕ) (after : Said) → judged before line ≡ Ok after → g.Adds before line after
    pub complete : (before : Said) (line : List ℕ) (after : Said) → g.Adds before line after → judged before line ≡ Ok after
    pub refused : (before : Said) (line : List ℕ) (reason : Reason) → judged before line ≡ Err reason → g.IsReason before line reason
