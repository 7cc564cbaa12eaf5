-- Scripts as a language that is read line by line: why a line is refused.
use Rattle.std.specs.Prelude.{◌≡◌, ℕ, Bool, not, ◌&&◌, ◌==◌, nat_le, false, List, ◌∷◌, length, codes, Some, is_some, if◌then◌else◌}
use Rattle.std.specs.Option.{option_map_or}
use Rattle.std.specs.Str.{is_utf8}
use Rattle.plain_text.specs.LineGrammar.{LineGrammar}
use Rattle.plain_text.specs.Words.{first_word, rest_of, is_word}
use Rattle.life_records.specs.Scripts.{command_count}
use Rattle.script_text.specs.Grammar.{AddsScriptLine, Commands, IsLineAccepted, Life, Row, Script, first_that_fits, last_life, no_script}
use Rattle.script_text.specs.Heads.{header_of, life_of, client_of}
use Rattle.script_text.specs.Reading.{cut_behind}
use Rattle.script_text.specs.declared.lines.ScriptLine.{ScriptLine}
use Rattle.script_text.specs.declared.lines.ScriptReason.TheVariants as reasons

-- whether the word is the number of a client of the life
abbrev pub is_client : {Op : Type 0} → Life Op → List ℕ → Bool
is_client life word = is_some (client_of life.clients word)

module _ {Op Reason : Type 0} where
  -- whether the line is a cut line for a client of the life that has none
  abbrev pub is_cut : Commands Op Reason → Life Op → List ℕ → Bool
  is_cut commands life line = is_some (cut_behind commands.limits.cuts life.clients life.cuts (rest_of line))

  -- the reasons in their order
  abbrev pub reasons_for : Commands Op Reason → Script Op → List ℕ → List (Row Reason)
  reasons_for commands script line =
      (not (is_utf8 line), commands.reason reasons.Utf8)
      ∷ ((script.lines == 0) && not (is_some (header_of line)), commands.reason reasons.Header)
      ∷ (if is_word (codes "life") (first_word line) then not (is_some (life_of commands.limits.clients line)) else length script.lives == 0, commands.reason reasons.Life)
      ∷ (is_word (codes "life") (first_word line) && nat_le commands.limits.lives (length script.lives), commands.reason reasons.Lives)
      ∷ (is_word (codes "cut") (first_word line) && not (option_map_or (λ life. is_cut commands life line) (last_life script.lives) false), commands.reason reasons.Cut)
      ∷ (not (option_map_or (λ life. is_client life (first_word line)) (last_life script.lives) false), commands.reason reasons.Client)
      ∷ (nat_le 100000 (command_count script.lives), commands.reason reasons.Commands)
      ∷ commands.rows (rest_of line)

  -- Why a line is refused: no line of the grammar is spelled so and may stand here, and the reason is the first that fits.
  abbrev pub IsReason : Commands Op Reason → Script Op → List ℕ → Reason → Type 0
  IsReason commands before line reason =
      ((says : ScriptLine Op) → IsLineAccepted commands before line says → ⊥) × (first_that_fits (reasons_for commands before line) ≡ Some reason)

  -- the language of scripts with these commands
  abbrev pub script_grammar : Commands Op Reason → LineGrammar (Script Op) Reason
  script_grammar commands = record { nothing = no_script; Adds = AddsScriptLine commands; IsReason = IsReason commands }
