-- Scripts are read by their grammar, line by line, and the reason of a refusal is the first that fits.
use Rattle.std.specs.Prelude.{codes, ◌⊎◌, is_some}
use Rattle.std.specs.Option.{option_map, ok_or}
use Rattle.std.specs.Str.{is_utf8}
use Rattle.std.proofs.Common.{◌≡◌, ℕ, true, false, eqb, leb, ltb, List, [], ◌∷◌, length, Option, None, Some, Result, Ok, Err, refl, arith, inl, inr, sym, ap}
use Rattle.std.proofs.lemmas.Bool.{le-leb, lt-leb, ltb-true, ltb-false, ne_eqb, cases_Bool}
use Rattle.plain_text.specs.Words.{first_word, rest_of, is_word}
use Rattle.plain_text.specs.LineGrammar.{ReadsLines}
use Rattle.plain_text.proofs.LineByLine.{no_value, one_value}
use Rattle.life_records.specs.Scripts.{command_count}
use Rattle.script_text.specs.Grammar.{AddsScriptLine, Commands, Life, ReadsCommands, Row, Script, first_that_fits, is_passed_over, last_life, with_said}
use Rattle.script_text.specs.Heads.{header_of, life_of, client_of}
use Rattle.script_text.specs.Reading.{then_ok, command_of, cut_behind, said_in, begun, said_below, line_of, with_parsed, judged}
use Rattle.script_text.specs.ScriptGrammar.{reasons_for, IsReason, script_grammar}
use Rattle.script_text.specs.declared.lines.ScriptLine.TheVariants as forms
use Rattle.script_text.specs.declared.lines.ScriptReason.TheVariants as reasons
use Rattle.script_text.specs.Choices.{chosen, err_first, then_err, or_err, map_none}
use Rattle.script_text.specs.declared.lines.ScriptLine.{ScriptLine}
use Rattle.script_text.specs.LineReading.{accepted, not_passed, read_again}

abbrev Fits : {Reason : Type 0} → List (Row Reason) → Reason → Type 0
Fits rows reason = first_that_fits rows ≡ Some reason

not_lt : (m n : ℕ) → ltb m n ≡ false → leb n m ≡ true
not_lt m n h = le-leb n m (ltb-false m n h)

is_lt : (m n : ℕ) → ltb m n ≡ true → leb n m ≡ false
is_lt m n h = lt-leb n m (ltb-true m n h)

module _ {Op : Type 0} where
  last_some : (life : Life Op) (lives : List (Life Op)) → last_life (life ∷ lives) ≡ None → ⊥
  last_some life [] e = cc
  last_some life (next ∷ lives) e = last_some next lives e

  none_last : (lives : List (Life Op)) → last_life lives ≡ None → eqb (length lives) 0 ≡ true
  none_last [] e = refl
  none_last (life ∷ lives) e = absurd (last_some life lives e)

  some_last : (lives : List (Life Op)) (life : Life Op) → last_life lives ≡ Some life → eqb (length lives) 0 ≡ false
  some_last [] life e = absurd cc
  some_last (one ∷ lives) life e = ne_eqb (length (one ∷ lives)) 0 (λ same. omega (arith, same))

  -- what is known of a line that was read as far as its first word
  record Stands (before : Script Op) (line : List ℕ) : Type 0 where
    text : is_utf8 line ≡ true
    some : eqb before.lines 0 ≡ false

  -- what is known of a line in a life that begins no life, and was read as far as its first word
  record StandsIn (before : Script Op) (line : List ℕ) (life : Life Op) : Type 0 where
    text : is_utf8 line ≡ true
    some : eqb before.lines 0 ≡ false
    other : is_word (codes "life") (first_word line) ≡ false
    begun_one : eqb (length before.lives) 0 ≡ false
    last : last_life before.lives ≡ Some life

module _ {Op Reason : Type 0} (commands : Commands Op Reason) (asked : Option (List ℕ) → Result Op Reason) (r : ReadsCommands commands asked) where
  begun_why : (count : ℕ) (life : Option (ℕ × ℕ)) (reason : Reason) → begun commands count life ≡ Err reason
      → ((is_some life ≡ false) × (commands.reason reasons.Life ≡ reason))
      ⊎ ((is_some life ≡ true) × (ltb count commands.limits.lives ≡ false) × (commands.reason reasons.Lives ≡ reason))
  begun_why count None reason e = inl (refl, cc)
  begun_why count (Some life) reason e =
      elim (err_first (ltb count commands.limits.lives) (commands.reason reasons.Lives) (Ok (forms.Life life.0 life.1)) reason e) [
        | inl (many, same) ↦ inr (refl, many, same)
        | inr (_, h) ↦ absurd cc
      ]

  request_why : (before : Script Op) (line : List ℕ) (life : Life Op) (client : Option ℕ) (reason : Reason) → StandsIn before line life
      → is_word (codes "cut") (first_word line) ≡ false → client_of life.clients (first_word line) ≡ client
      → command_of commands asked (command_count before.lives) client (rest_of line) ≡ Err reason → Fits (reasons_for commands before line) reason
  request_why before line life None reason s no_cut name e =
      let same : commands.reason reasons.Client ≡ reason = cc in
      rw (s.text, s.some, s.other, s.begun_one, no_cut, s.last, name, same) refl
  request_why before line life (Some client) reason s no_cut name e =
      elim (err_first (ltb (command_count before.lives) 100000) (commands.reason reasons.Commands)
      (then_ok (λ op. forms.Command (record { client = client; op = op })) (asked (rest_of line))) reason e) [
        | inl (many, same) ↦ rw (s.text, s.some, s.other, s.begun_one, no_cut, s.last, name, not_lt (command_count before.lives) 100000 many, same) refl
        | inr (few, e2) ↦
            rw (s.text, s.some, s.other, s.begun_one, no_cut, s.last, name, is_lt (command_count before.lives) 100000 few)
            (r.refused (rest_of line) reason (then_err (λ op. forms.Command (record { client = client; op = op })) (asked (rest_of line)) reason e2))
      ]

  in_life_why : (before : Script Op) (line : List ℕ) (life : Option (Life Op)) (reason : Reason) → Stands before line
      → is_word (codes "life") (first_word line) ≡ false → last_life before.lives ≡ life
      → said_in commands asked (command_count before.lives) life line ≡ Err reason → Fits (reasons_for commands before line) reason
  in_life_why before line None reason s other last e =
      let same : commands.reason reasons.Life ≡ reason = cc in
      rw (s.text, s.some, other, none_last before.lives last, same) refl
  in_life_why before line (Some life) reason s other last e =
      let stands : StandsIn before line life = record { text = s.text; some = s.some; other = other; begun_one = some_last before.lives life last; last = last } in
      elim (chosen (is_word (codes "cut") (first_word line)) (ok_or (option_map forms.Cut (cut_behind commands.limits.cuts life.clients life.cuts (rest_of line))) (commands.reason reasons.Cut))
      (command_of commands asked (command_count before.lives) (client_of life.clients (first_word line)) (rest_of line)) (Err reason) e) [
        | inl (cut, e2) ↦
            let none = or_err (option_map forms.Cut (cut_behind commands.limits.cuts life.clients life.cuts (rest_of line))) (commands.reason reasons.Cut) reason e2 in
            let no_cut = map_none forms.Cut (cut_behind commands.limits.cuts life.clients life.cuts (rest_of line)) none.0 in
            rw (s.text, s.some, other, stands.begun_one, cut, last, no_cut, none.1) refl
        | inr (no_cut, e2) ↦ request_why before line life (client_of life.clients (first_word line)) reason stands no_cut refl e2
      ]

  below_why : (before : Script Op) (line : List ℕ) (reason : Reason) → Stands before line → said_below commands asked before.lives line ≡ Err reason → Fits (reasons_for commands before line) reason
  below_why before line reason s e =
      elim (chosen (is_word (codes "life") (first_word line)) (begun commands (length before.lives) (life_of commands.limits.clients line))
      (said_in commands asked (command_count before.lives) (last_life before.lives) line) (Err reason) e) [
        | inl (life, e2) ↦
            elim (begun_why (length before.lives) (life_of commands.limits.clients line) reason e2) [
              | inl (none, same) ↦ rw (s.text, s.some, life, none, same) refl
              | inr (there, many, same) ↦ rw (s.text, s.some, life, there, not_lt (length before.lives) commands.limits.lives many, same) refl
            ]
        | inr (other, e2) ↦ in_life_why before line (last_life before.lives) reason s other refl e2
      ]

  pub why : (before : Script Op) (line : List ℕ) (reason : Reason) → line_of commands asked before line ≡ Err reason → first_that_fits (reasons_for commands before line) ≡ Some reason
  unfolding line_of
  why before line reason e =
      elim (err_first (is_utf8 line) (commands.reason reasons.Utf8) _ reason e) [
        | inl (bad, same) ↦ rw (bad, same) refl
        | inr (text, e2) ↦
            elim (chosen (eqb before.lines 0) (ok_or (option_map forms.Lines (header_of line)) (commands.reason reasons.Header)) (said_below commands asked before.lives line) (Err reason) e2) [
              | inl (first, e3) ↦
                  let none = or_err (option_map forms.Lines (header_of line)) (commands.reason reasons.Header) reason e3 in
                  rw (text, first, map_none forms.Lines (header_of line) none.0, none.1) refl
              | inr (some, e3) ↦ below_why before line reason (record { text = text; some = some }) e3
            ]
      ]

module _ {Op Reason : Type 0} where
  read_some : (before : Script Op) (r : Result (ScriptLine Op) Reason) (after : Script Op) → with_parsed before r ≡ Ok after
      → (says : ScriptLine Op) × (r ≡ Ok says) × (after ≡ with_said before says)
  read_some before (Err reason) after e = absurd cc
  read_some before (Ok says) after e =
      let same : with_said before says ≡ after = cc in
      (says, refl, sym same)

  refused_read : (before : Script Op) (r : Result (ScriptLine Op) Reason) (reason : Reason) → with_parsed before r ≡ Err reason → r ≡ Err reason
  refused_read before (Err found) reason e = let same : found ≡ reason = cc in ap Err same
  refused_read before (Ok says) reason e = absurd cc

module _ {Op Reason : Type 0} (commands : Commands Op Reason) (asked : Option (List ℕ) → Result Op Reason) (r : ReadsCommands commands asked) where
  sound : (before : Script Op) (line : List ℕ) (after : Script Op) → judged commands asked before line ≡ Ok after → AddsScriptLine commands before line after
  unfolding judged
  sound before line after e =
      elim (cases_Bool (is_passed_over line)) [
        | inl passed ↦ inl (passed, one_value (judged commands asked before line) after before e (rw passed refl))
        | inr said ↦
            let says = read_some before (line_of commands asked before line) after (rw said at e) in
            inr (says.0, accepted commands asked r before line says.0 says.1, says.2)
      ]

  complete : (before : Script Op) (line : List ℕ) (after : Script Op) → AddsScriptLine commands before line after → judged commands asked before line ≡ Ok after
  unfolding judged
  complete before line after (inl (passed, same)) = rw (passed, same) refl
  complete before line after (inr (says, is, same)) =
      rw (not_passed commands asked r line says is.says_it, read_again commands asked r before line says is, same) refl

  refused : (before : Script Op) (line : List ℕ) (reason : Reason) → judged commands asked before line ≡ Err reason → IsReason commands before line reason
  unfolding judged
  refused before line reason e =
      elim (cases_Bool (is_passed_over line)) [
        | inl passed ↦ absurd (no_value (judged commands asked before line) before reason (rw passed refl) e)
        | inr said ↦
            let read = refused_read before (line_of commands asked before line) reason (rw said at e) in
            (λ says is. no_value (line_of commands asked before line) says reason (read_again commands asked r before line says is) read, why commands asked r before line reason read)
      ]

  pub reads_scripts : ReadsLines (script_grammar commands) (judged commands asked)
  reads_scripts = record { sound = sound; complete = complete; refused = refused }
