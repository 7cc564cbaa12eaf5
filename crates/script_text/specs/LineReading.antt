-- What is read from a line is what the line says, and what a line says is read from it.
use Rattle.std.specs.Prelude.{codes, option_and_then}
use Rattle.std.specs.Option.{option_map, ok_or}
use Rattle.std.specs.Fmt.{decimal}
use Rattle.std.specs.Str.{is_utf8}
use Rattle.std.specs.Char.{digit_value}
use Rattle.std.proofs.Common.{◌≡◌, ℕ, zero, suc, ◌<◌, true, false, eqb, ltb, List, ◌∷◌, ◌++◌, length, Option, None, Some, Result, Ok, refl, sym, ap, subst, ◌∙◌, append_assoc, arith, inl, inr, ◌^◌, ◌≤◌}
use Rattle.std.proofs.lemmas.Bool.{eqb-true, ltb-true, true≢false, cases_Bool, lt-ltb, ne_eqb, eq-eqb}
use Rattle.plain_text.specs.Words.{first_word, rest_of, is_word}
use Rattle.plain_text.proofs.LineByLine.{one_value}
use Rattle.plain_text.proofs.WordCuts.{named, spaced, word_is, word_cut, decimal_unspaced, decimal_first}
use Rattle.life_records.specs.Scripts.{command_count}
use Rattle.life_records.specs.declared.script.Cut.{Cut}
use Rattle.script_text.specs.Grammar.{Commands, ReadsCommands, Life, Script, SaysScriptLine, MayStand, IsLineAccepted, last_life, is_passed_over}
use Rattle.script_text.specs.Heads.{header_of, life_of, client_of, cut_of}
use Rattle.script_text.specs.Reading.{then_ok, command_of, cut_behind, said_by, said_in, begun, said_below, line_of}
use Rattle.script_text.specs.declared.lines.ScriptLine.{ScriptLine}
use Rattle.script_text.specs.declared.lines.ScriptLine.TheVariants as forms
use Rattle.script_text.specs.declared.lines.ScriptReason.TheVariants as reasons
use Rattle.script_text.specs.Choices.{chosen, mapped_some, step_some, then_some, or_some, first_branch, ok_first}
use Rattle.script_text.specs.HeadLines.{IsCutLine, header_is, life_is, client_is, cut_is, header_again, life_again, client_again, cut_again}

not_zero : (n : ℕ) → eqb n 0 ≡ false → 0 < n
not_zero zero e = absurd (true≢false e)
not_zero (suc n) e = omega arith

module _ {Op Reason : Type 0} (commands : Commands Op Reason) (asked : Option (List ℕ) → Result Op Reason) (r : ReadsCommands commands asked) where
  -- a client's line behind the client
  asked_for : (rest : Option (List ℕ)) (op : Op) → asked rest ≡ Ok op
      → (text : List ℕ) × (rest ≡ Some text) × commands.Asks op text
  asked_for None op e = absurd (r.some op e)
  asked_for (Some text) op e = (text, refl, r.sound text op e)

  request_is : (before : Script Op) (life : Life Op) (line : List ℕ) (client : Option ℕ) (says : ScriptLine Op) → 0 < before.lines → last_life before.lives ≡ Some life
      → client_of life.clients (first_word line) ≡ client → command_of commands asked (command_count before.lives) client (rest_of line) ≡ Ok says
      → SaysScriptLine commands says line × MayStand commands before says
  request_is before life line None says some last name e = absurd cc
  request_is before life line (Some client) says some last name e =
      let make : Op → ScriptLine Op = λ op. forms.Command (record { client = client; op = op }) in
      let few = ok_first (ltb (command_count before.lives) 100000) (commands.reason reasons.Commands) (then_ok make (asked (rest_of line))) says e in
      let op = then_some make (asked (rest_of line)) says few.1 in
      let text = asked_for (rest_of line) op.0 op.1 in
      let number = client_is life.clients (first_word line) client name in
      let spelled : line ≡ decimal client ++ codes " " ++ text.0 =
      spaced line text.0 text.1 ∙ ap (λ (word : List ℕ). word ++ 32 ∷ text.0) number.0 ∙ sym (append_assoc (decimal client) (codes " ") text.0) in
      subst (λ (said : ScriptLine Op). SaysScriptLine commands said line × MayStand commands before said) op.2 (
        (text.0, spelled, number.1, text.2),
        (some, (life, last, number.2), ltb-true (command_count before.lives) 100000 few.0),
      )

  in_life_is : (before : Script Op) (line : List ℕ) (life : Option (Life Op)) (says : ScriptLine Op) → 0 < before.lines → last_life before.lives ≡ life
      → said_in commands asked (command_count before.lives) life line ≡ Ok says → SaysScriptLine commands says line × MayStand commands before says
  in_life_is before line None says some last e = absurd cc
  in_life_is before line (Some life) says some last e =
      elim (chosen (is_word (codes "cut") (first_word line))
      (ok_or (option_map forms.Cut (cut_behind commands.limits.cuts life.clients life.cuts (rest_of line))) (commands.reason reasons.Cut))
      (command_of commands asked (command_count before.lives) (client_of life.clients (first_word line)) (rest_of line)) (Ok says) e) [
        | inl (hit, cut) ↦
            let stop = mapped_some forms.Cut (cut_behind commands.limits.cuts life.clients life.cuts (rest_of line)) says
            (or_some _ (commands.reason reasons.Cut) says cut) in
            let allowed = first_branch commands.limits.cuts (option_and_then (cut_of life.clients life.cuts) (rest_of line)) stop.0 stop.1 in
            let rest = step_some (cut_of life.clients life.cuts) (rest_of line) stop.0 allowed.1 in
            let is = cut_is life.clients life.cuts rest.0 stop.0 rest.2 in
            let line_is = subst (IsCutLine stop.0) (sym (named (codes "cut") line rest.0 hit rest.1)) is.0 in
            subst (λ (said : ScriptLine Op). SaysScriptLine commands said line × MayStand commands before said) stop.2 (
              (line_is.0, line_is.1, line_is.2, allowed.0),
              (some, (life, last, is.1, is.2)),
            )
        | inr (_, request) ↦ request_is before life line (client_of life.clients (first_word line)) says some last refl request
      ]

  begun_is : (count : ℕ) (life : Option (ℕ × ℕ)) (says : ScriptLine Op) → begun commands count life ≡ Ok says
      → (found : ℕ × ℕ) × (life ≡ Some found) × (forms.Life found.0 found.1 ≡ says) × (count < commands.limits.lives)
  begun_is count None says e = absurd cc
  begun_is count (Some life) says e =
      let few = ok_first (ltb count commands.limits.lives) (commands.reason reasons.Lives) (Ok (forms.Life life.0 life.1)) says e in
      let same = one_value (Ok (forms.Life life.0 life.1)) (forms.Life life.0 life.1) says refl few.1 in
      (life, refl, same, ltb-true count commands.limits.lives few.0)

  below_is : (before : Script Op) (line : List ℕ) (says : ScriptLine Op) → 0 < before.lines → said_below commands asked before.lives line ≡ Ok says
      → SaysScriptLine commands says line × MayStand commands before says
  below_is before line says some e =
      elim (chosen (is_word (codes "life") (first_word line)) (begun commands (length before.lives) (life_of commands.limits.clients line))
      (said_in commands asked (command_count before.lives) (last_life before.lives) line) (Ok says) e) [
        | inl (_, life) ↦
            let is = begun_is (length before.lives) (life_of commands.limits.clients line) says life in
            subst (λ (said : ScriptLine Op). SaysScriptLine commands said line × MayStand commands before said) is.2
            (life_is commands.limits.clients line is.0 is.1, (some, is.3))
        | inr (_, other) ↦ in_life_is before line (last_life before.lives) says some refl other
      ]

  -- what is read of a line is accepted
  pub accepted : (before : Script Op) (line : List ℕ) (says : ScriptLine Op) → line_of commands asked before line ≡ Ok says → IsLineAccepted commands before line says
  unfolding line_of
  accepted before line says e =
      let text = ok_first (is_utf8 line) (commands.reason reasons.Utf8) _ says e in
      elim (chosen (eqb before.lines 0) (ok_or (option_map forms.Lines (header_of line)) (commands.reason reasons.Header))
      (said_below commands asked before.lives line) (Ok says) text.1) [
        | inl (none, header) ↦
            let lines = mapped_some forms.Lines (header_of line) says (or_some _ (commands.reason reasons.Header) says header) in
            record {
              text = text.0;
              says_it = subst (λ (said : ScriptLine Op). SaysScriptLine commands said line) lines.2 (header_is line lines.0 lines.1);
              stands = subst (MayStand commands before) lines.2 (eqb-true before.lines 0 none);
            }
        | inr (some, other) ↦
            let is = below_is before line says (not_zero before.lines some) other in
            record { text = text.0; says_it = is.0; stands = is.1 }
      ]

  -- what is read of a line that begins no life, by the life that it stands in
  pub said_in_life : (lives : List (Life Op)) (line : List ℕ) (life : Life Op)
      (count clients : ℕ) (cuts : List Cut) (word : List ℕ) (rest : Option (List ℕ))
      → is_word (codes "life") word ≡ false → last_life lives ≡ Some life → count ≡ command_count lives → clients ≡ life.clients → cuts ≡ life.cuts
      → word ≡ first_word line → rest ≡ rest_of line
      → said_by commands asked count clients cuts word rest ≡ said_below commands asked lives line
  said_in_life lives line life count clients cuts word rest other last counted many same first behind_it =
      let no_life : is_word (codes "life") (first_word line) ≡ false = ap (is_word (codes "life")) (sym first) ∙ other in
      rw (counted, many, same, first, behind_it, no_life, last) refl

-- a number is none of the words
number_no_word : (n : ℕ) (b : ℕ) (name : List ℕ) → n < 2 ^ 64 → 10 ≤ digit_value b → is_word (b ∷ name) (decimal n) ≡ false
number_no_word n b name fits outside =
    elim (cases_Bool (is_word (b ∷ name) (decimal n))) [
      | inl hit ↦
          let first = decimal_first n fits in
          let same : first.0 ∷ first.1 ≡ b ∷ name = sym first.2 ∙ word_is (b ∷ name) (decimal n) hit in
          let head : first.0 ≡ b = cc in
          absurd (omega (arith, ap digit_value head, first.3, outside))
      | inr miss ↦ miss
    ]

some_lines : (n : ℕ) → 0 < n → eqb n 0 ≡ false
some_lines n h = ne_eqb n 0 (λ e. omega arith)

-- what is spelled is not passed over
number_not_passed : (n : ℕ) (text : List ℕ) → n < 2 ^ 64 → is_passed_over (decimal n ++ text) ≡ false
number_not_passed n text fits =
    let first = decimal_first n fits in
    let apart : eqb first.0 35 ≡ false = ne_eqb first.0 35 (λ e. omega (arith, ap digit_value e, first.3)) in
    ap (λ (t : List ℕ). is_passed_over (t ++ text)) first.2 ∙ apart

module _ {Op Reason : Type 0} (commands : Commands Op Reason) (asked : Option (List ℕ) → Result Op Reason) (r : ReadsCommands commands asked) where
  said_again : (before : Script Op) (line : List ℕ) (says : ScriptLine Op) → is_utf8 line ≡ true → SaysScriptLine commands says line → MayStand commands before says
      → line_of commands asked before line ≡ Ok says
  unfolding line_of
  said_again before line (forms.Lines lines) text (spelled, least, most) stands =
      rw (text, eq-eqb before.lines 0 stands, spelled, header_again lines least most) refl
  said_again before line (forms.Life clients choice) text (spelled, least, most, fits) (some, few) =
      rw (
        text,
        some_lines before.lines some,
        spelled,
        life_again commands.limits.clients clients choice r.clients least most fits,
        lt-ltb (length before.lives) commands.limits.lives few,
      ) refl
  said_again before line (forms.Cut cut) text (spelled, client_fits, steps_fit, allowed) (some, (life, last, below, new)) =
      rw (text, some_lines before.lines some, spelled, last, allowed, cut_again life.clients life.cuts cut client_fits steps_fit below new) refl
  said_again before line (forms.Command command) text (asks, spelled, fits, is) (some, (life, last, below), few) =
      let cut = word_cut (decimal command.client) asks (decimal_unspaced command.client fits) in
      rw (
        text,
        some_lines before.lines some,
        spelled,
        append_assoc (decimal command.client) (codes " ") asks,
        cut.0,
        number_no_word command.client 108 (codes "ife") fits (omega arith),
        last,
        cut.0,
        number_no_word command.client 99 (codes "ut") fits (omega arith),
        client_again life.clients command.client fits below,
        lt-ltb (command_count before.lives) 100000 few,
        cut.1,
      )
      (ap (then_ok (λ op. forms.Command (record { client = command.client; op = op }))) (r.complete asks command.op is))

  -- what is accepted is read
  pub read_again : (before : Script Op) (line : List ℕ) (says : ScriptLine Op) → IsLineAccepted commands before line says → line_of commands asked before line ≡ Ok says
  read_again before line says is = said_again before line says is.text is.says_it is.stands

  pub not_passed : (line : List ℕ) (says : ScriptLine Op) → SaysScriptLine commands says line → is_passed_over line ≡ false
  not_passed line (forms.Lines lines) (spelled, _, _) = ap is_passed_over spelled
  not_passed line (forms.Life clients choice) (spelled, _, _, _) = ap is_passed_over spelled
  not_passed line (forms.Cut cut) (spelled, _, _, _) = ap is_passed_over spelled
  not_passed line (forms.Command command) (text, spelled, fits, _) =
      ap is_passed_over (spelled ∙ append_assoc (decimal command.client) (codes " ") text) ∙ number_not_passed command.client (codes " " ++ text) fits
