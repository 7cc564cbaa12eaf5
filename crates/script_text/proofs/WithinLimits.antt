-- Each script keeps the limits.
use Rattle.std.proofs.Common.{◌≡◌, refl, sym, subst, ◌∙◌, ◌⊎◌, inl, inr, ℕ, ◌+◌, ◌<◌, ◌≤◌, ◌^◌, true, false, ◌==◌, List, [], ◌∷◌, ◌++◌, length, get_or, arith, Some}
use Rattle.std.specs.Prelude.{All, AllPairs}
use Rattle.std.proofs.lemmas.Bool.{eq-eqb, true≢false}
use Rattle.std.proofs.lemmas.List.{length-append}
use Rattle.std.proofs.lemmas.List.Elements.{All-nil, All-push}
use Rattle.std.proofs.lemmas.List.Folds.{list_any_at}
use Rattle.std.proofs.lemmas.List.Quantifiers.{all_pairs_push}
use Rattle.life_records.specs.Limits.{IsCutOf, AreOfTwo, KeepsLimits}
use Rattle.life_records.specs.Scripts.{command_count, has_cut}
use Rattle.life_records.specs.Records.{Command, Cut, Life, Script}
use Rattle.script_text.specs.declared.lines.ScriptLimits.{ScriptLimits}
use Rattle.script_text.specs.declared.lines.ScriptLine.{ScriptLine}
use Rattle.script_text.specs.declared.lines.ScriptLine.TheVariants as forms
use Rattle.plain_text.specs.LineGrammar.{AddsAll, IsTextOf}
use Rattle.plain_text.specs.Lines.{text_lines}
use Rattle.script_text.specs.Grammar.{AddsScriptLine, AsksWithinLimits, Commands, MayStand, SaysScriptLine, last_life, no_script, with_command, with_cut, with_said}
use Rattle.script_text.specs.ScriptGrammar.{script_grammar}
use Rattle.script_text.specs.Within.{IsScriptWithin}
use Rattle.script_text.proofs.LastLives.{All-with_last, length-with_last, command_count-with_command, command_count-with_cut, command_count-begun}

-- a client without a cut is none of those that have one
other_client : (cut : Cut) (cuts : List Cut) → has_cut cut.client cuts ≡ false → (k : ℕ) (d : Cut) → k < length cuts → AreOfTwo (get_or cuts k d) cut
other_client cut cuts none k d below same =
    true≢false (sym (list_any_at (λ (c : Cut). c.client == cut.client) cuts k d below (eq-eqb (get_or cuts k d).client cut.client same)) ∙ none)

module _ {Op : Type 0} where
  -- a life without cuts
  abbrev IsUncut : Life Op → Type 0
  IsUncut life = life.cuts ≡ []

  -- a life within its limits, but for what its commands ask for
  record IsFit (most : ℕ) (life : Life Op) : Type 0 where
    some : 1 ≤ life.clients
    few : life.clients ≤ most
    choice : life.choice < 2 ^ 64
    own : All (λ c. c.client < life.clients) life.commands
    cuts : All (IsCutOf life) life.cuts
    apart : AllPairs AreOfTwo life.cuts

  -- cuts of a life's clients are those of another's that has as many
  cuts_of : (life next : Life Op) (cuts : List Cut) → life.clients ≡ next.clients → All (IsCutOf life) cuts → All (IsCutOf next) cuts
  cuts_of life next cuts same all k d below =
      let known = all k d below in
      record { client = omega (arith, same, known.client); steps = known.steps }

  -- what holds of the script of each prefix of the lines
  record IsFitScript (limits : ScriptLimits) (script : Script Op) : Type 0 where
    lines : ((script.lines ≡ 0) × (length script.lives ≡ 0)) ⊎ ((64 ≤ script.lines) × (script.lines ≤ 16384))
    commands : command_count script.lives ≤ 100000
    each : All (IsFit limits.clients) script.lives
    within : IsScriptWithin limits script

  -- the lines of a script that has a header
  headed : (limits : ScriptLimits) (script : Script Op) → IsFitScript limits script → 0 < script.lines → (64 ≤ script.lines) × (script.lines ≤ 16384)
  headed limits script within some = elim within.lines [ inl none ↦ absurd (omega (arith, none.0, some)) | inr known ↦ known ]

  -- with a life begun
  begun-within : (limits : ScriptLimits) (script : Script Op) (clients choice : ℕ) → IsFitScript limits script → 0 < script.lines → length script.lives < limits.lives
      → 1 ≤ clients → clients ≤ limits.clients → choice < 2 ^ 64 → IsFitScript limits (with_said script (forms.Life clients choice))
  begun-within limits script clients choice within some few least small fits =
      let begun : Life Op = record { clients = clients; choice = choice; cuts = []; commands = [] } in
      let longer : length (script.lives ++ begun ∷ []) ≡ length script.lives + 1 = length-append script.lives (begun ∷ []) in
      let counted : command_count (script.lives ++ begun ∷ []) ≡ command_count script.lives = command_count-begun script.lives begun refl in
      record {
        lines = inr (headed limits script within some);
        commands = omega (arith, counted, within.commands);
        within = record { lives = omega (arith, longer, few); uncut = λ none. All-push IsUncut script.lives begun (within.within.uncut none) refl };
        each = All-push (IsFit limits.clients) script.lives begun within.each (record {
          some = least;
          few = small;
          choice = fits;
          own = All-nil (λ (c : Command Op). c.client < clients);
          cuts = All-nil (IsCutOf begun);
          apart = λ i j d below within. absurd (omega (arith, within));
        });
      }

  -- with one more command
  command-within : (limits : ScriptLimits) (script : Script Op) (command : Command Op) → IsFitScript limits script → 0 < script.lines
      → (life : Life Op) → last_life script.lives ≡ Some life → command.client < life.clients → command_count script.lives < 100000
      → IsFitScript limits (with_said script (forms.Command command))
  command-within limits script command within some last is below few =
      let longer = length-with_last (with_command command) script.lives in
      let counted = command_count-with_command command script.lives in
      record {
        lines = inr (headed limits script within some);
        commands = omega (arith, counted, few);
        within = record {
          lives = omega (arith, longer, within.within.lives);
          uncut = λ none. All-with_last IsUncut (with_command command) script.lives (λ life is_last known. known) (within.within.uncut none);
        };
        each = All-with_last (IsFit limits.clients) (with_command command) script.lives (λ life is_last fit.
            let same : last ≡ life = cc in
            let own : command.client < life.clients = subst (λ (l : Life Op). command.client < l.clients) same below in
            record {
              some = fit.some;
              few = fit.few;
              choice = fit.choice;
              own = All-push (λ (c : Command Op). c.client < life.clients) life.commands command fit.own own;
              cuts = cuts_of life (with_command command life) life.cuts refl fit.cuts;
              apart = fit.apart;
            }) within.each;
      }

  -- with one more cut
  cut-within : (limits : ScriptLimits) (script : Script Op) (cut : Cut) → IsFitScript limits script → limits.cuts ≡ true → 0 < script.lines
      → (life : Life Op) → last_life script.lives ≡ Some life → cut.client < life.clients → cut.steps < 2 ^ 64 → has_cut cut.client life.cuts ≡ false
      → IsFitScript limits (with_said script (forms.Cut cut))
  cut-within limits script cut within allowed some last is below fits new =
      let longer = length-with_last (with_cut cut) script.lives in
      let counted = command_count-with_cut cut script.lives in
      record {
        lines = inr (headed limits script within some);
        commands = omega (arith, counted, within.commands);
        within = record { lives = omega (arith, longer, within.within.lives); uncut = λ none. absurd (true≢false (sym allowed ∙ none)) };
        each = All-with_last (IsFit limits.clients) (with_cut cut) script.lives (λ life is_last fit.
            let same : last ≡ life = cc in
            let own : cut.client < life.clients = subst (λ (l : Life Op). cut.client < l.clients) same below in
            let none : has_cut cut.client life.cuts ≡ false = subst (λ (l : Life Op). has_cut cut.client l.cuts ≡ false) same new in
            record {
              some = fit.some;
              few = fit.few;
              choice = fit.choice;
              own = fit.own;
              cuts =
                  cuts_of life (with_cut cut life) (life.cuts ++ cut ∷ []) refl
                  (All-push (IsCutOf life) life.cuts cut fit.cuts (record { client = own; steps = fits }));
              apart = all_pairs_push AreOfTwo life.cuts cut fit.apart (other_client cut life.cuts none);
            }) within.each;
      }

module _ {Op Reason : Type 0} (commands : Commands Op Reason) where
  -- with one more line
  said-within : (script : Script Op) (line : List ℕ) (says : ScriptLine Op)
      → IsFitScript commands.limits script → SaysScriptLine commands says line → MayStand commands script says → IsFitScript commands.limits (with_said script says)
  said-within script line (forms.Lines lines) within (spelled, least, most) stands =
      record { lines = inr (least, most); commands = within.commands; each = within.each; within = record { lives = within.within.lives; uncut = within.within.uncut } }
  said-within script line (forms.Life clients choice) within (spelled, least, most, fits) (some, few) =
      begun-within commands.limits script clients choice within some few least most fits
  said-within script line (forms.Cut cut) within (spelled, client, steps, allowed) (some, (life, last, below, new)) =
      cut-within commands.limits script cut within allowed some life last below steps new
  said-within script line (forms.Command command) within says (some, (life, last, below), few) =
      command-within commands.limits script command within some life last below few

  line-within : (script : Script Op) (line : List ℕ) (after : Script Op)
      → IsFitScript commands.limits script → AddsScriptLine commands script line after → IsFitScript commands.limits after
  line-within script line after within (inl (passed, same)) = subst (IsFitScript commands.limits) (sym same) within
  line-within script line after within (inr (says, is, same)) =
      subst (IsFitScript commands.limits) (sym same) (said-within script line says within is.says_it is.stands)

  lines-within : (lines : List (List ℕ)) (script after : Script Op)
      → IsFitScript commands.limits script → AddsAll (script_grammar commands) script lines after → IsFitScript commands.limits after
  lines-within [] script after within adds = subst (IsFitScript commands.limits) (sym adds) within
  lines-within (line ∷ lines) script after within (between, one, more) =
      lines-within lines between after (line-within script line between within one) more

  script-fits : (text : List ℕ) (script : Script Op) → IsTextOf (script_grammar commands) text script → IsFitScript commands.limits script
  script-fits text script is = lines-within (text_lines text) no_script script (record {
    lines = inl (refl, refl);
    commands = omega arith;
    each = All-nil (IsFit commands.limits.clients);
    within = record { lives = omega arith; uncut = λ none. All-nil IsUncut };
  }) is

  pub within-script : (text : List ℕ) (script : Script Op) → IsTextOf (script_grammar commands) text script → IsScriptWithin commands.limits script
  within-script text script is = (script-fits text script is).within

  pub limits-script : (is_op : Op → Type 0) (text : List ℕ) (script : Script Op) → commands.limits.lives ≤ 1000
      → IsTextOf (script_grammar commands) text script → All (λ life. All (λ c. is_op c.op) life.commands) script.lives
      → KeepsLimits is_op commands.limits.clients script
  limits-script is_op text script few_lives is ops =
      let fits = script-fits text script is in
      record {
        lines = λ some. elim fits.lines [ inl none ↦ absurd (omega (arith, none.1, some)) | inr known ↦ known ];
        lives = omega (arith, few_lives, fits.within.lives);
        commands = fits.commands;
        each = λ k d below.
            let life = fits.each k d below in
            record {
              some = life.some;
              few = life.few;
              choice = life.choice;
              commands = λ i c here. record { client = life.own i c here; op = ops k d below i c here };
              cuts = life.cuts;
              apart = life.apart;
            };
      }

module _ {Op : Type 0} where
  -- what one more line asks for is within the limits
  pub said_asks : (is_op : Op → Type 0) (script : Script Op) (says : ScriptLine Op) → AsksWithinLimits is_op says
      → All (λ life. All (λ c. is_op c.op) life.commands) script.lives → All (λ life. All (λ c. is_op c.op) life.commands) (with_said script says).lives
  said_asks is_op script (forms.Lines lines) asks ops = ops
  said_asks is_op script (forms.Life clients choice) asks ops =
      let begun : Life Op = record { clients = clients; choice = choice; cuts = []; commands = [] } in
      All-push (λ (life : Life Op). All (λ c. is_op c.op) life.commands) script.lives begun ops (All-nil (λ (c : Command Op). is_op c.op))
  said_asks is_op script (forms.Cut cut) asks ops =
      All-with_last (λ (life : Life Op). All (λ c. is_op c.op) life.commands) (with_cut cut) script.lives (λ life last known. known) ops
  said_asks is_op script (forms.Command command) asks ops =
      All-with_last (λ (life : Life Op). All (λ c. is_op c.op) life.commands) (with_command command) script.lives
      (λ life last known. All-push (λ (c : Command Op). is_op c.op) life.commands command known asks) ops
