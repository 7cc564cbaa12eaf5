-- What a script is: how each of its lines is spelled, where a line may stand, and which script the lines are together.
use Rattle.std.specs.Prelude.{◌≡◌, ◌⊎◌, ◌^◌, ◌<◌, ◌≤◌, ℕ, Bool, true, false, ◌==◌, List, [], ◌∷◌, ◌++◌, length, codes, Option, None, Some, Result, Ok, Err, if◌then◌else◌}
use Rattle.std.specs.Fmt.{decimal}
use Rattle.std.specs.Str.{is_utf8}
use Rattle.life_records.specs.Scripts.{command_count, has_cut}
use Rattle.life_records.specs.Records.{Command, Cut}
pub use Rattle.life_records.specs.declared.script.Life.{Life}
pub use Rattle.life_records.specs.declared.script.Script.{Script}
use Rattle.script_text.specs.declared.lines.ScriptLimits.{ScriptLimits}
use Rattle.script_text.specs.declared.lines.ScriptLine.{ScriptLine}
use Rattle.script_text.specs.declared.lines.ScriptLine.TheVariants as forms
use Rattle.script_text.specs.declared.lines.ScriptReason.{ScriptReason}

-- a reason, and whether it fits
abbrev pub Row : Type 0 → Type 0
Row Reason = Bool × Reason

module _ {Reason : Type 0} where
  -- the reason of the first row that fits, if one does
  abbrev pub first_that_fits : List (Row Reason) → Option Reason
  first_that_fits [] = None
  first_that_fits (row ∷ rows) = if row.0 then Some row.1 else first_that_fits rows

-- The commands of scripts: what a script may have, which text asks for which operation, and why a line is refused; for what
-- stands behind the client there are rows of reasons.
pub record Commands (Op Reason : Type 0) : Type 1 where
  pub limits : ScriptLimits
  pub Asks : Op → List ℕ → Type 0
  pub reason : ScriptReason → Reason
  pub rows : Option (List ℕ) → List (Row Reason)

-- Commands are read by these rules: what is asked for behind the client, or the first reason that fits.
pub record ReadsCommands {Op Reason : Type 0} (commands : Commands Op Reason) (asked : Option (List ℕ) → Result Op Reason) : Type 0 where
  pub clients : commands.limits.clients < 2 ^ 64
  pub lives : commands.limits.lives ≤ 1000
  pub some : (op : Op) → asked None ≡ Ok op → ⊥
  pub sound : (text : List ℕ) (op : Op) → asked (Some text) ≡ Ok op → commands.Asks op text
  pub complete : (text : List ℕ) (op : Op) → commands.Asks op text → asked (Some text) ≡ Ok op
  pub refused : (text : Option (List ℕ)) (reason : Reason) → asked text ≡ Err reason → first_that_fits (commands.rows text) ≡ Some reason

-- a line that is passed over: it is empty, or a comment
abbrev pub is_passed_over : List ℕ → Bool
is_passed_over [] = true
is_passed_over (b ∷ line) = b == 35

module _ {Op : Type 0} where
  -- the life that was begun last
  abbrev pub last_life : List (Life Op) → Option (Life Op)
  last_life [] = None
  last_life (life ∷ []) = Some life
  last_life (life ∷ next ∷ lives) = last_life (next ∷ lives)

  -- the lives with a change to the last
  abbrev pub with_last : (Life Op → Life Op) → List (Life Op) → List (Life Op)
  with_last change [] = []
  with_last change (life ∷ []) = change life ∷ []
  with_last change (life ∷ next ∷ lives) = life ∷ with_last change (next ∷ lives)

  -- a life with one cut line more
  abbrev pub with_cut : Cut → Life Op → Life Op
  with_cut cut life = record life { cuts = life.cuts ++ cut ∷ [] }

  -- a life with one command more
  abbrev pub with_command : Command Op → Life Op → Life Op
  with_command command life = record life { commands = life.commands ++ command ∷ [] }

  -- the script with one more line
  abbrev pub with_said : Script Op → ScriptLine Op → Script Op
  with_said script (forms.Lines lines) = record script { lines = lines }
  with_said script (forms.Life clients choice) =
      record script { lives = script.lives ++ record { clients = clients; choice = choice; cuts = []; commands = [] } ∷ [] }
  with_said script (forms.Cut cut) = record script { lives = with_last (with_cut cut) script.lives }
  with_said script (forms.Command command) = record script { lives = with_last (with_command command) script.lives }

  -- the operation asked for is within the limits
  abbrev pub AsksWithinLimits : (Op → Type 0) → ScriptLine Op → Type 0
  AsksWithinLimits is_op (forms.Command command) = is_op command.op
  AsksWithinLimits is_op _ = Unit {0}

  -- the script of no lines
  abbrev pub no_script : Script Op
  no_script = record { lines = 0; lives = [] }

module _ {Op Reason : Type 0} where
  -- how a line is spelled: `lines L`, `life N power C`, `cut K S`, or `K COMMAND`
  abbrev pub SaysScriptLine : Commands Op Reason → ScriptLine Op → List ℕ → Type 0
  SaysScriptLine commands (forms.Lines lines) line = (line ≡ codes "lines " ++ decimal lines) × (64 ≤ lines) × (lines ≤ 16384)
  SaysScriptLine commands (forms.Life clients choice) line =
      (line ≡ codes "life " ++ decimal clients ++ codes " power " ++ decimal choice) × (1 ≤ clients) × (clients ≤ commands.limits.clients) × (choice < 2 ^ 64)
  SaysScriptLine commands (forms.Cut cut) line =
      (line ≡ codes "cut " ++ decimal cut.client ++ codes " " ++ decimal cut.steps) × (cut.client < 2 ^ 64) × (cut.steps < 2 ^ 64) × (commands.limits.cuts ≡ true)
  SaysScriptLine commands (forms.Command command) line =
      (text : List ℕ) × (line ≡ decimal command.client ++ codes " " ++ text) × (command.client < 2 ^ 64) × commands.Asks command.op text

  -- Where a line may stand: the header first and once; then lives, up to their number; in a life the commands of its clients, up
  -- to 100,000 in all lives, and a cut line for each of its clients.
  abbrev pub MayStand : Commands Op Reason → Script Op → ScriptLine Op → Type 0
  MayStand commands script (forms.Lines lines) = script.lines ≡ 0
  MayStand commands script (forms.Life clients choice) = (0 < script.lines) × (length script.lives < commands.limits.lives)
  MayStand commands script (forms.Cut cut) =
      (0 < script.lines)
      × ((life : Life Op) × (last_life script.lives ≡ Some life) × (cut.client < life.clients) × (has_cut cut.client life.cuts ≡ false))
  MayStand commands script (forms.Command command) =
      (0 < script.lines)
      × ((life : Life Op) × (last_life script.lives ≡ Some life) × (command.client < life.clients))
      × (command_count script.lives < 100000)

  -- A line that is not passed over, of which the whole grammar says that it may stand behind these lines, and what it says.
  pub record IsLineAccepted (commands : Commands Op Reason) (before : Script Op) (line : List ℕ) (says : ScriptLine Op) : Type 0 where
    pub text : is_utf8 line ≡ true
    pub says_it : SaysScriptLine commands says line
    pub stands : MayStand commands before says

  -- the script after one more line
  abbrev pub AddsScriptLine : Commands Op Reason → Script Op → List ℕ → Script Op → Type 0
  AddsScriptLine commands before line after =
      ((is_passed_over line ≡ true) × (after ≡ before))
      ⊎ ((says : ScriptLine Op) × IsLineAccepted commands before line says × (after ≡ with_said before says))
