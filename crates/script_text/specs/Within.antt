-- What scripts may have, as a script keeps to it.
use Rattle.std.specs.Prelude.{◌≡◌, ◌≤◌, false, [], length, All}
use Rattle.script_text.specs.Grammar.{Script}
use Rattle.script_text.specs.declared.lines.ScriptLimits.{ScriptLimits}

-- no more lives than there may be, and no cuts where there are no cut lines
pub record IsScriptWithin {Op : Type 0} (limits : ScriptLimits) (script : Script Op) : Type 0 where
  pub lives : length script.lives ≤ limits.lives
  pub uncut : limits.cuts ≡ false → All (λ life. life.cuts ≡ []) script.lives
