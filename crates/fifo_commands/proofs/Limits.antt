-- The limits of a script of a queue are those of the same script with no cuts.
use Rattle.std.proofs.Common.{subst, arith}
use Rattle.std.proofs.lemmas.List.{get_or-map, length-map}
use Rattle.life_records.specs.Limits.{IsLifeInLimits, KeepsLimits}
use Rattle.life_records.specs.Records.{Life}
use Rattle.fifo_object.specs.Queue.{IsOp}
use Rattle.fifo_object.specs.declared.operations.FifoOp.{FifoOp}
use Rattle.fifo_commands.specs.FifoLives.{uncut}
use Rattle.fifo_commands.specs.declared.record.FifoScript.{FifoScript}
use Rattle.fifo_commands.specs.Runs.{KeepsFifoLimits}
use Rattle.fifo_commands.specs.Uncut.{uncut_script}

pub fifo_limits : (script : FifoScript) → KeepsLimits IsOp 8 (uncut_script script) → KeepsFifoLimits script
fifo_limits script keeps =
    let count = length-map script.lives uncut in
    record {
      lines = λ some. keeps.lines (omega (arith, some, count));
      lives = omega (arith, keeps.lives, count);
      commands = keeps.commands;
      each = λ k life within.
          subst (λ (l : Life FifoOp). IsLifeInLimits IsOp 8 l) (get_or-map uncut script.lives k life (uncut life) within)
          (keeps.each k (uncut life) (omega (arith, within, count)));
    }
