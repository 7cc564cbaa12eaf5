use Rattle.std.proofs.Common.{◌≡◌, ap, map, ◌∙◌}
use Rattle.fifo_commands.specs.FifoLives.{uncut}
use Rattle.fifo_commands.specs.Uncut.{cutless}
use Rattle.fifo_commands.proofs.NoCuts.{lives_again}
use Rattle.fifo_commands.proofs.reader.without_cuts.Goals as goal

pub returns : goal.returns
returns c =
    let left : c.of.result ≡ map cutless c.args.script.lives = c.of.ensures ∙ c.in_ok-lives.ensures ∙ ap (map cutless) c.into_vec.ensures in
    ap (λ lives. record { lines = c.args.script.lines; lives = lives }) (ap (map uncut) left ∙ lives_again c.args.script.lives c.requires)
