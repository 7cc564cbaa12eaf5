use Rattle.std.proofs.Common.{◌≡◌, ◌-◌, refl, set, ap, ◌∙◌, List, vec_len}
use Rattle.life_records.specs.Records.{Command, Life}
use Rattle.script_text.specs.Grammar.{Script, with_command, with_last}
use Rattle.script_text.proofs.LastLives.{with_last-set}
use Rattle.script_text.proofs.reader.Draft.add_command.Goals as goal

pub returns : goal.returns
returns g c =
    let lives : List (Life g.row.C-Op.Denot) = c.self.inside.lives.items in
    let last = vec_len c.self.inside.lives - 1 in
    let life : Life g.row.C-Op.Denot = c.in-Some.life.now in
    let script_with : List (Life g.row.C-Op.Denot) → Script g.row.C-Op.Denot = λ ls. record { lines = c.self.inside.lines; lives = ls } in
    let pushed = ap (λ (items : List (Command g.row.C-Op.Denot)). script_with (set lives last (record life { commands = items }))) c.in_ok-push.ensures.ok in
    let placed : set lives last (with_command c.args.command life) ≡ with_last (with_command c.args.command) lives =
    with_last-set (with_command c.args.command) lives (vec_len c.self.inside.lives) life c.self.inside.lives.ok.0 (c.in-Some.ensures.variant.0 refl) c.in-Some.ensures.value in
    pushed ∙ ap script_with placed ∙ ap (λ (s : Script g.row.C-Op.Denot). record s { lives = with_last (with_command c.args.command) s.lives }) c.self.view_is
