use Rattle.std.proofs.Common.{◌≡◌, ◌∙◌, sym, map, string_bytes, true, false}
use Rattle.cx_program.proofs.Forms.{has_form}
use Rattle.cx_program.proofs.command_line.read_words.Goals as goal

pub returns-else-branch : goal.returns-else-branch
returns-else-branch c asked asks =
    let bad : false ≡ true = sym c.if-branch.false ∙ c.in_ok-have_form.ensures.1 (has_form (map string_bytes c.args.words.now) asked asks) in cc
