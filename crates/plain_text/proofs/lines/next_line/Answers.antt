use Rattle.plain_text.proofs.Cuts.{text_lines-cut, text_lines-last}
use Rattle.plain_text.proofs.lines.next_line.Goals as goal

pub returns-in-Some-clause-lines : goal.returns-in-Some-clause-lines
returns-in-Some-clause-lines c =
    let h = c.in-Some.ensures.some in
    rw (c.without_return.ensures, h.1, h.2) (text_lines-cut c.args.bytes.now h.0)

pub returns-in-None-clause-lines : goal.returns-in-None-clause-lines
returns-in-None-clause-lines c = text_lines-last c.args.bytes.now c.in-None.ensures.none c.requires
