use Rattle.std.proofs.Common.{◌≡◌, ◌≤◌, ◌+◌, length, [], refl, sym, ap, ◌∙◌, arith}
use Rattle.std.proofs.lemmas.Bool.{eqb-true}
use Rattle.std.proofs.lemmas.List.{nil_from_length}
use Rattle.plain_text.specs.Lines.{text_lines}
use Rattle.plain_text.specs.declared.reader.TextFault.TheVariants.{Refused}
use Rattle.plain_text.proofs.LineByLine.{fault, one_more, all_read, only_said, refused_only}
use Rattle.plain_text.proofs.reader.read_lines.Goals as goal

pub loop-rest-init : goal.loop-rest-init
loop-rest-init g c = record { left = refl; read = c.requires.nothing; counted = omega arith; keeps = c.requires.keeps }

pub returns-in-Some-clause-refused : goal.returns-in-Some-clause-refused
returns-in-Some-clause-refused g c =
    fault g.R.LineReader.grammar g.R.LineReader.judged g.met.R.LineReader.reads c.args.bytes.now c.next_line.result.0.now (text_lines c.next_line.result.1.now)
    c.loop-rest.number c.loop-rest.said c.in-Some.reason
    (c.loop-rest.invariant.left ∙ c.next_line.ensures.lines) c.loop-rest.invariant.read (rw c.in-Some.is at (c.in_ok-reason.ensures.value))

pub returns-in-Some-clause-only : goal.returns-in-Some-clause-only
returns-in-Some-clause-only g c =
    refused_only g.R.LineReader.grammar c.args.bytes.now (Refused (c.loop-rest.number + 1) c.in-Some.reason) (returns-in-Some-clause-refused g c)

pub loop-rest-preserved : goal.loop-rest-preserved
loop-rest-preserved g c =
    let more = one_more g.R.LineReader.grammar g.R.LineReader.judged g.met.R.LineReader.reads (text_lines c.args.bytes.now) c.next_line.result.0.now
    (text_lines c.next_line.result.1.now) c.loop-rest.number c.loop-rest.said c.add_line.new.self
    (c.loop-rest.invariant.left ∙ c.next_line.ensures.lines) c.loop-rest.invariant.read (rw c.in_default.is at (c.in_ok-reason.ensures.value)) in
    let counted : c.loop-rest.number + 1 + length c.next_line.result.1.now ≤ length c.args.bytes.now = omega (arith, c.next_line.ensures.shorter, c.loop-rest.invariant.counted) in
    record { left = more.0; read = more.1; counted = counted; keeps = c.in_ok-reason.ensures.keeps c.loop-rest.invariant.keeps }

pub returns-clause-read : goal.returns-clause-read
returns-clause-read g c =
    let none_left : c.loop-rest.rest.now ≡ [] = nil_from_length c.loop-rest.rest.now (eqb-true _ _ (sym c.loop-rest-test.ensures)) in
    all_read g.R.LineReader.grammar (text_lines c.args.bytes.now) c.loop-rest.number c.loop-rest.said (c.loop-rest.invariant.left ∙ ap text_lines none_left)
    c.loop-rest.invariant.read

pub returns-clause-only : goal.returns-clause-only
returns-clause-only g c = λ said is.
    only_said g.R.LineReader.grammar g.R.LineReader.judged g.met.R.LineReader.reads c.args.bytes.now c.loop-rest.said said (returns-clause-read g c) is
