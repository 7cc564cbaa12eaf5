use Rattle.std.proofs.Common.{rules, subst, sym, take}
use Rattle.std.proofs.lemmas.List.{take_all}
use Rattle.std.proofs.lemmas.List.Elements.{All-more, All-same}
use Rattle.doc_model.specs.declared.operations.Reply.{Reply}
use Rattle.life_records.specs.Lives.{Names}
use Rattle.life_records.specs.declared.record.JournalLine.{JournalLine}
use Rattle.text_tests.proofs.named.names_journal.Goals as goal

-- if each line of the journal before one names a command of the life, and that one does, then so does each line up to it
pub loop-line-preserved : goal.loop-line-preserved
loop-line-preserved c =
    let P : JournalLine Reply → Type 0 = λ line. Names c.args.life.now line.client line.command in
    let here : P c.line-item.result = search rules in
    All-more P c.args.journal.now c.loop-line.line-index c.line-item.result c.loop-line-test.true c.loop-line.invariant (subst P c.line-item.is here)

-- once the loop has passed all lines, each line of the journal names a command of the life
pub returns : goal.returns
returns c = λ _.
    All-same (λ line. Names c.args.life.now line.client line.command) c.args.journal.now (take c.loop-line.line-index c.args.journal.now)
    (sym (take_all c.loop-line.line-index c.args.journal.now c.loop-line-test.false)) c.loop-line.invariant
