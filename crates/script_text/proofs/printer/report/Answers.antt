use Rattle.std.proofs.Common.{arith, length, ap, ◌∙◌, take}
use Rattle.life_records.specs.Lives.{NameCommands}
use Rattle.script_text.specs.Report.{records_text}
use Rattle.script_text.proofs.Records.{length-lives, NamesCommands_at, records_text-step, records_text-all}
use Rattle.script_text.proofs.printer.report.Goals as goal

pub bounds-lives-number : goal.bounds-lives-number
bounds-lives-number g c = omega (arith, length-lives c.args.script.now.lives c.args.records.now c.requires, ap length c.as_slice-lives.ensures)

pub write_record-requires : goal.write_record-requires
write_record-requires g c =
    let named : NameCommands c.as_slice-lives.result.now c.args.records.now = rw c.as_slice-lives.ensures c.requires in
    rw (c.in_ok-life.ensures ∙ c.lent-lent.ensures, c.index-lives-number.is, c.index-records-number.is)
    (NamesCommands_at c.as_slice-lives.result.now c.args.records.now c.loop-number.number c.index-lives-number.result c.index-records-number.result named c.loop-number-test.true)

pub loop-number-preserved : goal.loop-number-preserved
loop-number-preserved g c =
    let named : NameCommands c.as_slice-lives.result.now c.args.records.now = rw c.as_slice-lives.ensures c.requires in
    records_text-step g.W.ReportWriter.wording c.as_slice-lives.result.now c.args.records.now c.loop-number.number c.index-lives-number.result c.in_ok-life.life c.index-records-number.result
    c.loop-number.out.items c.write_record.new.out.items
    named c.loop-number-test.true c.index-lives-number.is c.index-records-number.is (c.in_ok-life.ensures ∙ c.lent-lent.ensures) c.loop-number.invariant c.in_ok-write_record.ensures

pub returns : goal.returns
returns g c =
    c.loop-number.invariant
    ∙ ap (λ lives. records_text g.W.ReportWriter.wording 0 (take c.loop-number.number lives) (take c.loop-number.number c.args.records.now)) c.as_slice-lives.ensures
    ∙ records_text-all g.W.ReportWriter.wording c.args.script.now.lives c.args.records.now c.loop-number.number c.requires c.loop-number-test.false
