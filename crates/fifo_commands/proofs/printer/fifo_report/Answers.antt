use Rattle.std.proofs.Common.{◌∙◌, arith, ap, length, map, take}
use Rattle.fifo_commands.specs.FifoLives.{uncut}
use Rattle.fifo_commands.specs.Leaving.{with_no_stops}
use Rattle.script_text.specs.Report.{records_text}
use Rattle.fifo_commands.specs.Report.{queue_wording}
use Rattle.fifo_commands.proofs.Records.{AreNamed, all_texts, named_at, one_more, same_length}
use Rattle.fifo_commands.proofs.printer.fifo_report.Goals as goal

pub bounds-lives-number : goal.bounds-lives-number
bounds-lives-number c = omega (
  arith,
  same_length c.args.script.now.lives c.args.records.now c.requires,
  ap length c.as_slice-lives.ensures,
  c.loop-number-test.true,
)

pub write_record-requires : goal.write_record-requires
write_record-requires c =
    let named : AreNamed c.as_slice-lives.result.now c.args.records.now = rw c.as_slice-lives.ensures c.requires in
    named_at c.as_slice-lives.result.now c.args.records.now c.loop-number.number c.index-lives-number.result c.index-records-number.result
    named c.loop-number-test.true c.index-lives-number.is c.index-records-number.is

pub loop-number-preserved : goal.loop-number-preserved
loop-number-preserved c =
    let named : AreNamed c.as_slice-lives.result.now c.args.records.now = rw c.as_slice-lives.ensures c.requires in
    one_more c.as_slice-lives.result.now c.args.records.now c.loop-number.number c.index-lives-number.result c.index-records-number.result
    named c.loop-number-test.true c.index-lives-number.is c.index-records-number.is
    c.loop-number.out.items c.write_record.new.out.items c.loop-number.invariant c.in_ok-write_record.ensures

pub returns : goal.returns
returns c =
    c.loop-number.invariant
    ∙ ap (λ lives. records_text queue_wording 0 (take c.loop-number.number (map uncut lives)) (take c.loop-number.number (map with_no_stops c.args.records.now))) c.as_slice-lives.ensures
    ∙ all_texts c.args.script.now.lives c.args.records.now c.loop-number.number c.requires c.loop-number-test.false
