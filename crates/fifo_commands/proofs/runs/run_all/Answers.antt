use Rattle.std.proofs.Common.{◌≡◌, ◌+◌, ◌≤◌, List, [], arith, length, take, map, subst, sym}
use Rattle.std.proofs.lemmas.List.{length-map, take_all}
use Rattle.cx_lives.proofs.Appending.{none_lived}
use Rattle.cx_lives.specs.Lives.{HaveLived}
use Rattle.life_records.specs.Records.{Life}
use Rattle.life_records.specs.Scripts.{command_count}
use Rattle.fifo_commands.specs.FifoLives.{uncut}
use Rattle.fifo_object.specs.declared.operations.FifoOp.{FifoOp}
use Rattle.fifo_object.specs.Fifo.{IsFifo, fifo_reads, fifo_step}
use Rattle.fifo_object.specs.FifoMeaning.{fifo_meaning}
use Rattle.fifo_commands.proofs.RunLives.{one_more, room_for}
use Rattle.fifo_commands.proofs.runs.run_all.Goals as goal

pub run_one-requires-clause-lived : goal.run_one-requires-clause-lived
run_one-requires-clause-lived g c =
    let lives = c.args.lives.now in
    let lines = c.args.fifo.now.lines in
    let i = c.loop-life.life-index in
    let asks : (x : List (Life FifoOp)) × HaveLived (fifo_meaning lines) lines 16 (IsFifo lines) (fifo_step lines) fifo_reads x c.loop-life.lived × (command_count x + length c.life-item.result.commands ≤ 100000) = (
      take i (map uncut lives),
      c.loop-life.invariant,
      room_for lives i c.life-item.result c.loop-life-test.true c.life-item.is c.requires.commands,
    ) in
    λ κs known. asks

pub loop-life-preserved : goal.loop-life-preserved
loop-life-preserved g c =
    let lives = c.args.lives.now in
    let lines = c.args.fifo.now.lines in
    let i = c.loop-life.life-index in
    subst (λ ls. HaveLived (fifo_meaning lines) lines 16 (IsFifo lines) (fifo_step lines) fifo_reads ls c.in_ok-next.next) (one_more lives i c.life-item.result c.loop-life-test.true c.life-item.is)
    (c.in_ok-next.ensures (take i (map uncut lives)) c.loop-life.invariant)

pub loop-life-init : goal.loop-life-init
loop-life-init g c =
    let lines = c.args.fifo.now.lines in
    subst (λ lived. HaveLived (fifo_meaning lines) lines 16 (IsFifo lines) (fifo_step lines) fifo_reads [] lived) (sym c.new-lived.ensures) (none_lived (fifo_meaning lines) lines 16 (IsFifo lines) (fifo_step lines) fifo_reads)

pub returns : goal.returns
returns g c =
    let lives = c.args.lives.now in
    let lines = c.args.fifo.now.lines in
    let all : List (Life FifoOp) = map uncut lives in
    let long : length all ≡ length lives = length-map lives uncut in
    let over : length all ≤ c.loop-life.life-index = omega (arith, long, c.loop-life-test.false) in
    subst (λ ls. HaveLived (fifo_meaning lines) lines 16 (IsFifo lines) (fifo_step lines) fifo_reads ls c.loop-life.lived) (take_all c.loop-life.life-index all over) c.loop-life.invariant
