use Rattle.std.proofs.Common.{◌/◌, subst, arith, OnErr, OnOk}
use Rattle.cx_table.specs.Seats.{Seated}
use Rattle.mutation_queue.specs.Entries.{HaltsAmong, ReadsWords}
use Rattle.mutation_queue.proofs.EntryReads.{run_read}
use Rattle.mutation_queue.proofs.entries.read_words.Goals as goal

pub returns-then-read_words-clause-read : goal.returns-then-read_words-clause-read
returns-then-read_words-clause-read g c =
    let long = c.read_words.array_long in
    let run = run_read c.args.shared.now g.O.Object.step g.O.Object.only_reads (g.O.Object.lawful c.args.shared.now.object) c.args.ticket c.args.cell c.read_words.new.into c.args.seat.now c.read_words.new.seat c.if-read_words.ensures.run in
    record { seat = run.0; fits = run.2 (omega (arith, long)); within = λ n below e. run.1 n (omega (arith, long, below)) e }

pub returns-clause-read : goal.returns-clause-read
returns-clause-read g c =
    subst (λ (s : Seated). OnOk c.read_each.result (ReadsWords g.O.Object c.args.shared.now (c.args.cell / 16) c.args.ticket c.read_each.new.into s c.read_each.new.seat)) c.if-read_words.ensures.run.0 c.read_each.ensures.read

pub returns-clause-halted : goal.returns-clause-halted
returns-clause-halted g c =
    subst (λ (s : Seated). OnErr c.read_each.result (HaltsAmong (c.args.cell / 16) c.args.ticket s c.read_each.new.seat)) c.if-read_words.ensures.run.0 c.read_each.ensures.halted
