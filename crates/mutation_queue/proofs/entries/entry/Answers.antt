use Rattle.std.proofs.Common.{◌/◌}
use Rattle.mutation_queue.proofs.Results.{on_err}
use Rattle.mutation_queue.proofs.EntryReads.{halts_reading, notes_entry, reads_entry}
use Rattle.mutation_queue.proofs.entries.entry.Goals as goal

pub returns-in_err-read_words-clause-halted : goal.returns-in_err-read_words-clause-halted
returns-in_err-read_words-clause-halted g c =
    on_err c.from_residual-in_err-read_words.result _
    (halts_reading c.args.shared.now (c.in_ok-cell.cell / 16) c.args.ticket c.in_ok-cell.cell c.args.seat.now c.find_cell.new.seat c.read_words.new.seat c.in_ok-cell.ensures.made c.in_err-read_words.ensures.halted)

pub returns-clause-read : goal.returns-clause-read
returns-clause-read g c =
    let caller = c.in_ok-cell.cell / 16 in
    let found = c.read_words.new.into in
    let s = c.args.seat.now in
    let t = c.read_words.new.seat in
    let look = c.in_ok-cell.ensures.made in
    let read = c.in_ok-read_words.ensures.read in
    let words = reads_entry g.O.Object c.args.shared.now caller c.args.ticket c.in_ok-cell.cell found s c.find_cell.new.seat t look read c.read_words.array_long in
    record { words = words; notes = notes_entry g.O.Object c.args.shared.now caller c.args.ticket found s t read.fits c.requires.may.later look.small words }
