use Rattle.std.proofs.Common.{ap, subst, sym}
use Rattle.mutation_queue.specs.Entries.{ReadsEntry}
use Rattle.cx_attempts.specs.Replaying.{unchanged_by_work}
use Rattle.cx_attempts.proofs.Stepping.{on_entry}
use Rattle.cx_attempts.proofs.replay.read_next.Goals as goal

pub returns-clause-read : goal.returns-clause-read
returns-clause-read g c =
    let next = c.set_entry.new.entry in
    let e = c.in_ok-caller.ensures.read in
    let o = c.set_entry.ensures in
    let now = c.entry.new.seat in
    record {
      read = subst (λ ws. ReadsEntry next.caller c.args.ticket ws c.args.seat.now now) (sym o.words) (subst (λ k. ReadsEntry k c.args.ticket c.entry.new.into c.args.seat.now now) (sym o.caller) e.words);
      noted = e.notes.each next o.caller o.words;
      fits = e.notes.fits;
    }

pub returns-clause-keeps : goal.returns-clause-keeps
returns-clause-keeps g c =
    let words = c.in_ok-caller.ensures.read.words in
    record {
      seat = c.entry.ensures.seat;
      since = on_entry c.in_ok-caller.caller c.args.ticket c.entry.new.into c.args.seat.now c.entry.new.seat words;
      rest = ap unchanged_by_work words.seat;
    }
