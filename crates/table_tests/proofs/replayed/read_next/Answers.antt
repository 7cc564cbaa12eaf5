use Rattle.std.proofs.Common.{◌^◌, ◌<◌, inl, subst, sym}
use Rattle.cx_core.specs.History.{IsLawfulEntry}
use Rattle.table_invariant.specs.Fitting.{HasEntry, entries_of}
use Rattle.cx_attempts.proofs.ReadEntries.{ready_read}
use Rattle.table_tests.proofs.replayed.read_next.Goals as goal

-- reading an entry leaves the replica the image after the ticket
pub returns-clause-ready : goal.returns-clause-ready
returns-clause-ready g c =
    let shared = c.args.shared.now in
    let e = c.in_ok-caller.ensures in
    ready_read g.O.Object shared c.in_ok-caller.caller c.args.ticket c.args.ticket c.entry.new.into c.args.seat.now c.entry.new.seat c.args.held.now e.seat e.read.words e.read.notes.fits c.requires.ready

-- the entry that was read has the place of the replica as its ticket, so that it comes next
pub returns-clause-next : goal.returns-clause-next
returns-clause-next g c =
    let next = c.entry_of.result in
    let seat = c.entry.new.seat in
    let e = c.in_ok-caller.ensures.read.notes.each next c.entry_of.ensures.caller c.entry_of.ensures.words in
    let place = sym (returns-clause-ready g c).place in
    record {
      had = subst (λ p. HasEntry (entries_of seat.known) p next) place (inl e.noted);
      lawful = subst (λ p. IsLawfulEntry p next) place e.lawful;
      small = subst (λ p. p < 2 ^ 40) place e.small;
    }
