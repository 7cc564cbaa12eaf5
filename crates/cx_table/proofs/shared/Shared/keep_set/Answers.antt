use Rattle.std.proofs.Common.{subst, sym}
use Rattle.table_invariant.specs.Offers.{TellsSet}
use Rattle.table_invariant.specs.Running.{instance_at}
use Rattle.table_invariant.specs.Seats.{Seated, known_of}
use Rattle.table_invariant.specs.Steps.{KeepsSet, TeachesKept}
use Rattle.caller_cache.proofs.SummaryLaws.{IsSeat, seated}
use Rattle.cx_table.proofs.Handing.{laws_at}
use Rattle.cx_table.proofs.Keeping.{kept_fits, kept_made, pairs_within}
use Rattle.cx_table.proofs.shared.Shared.keep_set.Goals as goal

pub note_kept-requires-clause-of_ticket : goal.note_kept-requires-clause-of_ticket
note_kept-requires-clause-of_ticket g c =
    let t = c.args.self.now in
    subst (λ ws. TellsSet t.lines (g.O.Object.lawful t.object) t.base (g.O.Object.step t.object) (known_of c.seat.inside.seat.me.0) c.args.ticket ws) (sym c.deref.ensures.value)
    (subst (λ (s : Seated). TellsSet t.lines (g.O.Object.lawful t.object) t.base (g.O.Object.step t.object) s.known c.args.ticket c.args.set.now.items) (sym c.seat.view_is) c.requires.of_ticket)

-- what the seat is taught, of the words of the set
taught : (g : _) (c : goal.After-keep g) → TeachesKept (instance_at c.args.self.now g.O.Object.step g.O.Object.only_reads) c.args.ticket c.args.set.now.items (known_of c.seat.inside.seat.me.0) c.note_kept.new.seat.me
taught g c = subst (λ ws. TeachesKept (instance_at c.args.self.now g.O.Object.step g.O.Object.only_reads) c.args.ticket ws (known_of c.seat.inside.seat.me.0) c.note_kept.new.seat.me) c.deref.ensures.value c.note_kept.ensures.taught

-- what the call makes
made : (g : _) (c : goal.After-keep g) →
    IsSeat c.note_kept.new.seat.me c.seat.inside.summary c.seat.inside.before c.keep.new.self
    × KeepsSet c.args.self.now c.args.ticket c.args.set.now.items c.args.seat.now (seated c.note_kept.new.seat.table_id c.note_kept.new.seat.me c.seat.inside.before c.keep.new.self)
made g c =
    let t = c.args.self.now in
    kept_made t g.O.Object.step g.O.Object.only_reads c.args.ticket c.args.set.now.items _ _ c.seat.inside.summary c.seat.inside.copy _ _ _ _ c.args.seat.now c.seat.invariant c.seat.view_is c.requires.seat
    (pairs_within t.lines (g.O.Object.lawful t.object) (g.O.Object.step t.object) t c.args.seat.now.known c.args.ticket c.args.set.now.items c.args.seat.now.region c.requires.seat.region c.requires.of_ticket)
    c.note_kept.ensures.table (taught g c) c.keep.ensures.kept

pub invariant_of-seat : goal.invariant_of-seat
invariant_of-seat g c = (made g c).0

pub returns-clause-kept : goal.returns-clause-kept
returns-clause-kept g c = (made g c).1

pub returns-clause-fits : goal.returns-clause-fits
returns-clause-fits g c =
    let running = c.table_is_running.ensures in
    kept_fits g.O.Object.line_count g.O.Object.lawful g.O.Object.step g.O.Object.only_reads c.args.self.now c.args.ticket c.args.set.now.items _ _ running
    (laws_at g.O.Object.line_count g.O.Object.lawful g.O.Object.step c.args.self.now running g.met.O.Object.keeps (λ o image law. (g.met.O.Object.shape o image law).0) g.met.O.Object.replies)
    (taught g c)
