use Rattle.std.proofs.Common.{ap, subst, ◌∙◌}
use Rattle.cx_core.specs.declared.entry.Entry.{Entry}
use Rattle.cx_core.specs.QueueEvents.{cell_of}
use Rattle.table_invariant.specs.Seats.{Seated}
use Rattle.caller_cache.specs.Summaries.{IsOwnEntry}
use Rattle.caller_cache.proofs.OwnEntries.{own_read}
use Rattle.cx_table.proofs.seat.CallerSeat.own_entry.Goals as goal

pub returns : goal.returns
returns c found =
    let j = c.in-Some.j in
    let at = ap (λ (s : Seated). (cell_of s.known.local j).ticket) c.self.view_is ∙ c.in-Some.ensures.1 in
    let is = c.read_entry.ensures in
    subst (λ (s : Seated). IsOwnEntry s.known.local.own s.known.local.number c.args.ticket c.read_entry.new.entry) c.self.view_is
    (own_read c.self.inside.seat.me c.self.inside.summary c.self.inside.before c.self.inside.copy j c.args.ticket c.read_entry.new.entry c.self.invariant.0 c.self.invariant.1 c.in-Some.ensures.0 at
    (ap (λ (e : Entry). e.caller) is) (ap (λ (e : Entry). e.number) is) (ap (λ (e : Entry). e.op) is))
