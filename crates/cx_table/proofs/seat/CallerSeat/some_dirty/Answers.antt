use Rattle.std.proofs.Common.{◌<◌, ℕ, IfNone, IfSome, subst}
use Rattle.std.specs.List.{Contains}
use Rattle.cx_core.specs.Rights.{held_dirty}
use Rattle.table_invariant.specs.Seats.{Seated, known_of}
use Rattle.caller_cache.proofs.Covering.{dirty_none, dirty_some}
use Rattle.cx_table.proofs.seat.CallerSeat.some_dirty.Goals as goal

pub returns-clause-some : goal.returns-clause-some
returns-clause-some c =
    let known = known_of c.self.inside.seat.me.0 in
    subst (λ (s : Seated). IfSome c.some_dirty.result (λ at. (at < s.region) × Contains (held_dirty s.known.local.exclusive) at)) c.self.view_is
    (dirty_some known c.self.inside.copy c.some_dirty.result c.self.invariant.1 c.some_dirty.ensures.some)

pub returns-clause-none : goal.returns-clause-none
returns-clause-none c =
    let known = known_of c.self.inside.seat.me.0 in
    subst (λ (s : Seated). IfNone c.some_dirty.result ((at : ℕ) → at < s.region → ¬ Contains (held_dirty s.known.local.exclusive) at)) c.self.view_is
    (dirty_none known c.self.inside.copy c.some_dirty.result c.self.invariant.1 c.some_dirty.ensures.none)
