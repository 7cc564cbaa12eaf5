use Rattle.std.proofs.Common.{map}
use Rattle.table_invariant.specs.Seats.{Seated, nobody}
use Rattle.seat_pool.proofs.queue.open.Given as goal

abbrev pub ghosts-open_for : goal.ghosts-open_for
ghosts-open_for g a = record { home = record { base = a.service.now.base; callers = a.service.now.callers; limits = map (λ (s : Seated). s.known.local.limit) a.callers.now; first = record { table = a.service.now.table; before = 0; region = 0; known = nobody } } }
