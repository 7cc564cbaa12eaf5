use Rattle.std.proofs.Common.{◌≡◌, ℕ, List, ap, arith, length, refl, subst, ◌∙◌}
use Rattle.table_invariant.specs.Seats.{Seated}
use Rattle.client_pool.specs.Pools.{AreNewClients, HaveRoom}
use Rattle.client_pool.proofs.Opening.{as_long}
use Rattle.client_pool.proofs.pool.Pool.open.Goals as goal

pub open-requires : goal.open-requires
open-requires g c =
    let long = as_long (λ (s : Seated). s.known.local.number) c.args.callers.items 0 c.args.service.callers c.requires.callers.numbers in
    let same : length c.as_slice.result.now ≡ length c.args.callers.items = ap length c.as_slice.ensures.value in
    let some = c.lines-lines.ensures.running.some in
    omega (arith, long, same, some)

pub place_all-pass-requires-clause-room : goal.place_all-pass-requires-clause-room
place_all-pass-requires-clause-room g c =
    c.in-Ok-open.ensures.1 ∙ ap length c.as_slice.ensures.value ∙ as_long (λ (s : Seated). s.known.local.number) c.args.callers.items 0 c.args.service.callers c.requires.callers.numbers

pub new_clients-clients-requires-clause-rooms : goal.new_clients-clients-requires-clause-rooms
new_clients-clients-requires-clause-rooms g c =
    let long = as_long (λ (s : Seated). s.known.local.number) c.args.callers.items 0 c.args.service.callers c.requires.callers.numbers in
    let same : c.len.result ≡ c.args.service.callers = (let len = c.len.ensures in let ok = c.args.callers.ok in omega (arith, long, len, ok)) in
    subst (λ n. HaveRoom n c.args.clients c.in-Ok.rooms) same c.in-Ok.ensures

pub returns-clause-opened : goal.returns-clause-opened
returns-clause-opened g c = (refl, record { room = c.in-Ok-open.ensures.1 ∙ ap length c.as_slice.ensures.value ∙ as_long (λ (s : Seated). s.known.local.number) c.args.callers.items 0 c.args.service.callers c.requires.callers.numbers; probe = c.requires.probe }, subst (λ (limits : List ℕ). AreNewClients c.args.service c.in-Ok-open.line.table.shared.table_id limits c.args.clients c.new_clients-clients.result.items) c.place_all-pass.ensures.limits c.new_clients-clients.ensures)
