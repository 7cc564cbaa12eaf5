use Rattle.std.proofs.Common.{◌≡◌, length, ap, ◌∙◌, arith}
use Rattle.cx_table.specs.Remains.{RoomFor}
use Rattle.cx_table.proofs.Closing.{seats_count}
use Rattle.cx_table.proofs.shared.Shared.gather_in.Goals as goal

pub note_wins-requires-clause-room : goal.note_wins-requires-clause-room
note_wins-requires-clause-room g c =
    let callers : c.room.inside.callers ≡ c.args.self.callers = ap (λ (r : RoomFor). r.callers) c.room.view_is ∙ c.requires.room.callers in
    let seats : length c.deref-2.result.now ≡ c.args.self.callers = ap length c.deref-2.ensures.value ∙ seats_count c.args.self c.args.seats.items c.requires.seats in
    omega (arith, c.room.invariant.3, callers, seats)

pub closed-requires-clause-published : goal.closed-requires-clause-published
closed-requires-clause-published g c =
    let callers : c.room.inside.callers ≡ c.args.self.callers = ap (λ (r : RoomFor). r.callers) c.room.view_is ∙ c.requires.room.callers in
    let seats : length c.deref-2.result.now ≡ c.args.self.callers = ap length c.deref-2.ensures.value ∙ seats_count c.args.self c.args.seats.items c.requires.seats in
    (c.room.invariant.0, omega (arith, c.room.invariant.1, callers, seats, c.note_wins.ensures.few))
