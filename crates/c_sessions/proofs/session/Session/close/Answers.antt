use Rattle.std.specs.Arc.{arc_value}
use Rattle.seat_pool.specs.Gathering.{handed_number, kept_list}
use Rattle.c_sessions.proofs.Endings.{closes, rest_begins}
use Rattle.c_sessions.specs.declared.rule.HandedIn.{HandedIn}
use Rattle.c_sessions.proofs.session.Session.close.Goals as goal

-- once the caller is handed in, the session has taken no caller out yet, as `close_rest` needs
pub close_rest-requires : goal.close_rest-requires
close_rest-requires g c =
    let s = c.args.self in
    let x : HandedIn _ = record { service = s.service; handed = s.handed } in
    (arc_value s.service, kept_list s.handed, rest_begins (arc_value s.service) s.exit (handed_number c.requires.handed) x c.deref.result.now c.hand_in.new.pass c.requires.exit c.deref.ensures c.hand_in.ensures.of c.in_default.ensures.by_answer)

-- what closing the rest has as its result is the result of closing this session
pub returns : goal.returns
returns g c =
    let s = c.args.self in
    let x : HandedIn _ = record { service = s.service; handed = s.handed } in
    closes g.O.Object.line_count g.O.Object.lawful g.O.Object.step g.O.Object.only_reads s c.close_rest.result
    (c.close_rest.ensures (arc_value s.service) (kept_list s.handed) (rest_begins (arc_value s.service) s.exit (handed_number c.requires.handed) x c.deref.result.now c.hand_in.new.pass c.requires.exit c.deref.ensures c.hand_in.ensures.of c.in_default.ensures.by_answer))
