use Rattle.std.proofs.Common.{sym, ◌∙◌}
use Rattle.table_invariant.specs.Running.{Running}
use Rattle.c_sessions.specs.Calls.{CallsFrom, place_after}
use Rattle.c_sessions.proofs.Places.{Left, calls_go, left_by}
use Rattle.c_sessions.proofs.session.Session.call.Goals as goal

-- after the call the session is open, and its place and caller are as the result says
left : (g : _) (c : goal.After-self-2-1 g) →
    Left c.args.self.now c.call_idle-handed.result.0 c.place_after-self.result (place_after c.call_idle-handed.result.1 c.args.self.now.place)
    (λ (r : Running _) x y. CallsFrom g.O.Object.only_reads r c.args.op.now c.args.tries.count x c.call_idle-handed.result.1 y c.call_idle-handed.new.reply)
left g c =
    let s = c.args.self.now in
    let service = c.deref.result.now in
    let b = c.in-Some.handed in
    let h = c.call_idle-handed.result.0 in
    left_by _ s b h service _ _ c.deref.ensures c.requires.opened (sym c.take.ensures.value ∙ c.in-Some.is) c.place_after-self.ensures c.call_idle-handed.ensures.of c.call_idle-handed.ensures.done
    (λ of seen. calls_go service s.place g.O.Object.only_reads c.args.op.now c.args.tries.count b c.call_idle-handed.result.1 h c.call_idle-handed.new.reply of seen c.call_idle-handed.ensures.done)

pub returns : goal.returns
returns g c = record { opened = (left g c).opened; done = (left g c).stands }
