use Rattle.std.proofs.Common.{sym, ◌∙◌}
use Rattle.table_invariant.specs.Running.{Running}
use Rattle.c_sessions.specs.Places.{CatchesUpFrom, place_seen}
use Rattle.c_sessions.proofs.Places.{Left, sees_go, left_by}
use Rattle.c_sessions.proofs.session.Session.catch_up.Goals as goal

-- after catching up the session is open, and its place and caller are as the result says
left : (g : _) (c : goal.After-self-2-1 g) →
    Left c.args.self.now c.catch_up_idle-handed.result.0 c.place_seen-self.result (place_seen c.catch_up_idle-handed.result.1 c.args.place c.args.self.now.place)
    (λ (r : Running _) x y. CatchesUpFrom r c.args.place x c.catch_up_idle-handed.result.1 y)
left g c =
    let s = c.args.self.now in
    let service = c.deref.result.now in
    let b = c.in-Some.handed in
    let h = c.catch_up_idle-handed.result.0 in
    left_by _ s b h service _ _ c.deref.ensures c.requires.opened (sym c.take.ensures.value ∙ c.in-Some.is) c.place_seen-self.ensures c.catch_up_idle-handed.ensures.of c.catch_up_idle-handed.ensures.done
    (λ of seen. sees_go service s.place c.args.place b c.catch_up_idle-handed.result.1 h of seen c.catch_up_idle-handed.ensures.done)

pub returns : goal.returns
returns g c = record { opened = (left g c).opened; done = (left g c).stands }
