use Rattle.std.proofs.Common.{sym, ◌∙◌}
use Rattle.table_invariant.specs.Running.{Running}
use Rattle.c_sessions.specs.Images.{TakesFrom, place_taken}
use Rattle.c_sessions.proofs.Places.{Left, takes_go, left_by}
use Rattle.c_sessions.proofs.session.Session.checkpoint.Goals as goal

-- after taking an image the session is open, and its place and caller are as the result says
left : (g : _) (c : goal.After-self-2-1 g) →
    Left c.args.self.now c.take_image-handed.result.0 c.place_taken-self.result (place_taken c.take_image-handed.result.1 c.args.self.now.place)
    (λ (r : Running _) x y. TakesFrom g.O.Object r c.take_image-handed.new.into c.args.tries.count x c.take_image-handed.result.1 y)
left g c =
    let s = c.args.self.now in
    let service = c.deref.result.now in
    let b = c.in-Some.handed in
    let h = c.take_image-handed.result.0 in
    left_by _ s b h service _ _ c.deref.ensures c.requires.opened (sym c.take.ensures.value ∙ c.in-Some.is) c.place_taken-self.ensures c.take_image-handed.ensures.takes.of c.take_image-handed.ensures.takes.done
    (λ of seen. takes_go service s.place g.O.Object c.take_image-handed.new.into c.args.tries.count b c.take_image-handed.result.1 h of seen c.take_image-handed.ensures.takes.done)

pub returns-clause-takes : goal.returns-clause-takes
returns-clause-takes g c = record { opened = (left g c).opened; done = (left g c).stands }
