use Rattle.std.proofs.Common.{sym, ◌∙◌}
use Rattle.table_invariant.specs.Running.{Running}
use Rattle.c_sessions.specs.Calls.{FinishesFrom, place_after}
use Rattle.c_sessions.proofs.Places.{Left, finishes_go, left_by}
use Rattle.c_sessions.proofs.session.Session.finish.Goals as goal

-- after finishing the linked entry the session is open, and its place and caller are as the result says
left : (g : _) (c : goal.After-self-2-1 g) →
    Left c.args.self.now c.finish_linked-handed.result.0 c.place_after-self.result (place_after c.finish_linked-handed.result.1 c.args.self.now.place)
    (λ (r : Running _) x y. FinishesFrom r c.args.tries.count x c.finish_linked-handed.result.1 y c.finish_linked-handed.new.reply)
left g c =
    let s = c.args.self.now in
    let service = c.deref.result.now in
    let b = c.in-Some.handed in
    let h = c.finish_linked-handed.result.0 in
    left_by _ s b h service _ _ c.deref.ensures c.requires.opened (sym c.take.ensures.value ∙ c.in-Some.is) c.place_after-self.ensures c.finish_linked-handed.ensures.of c.finish_linked-handed.ensures.done
    (λ of seen. finishes_go service s.place c.args.tries.count b c.finish_linked-handed.result.1 h c.finish_linked-handed.new.reply seen c.finish_linked-handed.ensures.done)

pub returns : goal.returns
returns g c = record { opened = (left g c).opened; done = (left g c).stands }
