use Rattle.std.proofs.Common.{◌≡◌, ◌∙◌, ◌+◌, ◌-◌, ◌<◌, ap, arith, refl, subst, Some}
use Rattle.crossbeam_queue.specs.Passes.{view}
use Rattle.seat_pool.specs.Pooling.{limits_at}
use Rattle.seat_pool.specs.declared.hand.LenderPass.{LenderPass}
use Rattle.client_pool.specs.Pools.{AreCallersPlaced}
use Rattle.client_pool.specs.declared.client.Client.{Client}
use Rattle.client_pool.specs.declared.client.Closing.{Closing}
use Rattle.client_pool.proofs.Opening.{AreMade, all_made, made_more, placed_more, rest_of}
use Rattle.client_pool.proofs.open.new_clients.Goals as goal

pub loop-number-preserved : goal.loop-number-preserved
loop-number-preserved g c =
    let r = c.args.service.now in
    let table = c.args.line.now.table.shared.table_id in
    let i = c.loop-number.invariant in
    let n = c.loop-number.number in
    let x = c.new_client-client.result in
    let made = c.new_client-client.ensures in
    record {
      pass = made.pass.0;
      placed = placed_more r table n (view c.loop-number.pass) (view c.new_client-client.new.pass) i.placed (let few = c.loop-number-test.true in let most = c.requires.count.1 in omega (arith, few, most)) made.pass.1;
      room = (let room = i.room in let same = c.push_reserved.ensures.capacity in omega (arith, room, same));
      limits = ap (λ (v : LenderPass). limits_at v.home) made.pass.1 ∙ i.limits;
      made = made_more r table (limits_at (view c.args.pass).home) (limits_at (view c.loop-number.pass).home) n c.loop-number.clients.items c.push_reserved.new.self.items x x i.made c.push_reserved.ensures.items made.client i.limits refl refl refl refl;
    }

pub returns : goal.returns
returns g c =
    let r = c.args.service.now in
    let table = c.args.line.now.table.shared.table_id in
    let i = c.loop-number.invariant in
    let count = c.args.count in
    let few = c.loop-number.auto.number-end in
    let all = c.loop-number-test.false in
    let n : c.loop-number.number ≡ count - 1 = omega (arith, few, all) in
    let more : count - 1 + 1 ≡ count = (let some = c.requires.count.0 in omega (arith, some)) in
    let m = c.new_client-last.result in
    let made = c.new_client-last.ensures in
    let rooms = c.args.rooms in
    let closing : Closing = record { rest = c.new_client-last.new.pass; lents = rooms.lents; former = rooms.former; handed_room = rooms.handed_room; out = rooms.out } in
    let last : Client = record { number = m.number; floor = m.floor; caught_up = m.caught_up; answers = m.answers; lent = m.lent; closing = Some closing } in
    let items = c.push_reserved-2.new.self.items in
    let short : count - 1 < 1024 = (let most = c.requires.count.1 in omega (arith, most)) in
    let placed = placed_more r table (count - 1) (view c.loop-number.pass) (view c.new_client-last.new.pass) (subst (λ k. AreCallersPlaced r k (view c.loop-number.pass)) n i.placed) short made.pass.1 in
    let rest = (let most = c.requires.count.1 in rest_of r table count (view c.new_client-last.new.pass) (subst (λ k. AreCallersPlaced r k (view c.new_client-last.new.pass)) more placed) (omega (arith, most))) in
    let limits = limits_at (view c.args.pass).home in
    all_made r table limits count c.loop-number.clients.items items last closing c.push_reserved-2.ensures.items refl
    (subst (λ k. AreMade r table limits k items) more (made_more r table limits (limits_at (view c.loop-number.pass).home) (count - 1) c.loop-number.clients.items items last m (subst (λ k. AreMade r table limits k c.loop-number.clients.items) n i.made) c.push_reserved-2.ensures.items made.client i.limits refl refl refl refl))
    (record { pass = made.pass.0; rest = rest; lents = c.requires.rooms.lents; former = c.requires.rooms.former; handed_room = c.requires.rooms.handed_room; out = c.requires.rooms.out })
