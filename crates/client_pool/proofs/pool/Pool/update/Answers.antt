use Rattle.std.proofs.Common.{◌++◌, ◌+◌, ◌∷◌, [], List, ap, arith, inl, refl, ◌∙◌}
use Rattle.cx_service.specs.Drives.{answer_with}
use Rattle.client_pool.specs.Clients.{HaltsClientUpdate}
use Rattle.client_pool.specs.Lending.{ComesFrom, HaltsBesideQueue}
use Rattle.client_pool.specs.declared.call.Answered.{Answered}
use Rattle.client_pool.specs.declared.call.Answered.TheVariants.{Updated}
use Rattle.client_pool.specs.declared.client.Client.{Client}
use Rattle.client_pool.proofs.Calling.{full_more, stopped_more, updated, worn_more}
use Rattle.client_pool.proofs.Lends.{stopped_so, update_done, update_full, update_settles, update_stopped, update_worn}
use Rattle.client_pool.proofs.pool.Pool.update.Goals as goal

pub settle-requires-clause-updated : goal.settle-requires-clause-updated
settle-requires-clause-updated g c =
    update_settles c.args.self.now.service c.args.self.now.line.table.shared.table_id c.args.op.now c.update-updated.new.reply c.begin.new.lent c.in-Ok.caller c.in-Ok.ensures.out c.update-updated.result c.update-updated.ensures

pub returns-in-Done : goal.returns-in-Done
returns-in-Done g c =
    let r = c.args.self.now.service in
    let table = c.args.self.now.line.table.shared.table_id in
    let before = c.args.client.now in
    let reply = c.update-updated.new.reply in
    let answer = answer_with c.in-Done.ticket reply in
    let floor = c.place-floor.result in
    let least = c.place-floor.ensures in
    let after : Client = record { number = before.number; floor = answer.ticket + 1; caught_up = before.caught_up; answers = c.push_reserved.new.self; lent = c.settle.new.lent; closing = before.closing } in
    let x = c.in-Ok.caller in
    let done = update_done r table c.args.op.now reply floor before.lent c.begin.new.lent after.lent x c.in-Done.caller c.in-Done.ticket c.in-Ok.ensures c.update-updated.result c.update-updated.ensures c.in-Done.ensures in (
      updated r table before after c.args.op.now floor c.in-Done.caller x answer (omega (arith, least)) (omega (arith, least)) done.0 (record { number = refl; limits = done.0.limits; closing = refl }) refl
          (c.push_reserved.ensures.items ∙ ap (λ (l : List Answered). l ++ Updated c.in-Done.caller answer ∷ []) c.reserve.ensures.items) refl,
      done.1,
    )

pub returns-in-Full : goal.returns-in-Full
returns-in-Full g c =
    let r = c.args.self.now.service in
    let table = c.args.self.now.line.table.shared.table_id in
    let before = c.args.client.now in
    full_more r table before _ refl c.reserve.ensures.items (ComesFrom r) c.in-Full.note
    (update_full r table c.args.op.now c.update-updated.new.reply c.place-floor.result before.lent c.begin.new.lent c.settle.new.lent c.in-Ok.caller c.in-Ok.ensures c.in-Full.note c.update-updated.result c.update-updated.ensures c.in-Full.ensures)

pub returns-in-Worn : goal.returns-in-Worn
returns-in-Worn g c =
    let r = c.args.self.now.service in
    let table = c.args.self.now.line.table.shared.table_id in
    let before = c.args.client.now in
    worn_more r table before _ refl c.reserve.ensures.items (ComesFrom r)
    (update_worn r table c.args.op.now c.update-updated.new.reply c.place-floor.result before.lent c.begin.new.lent c.settle.new.lent c.in-Ok.caller c.in-Ok.ensures c.update-updated.result c.update-updated.ensures c.in-Worn.ensures)

pub returns-in-Halted : goal.returns-in-Halted
returns-in-Halted g c =
    let r = c.args.self.now.service in
    let table = c.args.self.now.line.table.shared.table_id in
    let before = c.args.client.now in
    stopped_more r table before _ refl c.reserve.ensures.items (HaltsClientUpdate r c.args.op.now) c.in-Halted.linked
    (update_stopped r table c.args.op.now c.update-updated.new.reply c.place-floor.result before.lent c.begin.new.lent c.settle.new.lent c.in-Ok.caller c.in-Ok.ensures c.in-Halted.linked c.update-updated.result c.update-updated.ensures c.in-Halted.ensures)

pub returns-in-Err : goal.returns-in-Err
returns-in-Err g c =
    let r = c.args.self.now.service in
    let table = c.args.self.now.line.table.shared.table_id in
    let before = c.args.client.now in
    stopped_more r table before _ refl c.reserve.ensures.items (HaltsClientUpdate r c.args.op.now) c.in-Err.linked
    (stopped_so r table (HaltsBesideQueue r) (HaltsClientUpdate r c.args.op.now) (λ x s h. inl h) before.lent c.begin.new.lent c.in-Err.linked c.in-Err.ensures)
