use Rattle.std.proofs.Common.{◌++◌, ◌+◌, ◌∷◌, [], List, ap, arith, inl, refl, subst, ◌∙◌}
use Rattle.cx_service.specs.Drives.{answer_with}
use Rattle.cx_service.specs.Lookups.{seen_with}
use Rattle.client_pool.specs.Clients.{HaltsClientRead}
use Rattle.client_pool.specs.Lending.{HaltsBesideQueue, IsReadRefused, LooksOn}
use Rattle.client_pool.specs.declared.call.Answered.{Answered}
use Rattle.client_pool.specs.declared.call.Answered.TheVariants.{Read, Updated}
use Rattle.client_pool.specs.declared.client.Client.{Client}
use Rattle.client_pool.proofs.Calling.{full_more, read_is, read_more, stopped_more, updated, worn_more}
use Rattle.client_pool.proofs.Lends.{read_done, read_full, read_since, read_stopped, read_worn, returns_first, stopped_so}
use Rattle.client_pool.proofs.pool.Pool.read.Goals as goal

pub returns-in-Found : goal.returns-in-Found
unfolding read_since
returns-in-Found g c =
    let r = c.args.self.now.service in
    let table = c.args.self.now.line.table.shared.table_id in
    let before = c.args.client.now in
    let seen = seen_with c.in-Found.place c.read_beside.new.reply in
    let floor = c.place-floor.result in
    let least = c.place-floor.ensures in
    let after : Client = record { number = before.number; floor = seen.place; caught_up = before.caught_up; answers = c.push_reserved.new.self; lent = c.read_beside.new.lent; closing = before.closing } in
    let begun = c.in-Ok.ensures in
    let found = c.in-Found.ensures in
    let shows = read_since r table before.lent c.begin.new.lent after.lent begun.tells c.args.op.now floor c.in-Ok.caller seen found.0 in
    let back = returns_first r table before.lent c.begin.new.lent after.lent begun.first shows.now begun.tells begun.is found.1 in (
      read_more r table before after c.args.op.now floor c.in-Ok.caller seen (omega (arith, least)) (omega (arith, least)) shows (record { number = refl; limits = shows.limits; closing = refl }) refl
          (c.push_reserved.ensures.items ∙ ap (λ (l : List Answered). l ++ Read seen ∷ []) c.reserve.ensures.items) refl,
      read_is r table before after c.args.op.now floor begun.first c.in-Ok.caller seen begun.since shows back,
    )

pub returns-in-Entered-Done : goal.returns-in-Entered-Done
returns-in-Entered-Done g c =
    let r = c.args.self.now.service in
    let table = c.args.self.now.line.table.shared.table_id in
    let before = c.args.client.now in
    let caller = c.in-Entered-Done.caller in
    let reply = c.read_beside.new.reply in
    let ticket = c.in-Entered-Done.ticket in
    let answer = answer_with ticket reply in
    let floor = c.place-floor.result in
    let least = c.place-floor.ensures in
    let after : Client = record { number = before.number; floor = answer.ticket + 1; caught_up = before.caught_up; answers = c.push_reserved-in-Entered-Done.new.self; lent = c.read_beside.new.lent; closing = before.closing } in
    let x = c.in-Ok.caller in
    let done = read_done r table c.args.op.now reply floor before.lent c.begin.new.lent after.lent x caller ticket c.in-Ok.ensures (subst (LooksOn r table c.args.op.now c.read_beside.new.reply x c.begin.new.lent after.lent) c.in-Entered-Done.field-0-is c.in-Entered-Done.ensures) in (
      updated r table before after c.args.op.now floor caller done.0 answer (omega (arith, least)) (omega (arith, least)) done.1 (record { number = refl; limits = done.1.limits; closing = refl }) refl
          (c.push_reserved-in-Entered-Done.ensures.items ∙ ap (λ (l : List Answered). l ++ Updated caller answer ∷ []) c.reserve.ensures.items) refl,
      done.2,
    )

pub returns-in-Entered-Full : goal.returns-in-Entered-Full
returns-in-Entered-Full g c =
    let r = c.args.self.now.service in
    let table = c.args.self.now.line.table.shared.table_id in
    let before = c.args.client.now in
    let x = c.in-Ok.caller in
    full_more r table before _ refl c.reserve.ensures.items (IsReadRefused r) c.in-Entered-Full.note
    (read_full r table c.args.op.now c.read_beside.new.reply c.place-floor.result before.lent c.begin.new.lent c.read_beside.new.lent x c.in-Ok.ensures c.in-Entered-Full.note (subst (LooksOn r table c.args.op.now c.read_beside.new.reply x c.begin.new.lent c.read_beside.new.lent) c.in-Entered-Full.field-0-is c.in-Entered-Full.ensures))

pub returns-in-Entered-Worn : goal.returns-in-Entered-Worn
returns-in-Entered-Worn g c =
    let r = c.args.self.now.service in
    let table = c.args.self.now.line.table.shared.table_id in
    let before = c.args.client.now in
    let x = c.in-Ok.caller in
    worn_more r table before _ refl c.reserve.ensures.items (IsReadRefused r)
    (read_worn r table c.args.op.now c.read_beside.new.reply c.place-floor.result before.lent c.begin.new.lent c.read_beside.new.lent x c.in-Ok.ensures (subst (LooksOn r table c.args.op.now c.read_beside.new.reply x c.begin.new.lent c.read_beside.new.lent) c.in-Entered-Worn.field-0-is c.in-Entered-Worn.ensures))

pub returns-in-Entered-Halted : goal.returns-in-Entered-Halted
returns-in-Entered-Halted g c =
    let r = c.args.self.now.service in
    let table = c.args.self.now.line.table.shared.table_id in
    let before = c.args.client.now in
    let x = c.in-Ok.caller in
    stopped_more r table before _ refl c.reserve.ensures.items (HaltsClientRead r c.args.op.now) c.in-Entered-Halted.linked
    (read_stopped r table c.args.op.now c.read_beside.new.reply c.place-floor.result before.lent c.begin.new.lent c.read_beside.new.lent x c.in-Ok.ensures c.in-Entered-Halted.linked (subst (LooksOn r table c.args.op.now c.read_beside.new.reply x c.begin.new.lent c.read_beside.new.lent) c.in-Entered-Halted.field-0-is c.in-Entered-Halted.ensures))

pub returns-in-Err : goal.returns-in-Err
returns-in-Err g c =
    let r = c.args.self.now.service in
    let table = c.args.self.now.line.table.shared.table_id in
    let before = c.args.client.now in
    stopped_more r table before _ refl c.reserve.ensures.items (HaltsClientRead r c.args.op.now) c.in-Err.linked
    (stopped_so r table (HaltsBesideQueue r) (HaltsClientRead r c.args.op.now) (λ x s h. inl h) before.lent c.begin.new.lent c.in-Err.linked c.in-Err.ensures)

pub overflow_add-client : goal.overflow_add-client
overflow_add-client g c =
    let r = c.args.self.now.service in
    let table = c.args.self.now.line.table.shared.table_id in
    let x = c.in-Ok.caller in
    let mid = c.begin.new.lent in
    let after = c.read_beside.new.lent in
    let done = read_done r table c.args.op.now c.read_beside.new.reply c.place-floor.result c.args.client.now.lent mid after x c.in-Entered-Done.caller c.in-Entered-Done.ticket c.in-Ok.ensures (subst (LooksOn r table c.args.op.now c.read_beside.new.reply x mid after) c.in-Entered-Done.field-0-is c.in-Entered-Done.ensures) in
    let small = done.1.small in
    omega (arith, small)
