use Rattle.std.proofs.Common.{refl, subst}
use Rattle.seat_pool.specs.Gathering.{AreCallsTold}
use Rattle.client_pool.specs.declared.client.Client.{Client}
use Rattle.table_invariant.specs.Running.{instance_at}
use Rattle.client_pool.proofs.History.{all_stand_in, are_answered}
use Rattle.client_pool.proofs.Closing.{all_of, lents_are}
use Rattle.client_pool.proofs.Whole.{are_whole, front_within}
use Rattle.cx_service.specs.Closes.{seats_of}
use Rattle.client_pool.proofs.pool.Pool.close.Goals as goal

pub close-requires-clause-lents : goal.close-requires-clause-lents
close-requires-clause-lents g c =
    let are = all_of (λ (x : Client). x.lent) c.part_clients-lents.result.0.items c.push_reserved.new.self.items c.args.clients.items c.pop.new.self.items c.in-Some.last c.push_reserved.ensures.items c.part_clients-lents.ensures.lents.0 c.in-Some.ensures.items in
    lents_are c.args.self.service c.args.self.line.table.shared.table_id c.push_reserved.new.self.items c.args.clients.items are c.requires.each

pub returns-in-Ok-clause-remains : goal.returns-in-Ok-clause-remains
returns-in-Ok-clause-remains g c =
    let are = all_of (λ (x : Client). x.lent) c.part_clients-lents.result.0.items c.push_reserved.new.self.items c.args.clients.items c.pop.new.self.items c.in-Some.last c.push_reserved.ensures.items c.part_clients-lents.ensures.lents.0 c.in-Some.ensures.items in
    let closed = c.in-Ok.ensures.remains in
    let are_told = subst (λ l. AreCallsTold c.args.self.service l closed.0) are closed.2 in
    let r = c.args.self.service in
    let clients = c.args.clients.items in
    let instance = instance_at r g.O.Object.step g.O.Object.only_reads in
    let leaves = closed.1 in
    let order = c.closed_tables_are_linearizable.ensures r (seats_of closed.0) c.in-Ok.remains c.lines-lines.ensures.running leaves in
    let answered = are_answered r instance closed.0 c.in-Ok.remains clients refl leaves are_told in
    record {
      handed = closed.0;
      leaves = leaves;
      order = order;
      are_told = are_told;
      answered = answered;
      ordered = λ calls are. all_stand_in r instance closed.0 c.in-Ok.remains leaves order calls (answered calls are).callers;
      whole = λ live calls are. are_whole r c.in-Ok.remains.trail.history closed.0 clients leaves.merged are_told live calls are (answered calls are).once;
      fronts = front_within r instance closed.0 c.in-Ok.remains clients refl leaves are_told;
    }
