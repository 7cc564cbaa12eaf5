use Rattle.std.proofs.Common.{false, ◌≡◌, ◌∙◌, ◌+◌, ◌∷◌, List, Result, Ok, ap, arith, length, length-append, refl, subst, sym, []}
use Rattle.std.specs.declared.alloc.AllocError.{AllocError}
use Rattle.client_pool.specs.declared.client.Client.{Client}
use Rattle.cx_lives.proofs.Gathering.{first_result}
use Rattle.cx_lives.specs.Works.{AreResultsFrom}
use Rattle.pool_lives.specs.Working.{ClientServedOf}
use Rattle.pool_lives.specs.declared.work.ServedClient.{ServedClient}
use Rattle.pool_lives.proofs.Joining.{gathered_more, gathered_none}
use Rattle.pool_lives.proofs.gather.gather.Goals as goal

pub loop-works-init : goal.loop-works-init
loop-works-init g c =
    let m = g.O.TypedObject.meaning c.args.object.now in
    let life = c.args.life.now in
    let r = c.args.pool.now.service in
    let table = c.args.pool.now.line.table.shared.table_id in
    let none = c.new-clients.ensures.items in
    record {
      gathered = gathered_none m life r table (record { clients = c.new-clients.result; lines = c.new-lines.result; impossible = false }) (c.works_begin.ensures m.encoding life) none c.new-lines.ensures.entries c.new-lines.ensures.reads refl;
      rest = subst (λ (cs : List Client). AreResultsFrom (ClientServedOf m life r table life.clients) (length cs) c.args.works.items) (sym none) c.requires;
      count = omega (arith, ap length none, c.args.works.ok.0);
    }

pub loop-works-preserved : goal.loop-works-preserved
loop-works-preserved g c =
    let m = g.O.TypedObject.meaning c.args.object.now in
    let life = c.args.life.now in
    let r = c.args.pool.now.service in
    let table = c.args.pool.now.line.table.shared.table_id in
    let all = c.loop-works.all in
    let works : List (Result (ServedClient g.row.O-Reply.Denot) AllocError) = c.loop-works.works.items in
    let left : List (Result (ServedClient g.row.O-Reply.Denot) AllocError) = c.first_of.new.items.items in
    let n = length all.clients.items in
    let served = c.in_ok-served.served in
    let whole : works ≡ Ok served ∷ left = c.first_of.ensures ∙ ap (λ (w : Result (ServedClient g.row.O-Reply.Denot) AllocError). w ∷ left) c.in_ok-served.was in
    let rest = first_result (ClientServedOf m life r table life.clients) n works left c.first_of.result served c.first_of.ensures c.in_ok-served.was c.loop-works.invariant.rest in
    let more = c.in_ok-all.ensures in
    let longer : length c.in_ok-all.all.clients.items ≡ n + 1 = ap length more.client ∙ length-append all.clients.items (served.client ∷ []) in
    record {
      gathered = gathered_more m life r table all c.in_ok-all.all served (c.works_go_on.ensures m.encoding life) c.loop-works.invariant.gathered more rest.0;
      rest = rw longer rest.1;
      count = omega (arith, longer, ap length whole, c.loop-works.invariant.count);
    }
