use Rattle.std.proofs.Common.{length, sym, ap, subst, arith}
use Rattle.index_validation.specs.Order.{to_come}
use Rattle.index_validation.proofs.Orders.{some_noted}
use Rattle.index_validation.proofs.Listings.{ListedSoFar, list_begins, list_next, list_more, index_tree, index_count}
use Rattle.index_validation.proofs.pair_list.pairs_of.Goals as goal

pub of-walk-requires : goal.of-walk-requires
of-walk-requires c = index_tree c.args.words.now c.requires

pub loop-init : goal.loop-init
loop-init c =
    let ws = c.args.words.now in
    let walk = c.of-walk in
    let more = to_come ws walk.result.nodes walk.result.depth in
    let all = ap length walk.ensures.all in
    record {
      listed = subst (ListedSoFar ws more) (sym c.new-pairs.ensures.items) (list_begins ws more c.requires walk.ensures.all);
      noted = walk.ensures.noted;
      left = omega (arith, all, index_count ws c.requires);
    }

pub next_node-node-requires-clause-some : goal.next_node-node-requires-clause-some
next_node-node-requires-clause-some c =
    let l = c.loop in
    some_noted c.args.words.now l.walk.nodes l.walk.depth (let left = l.invariant.left in omega (arith, left, c.loop-test.true))

pub pair_of-requires-clause-key : goal.pair_of-requires-clause-key
pair_of-requires-clause-key c =
    let ws = c.args.words.now in
    let l = c.loop in
    let next = c.next_node-node in
    let more = to_come ws next.new.self.nodes next.new.self.depth in
    (list_next ws more next.result l.pairs.items (subst (λ u. ListedSoFar ws u l.pairs.items) next.ensures.next l.invariant.listed)).key

pub pair_of-requires-clause-document : goal.pair_of-requires-clause-document
pair_of-requires-clause-document c =
    let ws = c.args.words.now in
    let l = c.loop in
    let next = c.next_node-node in
    let more = to_come ws next.new.self.nodes next.new.self.depth in
    (list_next ws more next.result l.pairs.items (subst (λ u. ListedSoFar ws u l.pairs.items) next.ensures.next l.invariant.listed)).document

pub loop-preserved : goal.loop-preserved
loop-preserved c =
    let ws = c.args.words.now in
    let l = c.loop in
    let next = c.next_node-node in
    let more = to_come ws next.new.self.nodes next.new.self.depth in
    let listed = subst (λ u. ListedSoFar ws u l.pairs.items) next.ensures.next l.invariant.listed in
    let some = ap length next.ensures.next in
    let left = l.invariant.left in
    record {
      listed = subst (ListedSoFar ws more) (sym c.in_ok-push.ensures.items) (list_more ws more next.result l.pairs.items c.in_ok-pair_of.field-0 listed c.in_ok-pair_of.ensures);
      noted = next.ensures.noted;
      left = omega (arith, some, left);
    }
