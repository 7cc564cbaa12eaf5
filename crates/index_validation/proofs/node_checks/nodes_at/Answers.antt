use Rattle.std.proofs.Common.{◌≡◌, ◌^◌, ◌<◌, ◌≤◌, ℕ, length, take, sym, ap, subst, arith}
use Rattle.avl_words.specs.Lines.{word_of}
use Rattle.index_validation.specs.Order.{to_come}
use Rattle.index_validation.proofs.Orders.{tree_of, shape_count, some_noted}
use Rattle.index_validation.specs.Lawful.{HasPair}
use Rattle.index_validation.proofs.NodeChecks.{FoundSoFar, found_none, found_more, no_nodes_next}
use Rattle.index_validation.proofs.PairChecks.{key_short}
use Rattle.index_validation.proofs.node_checks.nodes_at.Goals as goal

fewer : (n m : ℕ) → n < m → m ≤ 2 ^ 32 → n < 2 ^ 32
fewer n m l few = omega arith

pub of-walk-requires : goal.of-walk-requires
of-walk-requires c =
    let ws = c.args.words.now in
    tree_of ws (word_of ws 0 1) (word_of ws 0 5) c.requires.shape (fewer (word_of ws 0 5) _ c.requires.few c.requires.sized.few)

pub loop-init : goal.loop-init
loop-init c =
    let ws = c.args.words.now in
    let walk = c.of-walk in
    let count = shape_count ws (word_of ws 0 1) (word_of ws 0 5) c.requires.shape (fewer (word_of ws 0 5) _ c.requires.few c.requires.sized.few) in
    let all = ap length walk.ensures.all in
    record {
      found = found_none ws (to_come ws walk.result.nodes walk.result.depth) c.args.marks.now walk.ensures.all;
      noted = walk.ensures.noted;
      left = omega (arith, count, all);
      short = omega arith;
    }

pub next_node-node-requires-clause-some : goal.next_node-node-requires-clause-some
next_node-node-requires-clause-some c =
    let l = c.loop in
    some_noted c.args.words.now l.walk.nodes l.walk.depth (let left = l.invariant.left in omega (arith, left, c.loop-test.true))

pub returns-then-not-pair_at : goal.returns-then-not-pair_at
returns-then-not-pair_at c =
    let ws = c.args.words.now in
    let l = c.loop in
    let last = take l.last_len l.last in
    let next = c.next_node-node in
    let more = to_come ws next.new.self.nodes next.new.self.depth in
    no_nodes_next ws more next.result last c.args.marks.now l.marks (subst (λ u. FoundSoFar ws u last c.args.marks.now l.marks) next.ensures.next l.invariant.found) c.if-not-pair_at.ensures

pub loop-preserved : goal.loop-preserved
loop-preserved c =
    let ws = c.args.words.now in
    let l = c.loop in
    let last = take l.last_len l.last in
    let next = c.next_node-node in
    let node = next.result in
    let more = to_come ws next.new.self.nodes next.new.self.depth in
    let found = subst (λ u. FoundSoFar ws u last c.args.marks.now l.marks) next.ensures.next l.invariant.found in
    let long : c.word_at-last_len.result ≡ word_of ws node 4 = c.word_at-last_len.ensures in
    let pair : HasPair ws node last l.marks c.pair_at.new.marks (take c.word_at-last_len.result c.pair_at.new.key) =
    subst (λ n. HasPair ws node last l.marks c.pair_at.new.marks (take n c.pair_at.new.key)) (sym long) c.if-not-pair_at.ensures in
    let some = ap length next.ensures.next in
    let left = l.invariant.left in
    record {
      found = found_more ws more node last (take c.word_at-last_len.result c.pair_at.new.key) c.args.marks.now l.marks c.pair_at.new.marks found pair;
      noted = next.ensures.noted;
      left = omega (arith, some, left);
      short = (let short = key_short ws node last l.marks c.pair_at.new.marks _ pair in omega (arith, long, short));
    }
