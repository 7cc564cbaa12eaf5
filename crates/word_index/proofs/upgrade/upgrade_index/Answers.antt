use Rattle.std.proofs.Common.{◌≡◌, ◌+◌, ◌≤◌, ℕ, List, length, sym, ap, subst, arith}
use Rattle.avl_words.specs.Lines.{with_word}
use Rattle.index_validation.specs.Order.{to_come}
use Rattle.index_validation.proofs.Orders.{some_noted}
use Rattle.word_index.specs.Upgrading.{with_first_revisions, upgraded_in, IsMigrated}
use Rattle.word_index.proofs.Upgrades.{with_header, header_tree, header_count, upgrade_begins, upgrade_more, upgrade_ends, to_come_same, are_noted_same, is_migrated}
use Rattle.word_index.proofs.upgrade.upgrade_index.Goals as goal

pub of-walk-requires : goal.of-walk-requires
unfolding with_header
of-walk-requires c = header_tree c.args.words.now c.requires.0 c.requires.1

pub loop-init : goal.loop-init
unfolding with_header
loop-init c =
    let x = c.args.words.now in
    let walk = c.of-walk in
    let all = ap length walk.ensures.all in
    record {
      exact = upgrade_begins x (to_come (with_header x) walk.result.nodes walk.result.depth) c.requires walk.ensures.all;
      noted = walk.ensures.noted;
      left = omega (arith, all, header_count x c.requires.0 c.requires.1);
    }

pub next_node-node-requires-clause-some : goal.next_node-node-requires-clause-some
next_node-node-requires-clause-some c =
    let l = c.loop in
    some_noted l.words l.walk.nodes l.walk.depth (let left = l.invariant.left in omega (arith, left, c.loop-test.true))

pub loop-preserved : goal.loop-preserved
loop-preserved c =
    let l = c.loop in
    let next = c.next_node-node in
    let nodes = next.new.self.nodes in
    let depth = next.new.self.depth in
    let same = to_come_same l.words next.result nodes depth in
    let some = ap length next.ensures.next in
    let count = ap length same in
    let left = l.invariant.left in
    record {
      exact = subst (λ ns. with_first_revisions ns (with_word next.result 7 1 l.words) ≡ upgraded_in c.args.words.now) (sym same)
          (upgrade_more l.words (to_come l.words nodes depth) _ next.result (to_come l.words l.walk.nodes l.walk.depth) l.invariant.exact next.ensures.next);
      noted = are_noted_same l.words next.result nodes depth next.ensures.noted;
      left = omega (arith, some, count, left);
    }

-- no node is left
ended : (words last nodes : List ℕ) (depth counter end : ℕ) → with_first_revisions (to_come words nodes depth) words ≡ last → length (to_come words nodes depth) + counter ≡ end → end ≤ counter → words ≡ last
ended words last nodes depth counter end e left out = upgrade_ends words (to_come words nodes depth) last e (omega arith)

pub returns-clause-exact : goal.returns-clause-exact
returns-clause-exact c =
    let l = c.loop in
    ended l.words _ l.walk.nodes l.walk.depth l.counter _ l.invariant.exact l.invariant.left c.loop-test.false

pub returns-clause-migrated : goal.returns-clause-migrated
returns-clause-migrated c =
    let l = c.loop in
    let x = c.args.words.now in
    subst (IsMigrated x) (sym (ended l.words _ l.walk.nodes l.walk.depth l.counter _ l.invariant.exact l.invariant.left c.loop-test.false)) (is_migrated x)
