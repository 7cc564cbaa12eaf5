use Rattle.std.proofs.Common.{◌≡◌, ◌<◌, refl, sym, length, ◌∙◌, arith, rules}
use Rattle.std.proofs.lemmas.List.{length-set}
use Rattle.redo_set.proofs.GapCounts.{lines_none, more_gaps, next_last, next_more}
use Rattle.redo_set.proofs.GapEnds.{begins_next, ends_more, ends_none}
use Rattle.redo_set.proofs.gaps.gap_ends.Goals as goal

pub loop-k-init : goal.loop-k-init
loop-k-init c = record {
  ends = ends_none c.args.set.now c.args.lines _;
  at = refl;
  count = lines_none c.args.set.now;
  before = omega arith;
  long = search rules;
}

pub loop-k-preserved : goal.loop-k-preserved
loop-k-preserved c =
    let was = c.loop-k.invariant in
    let k = c.loop-k.k in
    let small : k < 16 = omega arith in
    let below : k < length c.loop-k.ends = omega (arith, small, was.long) in
    let next = c.next_line-at in
    let within = next.ensures.within in
    let apart = c.if-at-lines.false in
    let more = next_more c.args.set.now c.args.lines c.loop-k.at next.result next.ensures apart in
    record {
      ends = ends_more c.args.set.now c.args.lines c.loop-k.ends k next.result c.loop-k.at below small was.at within next.ensures.gap was.ends;
      at = begins_next c.loop-k.ends k next.result below;
      count = (let count = was.count in omega (arith, count, more));
      before = omega (arith, within, apart);
      long = length-set c.loop-k.ends k next.result ∙ was.long;
    }

pub returns-then-at-lines-clause-ends : goal.returns-then-at-lines-clause-ends
returns-then-at-lines-clause-ends c =
    let was = c.loop-k.invariant in
    let k = c.loop-k.k in
    let small : k < 16 = omega arith in
    let below : k < length c.loop-k.ends = omega (arith, small, was.long) in
    let next = c.next_line-at in
    let last = next_last c.args.set.now c.args.lines c.loop-k.at next.result next.ensures c.if-at-lines.true was.before in
    let count = was.count in
    record {
      are = ends_more c.args.set.now c.args.lines c.loop-k.ends k next.result c.loop-k.at below small was.at next.ensures.within next.ensures.gap was.ends;
      last = sym (begins_next c.loop-k.ends k next.result below) ∙ c.if-at-lines.true;
      count = omega (arith, count, last);
    }

pub returns-clause-many : goal.returns-clause-many
returns-clause-many c =
    let was = c.loop-k.invariant in
    let all : 16 ≡ c.loop-k.k = omega (arith, c.loop-k-test.false) in
    more_gaps c.args.set.now c.args.lines c.loop-k.at 16 (all ∙ was.count) was.before
