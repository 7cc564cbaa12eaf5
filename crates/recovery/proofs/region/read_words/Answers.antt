use Rattle.std.proofs.Common.{◌-◌, ◌<◌, ◌≤◌, ◌⊎◌, get_or, inl, inr, ap, sym, subst, arith}
use Rattle.recovery.proofs.Pairs.{HasRead, read_all, read_none, read_put, read_skip}
use Rattle.recovery.proofs.region.read_words.Goals as goal
use Rattle.recovery.proofs.region.read_words.Goals.{then-at-from+then-at-from-2, else-at-from, else-at-from-via-then-at-from+else-at-from-2, else-at-from-via-else-at-from}

pub loop-at-init : goal.loop-at-init
loop-at-init c = subst (HasRead c.args.pairs.now c.args.from c.args.count 0) (sym (c.in_ok-words.ensures.items_if_clones_equal (λ y e. e))) (read_none c.args.pairs.now c.args.from c.args.count)

pub index_mut-requires : goal.index_mut-requires
index_mut-requires c = omega (arith, c.loop-at.invariant.long, c.if-at-from-2.true)

pub loop-at-preserved : goal.loop-at-preserved
loop-at-preserved c =
    let within = c.loop-at-test.true in
    let has = c.loop-at.invariant in
    let pair = get_or c.args.pairs.now c.loop-at.at-index (0, 0) in
    elim c.if-at-from.branch [
      | then-at-from+then-at-from-2 w ↦ read_put c.args.pairs.now c.args.from c.args.count c.loop-at.at-index c.loop-at.words.items c.requires within has c.if-at-from.words.items w.if-at-from.true w.if-at-from-2.true (ap (λ v. v.items) w.words-is)
      | else-at-from w ↦ (
          let outside : (pair.0 < c.args.from) ⊎ (c.args.count ≤ pair.0 - c.args.from) = elim w.else-at-from.branch [
            | else-at-from-via-then-at-from+else-at-from-2 v ↦ inr v.if-at-from-2.false
            | else-at-from-via-else-at-from v ↦ inl v.if-at-from.false
          ] in
          read_skip c.args.pairs.now c.args.from c.args.count c.loop-at.at-index c.loop-at.words.items c.requires within has c.if-at-from.words.items outside (ap (λ v. v.items) w.words-is))
    ]

pub returns : goal.returns
returns c = read_all c.args.pairs.now c.args.from c.args.count c.loop-at.at-index c.loop-at.words.items c.loop-at-test.false c.loop-at.invariant
