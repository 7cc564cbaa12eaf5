use Rattle.std.proofs.Common.{subst, sym, arith}
use Rattle.caller_cache.proofs.Chaining.{Goes, goes_on, goes_to_the_end}
use Rattle.caller_cache.proofs.at_close.lead_on.Goals as goal

pub loop-next-preserved : goal.loop-next-preserved
loop-next-preserved c =
    let taken = c.in-Some.ensures in record {
      room = omega (arith, c.loop-next.invariant.room, c.push_reserved-in-Some.ensures.len, c.push_reserved-in-Some.ensures.capacity, taken.fewer, c.take_over.new.wins.ok.0, c.loop-next.wins.ok.0);
      so_far = λ above to way.
          subst (Goes c.args.wins.items c.take_over.new.wins.items c.args.from above to c.in-Some.next) (sym c.push_reserved-in-Some.ensures.items)
          (goes_on c.args.wins.items c.loop-next.wins.items c.take_over.new.wins.items c.args.from above to c.loop-next.code c.in-Some.next c.loop-next.codes.items way taken (c.loop-next.invariant.so_far above to way));
    }

pub returns : goal.returns
returns c = λ above to way.
    goes_to_the_end c.args.wins.items c.loop-next.wins.items c.args.from above to c.loop-next.code c.loop-next.codes.items (c.loop-next.invariant.so_far above to way) c.in_default.ensures.1
