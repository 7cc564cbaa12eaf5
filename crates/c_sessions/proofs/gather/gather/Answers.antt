use Rattle.std.proofs.Common.{ap, arith}
use Rattle.c_sessions.specs.declared.rule.Knows.{Knows}
use Rattle.c_sessions.proofs.Endings.{has_more}
use Rattle.c_sessions.proofs.gather.gather.Goals as goal

-- the pass is of the queue and knows the service, as `take` needs
pub take-requires : goal.take-requires
take-requires g c =
    let has = c.loop-pass.invariant.taken c.requires.taken.0 c.requires.taken.1 c.requires.taken.2 in
    (has.of, c.requires.taken.0, ap (λ (v : Knows _). v.home) has.is)

-- a caller more that was taken out is gathered, and the room for all stays
pub loop-pass-preserved : goal.loop-pass-preserved
loop-pass-preserved g c = record {
  taken = λ r given was. has_more r given c.args.handover.now c.loop-pass.pass c.take.new.pass c.loop-pass.share c.loop-pass.gathered.items c.push_reserved.new.self.items c.in-Some.field-0 c.in-Some-handed.handed c.in-Some-handed.is
      (c.loop-pass.invariant.taken r given was) c.in-Some.ensures.pass c.in-Some.ensures.taken.0 c.in-Some.ensures.taken.1 c.push_reserved.ensures.items;
  room = (let room = c.loop-pass.invariant.room in let same = c.push_reserved.ensures.capacity in omega (arith, room, same));
}
