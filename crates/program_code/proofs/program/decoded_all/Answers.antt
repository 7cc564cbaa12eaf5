use Rattle.std.proofs.Common.{sym, arith}
use Rattle.std.proofs.lemmas.Grind.{common_steps}
use Rattle.program_code.proofs.Decoding.{one_more}
use Rattle.program_code.proofs.program.decoded_all.Goals as goal

-- with one instruction more, the instructions so far are those of one word more
pub loop-at-preserved : goal.loop-at-preserved
loop-at-preserved c =
    one_more c.args.words.now c.loop-at.at c.loop-at.code.items c.push.new.self.items c.in-Ok.instruction c.loop-at.invariant (sym c.in-Ok.ensures) (grind (arith, common_steps))
