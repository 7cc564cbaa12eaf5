use Rattle.std.proofs.Common.{rules}
use Rattle.cx_base.specs.Tally.{tally_reply}
use Rattle.cx_base.proofs.tally.reply_of.Goals as goal

pub returns : goal.returns
unfolding tally_reply
returns c = search rules
