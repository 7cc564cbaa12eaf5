use Rattle.caller_cache.proofs.SetNumbers.{summary_set}
use Rattle.caller_cache.proofs.following.follow.Goals as goal

pub returns-in-WriteCell-clause-numbers : goal.returns-in-WriteCell-clause-numbers
returns-in-WriteCell-clause-numbers c = rw c.in-WriteCell.is (λ instance k same place. c.write_cell-in-WriteCell.ensures c.args.callers.number c.in-WriteCell.i c.in-WriteCell.v c.args.found instance k same)

pub returns-in-BackOff-clause-numbers : goal.returns-in-BackOff-clause-numbers
returns-in-BackOff-clause-numbers c = rw c.in-BackOff.is (λ instance k same place. c.back_off.ensures c.args.callers.number c.args.found instance k same)

pub returns-in-WriteSet-clause-numbers : goal.returns-in-WriteSet-clause-numbers
returns-in-WriteSet-clause-numbers c = rw c.in-WriteSet.is (rw c.pass-in-WriteSet.ensures (λ instance k same place guard is. summary_set instance k.local c.args.summary.now c.in-WriteSet.j c.in-WriteSet.i c.in-WriteSet.v c.args.found is))

pub returns-in-Offer-clause-numbers : goal.returns-in-Offer-clause-numbers
returns-in-Offer-clause-numbers c = rw c.in-Offer.is (λ instance k same place. c.offer.ensures c.args.callers.number c.args.found instance k same)
