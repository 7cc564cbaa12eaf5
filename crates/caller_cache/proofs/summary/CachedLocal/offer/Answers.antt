use Rattle.caller_cache.proofs.SetNumbers.{summary_offered}
use Rattle.caller_cache.proofs.summary.CachedLocal.offer.Goals as goal

pub returns : goal.returns
returns c = rw c.saturating_add-self.ensures (λ callers found instance k same guard is. summary_offered instance k.local c.args.self.now c.args.j _ found is c.offering_word.ensures)
