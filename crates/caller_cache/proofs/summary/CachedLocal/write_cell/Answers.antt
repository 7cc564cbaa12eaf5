use Rattle.caller_cache.proofs.SummaryLaws.{summary_written}
use Rattle.caller_cache.proofs.summary.CachedLocal.write_cell.Goals as goal

pub returns : goal.returns
returns c = rw c.saturating_add-self.ensures (λ callers i v found instance k same guard is. summary_written instance k.local c.args.self.now c.args.j i v found is)
