use Rattle.caller_cache.proofs.SummaryLaws.{summary_won}
use Rattle.caller_cache.proofs.summary.CachedLocal.win.Goals as goal

pub returns : goal.returns
returns c = rw c.saturating_add-self.ensures (λ l is same. summary_won l c.args.self.now c.args.j is same)
