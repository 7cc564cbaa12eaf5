use Rattle.std.proofs.Common.{false, true, replicate, set, sym, ◌∙◌}
use Rattle.caller_cache.proofs.Refused.{summary_refused}
use Rattle.caller_cache.proofs.summary.CachedLocal.refuse.Goals as goal

pub returns-then-all : goal.returns-then-all
returns-then-all c = λ l found is.
    (λ i. record c.args.self.now { refused = replicate 16 false; steps = c.saturating_add-self.ensures i; met = c.saturating_add-self-then-all.ensures i })
    ∙ summary_refused c.args.callers.number c.args.r found l c.args.self.now true c.args.callers.few c.requires is (sym c.all_refused-all.ensures ∙ c.if-all.true)

pub returns-else-all : goal.returns-else-all
returns-else-all c = λ l found is.
    (λ i. record c.args.self.now { refused = set c.args.self.now.refused c.args.r true; steps = c.saturating_add-self.ensures i })
    ∙ summary_refused c.args.callers.number c.args.r found l c.args.self.now false c.args.callers.few c.requires is (sym c.all_refused-all.ensures ∙ c.if-all.false)
