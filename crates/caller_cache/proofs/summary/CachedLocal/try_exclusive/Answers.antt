use Rattle.std.proofs.Common.{cond, ap, sym, ◌∙◌, eq-eqb, ne_eqb}
use Rattle.cx_core.specs.LockEvents.{refused_by, taken}
use Rattle.table_invariant.specs.Seats.{unseen}
use Rattle.caller_cache.specs.Summaries.{summary_of}
use Rattle.caller_cache.proofs.summary.CachedLocal.try_exclusive.Goals as goal

pub returns-then-found-eq0 : goal.returns-then-found-eq0
returns-then-found-eq0 c = λ instance k same guard is.
    c.take.ensures instance k.local is
    ∙ ap (λ b. summary_of (cond b (taken instance unseen c.args.r k.local) (refused_by instance.callers c.args.r k.local c.args.found))) (sym (eq-eqb c.args.found 0 c.if-found-eq0.true))

pub returns-else-found-eq0 : goal.returns-else-found-eq0
returns-else-found-eq0 c = λ instance k same guard is.
    c.refuse.ensures k.local c.args.found is
    ∙ ap (λ n. summary_of (refused_by n c.args.r k.local c.args.found)) (sym same)
    ∙ ap (λ b. summary_of (cond b (taken instance unseen c.args.r k.local) (refused_by instance.callers c.args.r k.local c.args.found))) (sym (ne_eqb c.args.found 0 c.if-found-eq0.false))
