use Rattle.std.proofs.Common.{ap, ◌∙◌}
use Rattle.caller_cache.specs.Wins.{wins_of}
use Rattle.trace_check.proofs.Walk.{chain_read}
use Rattle.trace_check.proofs.left.codes_of.Goals as goal

pub returns : goal.returns
returns g c =
    chain_read _ c.args.core.now.state c.requires c.in_ok-wins.wins.items c.dur.result c.lead_on.new.codes.items (c.in_ok-wins.ensures.wins ∙ ap wins_of c.locals.ensures.value) c.dur.ensures c.lead_on.ensures
