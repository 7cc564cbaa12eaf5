use Rattle.replica.proofs.Reading.{outcome_read}
use Rattle.replica.proofs.outcomes.outcome.Goals as goal

pub returns-clause-read : goal.returns-clause-read
returns-clause-read g c =
    outcome_read c.args.caller c.slot_start-slot.result c.in_ok-number.number c.load_reply.new.reply c.slot_start-slot.ensures c.in_ok-number.ensures.stands c.in_ok-load_reply.ensures.read
