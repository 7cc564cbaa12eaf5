use Rattle.std.proofs.Common.{arith}
use Rattle.core_reach.proofs.Updating.{reaches_every}
use Rattle.core_reach.proofs.updates.every_update_can_be_answered.Goals as goal

-- the law's clause: in each state that a run from the opening reaches, some run answers an update, where there is a further ticket
pub returns : goal.returns
returns g c = λ callers events s caller l op one few run at ticket op_words. (
    let base = c.requires in
    reaches_every _ events s caller l op one few base.place_within base.at_place (omega (arith, base.size.long)) base.numbers run at ticket op_words)
