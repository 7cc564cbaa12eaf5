use Rattle.strong_trylock.proofs.Backing.{downgraded_alone, downgraded_ended}
use Rattle.strong_trylock.proofs.try_lock.release_downgraded.Goals as goal

pub returns-clause-step : goal.returns-clause-step
returns-clause-step g c =
    let made = c.in_ok-back_off.ensures.made in
    record { made = record { found = c.in_ok-back_off.field-0; made = made; rights = downgraded_ended c.args.shared.now g.O.Object.step g.O.Object.only_reads c.args.held.replica c.in_ok-back_off.field-0 c.args.seat.now c.back_off.new.seat made c.requires.held.token.holds }; halted = tt }

pub returns-clause-rest : goal.returns-clause-rest
returns-clause-rest g c =
    downgraded_alone c.args.shared.now g.O.Object.step g.O.Object.only_reads c.args.held.replica c.in_ok-back_off.field-0 c.args.seat.now c.back_off.new.seat c.in_ok-back_off.ensures.made c.requires.held.token.holds
