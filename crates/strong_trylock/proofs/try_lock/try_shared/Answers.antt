use Rattle.strong_trylock.proofs.Backing.{still_fits}
use Rattle.strong_trylock.proofs.try_lock.try_shared.Goals as goal

pub returns-in_ok-back_off-in-Err-clause-fits : goal.returns-in_ok-back_off-in-Err-clause-fits
returns-in_ok-back_off-in-Err-clause-fits g c =
    still_fits (g.O.Object.lawful c.args.shared.now.object) c.args.shared.now g.O.Object.step g.O.Object.only_reads _ _ c.try_shared.new.seat c.back_off.new.seat c.in_ok-back_off-in-Err.ensures.made c.in_ok-found.ensures.step.fits
