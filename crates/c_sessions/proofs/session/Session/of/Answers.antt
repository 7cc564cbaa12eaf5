use Rattle.std.proofs.Common.{refl}
use Rattle.std.specs.Arc.{arc_value}
use Rattle.c_sessions.proofs.Places.{none_seen}
use Rattle.c_sessions.proofs.session.Session.of.Goals as goal

pub returns-clause-opened : goal.returns-clause-opened
returns-clause-opened g c =
    record { handed = c.args.handed; is = refl; of = c.requires.handed; seen = none_seen (arc_value c.args.service) c.args.handed; exit = c.requires.exit }
