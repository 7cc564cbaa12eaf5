use Rattle.std.proofs.Common.{rules}
use Rattle.word_index.proofs.KeyPlaces.{walked}
use Rattle.word_index.proofs.walk.seek_place.Goals as goal

pub returns-clause-visits : goal.returns-clause-visits
returns-clause-visits g c = record { few = search rules; walked = walked _ (g.met.M.Memory.some_stands c.seek.new.mem) c.seek.ensures.finds.kept c.seek.ensures.visits }
