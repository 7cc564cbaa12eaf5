use Rattle.std.proofs.Common.{◌*◌, ◌<◌}
use Rattle.std.proofs.lemmas.List.Elements.{All-replicate}
use Rattle.word_tests.proofs.lanes.repeated.Goals as goal

-- each of 26 equal addresses is of a word in the lines, as the one that is given is
pub returns : goal.returns
returns c = All-replicate (λ address. address < 8 * c.args.lines) 26 c.args.address c.requires
