use Rattle.std.proofs.Common.{rules}
use Rattle.index_validation.specs.Reading.{revised_in}
use Rattle.word_index.proofs.nodes.last_revision.Goals as goal

-- the last revision stands in the header
pub returns : goal.returns
unfolding revised_in
returns g c = search rules
