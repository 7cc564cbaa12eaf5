use Rattle.std.proofs.Common.{◌≡◌, [], rules}
use Rattle.doc_text.proofs.Measures.{measured-end}
use Rattle.doc_text.proofs.measured_members.measure_of.Goals as goal

pub returns : goal.returns
returns c = λ ms are.
    let left = c.loop-key.invariant ms are in
    let ended : c.loop-key.key-iterator ≡ [] = search rules in
    measured-end c.loop-key.has_float c.loop-key.least c.loop-key.key-iterator left.0 ms ended left.1 left.2 left.3
