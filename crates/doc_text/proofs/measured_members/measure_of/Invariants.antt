use Rattle.std.proofs.Common.{◌≡◌, ◌+◌, ◌≤◌, ◌||◌}
use Rattle.serde_json.specs.Data.{Members}
use Rattle.serde_json.specs.Written.{members_have_float}
use Rattle.doc_text.specs.Measure.{AreMeasured}
use Rattle.doc_text.proofs.Measures.{members_weight}
use Rattle.doc_text.proofs.measured_members.measure_of.Given as goal

-- what was added up, and what the entries that are left add
abbrev pub invariant-loop-key : goal.invariant-loop-key
invariant-loop-key l =
    (ms : Members) → AreMeasured l.members.entries ms
    → (rest : Members) × AreMeasured l.key-iterator rest × (members_have_float ms ≡ (l.has_float || members_have_float rest)) × (l.least + members_weight rest ≤ 1 + members_weight ms)
