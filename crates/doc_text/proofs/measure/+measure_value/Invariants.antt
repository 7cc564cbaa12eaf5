use Rattle.std.proofs.Common.{◌≡◌, ℕ, ◌+◌, ◌*◌, ◌≤◌, ◌||◌, length}
use Rattle.json.specs.Json.{items, members, value, parse_map}
use Rattle.serde_json.specs.Data.{Items, Members, no_members}
use Rattle.serde_json.specs.Read.{of_items, of_members, converted}
use Rattle.serde_json.specs.Written.{items_have_float}
use Rattle.doc_text.specs.Measure.{Describes}
use Rattle.doc_text.proofs.Measures.{items_weight}
use Rattle.doc_text.proofs.measure.+measure_value.Given as goal

abbrev pub decreases-measure_value : goal.decreases-measure_value
decreases-measure_value l = 2 * l.depth

abbrev pub decreases-measure_items : goal.decreases-measure_items
decreases-measure_items l = 2 * l.depth + 1

abbrev pub decreases-measure_members : goal.decreases-measure_members
decreases-measure_members l = 2 * l.depth + 1

-- the items read so far stand before those that are left
abbrev pub invariant-measure_items-items : goal.invariant-measure_items-items
invariant-measure_items-items l =
    (n : ℕ) × (before : Items → Items) × (length l.reader ≤ n)
    × (converted of_items (items (value l.depth) (length l.initial.reader) l.initial.reader) ≡ parse_map before (converted of_items (items (value l.depth) n l.reader)))
    × ((rest : Items) → items_have_float (before rest) ≡ (l.has_float || items_have_float rest))
    × ((rest : Items) → l.least + items_weight rest ≤ 1 + items_weight (before rest))
    × (length l.reader ≤ length l.initial.reader)

abbrev pub decreases-measure_items-items : goal.decreases-measure_items-items
decreases-measure_items-items l = length l.reader

-- what is kept of the members is the measure of those read so far
abbrev pub invariant-measure_members-members : goal.invariant-measure_members-members
invariant-measure_members-members l =
    (n : ℕ) × (ms : Members) × (length l.reader ≤ n)
    × (converted (λ x. of_members x no_members) (members (value l.depth) (length l.initial.reader) l.initial.reader) ≡ converted (λ x. of_members x ms) (members (value l.depth) n l.reader))
    × Describes l.found ms
    × (length l.reader ≤ length l.initial.reader)

abbrev pub decreases-measure_members-members : goal.decreases-measure_members-members
decreases-measure_members-members l = length l.reader
