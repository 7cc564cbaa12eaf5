-- What is known of a JSON value that was read past and not built.
use Rattle.std.specs.Prelude.{◌≡◌, ◌+◌, ◌≤◌, ℕ, true, false, List, [], ◌∷◌, length, None, Some, String, string_bytes}
use Rattle.std.specs.declared.alloc.Global.{Global}
use Rattle.json.specs.Token.{Token}
use Rattle.json.specs.Json.{value, items, members}
use Rattle.serde_json.specs.Data.{Num, Data, number, array, object, Items, Members, no_members, member}
use Rattle.serde_json.specs.Find.{is_float}
use Rattle.serde_json.specs.Read.{number_of, of_json, of_items, of_members, converted}
use Rattle.serde_json.specs.Written.{has_float, members_have_float, compact_text}
use Rattle.doc_text.specs.declared.measure.Measure.{Measure}
use Rattle.doc_text.specs.declared.measured_members.MeasuredMembers.{MeasuredMembers}

-- whether some number of the value is no 64-bit integer, and a number of bytes that its compact text has at least
pub record IsMeasure (m : Measure) (d : Data) : Type 0 where
  pub float : m.has_float ≡ has_float d
  pub least : m.least ≤ length (compact_text d)

-- the text is a number that is an integer of 64 bits
abbrev pub IsInteger : List ℕ → Type 0
IsInteger text = (n : Num) × (number_of text ≡ Some n) × (is_float n ≡ false)

-- the text is a number with this measure
abbrev pub ReadsNumber : List ℕ → Measure → Type 0
ReadsNumber text m = (n : Num) × (number_of text ≡ Some n) × IsMeasure m (number n)

-- the text is no number
abbrev pub IsNoNumber : List ℕ → Type 0
IsNoNumber text = number_of text ≡ None

-- at the front of these tokens stands a value with this measure, and the rest is left
abbrev pub ReadsValue : ℕ → List Token → List Token → Measure → Type 0
ReadsValue depth tokens rest m = (d : Data) × (converted of_json (value depth tokens) ≡ Some (d, rest)) × IsMeasure m d

-- no value stands at the front of these tokens
abbrev pub HasNoValue : ℕ → List Token → Type 0
HasNoValue depth tokens = converted of_json (value depth tokens) ≡ None

-- at the front of these tokens stand the items of an array, to its end, with this measure, and the rest is left
abbrev pub ReadsItems : ℕ → List Token → List Token → Measure → Type 0
ReadsItems depth tokens rest m = (ds : Items) × (converted of_items (items (value depth) (length tokens) tokens) ≡ Some (ds, rest)) × IsMeasure m (array ds)

-- the items of an array, to its end, do not stand at the front of these tokens
abbrev pub HasNoItems : ℕ → List Token → Type 0
HasNoItems depth tokens = converted of_items (items (value depth) (length tokens) tokens) ≡ None

-- at the front of these tokens stand the members of an object, to its end, with this measure, and the rest is left
abbrev pub ReadsMembers : ℕ → List Token → List Token → Measure → Type 0
ReadsMembers depth tokens rest m =
    (ms : Members) × (converted (λ found. of_members found no_members) (members (value depth) (length tokens) tokens) ≡ Some (ms, rest)) × IsMeasure m (object ms)

-- at the front of these tokens stand no members of an object
abbrev pub HasNoMembers : ℕ → List Token → Type 0
HasNoMembers depth tokens = converted (λ found. of_members found no_members) (members (value depth) (length tokens) tokens) ≡ None

-- how many keys an object has
abbrev pub member_count : Members → ℕ
member_count no_members = 0
member_count (member key d ms) = 1 + member_count ms

-- each entry has the key of the member in its place, and the measure of its value
abbrev pub AreMeasured : List (String Global × Measure) → Members → Type 0
AreMeasured [] no_members = Unit {0}
AreMeasured (e ∷ es) (member key d ms) = (string_bytes e.0 ≡ key) × IsMeasure e.1 d × AreMeasured es ms
AreMeasured _ _ = ⊥

-- what was noted of the members of an object
pub record Describes (found : MeasuredMembers) (ms : Members) : Type 0 where
  pub few : found.are_many ≡ false → AreMeasured found.members.entries ms
  pub many : found.are_many ≡ true → (256 ≤ member_count ms) × (members_have_float ms ≡ false)
