-- A run of a program over the words of an object.
use Rattle.std.specs.Prelude.{◌≡◌, ◌≤◌, ◌+◌, ◌||◌, nat_lt, nat_le, ℕ, zero, suc, Bool, List, Option, None, Some, slice_get, slice_index, slice_set, IsFalse, IsTrue, if◌then◌else◌}
use Rattle.cx_base.specs.Memory.{Becomes}
use Rattle.cx_base.specs.declared.memory.Memory.{Ghosts}
use Rattle.program_machine.specs.Machine.{Machine, following_place, wrote, part, with_part, wish}
use Rattle.program_code.specs.declared.instruction.Instruction as instruction_type
use Rattle.program_machine.specs.declared.machine.RunEnd.{RunEnd}
use Rattle.program_machine.specs.declared.machine.RunEnd.TheVariants.{Fault}
use Rattle.program_machine.specs.declared.machine.RunFault as fault_type
use Rattle.program_machine.specs.declared.machine.RunFault.TheVariants as fault_kind
use Rattle.program_machine.specs.declared.machine.Wish as wish_type
use Rattle.program_machine.specs.declared.machine.Wish.TheVariants.{Goes, Ends, Loads, Stores}
use Rattle.program_object.specs.declared.undo.Undo as undo_type

-- the stores of a run so far: how many, the place of each, and the word that it replaced
abbrev pub Undo : Type 0
Undo = undo_type.Undo

-- the end of a run by a fault of this kind at the machine's instruction, with the address that it was to access
abbrev pub end_by_fault : Machine → fault_type.RunFault → ℕ → Option RunEnd
end_by_fault m kind address = Some (Fault kind m.at address)

-- a store more was made
abbrev pub store_noted : Undo → ℕ → ℕ → Undo
store_noted u place word = record { count = u.count + 1; places = slice_set u.places u.count place; words = slice_set u.words u.count word }

-- one word put back, where there is such a place
abbrev pub put : ℕ → List ℕ → ℕ → ℕ → List ℕ
put size now at v = if nat_lt at size then slice_set now at v else now

-- the first `n` stores put back, the last first
abbrev pub undone : ℕ → ℕ → List ℕ → List ℕ → List ℕ → List ℕ
undone size zero places words now = now
undone size (suc n) places words now = undone size n places words (put size now (slice_index places n) (slice_index words n))

-- what a run has: its machine, how many stores it made, and the words of the object
pub record RunState : Type 0 where
  pub machine : Machine
  pub stores : ℕ
  pub image : List ℕ

-- no place of the object that a program sees: its first line, and what is behind it
abbrev pub is_outside : ℕ → ℕ → Bool
is_outside place words = nat_lt place 8 || nat_le words place

-- after a wish: whether the run ends, and what it then has
abbrev pub granted : Bool → ℕ → wish_type.Wish → RunState → Option RunEnd × RunState
granted writes words Goes s = (None, s)
granted writes words (Ends end) s = (Some end, s)
granted writes words (Loads place u address to) s =
    if is_outside place words then (end_by_fault s.machine fault_kind.Address address, s)
    else (None, record { machine = wrote s.machine to (part u address (slice_index s.image place)); stores = s.stores; image = s.image })
granted writes words (Stores place u address value) s =
    if is_outside place words then (end_by_fault s.machine fault_kind.Address address, s)
    else (if writes then (if nat_le 256 s.stores then (end_by_fault s.machine fault_kind.Stores address, s)
    else (None, record { machine = record s.machine { at = following_place s.machine.at }; stores = s.stores + 1; image = slice_set s.image place (with_part u address (slice_index s.image place) value) }))
    else (end_by_fault s.machine fault_kind.ReadOnly address, s))

-- a wish was granted: what the run has then, and what undoing it leads to
pub record Granted (writes : Bool) (words : ℕ) (w : wish_type.Wish) (m : Machine) (u : Undo) (before : List ℕ) (next : Option RunEnd) (m' : Machine) (u' : Undo) (now : List ℕ) : Type 0 where
  pub does : granted writes words w (record { machine = m; stores = u.count; image = before }) ≡ (next, record { machine = m'; stores = u'.count; image = now })
  pub back : undone words u'.count u'.places u'.words now ≡ undone words u.count u.places u.words before
  pub still : IsFalse writes → now ≡ before

-- What a run over the words of a memory needs: there are as many as the program is told, they may be stored to where the run may store, and
-- each store can be noted.
pub record MayRun {Memory : Type 0} (mem : Ghosts Memory) (words : ℕ) (writes : Bool) (m : Memory) (undo : Undo) : Type 0 where
  pub size : mem.size m ≡ words
  pub writable : IsTrue writes → IsTrue (mem.writable m)
  pub few : undo.count ≤ 256

-- What a run leaves: all words as they were, where it may not store, and no more stores noted than there is room for.
pub record LeavesRun {Memory : Type 0} (mem : Ghosts Memory) (writes : Bool) (before after : Memory) (undo : Undo) : Type 0 where
  pub kept : IsFalse writes → Becomes (mem.stands before) (mem.stands after) ◌≡◌
  pub few : undo.count ≤ 256

-- what does not change in a run: the program, how many words the object has, the request, and whether stores are allowed
pub record Setting : Type 0 where
  pub code : List instruction_type.Instruction
  pub constants : List ℕ
  pub words : ℕ
  pub request : List ℕ
  pub writes : Bool

-- the setting of a run, by its parts
abbrev pub setting : List instruction_type.Instruction → List ℕ → ℕ → List ℕ → Bool → Setting
setting code constants words request writes = record { code = code; constants = constants; words = words; request = request; writes = writes }

-- after the machine did its part of an instruction, which left this wish: whether the run ends, and what it then has
abbrev pub wished : Setting → RunState → wish_type.Wish × Machine → Option RunEnd × RunState
wished p s w = granted p.writes p.words w.0 (record { machine = w.1; stores = s.stores; image = s.image })

-- after an instruction was looked up: a fault where there is none, and else what it does
abbrev pub fetched : Setting → RunState → Option instruction_type.Instruction → Option RunEnd × RunState
fetched p s None = (end_by_fault s.machine fault_kind.Place 0, s)
fetched p s (Some i) = wished p s (wish s.machine i p.request p.constants p.words)

-- ONE STEP: whether the run ends, and what it then has
abbrev pub step : Setting → RunState → Option RunEnd × RunState
step p s = fetched p s (slice_get p.code s.machine.at)

-- after one step: its end where it ended the run, and else what the rest of the run gives
abbrev pub go_on : (RunState → RunEnd × RunState) → Option RunEnd × RunState → RunEnd × RunState
go_on rest (None, s) = rest s
go_on rest (Some end, s) = (end, s)

-- A RUN, of at most this many instructions
abbrev pub run : ℕ → Setting → RunState → RunEnd × RunState
run zero p s = (Fault fault_kind.Fuel s.machine.at 0, s)
run (suc fuel) p s = go_on (run fuel p) (step p s)

-- what a run has: this machine, as many stores as are noted, and these words of the object
abbrev pub state : Machine → Undo → List ℕ → RunState
state m u image = record { machine = m; stores = u.count; image = image }

-- an instruction was done: what the run has then, and what undoing it leads to
pub record Stepped (p : Setting) (m : Machine) (u : Undo) (before : List ℕ) (next : Option RunEnd) (m' : Machine) (u' : Undo) (now : List ℕ) : Type 0 where
  pub does : step p (state m u before) ≡ (next, state m' u' now)
  pub back : undone p.words u'.count u'.places u'.words now ≡ undone p.words u.count u.places u.words before
  pub still : IsFalse p.writes → now ≡ before

-- a run was made to its end: its end, and what undoing its stores leads to
pub record RunsToEnd (p : Setting) (fuel : ℕ) (m : Machine) (u : Undo) (before : List ℕ) (end : RunEnd) (m' : Machine) (u' : Undo) (now : List ℕ) : Type 0 where
  pub does : run fuel p (state m u before) ≡ (end, state m' u' now)
  pub back : undone p.words u'.count u'.places u'.words now ≡ undone p.words u.count u.places u.words before
  pub still : IsFalse p.writes → now ≡ before

-- a run so far: what is left of it ends as the whole run does
pub record RunsOn (p : Setting) (fuel left : ℕ) (m : Machine) (u : Undo) (before : List ℕ) (m' : Machine) (u' : Undo) (now : List ℕ) : Type 0 where
  pub does : run fuel p (state m u before) ≡ run left p (state m' u' now)
  pub back : undone p.words u'.count u'.places u'.words now ≡ undone p.words u.count u.places u.words before
  pub still : IsFalse p.writes → now ≡ before
