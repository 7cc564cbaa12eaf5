-- The part on fronts, where a caller sees a code, raises DUR, or gives its win up.
use Rattle.std.proofs.Common.{◌≡◌, ◌+◌, ◌*◌, ◌<◌, ◌≤◌, inl, inr, ℕ, max, List, [], ◌∷◌, length, set, slice_index, ap, sym, ◌∙◌, arith, Some, None}
use Rattle.std.proofs.lemmas.Bool.{cases_lt}
use Rattle.std.proofs.lemmas.List.{get_or-set_other, get_or-set_same}
use Rattle.std.proofs.lemmas.Nat.{le-div}
use Rattle.std.proofs.lemmas.Option.{none-some}
use Rattle.std.specs.List.{slice_get}
use Rattle.cx_base.specs.Codes.{root_code_of, root_place_of}
use Rattle.cx_core.specs.declared.entry.Entry.{Entry}
use Rattle.cx_core.specs.declared.local.Answer.{Answer}
use Rattle.cx_core.specs.declared.local.Local.{Local}
use Rattle.cx_core.specs.declared.local.SeenRead.{SeenRead}
use Rattle.cx_core.specs.declared.local.WonCode.{WonCode}
use Rattle.cx_core.specs.Layout.{dur_at, free_at, low_at}
use Rattle.cx_core.specs.Lawful.{Fronts, IsBehind}
use Rattle.cx_core.specs.RootEvents.{raised_floor}
use Rattle.cx_core.specs.State.{Instance}
use Rattle.cx_core.proofs.Locals.{EachLocal-set}
use Rattle.cx_core.proofs.RootCodes.{place_up}
use Rattle.core_queue.specs.Frames.{SameFront}

-- a code at a place above that of another is above it
pub code_above : (callers code place replica : ℕ) → 1 ≤ callers → root_place_of callers code < place → code < root_code_of callers place replica
code_above callers code place replica some up =
    elim (cases_lt code (root_code_of callers place replica)) [
      | inl below ↦ below
      | inr above ↦ (
          let low : place * (2 * callers) + replica ≤ code = above in
          let le = le-div place code (2 * callers) (omega arith) (omega arith) in
          absurd (omega arith))
    ]

-- a caller that sees a code not below the one before, at a place that is not past the end
pub behind_seen : (instance : Instance) (history : List Entry) (words : List ℕ) (l l' : Local) (code : ℕ) → 1 ≤ instance.callers → IsBehind instance history words l →
    l.seen_cur ≤ code → root_place_of instance.callers code ≤ instance.base.place + length history →
    l'.seen_cur ≡ code → l'.front ≡ max l.front (root_place_of instance.callers code) → ((won : WonCode) → l'.won ≡ Some won → won.code ≤ code) →
    SameFront l (record l' { front = l.front; seen_cur = l.seen_cur; won = l.won }) → IsBehind instance history words l'
behind_seen instance history words l l' code some old up within seen front won fields =
    let place = ap (root_place_of instance.callers) seen in
    record {
      from = omega (arith, old.from, front);
      to = omega (arith, old.to, front, within);
      floor = omega (arith, old.floor, front, fields.floor);
      cur = omega (arith, place, front);
      free = omega (arith, old.free, fields.seen_free);
      low = omega (arith, old.low, fields.seen_low);
      raised = omega (arith, old.raised, fields.raised);
      floor_dur = omega (arith, old.floor_dur, fields.floor);
      floor_cur = omega (arith, old.floor_cur, fields.floor, place, place_up instance.callers l.seen_cur code some up);
      won = λ w has. omega (arith, won w has, seen);
    }

-- a caller that gave its win up
pub behind_retired : (instance : Instance) (history : List Entry) (words : List ℕ) (l l' : Local) → IsBehind instance history words l → l'.won ≡ None →
    SameFront l (record l' { won = l.won }) → IsBehind instance history words l'
behind_retired instance history words l l' old none fields = record {
  from = rw fields.front old.from;
  to = rw fields.front old.to;
  floor = rw (fields.floor, fields.front) old.floor;
  cur = rw (fields.seen_cur, fields.front) old.cur;
  free = rw fields.seen_free old.free;
  low = rw fields.seen_low old.low;
  raised = rw fields.raised old.raised;
  floor_dur = rw fields.floor old.floor_dur;
  floor_cur = rw (fields.floor, fields.seen_cur) old.floor_cur;
  won = λ w has. absurd (none-some w (sym none ∙ has));
}

-- what a raise leaves of the words that fronts name
record IsRaised (callers : ℕ) (words words' : List ℕ) (code : ℕ) : Type 0 where
  dur : slice_index words' dur_at ≡ max (slice_index words dur_at) code
  low : slice_index words' low_at ≡ slice_index words low_at
  free : slice_index words' free_at ≡ slice_index words free_at
  place : root_place_of callers (slice_index words dur_at) ≤ root_place_of callers (slice_index words' dur_at)
  raised : root_place_of callers code ≤ root_place_of callers (slice_index words' dur_at)

is_raised : (callers : ℕ) (words : List ℕ) (code : ℕ) → 1 ≤ callers → 4 ≤ length words →
    IsRaised callers words (set words dur_at (max (slice_index words dur_at) code)) code
is_raised callers words code some long =
    let v = max (slice_index words dur_at) code in
    let dur : slice_index (set words dur_at v) dur_at ≡ v = get_or-set_same words dur_at v 0 (omega arith) in
    record {
      dur = dur;
      low = get_or-set_other words dur_at low_at v 0 (omega arith);
      free = get_or-set_other words dur_at free_at v 0 (omega arith);
      place = place_up callers _ _ some (omega (arith, dur));
      raised = place_up callers _ _ some (omega (arith, dur));
    }

-- a caller that is behind is so when another raises DUR
behind_dur : (instance : Instance) (history : List Entry) (words words' : List ℕ) (code : ℕ) (l : Local) → IsBehind instance history words l →
    IsRaised instance.callers words words' code → IsBehind instance history words' l
behind_dur instance history words words' code l old up = record {
  from = old.from;
  to = old.to;
  floor = old.floor;
  cur = old.cur;
  free = omega (arith, old.free, up.free);
  low = omega (arith, old.low, up.low);
  raised = omega (arith, old.raised, up.dur);
  floor_dur = omega (arith, old.floor_dur, up.place);
  floor_cur = old.floor_cur;
  won = old.won;
}

-- a floor rises at most to the place of what was answered
pub floor_within : (floor place : ℕ) (answers : List Answer) (reads : List SeenRead) → raised_floor floor place answers reads ≤ max floor place
floor_within floor place [] [] = omega arith
floor_within floor place (answer ∷ answers) reads = omega arith
floor_within floor place [] (read ∷ reads) = omega arith

-- a raise by a code not above the one last found in CUR, whatever it answers: the floor rises at most to the code's place
pub fronts_raised : (instance : Instance) (history : List Entry) (words : List ℕ) (locals : List Local) (caller code : ℕ) (l l' : Local) → 1 ≤ instance.callers → 4 ≤ length words →
    Fronts instance history words locals → slice_get locals caller ≡ Some l → code ≤ l.seen_cur →
    l'.raised ≡ max l.raised code → l'.floor ≤ max l.floor (root_place_of instance.callers code) → SameFront l (record l' { raised = l.raised; floor = l.floor }) →
    Fronts instance history (set words dur_at (max (slice_index words dur_at) code)) (set locals caller l')
fronts_raised instance history words locals caller code l l' some long fronts there most raised floor fields =
    let old = fronts.each caller l there in
    let words' = set words dur_at (max (slice_index words dur_at) code) in
    let up = is_raised instance.callers words code some long in
    let seen = place_up instance.callers code l.seen_cur some most in
    let place = ap (root_place_of instance.callers) fields.seen_cur in
    record {
      each = EachLocal-set locals caller l l' (λ _ x. IsBehind instance history words' x) there
          (λ d x here. behind_dur instance history words words' code x (fronts.each d x here) up)
          (record {
            from = omega (arith, old.from, fields.front);
            to = omega (arith, old.to, fields.front);
            floor = omega (arith, old.floor, old.cur, fields.front, floor, seen);
            cur = omega (arith, old.cur, fields.front, place);
            free = omega (arith, old.free, fields.seen_free, up.free);
            low = omega (arith, old.low, fields.seen_low, up.low);
            raised = omega (arith, old.raised, raised, up.dur);
            floor_dur = omega (arith, old.floor_dur, floor, up.place, up.raised);
            floor_cur = omega (arith, old.floor_cur, floor, place, seen);
            won = λ w has. omega (arith, old.won w (sym fields.won ∙ has), fields.seen_cur);
          });
    }
