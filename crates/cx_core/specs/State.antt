-- What stays as it is while an instance of the construction runs, and the state that its callers' steps change.
use Rattle.std.specs.Prelude.{◌≡◌, ◌+◌, ◌-◌, ◌*◌, ◌^◌, ◌<◌, ◌≤◌, min, length, ℕ, zero, suc, Bool, false, List, [], ◌∷◌, ◌++◌, map, replicate, slice_get, Some, None}
use Rattle.std.specs.List.{range_with_len}
use Rattle.cx_base.specs.Codes.{root_code_of}
use Rattle.cx_core.specs.declared.entry.Base.{Base}
use Rattle.cx_core.specs.declared.entry.Entry.{Entry}
use Rattle.cx_core.specs.declared.local.Cell.{Cell}
use Rattle.cx_core.specs.declared.local.Linked.{Linked}
use Rattle.cx_core.specs.declared.local.Local.{Local}
use Rattle.cx_core.specs.declared.local.Protection.TheVariants.{Unprotected}
use Rattle.cx_core.specs.Layout.{max_word, word_count}

-- what is fixed: how many callers there are, the base, and the object's meaning
pub record Instance : Type 0 where
  pub callers : ℕ
  pub base : Base
  -- the image after an operation, and the reply
  pub step : List ℕ → List ℕ → List ℕ × List ℕ
  -- whether an operation only reads
  pub reads : List ℕ → Bool

-- the shared words, and the local state of each caller
pub record State : Type 0 where
  pub words : List ℕ
  pub locals : List Local

-- what a step meets beside the local state of its caller: the history so far, and the shared words
pub record Scene : Type 0 where
  pub history : List Entry
  pub words : List ℕ

-- P holds of the instance with this number of callers and this base, and of each scene with these words, whatever the object means and whatever the history
abbrev pub EachScene : ℕ → Base → List ℕ → (Instance → Scene → Type 0) → Type 0
EachScene callers base words P =
    (step : List ℕ → List ℕ → List ℕ × List ℕ) (reads : List ℕ → Bool) (history : List Entry) →
    P (record { callers = callers; base = base; step = step; reads = reads }) (record { history = history; words = words })

-- what a core holds
pub record Core : Type 0 where
  pub callers : ℕ
  pub lines : ℕ
  pub base : Base
  pub state : State

-- the instance of a core, for an object that means this
abbrev pub instance_of : Core → (List ℕ → List ℕ → List ℕ × List ℕ) → (List ℕ → Bool) → Instance
instance_of core step reads = record { callers = core.callers; base = core.base; step = step; reads = reads }

-- P holds of each caller and its local state
abbrev pub EachLocal : List Local → (ℕ → Local → Type 0) → Type 0
EachLocal locals P = (caller : ℕ) (local : Local) → slice_get locals caller ≡ Some local → P caller local

-- each own entry is of a caller that there may be, and has a ticket below 2^40
abbrev pub HasEntries : List Local → Type 0
HasEntries locals = EachLocal locals (λ _ l. (i : ℕ) (x : Linked) → slice_get l.own i ≡ Some x → (x.entry.caller < 8) × (x.ticket < 2 ^ 40))

-- what a core holds is as large as its table: 1 to 8 callers, each with its local state, all words, and
-- entries as they are linked
pub record IsWhole (core : Core) : Type 0 where
  pub some : 1 ≤ core.callers
  pub few : core.callers ≤ 8
  pub slots : 1168 ≤ length core.base.words
  pub long : length core.state.words ≡ word_count core.callers (length core.base.words)
  pub count : length core.state.locals ≡ core.callers
  pub numbers : EachLocal core.state.locals (λ caller l. l.number ≡ caller)
  pub entries : HasEntries core.state.locals

-- a count that stays at its type's end
abbrev pub one_more : ℕ → ℕ
one_more n = min (n + 1) max_word

-- a cell never written
abbrev pub blank_cell : Cell
blank_cell = record { words = replicate 145 0; ticket = None; set = replicate 513 0; offer = 0 }

-- the root code with which a service opens: its base's place, on replica 0
abbrev pub opening_code : ℕ → ℕ → ℕ
opening_code callers place = root_code_of callers place 0

-- the local state with which a caller opens, at the place of the base: no entry and no right, and the opening code, though CUR was not loaded
abbrev pub opening_local : ℕ → ℕ → ℕ → Local
opening_local callers place caller = record {
  number = caller;
  front = place;
  own = [];
  answered = [];
  seen_reads = [];
  cells = replicate 16 blank_cell;
  seen_slot = None;
  seen_offer = None;
  seen_free = place;
  seen_low = place;
  seen_need = None;
  seen_cur = opening_code callers place;
  fresh = false;
  refused = [];
  seen_lock = None;
  exclusive = None;
  shared = None;
  passer = None;
  downgraded = None;
  won = None;
  raised = opening_code callers place;
  floor = place;
  protection = Unprotected;
  scan = None;
  steps = 0;
  limit = max_word;
  met = 0;
  scans = 0;
}

-- the opening local states of all callers
abbrev pub opening_locals : ℕ → ℕ → List Local
opening_locals callers place = map (opening_local callers place) (range_with_len 0 callers)

-- the given number of copies of a list, one after another
abbrev pub copies : ℕ → List ℕ → List ℕ
copies zero xs = []
copies (suc n) xs = xs ++ copies n xs

-- CUR and DUR are the opening code, LOW and FREE the base's place. No caller is protected. Replica 0 is pinned, no
-- other lock is held. Nothing was linked, written or offered, and every replica has the base's words.
unfoldable pub opening_words : ℕ → Base → List ℕ
opening_words callers base =
    (opening_code callers base.place ∷ opening_code callers base.place ∷ base.place ∷ base.place ∷ [])
    ++ replicate callers max_word
    ++ (1 ∷ [])
    ++ replicate (2 * callers - 1) 0
    ++ replicate (18752 * callers) 0
    ++ copies (4 * callers) base.words

-- the state with which a service opens from a base
abbrev pub opening_state : ℕ → Base → State
opening_state callers base = record { words = opening_words callers base; locals = opening_locals callers base.place }
