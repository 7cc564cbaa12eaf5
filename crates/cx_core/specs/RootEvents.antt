-- The kinds of step on the root: when a replica may be published, the durable root raised and a win retired, what the word
-- becomes, and what the caller learns and is answered.
use Rattle.std.specs.Prelude.{◌≡◌, ◌+◌, ◌-◌, ◌<◌, ◌≤◌, ◌⊎◌, ℕ, max, nat_lt, IsTrue, true, false, if◌then◌else◌, List, [], ◌∷◌, ◌++◌, length, take, slice_get, Option, Some, None, IsNone}
use Rattle.std.specs.List.{Contains}
use Rattle.cx_base.specs.Codes.{root_code_of, root_place_of, root_replica_of}
use Rattle.cx_base.specs.Memory.{Words}
use Rattle.cx_core.specs.declared.entry.Entry.{Entry}
use Rattle.cx_core.specs.declared.local.Answer.{Answer}
use Rattle.cx_core.specs.declared.local.HeldDowngraded.{HeldDowngraded}
use Rattle.cx_core.specs.declared.local.HeldShared.{HeldShared}
use Rattle.cx_core.specs.declared.local.Linked.{Linked}
use Rattle.cx_core.specs.declared.local.Local.{Local}
use Rattle.cx_core.specs.declared.local.SeenRead.{SeenRead}
use Rattle.cx_core.specs.declared.local.WonCode.{WonCode}
use Rattle.cx_core.specs.History.{image_after}
use Rattle.cx_core.specs.Region.{object_part}
use Rattle.cx_core.specs.State.{Instance, Scene, one_more}

-- the root code of a replica that was downgraded
abbrev pub code_in : ℕ → Option HeldDowngraded → ℕ
code_in callers None = 0
code_in callers (Some h) = root_code_of callers h.place h.replica

-- a replica is downgraded at a place above that of a code
abbrev pub IsAbove : ℕ → ℕ → Option HeldDowngraded → Type 0
IsAbove callers code None = ⊥
IsAbove callers code (Some h) = root_place_of callers code < h.place

-- a caller may publish the replica that it has downgraded, at a place above that of the code last found in CUR, where each
-- win of its own is retired
abbrev pub CanPublish : ℕ → Local → Type 0
CanPublish callers l = IsAbove callers l.seen_cur l.downgraded × IsNone l.won

-- a code is the one that won
abbrev pub IsWonCode : ℕ → Option WonCode → Type 0
IsWonCode code None = ⊥
IsWonCode code (Some won) = code ≡ won.code

-- the code over which a win, if any, was published, 0 where there is none
abbrev pub before_in : Option WonCode → ℕ
before_in None = 0
before_in (Some won) = won.before

-- the replica that a code names is held shared, and its place word was loaded, which is the code's place
abbrev pub ShowsPlace : ℕ → ℕ → Option HeldShared → Type 0
ShowsPlace callers code None = ⊥
ShowsPlace callers code (Some h) = (h.replica ≡ root_replica_of callers code) × Contains h.loaded (0, root_place_of callers code)

-- a raise may answer a read where its operation, which is 144 words, only reads and its code was last loaded from CUR, with
-- nothing since that ends its use, and where the replica that the code names is held shared at the code's place
abbrev pub CanAnswer : Instance → ℕ → Local → Option (List ℕ) → Type 0
CanAnswer instance code l None = Unit {0}
CanAnswer instance code l (Some op) = IsTrue (instance.reads op) × (code ≡ l.seen_cur) × IsTrue l.fresh × ShowsPlace instance.callers code l.shared × Words 144 op

-- a caller may raise DUR by the code last found in CUR or by the one that it won with
abbrev pub CanRaise : Instance → ℕ → Option (List ℕ) → Local → Type 0
CanRaise instance code read l = ((code ≡ l.seen_cur) ⊎ IsWonCode code l.won) × CanAnswer instance code l read

-- a caller may retire its win once it raised DUR by the code that won
abbrev pub CanRetire : ℕ → Option WonCode → Type 0
CanRetire raised None = ⊥
CanRetire raised (Some won) = won.code ≤ raised

-- the local state after a load of CUR
abbrev pub loaded_cur : ℕ → Local → ℕ → Local
loaded_cur callers l found = record l {
  seen_cur = found;
  front = max l.front (root_place_of callers found);
  fresh = true;
  steps = one_more l.steps;
}

-- the local state after a publication that won: the downgraded right is CUR's pin now, and the pin before is the win's
abbrev pub published : ℕ → Local → Local
published callers l =
    let code = code_in callers l.downgraded in
    record l {
      downgraded = None;
      won = Some (record { code = code; before = l.seen_cur });
      seen_cur = code;
      front = max l.front (root_place_of callers code);
      fresh = false;
      steps = one_more l.steps;
    }

-- the local state after a publication that was lost to the code found
abbrev pub outrun : ℕ → Local → ℕ → Local
outrun callers l found = record l {
  seen_cur = found;
  front = max l.front (root_place_of callers found);
  met = if l.fresh then one_more l.met else l.met;
  fresh = false;
  steps = one_more l.steps;
}

-- the object's reply to an operation after the entries with tickets below a place
abbrev pub reply_after : Instance → List Entry → ℕ → List ℕ → List ℕ
reply_after instance history place op =
    (instance.step (image_after instance.step (object_part instance.base.words) (take (place - instance.base.place) history)) op).1

-- the own entry that is not answered yet: entries are answered in order
abbrev pub unanswered : Local → Option Linked
unanswered l = slice_get l.own (length l.answered)

-- what a raise to a place answers of an entry: its reply, where its ticket is below the place
abbrev pub answers_below : Instance → List Entry → ℕ → Option Linked → List Answer
answers_below instance history place None = []
answers_below instance history place (Some x) =
    if nat_lt x.ticket place
    then record { ticket = x.ticket; reply = reply_after instance history x.ticket x.entry.op } ∷ []
    else []

-- what a raise to a place answers of a read, where this number of its caller's entries is answered
abbrev pub reads_at : Instance → List Entry → ℕ → ℕ → Option (List ℕ) → List SeenRead
reads_at instance history place answered None = []
reads_at instance history place answered (Some op) =
    record { place = place; op = op; reply = reply_after instance history place op; before = answered } ∷ []

-- a floor after these answers at a place: where there is one, it rises to the place
abbrev pub raised_floor : ℕ → ℕ → List Answer → List SeenRead → ℕ
raised_floor floor place [] [] = floor
raised_floor floor place (answer ∷ answers) reads = max floor place
raised_floor floor place [] (read ∷ reads) = max floor place

-- the local state after a raise of DUR by a code: the unanswered entry is answered where its ticket is below the code's
-- place, and a read at that place
abbrev pub raised_by : Instance → Scene → ℕ → Option (List ℕ) → Local → Local
raised_by instance scene code read l =
    let place = root_place_of instance.callers code in
    let answers = answers_below instance scene.history place (unanswered l) in
    let reads = reads_at instance scene.history place (length l.answered + length answers) read in
    record l {
      answered = l.answered ++ answers;
      seen_reads = l.seen_reads ++ reads;
      raised = max l.raised code;
      floor = raised_floor l.floor place answers reads;
      fresh = false;
      steps = one_more l.steps;
    }
