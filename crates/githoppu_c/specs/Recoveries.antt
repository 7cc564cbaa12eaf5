-- What C is answered where it recovers.
use Rattle.std.specs.Prelude.{◌≡◌, ◌⊎◌, ◌≤◌, ℕ, ℤ, pos, List}
use Rattle.std.specs.Global.{Global}
use Rattle.std_alloc.specs.declared.boxed.Box.{Box}
use Rattle.cx_core.specs.declared.entry.Base.{Base}
use Rattle.table_invariant.specs.Running.{Running}
use Rattle.c_images.specs.Words.{IsHeadFault}
use Rattle.c_images.specs.declared.reader.WordsFault.{WordsFault}
use Rattle.githoppu_c.specs.Codes.{IsOpenCode, fault_code}
use Rattle.githoppu_c.specs.Contents.{AreBoxes, IsSessionIn}
use Rattle.githoppu_c.specs.declared.content.AnyHandleState.{AnyHandleState}
use Rattle.c_sessions.specs.declared.session.Session.{Session}

-- `count` sessions may be opened: 1 to 8
pub record AreFew (count : ℕ) : Type 0 where
  pub some : 1 ≤ count
  pub few : count ≤ 8

-- recovery refuses `words`, and `code` is the status for the fault: the words begin with no head of this kind of object, or `faulty` holds of the
-- fault
pub record AreWordsRefusedBy (kind : ℕ) (faulty : WordsFault → Type 0) (words : List ℕ) (code : ℤ) : Type 0 where
  pub fault : WordsFault
  pub because : IsHeadFault kind words fault ⊎ faulty fault
  pub is : code ≡ fault_code fault

-- `code` is the status for some fault of which `faulty` holds
abbrev pub IsRefusal : (WordsFault → Type 0) → ℤ → Type 0
IsRefusal faulty code = (fault : WordsFault) × faulty fault × (code ≡ fault_code fault)

-- why `count` sessions are not recovered from `words`, as the status `code`: 7 where they are not 1 to 8; else the words are refused, or memory ran
-- out, or the sessions' new queue did not take its first entry
abbrev pub RefusesWords : ℕ → (WordsFault → Type 0) → List ℕ → ℕ → ℤ → Type 0
RefusesWords kind faulty words count code = ((¬ AreFew count) × (code ≡ pos 7)) ⊎ (AreFew count × (AreWordsRefusedBy kind faulty words code ⊎ IsOpenCode code))

-- `boxes` are `count` boxes of sessions of one service, which starts from a base of which `taken` holds. `any` makes of a session what a handle
-- holds.
pub record AreRecovered {O : Type 0} (any : Session O → AnyHandleState) (taken : Base → Type 0) (count : ℕ) (boxes : List (Box AnyHandleState Global)) : Type 0 where
  pub few : AreFew count
  pub service : Running O
  pub callers_are : service.callers ≡ count
  pub said : taken service.base
  pub of : AreBoxes (IsSessionIn any service) count boxes

-- the status `code` that C is given where it recovers `count` sessions from `words`: 0 where they are recovered, from a base of which `taken` holds,
-- or why they are not
abbrev pub Recovers : ℕ → (Base → Type 0) → (WordsFault → Type 0) → List ℕ → ℕ → ℤ → Type 0
Recovers kind taken faulty words count code = (AreFew count × ((base : Base) × taken base) × (code ≡ pos 0)) ⊎ RefusesWords kind faulty words count code
