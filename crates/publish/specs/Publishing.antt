-- The outcome of a publication.
use Rattle.std.specs.Prelude.{◌≡◌, ◌+◌, ◌<◌, ◌≤◌, ◌⊎◌, ℕ, false, Option, Some, None, Result, Ok, Err}
use Rattle.cx_base.specs.Codes.{root_place_of}
use Rattle.cx_core.specs.declared.local.HeldDowngraded.{HeldDowngraded}
use Rattle.cx_core.specs.RootEvents.{code_in}
use Rattle.table_invariant.specs.Running.{IsSeatOf, Running}
use Rattle.table_invariant.specs.Seats.{IsAtLimit, Seated}
use Rattle.cx_table.specs.Seats.{StepsOn}
use Rattle.cx_table.specs.Right.{Right, WonRight}
use Rattle.cx_table.specs.Tokens.{IsDowngradedOf, IsWonOf}
use Rattle.publish.specs.declared.publication.Published.{Published}
use Rattle.publish.specs.declared.publication.Published.TheVariants.{Won, Passed}

-- the seat but for the front, what was seen of CUR, the right that is published, the win, and the counts
abbrev pub unchanged_by_publish : Seated → Seated
unchanged_by_publish s = record s {
  known = record s.known {
    local = record s.known.local { front = 0; seen_cur = 0; fresh = false; downgraded = None; won = None; steps = 0; met = 0 };
  };
}

-- the place of what is downgraded
abbrev pub place_in : Option HeldDowngraded → ℕ
place_in None = 0
place_in (Some h) = h.place

-- The caller's code was put into CUR: the pin on the replica of the code before is the win's now.
pub record WinsCur (callers : ℕ) (before after : Seated) (won : WonRight) : Type 0 where
  pub code : won.code ≡ code_in callers before.known.local.downgraded
  pub token : IsWonOf callers after won
  pub ended : after.known.local.downgraded ≡ None
  pub seen : after.known.local.seen_cur ≡ won.code
  pub stale : after.known.local.fresh ≡ false

-- The exchange was lost to a later code: the right stands.
pub record LosesCur (callers : ℕ) (before after : Seated) (given : Right) : Type 0 where
  pub token : IsDowngradedOf callers after given
  pub held : after.known.local.downgraded ≡ before.known.local.downgraded
  pub none : after.known.local.won ≡ None
  pub later : before.known.local.seen_cur < after.known.local.seen_cur
  pub stale : after.known.local.fresh ≡ false

-- one exchange of CUR
abbrev pub Exchanges : ℕ → Seated → Seated → Result WonRight Right → Type 0
Exchanges callers before after (Ok won) = WinsCur callers before after won
Exchanges callers before after (Err given) = LosesCur callers before after given

-- The limit came before an exchange or the release was made: the right stands, and nothing was won.
pub record HaltsPublishing (before after : Seated) : Type 0 where
  pub held : after.known.local.downgraded ≡ before.known.local.downgraded
  pub none : after.known.local.won ≡ None
  pub limit : IsAtLimit after.known.local

-- what one exchange of CUR leaves: it was won or lost, or the limit came before it
abbrev pub EndsExchange : {E : Type 0} → ℕ → Seated → Seated → Result (Result WonRight Right) E → Type 0
EndsExchange callers before after (Ok x) = Exchanges callers before after x
EndsExchange callers before after (Err e) = HaltsPublishing before after

-- at most one refusal was met, after which what was seen of CUR is not fresh
abbrev pub MeetsOne : Seated → Seated → Type 0
MeetsOne before after = (after.known.local.met ≡ before.known.local.met) ⊎ ((after.known.local.met ≤ before.known.local.met + 1) × (after.known.local.fresh ≡ false))

-- no refusal is met where what was seen of CUR was not fresh
abbrev pub KeepsMet : Seated → Seated → Type 0
KeepsMet before after = before.known.local.fresh ≡ false → after.known.local.met ≡ before.known.local.met

-- what a publication needs: the seat is of the table, its caller has downgraded the replica, and has no win that is not retired
pub record MayPublish {O : Type 0} (r : Running O) (seat : Seated) (held : Right) : Type 0 where
  pub of : IsSeatOf r seat
  pub token : IsDowngradedOf r.callers seat held
  pub none : seat.known.local.won ≡ None

-- What exchanges of CUR, and the release of a right, leave of the seat: the front does not fall, at most one refusal is met, no refusal and no
-- step is taken back, and all else in the seat stays. Beside this number, no more steps were made than what was seen of CUR rose.
pub record KeepsRest {O : Type 0} (r : Running O) (n : ℕ) (before after : Seated) : Type 0 where
  pub of : IsSeatOf r after
  pub front : before.known.local.front ≤ after.known.local.front
  pub met : KeepsMet before after
  pub counted : before.known.local.met ≤ after.known.local.met
  pub since : StepsOn before after
  pub most : after.known.local.met ≤ before.known.local.met + 1
  pub steps : after.known.local.steps + before.known.local.seen_cur ≤ before.known.local.steps + after.known.local.seen_cur + n
  pub rest : unchanged_by_publish after ≡ unchanged_by_publish before

-- each exchange so far was lost
pub record LosesAll {O : Type 0} (r : Running O) (first seat : Seated) (right : Right) : Type 0 where
  pub may : MayPublish r seat right
  pub held : seat.known.local.downgraded ≡ first.known.local.downgraded
  pub leaves : KeepsRest r 0 first seat
  pub stale : first.known.local.fresh ≡ false → seat.known.local.fresh ≡ false
  pub one : MeetsOne first seat
  pub stands : IsAtLimit first.known.local → IsAtLimit seat.known.local

-- a code was found in CUR whose place is not below the caller's own: the caller released its right
pub record PassedBy (callers found : ℕ) (before after : Seated) : Type 0 where
  pub seen : after.known.local.seen_cur ≡ found
  pub above : place_in before.known.local.downgraded ≤ root_place_of callers found
  pub ended : after.known.local.downgraded ≡ None
  pub none : after.known.local.won ≡ None
  pub stale : before.known.local.fresh ≡ false → after.known.local.fresh ≡ false

-- what a publication leaves: the code was published, or a code at or above its place was found and the right released
abbrev pub Publishes : ℕ → Seated → Seated → Published → Type 0
Publishes callers before after (Won won) = WinsCur callers before after won
Publishes callers before after (Passed found) = PassedBy callers found before after

-- what a publication leaves: an outcome, or the limit came before its last step
abbrev pub EndsPublishing : {E : Type 0} → ℕ → Seated → Seated → Result Published E → Type 0
EndsPublishing callers before after (Ok x) = Publishes callers before after x
EndsPublishing callers before after (Err e) = HaltsPublishing before after
