-- A replica that is ready to be published.
use Rattle.std.specs.Prelude.{◌≡◌, ◌<◌, ℕ, List, [], Option, Some, None}
use Rattle.cx_base.specs.declared.object.Object.{Ghosts}
use Rattle.cx_core.specs.declared.local.Protection.TheVariants.{Unprotected}
use Rattle.table_invariant.specs.Fitting.{SomeFits}
use Rattle.table_invariant.specs.Running.{Running}
use Rattle.table_invariant.specs.Seats.{Seated}
use Rattle.table_invariant.specs.Stores.{IsReplayedToPlaceIn}
use Rattle.cx_table.specs.Right.{Right}
use Rattle.cx_table.specs.Tokens.{IsDowngradedOf}
use Rattle.cx_attempts.specs.Attempts.{AttemptRefused}
use Rattle.replica.specs.Replays.{ShowsReply, noted_place}
use Rattle.strong_trylock.specs.Held.{all_rights, no_rights}

-- The caller's only right is a downgraded one, on a replica that it brought up to a place above a ticket and made durable. What
-- is noted of the replica stays noted: whatever fits it is the image after that place, with this reply to the caller.
pub record Prepares {O : Type 0} (o : Ghosts O) (r : Running O) (ticket : ℕ) (answer : List ℕ) (before after : Seated) (held : Right) : Type 0 where
  pub token : IsDowngradedOf r.callers after held
  pub downgraded : after.known.local.downgraded ≡ Some (record { replica = held.replica; place = noted_place after })
  pub place : ticket < noted_place after
  pub rights : all_rights after ≡ record no_rights { downgraded = Some held.replica }
  pub replayed : IsReplayedToPlaceIn o r after.known
  pub reply : ShowsReply r.lines (o.lawful r.object) r.base (o.step r.object) after.known after.known.local.number answer
  pub some : SomeFits r.lines (o.lawful r.object) r.base (o.step r.object) after.known
  pub protection : after.known.local.protection ≡ Unprotected
  pub refused : after.known.local.refused ≡ []
  pub met : after.known.local.met ≡ before.known.local.met

-- the result of preparing one; where the attempt ends without one, a refusal was met
abbrev pub TriesPrepare : {O : Type 0} → Ghosts O → Running O → ℕ → List ℕ → Seated → Seated → Option Right → Type 0
TriesPrepare o r ticket answer before after (Some held) = Prepares o r ticket answer before after held
TriesPrepare o r ticket answer before after None = AttemptRefused before after
