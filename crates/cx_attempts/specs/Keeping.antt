-- What becomes of a replica that was just taken, before entries are read for it: it is kept, or the current one is copied over it, or the
-- attempt ends.
use Rattle.std.specs.Prelude.{◌≡◌, ◌≢◌, ◌<◌, ◌⊎◌, true, false, ℕ, Bool, List, [], Option, Some, None}
use Rattle.std.specs.List.{Contains}
use Rattle.cx_base.specs.Codes.{root_place_of, root_replica_of}
use Rattle.cx_base.specs.declared.object.Object.{Ghosts}
use Rattle.cx_core.specs.declared.local.Local.{Local}
use Rattle.cx_core.specs.declared.local.Protection.TheVariants.{Confirmed, Unprotected}
use Rattle.cx_core.specs.declared.local.Scan.{Scan}
use Rattle.cx_core.specs.declared.local.WonCode.{WonCode}
use Rattle.cx_core.specs.LockEvents.{CanTryShared}
use Rattle.cx_core.specs.Rights.{downgraded_on, exclusive_on, is_at, shared_on}
use Rattle.cx_core.specs.State.{one_more}
use Rattle.table_invariant.specs.Fitting.{loaded_of}
use Rattle.table_invariant.specs.Running.{IsSeatOf, Running}
use Rattle.table_invariant.specs.Seats.{Seated}
use Rattle.cx_table.specs.Right.{Right}
use Rattle.cx_attempts.specs.Attempts.{StepsOn, AttemptRefused}
use Rattle.mutation_queue.specs.Protections.{MeetsNone, ShowsRootOutdated}
use Rattle.replica.specs.Copies.{HoldsBothIn}
use Rattle.replica.specs.Held.{IsHeldIn, IsHeldSharedIn}
use Rattle.replica.specs.Replays.{IsHeldImageIn, StoresNone, noted_place}
use Rattle.strong_trylock.specs.Held.{AllRights, all_rights}

-- the rights of a caller beside the exclusive one, its scan, and the replicas that were refused
pub record Others : Type 0 where
  pub shared : Option ℕ
  pub passer : Option ℕ
  pub downgraded : Option ℕ
  pub won : Option WonCode
  pub scan : Option Scan
  pub refused : List ℕ

-- the rights of a caller beside the exclusive one, its scan and the replicas that refused it, as its local state has them
abbrev pub others : Local → Others
others l = record { shared = shared_on l; passer = l.passer; downgraded = downgraded_on l; won = l.won; scan = l.scan; refused = l.refused }

-- a caller without a right beside the exclusive one, without a scan, and refused by no replica
abbrev pub no_others : Others
no_others = record { shared = None; passer = None; downgraded = None; won = None; scan = None; refused = [] }

-- a replica is held exclusively that is the image after its place, and beside it the caller has no right and no scan, and nothing is
-- refused
pub record IsAtImage {O : Type 0} (o : Ghosts O) (r : Running O) (seat : Seated) (held : Right) : Type 0 where
  pub is_held : IsHeldIn o r seat held
  pub image : IsHeldImageIn o r seat.known
  pub alone : others seat.known.local ≡ no_others

-- The entries from the replica's place up to a ticket may be read: there is none, and no protection stands, or the tickets from the place
-- on are protected.
abbrev pub IsGuarded : ℕ → Seated → Type 0
IsGuarded ticket seat =
    ((ticket < noted_place seat) × (seat.known.local.protection ≡ Unprotected)) ⊎ (seat.known.local.protection ≡ Confirmed (noted_place seat))

-- The replica held is one on which they are, and no refusal was met.
pub record IsUnrefused {O : Type 0} (o : Ghosts O) (r : Running O) (ticket : ℕ) (before after : Seated) (held : Right) : Type 0 where
  pub at_image : IsAtImage o r after held
  pub guarded : IsGuarded ticket after
  pub met : after.known.local.met ≡ before.known.local.met

-- the result of keeping a replica; it may end the attempt, by one refusal
abbrev pub TriesKeep : {O : Type 0} → Ghosts O → Running O → ℕ → Seated → Seated → Option Right → Type 0
TriesKeep o r ticket before after (Some held) = IsUnrefused o r ticket before after held
TriesKeep o r ticket before after None = AttemptRefused before after

-- A replica was kept: it is held exclusively and the image after its place, and the entries from there up to a ticket, which is linked, may be read.
pub record IsKeptFor {O : Type 0} (o : Ghosts O) (r : Running O) (ticket : ℕ) (seat : Seated) (held : Right) : Type 0 where
  pub at_image : IsAtImage o r seat held
  pub guarded : IsGuarded ticket seat
  pub linked : ticket < seat.known.local.front

-- The place is behind the ring: a LOW above it was found. Where that shows the code last loaded from CUR to be outdated, a refusal is met.
pub record IsBehindRing (callers : ℕ) (before after : Seated) : Type 0 where
  pub above : noted_place before < after.known.local.seen_low
  pub protection : after.known.local.protection ≡ Unprotected
  pub outdated : ShowsRootOutdated callers (noted_place before) before.known.local → (after.known.local.met ≡ one_more before.known.local.met) × (after.known.local.fresh ≡ false)
  pub current : (ShowsRootOutdated callers (noted_place before) before.known.local → ⊥) → MeetsNone before after

-- the result of guarding the entries up to a ticket
abbrev pub Guards : ℕ → ℕ → Seated → Seated → Bool → Type 0
Guards callers ticket before after true = IsGuarded ticket after × MeetsNone before after
Guards callers ticket before after false = IsBehindRing callers before after

-- CUR was loaded: the replica that it names is not the one held exclusively
pub record SeesCurrentReplica {O : Type 0} (o : Ghosts O) (r : Running O) (before after : Seated) (held : Right) : Type 0 where
  pub at_image : IsAtImage o r after held
  pub apart : held.replica ≢ root_replica_of r.callers after.known.local.seen_cur
  pub fresh : after.known.local.fresh ≡ true
  pub protection : after.known.local.protection ≡ before.known.local.protection
  pub accesses : after.known.accesses ≡ before.known.accesses
  pub met : after.known.local.met ≡ before.known.local.met

-- a caller of this table that may take the replica shared that the code last loaded from CUR names, where nothing ended that code's use
pub record MayTakeCurrent {O : Type 0} (r : Running O) (seat : Seated) : Type 0 where
  pub of : IsSeatOf r seat
  pub free : CanTryShared r.callers (root_replica_of r.callers seat.known.local.seen_cur) seat.known.local
  pub fresh : seat.known.local.fresh ≡ true

-- The caller holds the replica shared that the code last loaded from CUR names, and not exclusively, and nothing ended the code's use. Nothing is
-- said of the replica's place.
pub record HoldsNamed {O : Type 0} (o : Ghosts O) (r : Running O) (seat : Seated) (hold : Right) : Type 0 where
  pub held : IsHeldSharedIn o r seat hold
  pub here : hold.replica ≡ root_replica_of r.callers seat.known.local.seen_cur
  pub apart : is_at hold.replica (exclusive_on seat.known.local) ≡ false
  pub fresh : seat.known.local.fresh ≡ true

-- The replica that the code last loaded from CUR names is held shared beside these rights, at that code's place, and nothing ended that
-- code's use.
pub record HoldsCurrent {O : Type 0} (o : Ghosts O) (r : Running O) (rights : AllRights) (before after : Seated) (hold : Right) : Type 0 where
  pub held : IsHeldSharedIn o r after hold
  pub here : hold.replica ≡ root_replica_of r.callers after.known.local.seen_cur
  pub place : Contains (loaded_of after.known.local.shared) (0, root_place_of r.callers after.known.local.seen_cur)
  pub with : all_rights after ≡ record rights { shared = Some hold.replica }
  pub fresh : after.known.local.fresh ≡ true
  pub met : after.known.local.met ≡ before.known.local.met

-- another holds the replica exclusively that the code last loaded from CUR names, or it is at another place: a refusal is met, and these rights are
-- left
pub record MissesCurrent (rights : AllRights) (before after : Seated) : Type 0 where
  pub left : all_rights after ≡ rights
  pub fresh : after.known.local.fresh ≡ false
  pub met : after.known.local.met ≡ one_more before.known.local.met
  pub since : StepsOn before after

-- the result of taking the replica shared that the code last loaded from CUR names
abbrev pub TakesCurrent : {O : Type 0} → Ghosts O → Running O → AllRights → Seated → Seated → Option Right → Type 0
TakesCurrent o r rights before after (Some hold) = HoldsCurrent o r rights before after hold
TakesCurrent o r rights before after None = MissesCurrent rights before after

-- a replica is kept, or was just taken, before the entries up to a ticket are protected, which is linked
pub record MayKeep (ticket : ℕ) (seat : Seated) : Type 0 where
  pub none : seat.known.local.protection ≡ Unprotected
  pub stale : seat.known.local.fresh ≡ false
  pub linked : ticket < seat.known.local.front

-- a caller of this table without a protection may protect the place of its replica, for the entries up to a ticket, which is linked
pub record MayGuard {O : Type 0} (r : Running O) (ticket : ℕ) (seat : Seated) : Type 0 where
  pub of : IsSeatOf r seat
  pub none : seat.known.local.protection ≡ Unprotected
  pub linked : ticket < seat.known.local.front

-- A replica held exclusively was found behind the ring, and no word of it was stored: the current one may be copied over it, for the entries
-- up to a ticket, which is linked.
pub record MayCopyCurrent {O : Type 0} (o : Ghosts O) (r : Running O) (ticket : ℕ) (seat : Seated) (held : Right) : Type 0 where
  pub at_image : IsAtImage o r seat held
  pub none : seat.known.local.protection ≡ Unprotected
  pub behind : noted_place seat < seat.known.local.seen_low
  pub unstored : StoresNone seat.known.accesses
  pub linked : ticket < seat.known.local.front

-- a replica held exclusively may be made durable and released, and the attempt ends: no protection stands, and what was seen of CUR is not used again
pub record MayGiveUp {O : Type 0} (o : Ghosts O) (r : Running O) (seat : Seated) (held : Right) : Type 0 where
  pub at_image : IsAtImage o r seat held
  pub none : seat.known.local.protection ≡ Unprotected
  pub stale : seat.known.local.fresh ≡ false

-- A replica held exclusively was found behind the ring, and the current one is held shared beside it, at the place of the code last
-- loaded from CUR. Beside these the caller has no right, no protection and no scan, and nothing is refused.
pub record HoldsSource {O : Type 0} (o : Ghosts O) (r : Running O) (seat : Seated) (held source : Right) : Type 0 where
  pub both : HoldsBothIn o r seat held source
  pub alone : others seat.known.local ≡ record no_others { shared = Some source.replica }
  pub none : seat.known.local.protection ≡ Unprotected
  pub place : Contains (loaded_of seat.known.local.shared) (0, root_place_of r.callers seat.known.local.seen_cur)
  pub fresh : seat.known.local.fresh ≡ true
