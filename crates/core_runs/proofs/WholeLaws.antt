-- What the laws of the parts say of a lawful state: of its crash images, and of its entries.
use Rattle.std.proofs.Common.{◌<◌, ◌≤◌, ℕ}
use Rattle.cx_core.specs.Crash.{CrashImage, IsCrashImage, IsKept, recovered}
use Rattle.cx_core.specs.History.{AreLawful}
use Rattle.cx_core.specs.Lawful.{Lawful}
use Rattle.cx_core.specs.Region.{slot_number}
use Rattle.cx_core.specs.State.{Instance, State}
use Rattle.core_replica.specs.Crashing.{ChainStands}
use Rattle.core_replica.proofs.CrashLaws.{recovered_kept}
use Rattle.core_queue.proofs.EntryLaws.{entries_lawful}
use Rattle.core_queue.proofs.QueueFrames.{queue_of}
use Rattle.core_replica.proofs.ChainLaws.{chain_from_dur, chain_pinned}

module _ (instance : Instance) (s : State) (law : Lawful instance s) where
  -- each code of a chain names a replica at its place, which nobody writes
  chain_codes : ChainStands instance s
  chain_codes = record {
    each = λ chain code is among. (
        let pinned = chain_pinned instance s law.root law.shape law.locks chain code is among in
        record { placed = pinned.placed; unheld = pinned.unheld; durable = chain_from_dur instance s law.root chain code is among });
  }

  pub crash_kept : (image : CrashImage) → IsCrashImage instance s image → IsKept instance law.history s (recovered instance image)
  crash_kept image crash = recovered_kept instance law.history s image law.shape law.regions law.answers chain_codes crash

  pub entries_of : ((caller : ℕ) → caller < 8 → slot_number caller instance.base.words ≤ instance.base.place) → AreLawful instance.base.place law.history
  entries_of numbers = entries_lawful instance law.history s.words s.locals (queue_of law) numbers
