-- How far what is durable comes.
use Rattle.std.proofs.Common.{◌+◌, ◌≤◌, ℕ, List, length, slice_index, arith}
use Rattle.cx_core.specs.declared.entry.Entry.{Entry}
use Rattle.cx_core.specs.declared.local.Local.{Local}
use Rattle.cx_core.specs.LawfulAnswers.{durable_place}
use Rattle.cx_core.specs.LawfulRoot.{RootBounds}
use Rattle.cx_core.specs.Layout.{cur_at, dur_at}
use Rattle.cx_core.specs.State.{Instance}
use Rattle.cx_core.proofs.RootCodes.{place_up}

-- what is durable is no further than the history
pub durable_within : (instance : Instance) (history : List Entry) (words : List ℕ) (locals : List Local) → 1 ≤ instance.callers → RootBounds instance history words locals →
    durable_place instance words ≤ instance.base.place + length history
durable_within instance history words locals some bounds =
    omega (arith, bounds.current, place_up instance.callers (slice_index words dur_at) (slice_index words cur_at) some bounds.dur)
