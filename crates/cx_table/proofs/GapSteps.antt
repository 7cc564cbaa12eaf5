-- The words of the ring of gaps lie within the table, and where listed lines were copied, so were the place and the dirty words.
use Rattle.std.proofs.Common.{◌<◌, inl, inr, ℕ, length, arith}
use Rattle.cx_core.specs.Layout.{gap_at, gap_slots, word_count}
use Rattle.cx_core.specs.State.{Instance}
use Rattle.table_invariant.specs.Seats.{Seated}
use Rattle.caller_cache.specs.Copies.{CopiesDirty}
use Rattle.cx_table.specs.Gaps.{IsListedFrom}
use Rattle.cx_table.specs.Right.{Right}

pub gap_within : (callers region slot i : ℕ) → slot < gap_slots callers → i < 16 → gap_at callers slot i < word_count callers region
gap_within callers region slot i small below = omega arith

-- where listed lines were copied, the place and the dirty words were
pub listed_copies : (instance : Instance) (seat : Seated) (mine other : Right) → 0 < length instance.base.words → IsListedFrom instance seat mine other → CopiesDirty seat.region seat.known
listed_copies instance seat mine other some listed = record {
  place = elim (listed.agree.each 0 (omega (arith, some, listed.long))) [
    | inl copied ↦ copied 0 (omega arith)
    | inr kept ↦ absurd (omega (arith, kept.0.0))
  ];
  dirty = listed.dirty;
}
