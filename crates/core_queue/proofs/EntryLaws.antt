-- Each entry of the history is one that a lawful base may take at its place.
use Rattle.std.proofs.Common.{◌≡◌, ◌+◌, ◌<◌, ◌≤◌, ℕ, List, ap, refl, ◌∙◌, arith, Some}
use Rattle.std.specs.List.{slice_get}
use Rattle.cx_base.specs.Memory.{Words}
use Rattle.cx_core.specs.declared.entry.Entry.{Entry}
use Rattle.cx_core.specs.declared.local.Linked.{Linked}
use Rattle.cx_core.specs.declared.local.Local.{Local}
use Rattle.cx_core.specs.History.{AreLawful}
use Rattle.cx_core.specs.Region.{slot_number}
use Rattle.cx_core.specs.State.{Instance}
use Rattle.cx_core.proofs.ListLemmas.{item_below}
use Rattle.cx_core.proofs.MergeLemmas.{has_own}
use Rattle.core_queue.specs.Queue.{QueueLawful}

-- what the parts say of an entry, whatever the numbers in the base are
pub record Numbered (instance : Instance) (i : ℕ) (entry : Entry) : Type 0 where
  pub caller : entry.caller < 8
  pub some : 0 < entry.number
  pub most : entry.number ≤ slot_number entry.caller instance.base.words + i + 1
  pub op : Words 144 entry.op

module _ (instance : Instance) (history : List Entry) (words : List ℕ) (locals : List Local) (law : QueueLawful instance history words locals) where
  -- a caller's numbers go up by 1 from its number in the base
  pub entry_numbered : (i : ℕ) (entry : Entry) → slice_get history i ≡ Some entry → Numbered instance i entry
  entry_numbered i entry at =
      let by = law.tickets.merged.of_callers i entry at in
      let local = item_below locals entry.caller by in
      let mine = has_own entry.caller instance.base.place history i entry at refl in
      let x : Linked = record { ticket = instance.base.place + i; entry = entry } in
      let there : slice_get local.0.own mine.0 ≡ Some x = ap (λ (o : List Linked). slice_get o mine.0) (law.tickets.merged.own entry.caller local.0 local.1) ∙ mine.1 in
      let own = law.tickets.each entry.caller local.0 local.1 in
      let number : entry.number ≡ slot_number entry.caller instance.base.words + mine.0 + 1 = own.numbers mine.0 x there in
      record {
        caller = omega (arith, by, law.shape.count, law.shape.few);
        some = omega (arith, number);
        most = omega (arith, number, mine.2);
        op = own.ops mine.0 x there;
      }

  -- which is at most the base's place
  pub entries_lawful : ((caller : ℕ) → caller < 8 → slot_number caller instance.base.words ≤ instance.base.place) → AreLawful instance.base.place history
  entries_lawful numbers i entry at =
      let is = entry_numbered i entry at in
      record { caller = is.caller; some = is.some; most = omega (arith, is.most, numbers entry.caller is.caller); op = is.op }
