-- Lines whose tickets rise, in another order than client after client.
use Rattle.std.proofs.Common.{◌≡◌, ◌<◌, ℕ, true, List, length, filter, slice_get, Some, sym, subst, ◌∙◌}
use Rattle.std.specs.Prelude.{IsPermutation}
use Rattle.std.proofs.lemmas.List.Elements.{All-contains, filter_passes}
use Rattle.std.proofs.lemmas.List.Sorted.{All-permutation, IsPermutation-sym, length_permutation}
use Rattle.cx_core.specs.declared.local.Local.{Local}
use Rattle.life_records.specs.Records.{Encoding, FullLine, JournalLine, Life, ReadLine, StopLine}
use Rattle.life_records.specs.Works.{AreWorks, IsWork, by_entry, by_read, full_of, stop_of}
use Rattle.life_records.proofs.Lists.{Has, Rises, filter_has, has_contains, has_filter, has_moved, rises_filter, same_items}

module _ {Op Reply : Type 0} (encoding : Encoding Op Reply) (life : Life Op) (locals : List Local) (entries journal : List (JournalLine Reply)) (reads : List (ReadLine Reply)) (stops : List StopLine) (fulls : List FullLine)
    (m : AreWorks encoding life locals entries reads stops fulls) (moved : IsPermutation entries journal) (rises : Rises (λ (line : JournalLine Reply). line.ticket) journal)
    (own_rise : (i : ℕ) (l : Local) → slice_get locals i ≡ Some l → Rises (λ (line : JournalLine Reply). line.ticket) (filter (by_entry i) entries)) where
  -- each client has the same lines in the same order
  same_lines : (i : ℕ) (l : Local) → slice_get locals i ≡ Some l → filter (by_entry i) journal ≡ filter (by_entry i) entries
  same_lines i l at =
      let p = by_entry i in
      let ticket : JournalLine Reply → ℕ = λ line. line.ticket in
      let passes : (xs : List (JournalLine Reply)) (z : JournalLine Reply) → Has (filter p xs) z → p z ≡ true = λ xs z h. All-contains (λ (x : JournalLine Reply). p x ≡ true) (filter p xs) z (filter_passes p xs) (has_contains (filter p xs) z h) in
      same_items ticket (filter p journal) (filter p entries)
      (rises_filter ticket p journal rises)
      (own_rise i l at)
      (λ z h. has_filter p entries z (has_moved journal entries z (IsPermutation-sym entries journal moved) (filter_has p journal z h)) (passes journal z h))
      (λ z h. has_filter p journal z (has_moved entries journal z moved (filter_has p entries z h)) (passes entries z h))

  -- in the other order the lines are still the clients'
  pub works_in_order : AreWorks encoding life locals journal reads stops fulls
  works_in_order = record {
    each = λ i l at. subst (λ ls. IsWork encoding life i l ls (filter (by_read i) reads) (stop_of i stops) (full_of i fulls)) (sym (same_lines i l at)) (m.each i l at);
    of_entries = All-permutation (λ (x : JournalLine Reply). x.client < length locals) entries journal moved m.of_entries;
    of_reads = m.of_reads;
    of_stops = m.of_stops;
    of_fulls = m.of_fulls;
    long = length_permutation entries journal moved ∙ m.long;
    reads_in_order = m.reads_in_order;
    stops_in_order = m.stops_in_order;
    fulls_in_order = m.fulls_in_order;
  }
