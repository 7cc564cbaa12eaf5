-- What is recovered from what a loss of power leaves of a closed table.
use Rattle.std.proofs.Common.{◌≡◌, ◌+◌, ◌*◌, ◌<◌, ◌≤◌, ◌↔◌, ℕ, List, drop, length, take, slice_index, refl, sym, ap, subst, ◌∙◌, arith, Bool, Result, Ok, Err, MatchResult, add-zero}
use Rattle.std.proofs.lemmas.List.{ext_get_or, get_or-drop, get_or-take, length-drop, length-take-le}
use Rattle.std.proofs.lemmas.List.FromFn.{get_or-map-range_with_len, length-map-range_with_len}
use Rattle.std.proofs.lemmas.Nat.{mod_below}
use Rattle.std.specs.List.{slice_get}
use Rattle.cx_base.specs.Codes.{root_place_of, root_replica_of}
use Rattle.cx_base.specs.Memory.{Words}
use Rattle.cx_base.specs.OldFormat.{OldFormat, TakesOver, no_old_format}
use Rattle.cx_core.specs.declared.entry.Base.{Base}
use Rattle.cx_core.specs.declared.entry.Entry.{Entry}
use Rattle.cx_core.specs.declared.entry.Image.{Image}
use Rattle.cx_core.specs.declared.local.Local.{Local}
use Rattle.cx_core.specs.Base.{LawfulBase}
use Rattle.cx_core.specs.Crash.{IsKept, image_at, recovered}
use Rattle.cx_core.specs.History.{full_image}
use Rattle.cx_core.specs.Lawful.{Lawful}
use Rattle.cx_core.specs.Region.{region_words}
use Rattle.cx_core.specs.State.{Instance, State}
use Rattle.cx_core.proofs.HistoryLemmas.{ObjectLaws}
use Rattle.cx_core.proofs.LayoutLemmas.{replica_within}
use Rattle.table_invariant.specs.Running.{Running, instance_at}
use Rattle.table_invariant.specs.Seats.{Seated}
use Rattle.cx_table.specs.declared.remains.Remains.{Remains}
use Rattle.cx_table.specs.Remains.{ClosingWitness}
use Rattle.core_replica.proofs.BaseLaws.{kept_lawful}
use Rattle.core_runs.proofs.WholeLaws.{crash_kept, entries_of}
use Rattle.recovery.specs.declared.recovered_base.ImageFault.{ImageFault}
use Rattle.recovery.specs.declared.recovered_base.ImageFault.TheVariants.{Memory}
use Rattle.recovery.specs.Crashes.{IsLeftOf}
use Rattle.recovery.specs.Images.{image_word, region_of, region_start, words_from}
use Rattle.recovery.specs.Kept.{IsKeptAt, IsKeptBy, IsOpened, MayBeLeftOf, crash_of}
use Rattle.recovery.specs.Recovery.{HasSize, IsFaultOf, IsRecovered, named_base, place_in_root}
use Rattle.recovery.proofs.Accepting.{any_format, base_named}
use Rattle.recovery.proofs.Leaving.{left_crash}
use Rattle.recovery.proofs.Shown.{behind}

-- a part of words that pairs give is the words that they give there
part_from : (pairs : List (ℕ × ℕ)) (count from n : ℕ) → from + n ≤ count → take n (drop from (words_from pairs 0 count)) ≡ words_from pairs from n
part_from pairs count from n within =
    let all = words_from pairs 0 count in
    let long : length all ≡ count = length-map-range_with_len (image_word pairs) 0 count in
    let part : length (take n (drop from all)) ≡ n = length-take-le n (drop from all) (omega (arith, length-drop from all, long, within)) in
    ext_get_or 0 (take n (drop from all)) (words_from pairs from n) (part ∙ sym (length-map-range_with_len (image_word pairs) from n)) (λ i below. (
    let inside : i < n = omega (arith, below, part) in
    get_or-take n (drop from all) i 0 inside
    ∙ get_or-drop from all i 0
    ∙ get_or-map-range_with_len (image_word pairs) 0 count (from + i) (from + i) 0 (omega (arith, inside, within)) (omega arith)
    ∙ sym (get_or-map-range_with_len (image_word pairs) from n i (from + i) 0 inside refl)))

-- what a lawful state may leave
module _ (lines : ℕ) (lawful : List ℕ → Type 0) (version : ℕ) (instance : Instance) (laws : ObjectLaws lines lawful instance.step)
    (shape : (words : List ℕ) → lawful words → Words (8 * lines) words × (slice_index words 0 ≡ version)) (old : OldFormat) (takes : TakesOver lines version lawful old)
    (base : LawfulBase lines lawful instance.base) (s : State) (law : Lawful instance s)
    (image : Image) (left : MayBeLeftOf instance lines s image) where
  abbrev region : ℕ
  region = length instance.base.words

  -- what a crash leaves of a lawful state has the words of all replicas
  count_is : image.count ≡ region * (2 * instance.callers)
  count_is = sym (length-map-range_with_len (image_word image.pairs) 0 image.count) ∙ left.crash.long

  same_length : region_words image.lines ≡ region
  same_length = ap region_words left.lines ∙ sym base.size.long

  abbrev replica : ℕ
  replica = root_replica_of instance.callers image.root

  small : replica < 2 * instance.callers
  small = mod_below image.root (2 * instance.callers) (omega (arith, law.shape.some))

  -- what is recovered from the image is what the core's definitions recover
  same_region : region_of image ≡ (recovered instance (crash_of image)).words
  same_region =
      let start : region_start image ≡ image_at instance replica 0 =
      ap (λ n. n * root_replica_of image.callers image.root) same_length ∙ ap (λ c. region * root_replica_of c image.root) left.callers ∙ sym (add-zero (region * replica)) in
      let within : image_at instance replica 0 + region ≤ image.count = omega (arith, replica_within instance.callers region replica small, count_is) in
      ap (λ a. words_from image.pairs a (region_words image.lines)) start
      ∙ ap (words_from image.pairs (image_at instance replica 0)) same_length
      ∙ sym (part_from image.pairs image.count (image_at instance replica 0) region within)

  same_place : root_place_of image.callers image.root ≡ root_place_of instance.callers image.root
  same_place = ap (λ c. root_place_of c image.root) left.callers

  kept : IsKept instance law.history s (named_base image)
  kept = subst (IsKept instance law.history s) (λ i. record { place = sym same_place i; words = sym same_region i }) (crash_kept instance s law (crash_of image) left.crash)

  again : LawfulBase lines lawful (named_base image) × (region_of image ≡ full_image instance.step instance.base law.history (place_in_root image))
  again = kept_lawful lines lawful instance law.history s (named_base image) laws base (entries_of instance s law base.numbers) law.tickets.below kept

  has_size : HasSize image
  has_size = count_is ∙ ap (λ n. n * (2 * instance.callers)) (sym same_length) ∙ ap (λ c. region_words image.lines * (2 * c)) (sym left.callers)

  -- what recovery answers: it is the base that the root names
  pub accepts : (answer : Result Base ImageFault) → MatchResult answer (IsRecovered version lawful old image) (IsFaultOf version lawful old image) →
      MatchResult answer (IsKeptAt lines lawful instance law.history s image.root) (λ fault. fault ≡ Memory)
  accepts (Ok found) is =
      subst (IsKeptAt lines lawful instance law.history s image.root) (sym (base_named lines lawful version shape old takes image has_size again.0 (Ok found) is))
      (record { place = same_place; words = again.1; kept = kept; again = again.0 })
  accepts (Err fault) is = base_named lines lawful version shape old takes image has_size again.0 (Err fault) is

  pub stays : (found : Base) → IsRecovered version lawful old image found ↔ IsRecovered version lawful no_old_format image found
  stays = any_format lines lawful version shape old takes image has_size again.0

-- what a closed table leaves by choice
module _ {O : Type 0} (line_count : O → ℕ) (lawful : O → List ℕ → Type 0) (step : O → List ℕ → List ℕ → List ℕ × List ℕ) (reads : O → List ℕ → Bool) (version : O → ℕ)
    (old : O → OldFormat) (laws : (o : O) → ObjectLaws (line_count o) (lawful o) (step o))
    (shape : (o : O) (words : List ℕ) → lawful o words → Words (8 * line_count o) words × (slice_index words 0 ≡ version o))
    (takes : (o : O) → TakesOver (line_count o) (version o) (lawful o) (old o))
    (table : Running O) (seats : List Seated) (r : Remains) (choice : ℕ) (image : Image)
    (opened : IsOpened line_count lawful table) (leaves : ClosingWitness table (instance_at table step reads) seats r) (left : IsLeftOf r choice image) where
  abbrev closed : State
  closed = record { words = leaves.words; locals = leaves.whole }

  may_be_left : MayBeLeftOf (instance_at table step reads) (line_count table.object) closed image
  may_be_left = record {
    callers = left.callers ∙ leaves.callers;
    lines = left.lines ∙ leaves.lines ∙ opened.lines;
    crash = left_crash line_count lawful step reads table seats r choice image opened leaves left;
  }

  by_choice : (base : Base) → IsKeptAt (line_count table.object) (lawful table.object) (instance_at table step reads) leaves.state.history closed image.root base →
      IsKeptBy line_count lawful step table seats r choice base
  by_choice base is = record {
    place = is.place ∙ ap (root_place_of table.callers) left.root;
    from = is.kept.from;
    to = subst (λ (es : List Entry). base.place ≤ table.base.place + length es) leaves.history is.kept.to;
    words = is.words ∙ ap (λ (es : List Entry). full_image (step table.object) table.base es base.place) leaves.history;
    answered = λ caller local at i answer listed. (
        let whole = behind leaves.whole caller local (ap (λ ls. slice_get ls caller) leaves.shows ∙ at) in
        is.kept.answered caller whole.0 whole.1 i answer (ap (λ (y : Local). slice_get y.answered i) whole.2 ∙ listed));
    reads = λ caller local at i read listed. (
        let whole = behind leaves.whole caller local (ap (λ ls. slice_get ls caller) leaves.shows ∙ at) in
        is.kept.reads caller whole.0 whole.1 i read (ap (λ (y : Local). slice_get y.seen_reads i) whole.2 ∙ listed));
    again = is.again;
  }

  abbrev found : (answer : Result Base ImageFault) → MatchResult answer (IsRecovered (version table.object) (lawful table.object) (old table.object) image) (IsFaultOf (version table.object) (lawful table.object) (old table.object) image) →
      MatchResult answer (IsKeptAt (line_count table.object) (lawful table.object) (instance_at table step reads) leaves.state.history closed image.root) (λ fault. fault ≡ Memory)
  found = accepts (line_count table.object) (lawful table.object) (version table.object) (instance_at table step reads) (laws table.object) (shape table.object) (old table.object) (takes table.object)
      opened.base closed leaves.state image may_be_left

  pub recovers : (answer : Result Base ImageFault) → MatchResult answer (IsRecovered (version table.object) (lawful table.object) (old table.object) image) (IsFaultOf (version table.object) (lawful table.object) (old table.object) image) →
      MatchResult answer (IsKeptBy line_count lawful step table seats r choice) (λ fault. fault ≡ Memory)
  recovers (Ok base) is = by_choice base (found (Ok base) is)
  recovers (Err fault) is = found (Err fault) is

  pub recovered_as_is : (base : Base) → IsRecovered (version table.object) (lawful table.object) (old table.object) image base ↔ IsRecovered (version table.object) (lawful table.object) no_old_format image base
  recovered_as_is = stays (line_count table.object) (lawful table.object) (version table.object) (instance_at table step reads) (laws table.object) (shape table.object) (old table.object) (takes table.object)
      opened.base closed leaves.state image may_be_left
