-- What a crash leaves of a state is accepted.
use Rattle.std.proofs.Common.{◌≡◌, ◌+◌, ◌*◌, ◌%◌, ◌<◌, ◌≤◌, ℕ, List, [], ◌∷◌, drop, length, take, slice_index, refl, sym, ap, subst, ◌∙◌, arith, add-zero, inl}
use Rattle.std.proofs.lemmas.List.{ext_get_or, get_or-drop, get_or-take, length-drop, length-take-le}
use Rattle.std.proofs.lemmas.List.Elements.{Contains-get_or}
use Rattle.std.proofs.lemmas.List.FromFn.{get_or-map-range_with_len, length-map-range_with_len}
use Rattle.std.proofs.lemmas.Nat.{mod_below}
use Rattle.std.specs.List.{Contains}
use Rattle.cx_base.specs.Codes.{root_place_of, root_replica_of}
use Rattle.cx_base.specs.OldFormat.{no_old_format}
use Rattle.cx_core.specs.declared.entry.Image.{Image}
use Rattle.cx_core.specs.declared.local.Local.{Local}
use Rattle.cx_core.specs.Base.{LawfulBase}
use Rattle.cx_core.specs.Chain.{IsCodeChain}
use Rattle.cx_core.specs.Crash.{IsCrashImage, IsKept, image_at, recovered}
use Rattle.cx_core.specs.History.{full_image}
use Rattle.cx_core.specs.Lawful.{Lawful}
use Rattle.cx_core.specs.Region.{object_part, region_words}
use Rattle.cx_core.specs.State.{Instance, State}
use Rattle.cx_core.proofs.HistoryLemmas.{ObjectLaws}
use Rattle.cx_core.proofs.LayoutLemmas.{replica_within}
use Rattle.core_replica.proofs.BaseLaws.{kept_lawful}
use Rattle.core_replica.proofs.ChainLaws.{chain_only}
use Rattle.core_runs.proofs.WholeLaws.{crash_kept, entries_of}
use Rattle.recovery.specs.Images.{image_word, region_of, region_start, words_from}
use Rattle.recovery.specs.Kept.{IsKeptAt, crash_of}
use Rattle.recovery.specs.Recovery.{IsAccepted, place_in_root, recovered_from}
use Rattle.trace_check.specs.Images.{IsImageOf}
use Rattle.trace_check.specs.Lines.{LeavesPlace}

-- a part of words that pairs give is the words that they give there
part_from : (pairs : List (ℕ × ℕ)) (count from n : ℕ) → from + n ≤ count → take n (drop from (words_from pairs 0 count)) ≡ words_from pairs from n
part_from pairs count from n within =
    let all = words_from pairs 0 count in
    let long : length all ≡ count = length-map-range_with_len (image_word pairs) 0 count in
    let part : length (take n (drop from all)) ≡ n = length-take-le n (drop from all) (omega (arith, length-drop from all, long, within)) in
    ext_get_or 0 (take n (drop from all)) (words_from pairs from n) (part ∙ sym (length-map-range_with_len (image_word pairs) from n)) (λ i below. (
    let inside : i < n = omega (arith, below, part) in
    get_or-take n (drop from all) i 0 inside
    ∙ get_or-drop from all i 0
    ∙ get_or-map-range_with_len (image_word pairs) 0 count (from + i) (from + i) 0 (omega (arith, inside, within)) (omega arith)
    ∙ sym (get_or-map-range_with_len (image_word pairs) from n i (from + i) 0 inside refl)))

-- a chain has some code
chain_some : (words : List ℕ) (ls : List Local) (codes : List ℕ) → IsCodeChain words ls codes → 0 < length codes
chain_some words ls [] chain = absurd chain
chain_some words ls (code ∷ codes) chain = omega arith

module _ (lines : ℕ) (instance : Instance) (long : length instance.base.words ≡ region_words lines) (s : State) (law : Lawful instance s) (choice : ℕ) (image : Image) (is : IsImageOf lines instance s choice image) where
  abbrev region : ℕ
  region = length instance.base.words

  same_length : region_words image.lines ≡ region
  same_length = ap region_words is.of ∙ sym long

  within : (q i : ℕ) → q < 2 * instance.callers → i < region → region * q + i < region * (2 * instance.callers)
  within q i small below = omega (arith, replica_within instance.callers region q small, below)

  crash : IsCrashImage instance s (crash_of image)
  crash = record {
    chain = is.chain;
    is_chain = is.is_chain;
    root = subst (Contains is.chain) (sym is.root) (Contains-get_or is.chain (choice % length is.chain) 0 (mod_below choice (length is.chain) (chain_some s.words s.locals is.chain is.is_chain)));
    long = length-map-range_with_len (image_word image.pairs) 0 image.count ∙ is.count;
    settled = λ q i small below clean. (
        let at = region * q + i in
        let inside : at < image.count = omega (arith, within q i small below, is.count) in
        get_or-map-range_with_len (image_word image.pairs) 0 image.count at at 0 inside (omega arith)
        ∙ is.pairs.words at inside
        ∙ is.settled q i small below clean);
  }

  small : root_replica_of instance.callers image.root < 2 * instance.callers
  small = mod_below image.root (2 * instance.callers) (omega (arith, law.shape.some))

  same_region : region_of image ≡ (recovered instance (crash_of image)).words
  same_region =
      let replica = root_replica_of instance.callers image.root in
      let start : region_start image ≡ image_at instance replica 0 =
      ap (λ n. n * root_replica_of image.callers image.root) same_length ∙ ap (λ c. region * root_replica_of c image.root) is.callers ∙ sym (add-zero (region * replica)) in
      let inside : image_at instance replica 0 + region ≤ image.count = omega (arith, replica_within instance.callers region replica small, is.count) in
      ap (λ a. words_from image.pairs a (region_words image.lines)) start
      ∙ ap (words_from image.pairs (image_at instance replica 0)) same_length
      ∙ sym (part_from image.pairs image.count (image_at instance replica 0) region inside)

  same_base : recovered_from no_old_format image ≡ recovered instance (crash_of image)
  same_base =
      let place : root_place_of image.callers image.root ≡ root_place_of instance.callers image.root = ap (λ c. root_place_of c image.root) is.callers in
      λ i. record { place = place i; words = same_region i }

  kept : IsKept instance law.history s (recovered_from no_old_format image)
  kept = subst (IsKept instance law.history s) (sym same_base) (crash_kept instance s law (crash_of image) crash)

  module _ (version : ℕ) (lawful : List ℕ → Type 0) (laws : ObjectLaws lines lawful instance.step) (shape : (words : List ℕ) → lawful words → slice_index words 0 ≡ version) (base : LawfulBase lines lawful instance.base) where
    again : LawfulBase lines lawful (recovered_from no_old_format image) × ((recovered_from no_old_format image).words ≡ full_image instance.step instance.base law.history (recovered_from no_old_format image).place)
    again = kept_lawful lines lawful instance law.history s (recovered_from no_old_format image) laws base (entries_of instance s law base.numbers) law.tickets.below kept

    pub accepted : IsAccepted version lawful no_old_format image
    accepted =
        let next = again.0 in
        record {
          size = is.count ∙ ap (λ n. n * (2 * instance.callers)) (sym same_length) ∙ ap (λ c. region_words image.lines * (2 * c)) (sym is.callers);
          root = next.place_within;
          region = record { format = inl (shape (object_part (region_of image)) next.object); at_place = next.at_place; body = record { results = next.results; object = inl next.object } };
        }

    pub kept_at : IsKeptAt lines lawful instance law.history s image.root (recovered_from no_old_format image)
    kept_at = record { place = ap (λ c. root_place_of c image.root) is.callers; words = again.1; kept = kept; again = again.0 }

  pub at_place : (place : ℕ) → LeavesPlace instance s choice place → place_in_root image ≡ place
  at_place place leaves =
      let one = chain_only s is.chain leaves.chain law.root.apart is.is_chain leaves.is_chain in
      ap (λ c. root_place_of c image.root) is.callers
      ∙ ap (root_place_of instance.callers) (is.root ∙ ap (λ (codes : List ℕ). slice_index codes (choice % length codes)) one)
      ∙ leaves.is
