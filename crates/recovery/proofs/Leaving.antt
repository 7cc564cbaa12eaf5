-- What is left of a closed table by choice is a crash image of the state that was closed.
use Rattle.std.proofs.Common.{◌≡◌, ◌+◌, ◌-◌, ◌*◌, ◌%◌, ◌<◌, ℕ, Bool, true, false, List, [], ◌∷◌, drop, length, slice_index, slice_index_or, sym, ap, subst, ◌∙◌, arith, inl, inr, Some, if◌then◌else◌}
use Rattle.std.proofs.lemmas.Bool.{cases_Bool}
use Rattle.std.proofs.lemmas.List.{get_or-drop, get_or-take}
use Rattle.std.proofs.lemmas.List.Elements.{Contains-get_or}
use Rattle.std.proofs.lemmas.List.FromFn.{get_or-map-range_with_len, length-map-range_with_len}
use Rattle.std.proofs.lemmas.Nat.{mod_below}
use Rattle.std.proofs.lemmas.Option.{slice_get-get_or}
use Rattle.std.specs.List.{Contains, slice_get, slice_range}
use Rattle.cx_core.specs.declared.entry.Image.{Image}
use Rattle.cx_core.specs.declared.local.Local.{Local}
use Rattle.cx_core.specs.Chain.{IsCodeChain}
use Rattle.cx_core.specs.Crash.{IsCrashImage, IsDirtyIn}
use Rattle.cx_core.specs.LawfulRegions.{per_word}
use Rattle.cx_core.specs.Layout.{per_at}
use Rattle.cx_core.specs.State.{Instance}
use Rattle.cx_core.proofs.LayoutLemmas.{replica_within}
use Rattle.table_invariant.specs.Running.{Running, instance_at}
use Rattle.table_invariant.specs.Seats.{Seated}
use Rattle.cx_table.specs.declared.remains.Remains.{Remains}
use Rattle.cx_table.specs.Remains.{IsDirty, ClosingWitness}
use Rattle.pmem_model.specs.Medium.{any_value}
use Rattle.pmem_model.specs.declared.medium.Mark.TheVariants.{Dirty}
use Rattle.recovery.specs.Crashes.{IsLeftOf, left_word}
use Rattle.recovery.specs.Images.{image_size, image_word}
use Rattle.recovery.specs.Kept.{IsOpened, crash_of}
use Rattle.recovery.proofs.Shown.{chain_behind, dirty_behind}

-- a word of a part of a list
range_at : (words : List ℕ) (a b i : ℕ) → i < b - a → slice_index (slice_range words a b) i ≡ slice_index words (a + i)
range_at words a b i inside = get_or-take (b - a) (drop a words) i 0 inside ∙ get_or-drop a words i 0

-- a chain has some code
chain_some : (words : List ℕ) (ls : List Local) (codes : List ℕ) → IsCodeChain words ls codes → 0 < length codes
chain_some words ls [] chain = absurd chain
chain_some words ls (code ∷ codes) chain = omega arith

-- a word that is not marked has its durable value
unmarked : (r : Remains) (choice at : ℕ) → slice_index_or r.dirty.items at false ≡ false → left_word r choice at ≡ slice_index r.durable.items at
unmarked r choice at clean = ap (λ b. if b then any_value choice at (record { value = slice_index r.volatile.items at; durable = slice_index r.durable.items at; mark = Dirty }) else slice_index r.durable.items at) clean

module _ {O : Type 0} (line_count : O → ℕ) (lawful : O → List ℕ → Type 0) (step : O → List ℕ → List ℕ → List ℕ × List ℕ) (reads : O → List ℕ → Bool)
    (table : Running O) (seats : List Seated) (r : Remains) (choice : ℕ) (image : Image)
    (opened : IsOpened line_count lawful table) (leaves : ClosingWitness table (instance_at table step reads) seats r) (left : IsLeftOf r choice image) where
  abbrev instance : Instance
  instance = instance_at table step reads

  abbrev region : ℕ
  region = length table.base.words

  -- the image has the words of all replicas
  size_is : image.count ≡ region * (2 * table.callers)
  size_is =
      left.count
      ∙ ap (λ n. image_size n r.lines) leaves.callers
      ∙ ap (λ n. image_size table.callers n) (leaves.lines ∙ opened.lines)
      ∙ ap (λ n. n * (2 * table.callers)) (sym opened.base.size.long)

  -- a place in a replica lies within the image
  within : (q i : ℕ) → q < 2 * table.callers → i < region → region * q + i < region * (2 * table.callers)
  within q i small below = omega (arith, replica_within table.callers region q small, below)

  chain_is : IsCodeChain leaves.words leaves.whole r.trail.chain
  chain_is = chain_behind leaves.words leaves.whole r.trail.chain (subst (λ ls. IsCodeChain leaves.words ls r.trail.chain) (sym leaves.shows) leaves.chain)

  -- the root is a code of the chain
  root_among : Contains r.trail.chain image.root
  root_among =
      let codes = r.trail.chain in
      let root : image.root ≡ slice_index codes (choice % length codes) = left.root ∙ ap (λ (xs : List ℕ). slice_index xs (choice % length xs)) leaves.published in
      subst (Contains codes) (sym root) (Contains-get_or codes (choice % length codes) 0 (mod_below choice (length codes) (chain_some leaves.words leaves.whole codes chain_is)))

  -- a word that is not dirty is not marked
  clean_mark : (q i : ℕ) → q < 2 * table.callers → i < region → (IsDirtyIn leaves.whole q i → ⊥) → slice_index_or r.dirty.items (region * q + i) false ≡ false
  clean_mark q i small below clean =
      let at = region * q + i in
      elim (cases_Bool (slice_index_or r.dirty.items at false)) [
        | inl marked ↦ (
            let long : at < length r.dirty.items = omega (arith, within q i small below, leaves.dirty.long) in
            let there : slice_get r.dirty.items at ≡ Some true = slice_get-get_or r.dirty.items at false long ∙ ap Some marked in
            absurd (clean (dirty_behind leaves.whole q i (subst (λ ls. IsDirty ls q i) (sym leaves.shows) ((leaves.dirty.is q i small below).0 there)))))
        | inr unmarked_there ↦ unmarked_there
      ]

  durable_at : (q i : ℕ) → q < 2 * table.callers → i < region → slice_index r.durable.items (region * q + i) ≡ per_word instance leaves.words q i
  durable_at q i small below =
      let from = per_at table.callers region 0 0 in
      let to = per_at table.callers region (2 * table.callers) 0 in
      let inside : region * q + i < to - from = omega (arith, within q i small below) in
      let there : from + (region * q + i) ≡ per_at table.callers region q i = omega arith in
      ap (λ ws. slice_index ws (region * q + i)) leaves.durable ∙ range_at leaves.words from to (region * q + i) inside ∙ ap (slice_index leaves.words) there

  pub left_crash : IsCrashImage instance (record { words = leaves.words; locals = leaves.whole }) (crash_of image)
  left_crash = record {
    chain = r.trail.chain;
    is_chain = chain_is;
    root = root_among;
    long = length-map-range_with_len (image_word image.pairs) 0 image.count ∙ size_is;
    settled = λ q i small below clean. (
        let at = region * q + i in
        let inside : at < image.count = omega (arith, within q i small below, size_is) in
        get_or-map-range_with_len (image_word image.pairs) 0 image.count at at 0 inside (omega arith)
        ∙ left.pairs.words at inside
        ∙ unmarked r choice at (clean_mark q i small below clean)
        ∙ durable_at q i small below);
  }
