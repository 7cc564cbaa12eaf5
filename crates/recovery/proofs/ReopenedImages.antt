-- The memory of an image, reopened, has the words of the root's region in each.
use Rattle.std.proofs.Common.{◌≡◌, ◌+◌, ◌*◌, ◌/◌, ◌%◌, ◌<◌, ℕ, List, length, map, replicate, slice_index, refl, ap, sym, subst, ◌∙◌, arith}
use Rattle.std.proofs.Math.ListN.{get_or-map}
use Rattle.std.proofs.Math.Nat.{mod-eq_of_lt, mul-add-mod_self_left, mul_assoc}
use Rattle.std.proofs.lemmas.List.{length-map, length-replicate}
use Rattle.std.proofs.lemmas.List.FromFn.{get_or-map-range_with_len, length-map-range_with_len}
use Rattle.std.proofs.lemmas.Nat.{mod_below}
use Rattle.cx_base.specs.Codes.{root_replica_of}
use Rattle.cx_core.specs.declared.entry.Image.{Image}
use Rattle.cx_core.specs.Region.{region_words}
use Rattle.cx_core.proofs.LayoutLemmas.{replica_within}
use Rattle.pmem_model.specs.Medium.{MediumState, IsDirtyMark, durable_word, word_in, medium_word}
use Rattle.pmem_model.specs.declared.medium.Word.{Word}
use Rattle.recovery.specs.Images.{IsReadable, image_size, image_word, region_of, region_start, words_from}
use Rattle.recovery.specs.Recovery.{HasSize}
use Rattle.recovery.specs.Reopened.{HasReplicas, HoldsRegion, IsReopened, region_lines, root_line, value_at}

-- the words of all replicas are so many lines of eight
pub in_lines : (callers lines : ℕ) → image_size callers lines ≡ 8 * (region_lines lines * (2 * callers))
in_lines callers lines = mul_assoc 8 (region_lines lines) (2 * callers)

eights : (n x : ℕ) → n ≡ 8 * x → n % 8 ≡ 0
eights n x e = omega arith

eighth : (n x : ℕ) → n ≡ 8 * x → n / 8 ≡ x
eighth n x e = omega arith

module _ (image : Image) (readable : IsReadable image.lines image) (size : HasSize image) where
  abbrev all : List ℕ
  all = words_from image.pairs 0 image.count

  long_all : length all ≡ image_size image.callers image.lines
  long_all = length-map-range_with_len (image_word image.pairs) 0 image.count ∙ size

  -- words that are those of all replicas are 8 for each of their lines
  long_is : (words : List ℕ) → words ≡ all → length words ≡ 8 * (region_lines image.lines * (2 * image.callers))
  long_is words is = ap length is ∙ long_all ∙ in_lines image.callers image.lines

  pub words_fit : (words : List ℕ) → words ≡ all → length words % 8 ≡ 0
  words_fit words is = eights (length words) (region_lines image.lines * (2 * image.callers)) (long_is words is)

  -- the medium of the words holds all replicas
  pub has_replicas : (words : List ℕ) (m : MediumState) → words ≡ all → m.words ≡ map durable_word words → m.stores ≡ replicate (length words / 8) 0 → HasReplicas image.callers image.lines m
  has_replicas words m is made counts = record {
    some = readable.some;
    few = readable.few;
    enough = readable.enough;
    small = readable.small;
    words = ap length made ∙ length-map words durable_word ∙ ap length is ∙ long_all;
    stores = ap length counts ∙ length-replicate (length words / 8) 0 ∙ eighth (length words) (region_lines image.lines * (2 * image.callers)) (long_is words is);
  }

  module _ (words : List ℕ) (old new : MediumState) (is : words ≡ all) (made : old.words ≡ map durable_word words) (replicas : HasReplicas image.callers image.lines old)
      (done : IsReopened (region_lines image.lines) (2 * image.callers) (root_line image.callers image.lines image.root) old new) where
    word_was : (at : ℕ) → medium_word old at ≡ durable_word (slice_index all at)
    word_was at = ap (λ ws. word_in ws at) made ∙ get_or-map durable_word words at 0 ∙ ap (λ (ws : List ℕ). durable_word (slice_index ws at)) is

    value_is : (replica i : ℕ) → replica < 2 * image.callers → i < region_words image.lines → value_at new (region_words image.lines * replica + i) ≡ slice_index (region_of image) i
    value_is replica i few small =
        let region = region_lines image.lines in
        let k = i / 8 in
        let j = i % 8 in
        let root = root_replica_of image.callers image.root in
        let split : 8 * k + j ≡ i = omega arith in
        let below : j < 8 = mod_below i 8 (omega arith) in
        let within : k < region = omega (arith, small, split) in
        let line = region * replica + k in
        let inside : line < region * (2 * image.callers) = omega (arith, replica_within image.callers region replica few, within) in
        let home : line % region ≡ k = mul-add-mod_self_left region replica k ∙ mod-eq_of_lt within in
        let here : region_words image.lines * replica + i ≡ 8 * line + j = omega (arith, mul_assoc 8 region replica, split) in
        let source : 8 * (region * root + k) + j ≡ region_start image + i = omega (arith, mul_assoc 8 region root, split) in
        let root_small : root < 2 * image.callers = mod_below image.root (2 * image.callers) (omega (arith, readable.some)) in
        let there : region_start image + i < image.count = omega (arith, replica_within image.callers (region_words image.lines) root root_small, small, size) in
        ap (value_at new) here
        ∙ done.values line j inside below
        ∙ ap (λ n. value_at old (8 * (region * root + n) + j)) home
        ∙ ap (value_at old) source
        ∙ ap (λ (w : Word). w.value) (word_was (region_start image + i))
        ∙ get_or-map-range_with_len (image_word image.pairs) 0 image.count (region_start image + i) (region_start image + i) 0 there (omega arith)
        ∙ sym (get_or-map-range_with_len (image_word image.pairs) (region_start image) (region_words image.lines) i (region_start image + i) 0 small refl)

    pub holds_region : HoldsRegion image new
    holds_region = record {
      replicas = record {
        some = readable.some;
        few = readable.few;
        enough = readable.enough;
        small = readable.small;
        words = done.long ∙ replicas.words;
        stores = done.lines ∙ replicas.stores;
      };
      values = value_is;
      clean = λ at dirty. subst (λ (w : Word). IsDirtyMark w.mark) (word_was at) (done.clean at dirty);
    }
