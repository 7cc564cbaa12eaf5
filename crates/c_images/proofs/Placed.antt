-- The words after a head, put at an address of an image.
use Rattle.std.proofs.Common.{◌≡◌, ◌+◌, ◌-◌, ◌*◌, ◌<◌, ◌≤◌, ◌++◌, ◌∙◌, ℕ, List, [], ◌∷◌, ap, ap₂, arith, drop, if◌then◌else◌, length, refl, slice_index, subst, sym}
use Rattle.std.specs.List.{All}
use Rattle.std.proofs.Math.Nat.{mod-lt, mul-add, mul-le-mul_left}
use Rattle.std.proofs.lemmas.Bool.{le-ltb, lt-ltb}
use Rattle.std.proofs.lemmas.List.{ext_get_or, get_or-drop, length-drop}
use Rattle.std.proofs.lemmas.List.Elements.{All-nil, All-weaker}
use Rattle.std.proofs.lemmas.List.FromFn.{get_or-map-range_with_len, length-map-range_with_len}
use Rattle.cx_base.specs.Codes.{root_replica_of}
use Rattle.cx_core.specs.declared.entry.Image.{Image}
use Rattle.cx_core.specs.Region.{region_words}
use Rattle.recovery.specs.Images.{Gives, image_word, region_of, region_start, words_from}
use Rattle.recovery.specs.Recovery.{HasSize}
use Rattle.recovery.proofs.Pairs.{gives_word, gives_zero}
use Rattle.c_images.specs.Words.{SaysRegion, word_from}

module _ (start : ℕ) (words : List ℕ) where
  -- below the address of the first word the words put are 0
  before : (at : ℕ) → at < start → word_from start words at ≡ 0
  before at below = ap (λ b. if b then 0 else slice_index words (at - start + 8)) (lt-ltb at start below)

  -- from the address of the first word on the words put are those after the head
  there : (at : ℕ) → word_from start words (start + at) ≡ slice_index words (at + 8)
  there at =
      ap (λ b. if b then 0 else slice_index words (start + at - start + 8)) (le-ltb (start + at) start (omega arith))
      ∙ ap (slice_index words) (omega arith)

  -- no word is put yet
  pub places_none : Gives (word_from start words) (start + 0) []
  places_none = record {
    rising = tt;
    below = All-nil (λ (p : ℕ × ℕ). p.0 < start + 0);
    some = All-nil (λ (p : ℕ × ℕ). 0 < p.1);
    words = λ at small. sym (before at (omega (arith, small)));
  }

  module _ (at : ℕ) (pairs : List (ℕ × ℕ)) (gives : Gives (word_from start words) (start + at) pairs) where
    -- words that are put up to `start + at + 1` are put up to `start + (at + 1)`
    next : (new : List (ℕ × ℕ)) → Gives (word_from start words) (start + at + 1) new → Gives (word_from start words) (start + (at + 1)) new
    next new of = subst (λ n. Gives (word_from start words) n new) (omega arith) of

    -- one word more that is not 0 is put by a pair
    pub places_word : (new : List (ℕ × ℕ)) → (slice_index words (at + 8) ≡ 0 → ⊥) → new ≡ pairs ++ (start + at, slice_index words (at + 8)) ∷ [] → Gives (word_from start words) (start + (at + 1)) new
    places_word new some pushed = next new (gives_word (word_from start words) (start + at) pairs gives (slice_index words (at + 8)) new (sym (there at)) some pushed)

    -- one word more that is 0 is put by no pair
    pub places_zero : (new : List (ℕ × ℕ)) → slice_index words (at + 8) ≡ 0 → new ≡ pairs → Gives (word_from start words) (start + (at + 1)) new
    places_zero new none same = next new (gives_zero (word_from start words) (start + at) pairs gives (slice_index words (at + 8)) new (sym (there at)) none same)

-- pairs of words that are put at `region * replica` are put where the replica begins that the image's root names, where both numbers are the image's
pub at_replica : (words : List ℕ) (image : Image) (region replica : ℕ) (pairs : List (ℕ × ℕ)) → region ≡ region_words image.lines → replica ≡ root_replica_of image.callers image.root → image.pairs ≡ pairs
    → Gives (word_from (region * replica) words) (region * replica + (length words - 8)) pairs → Gives (word_from (region_start image) words) (region_start image + (length words - 8)) image.pairs
at_replica words image region replica pairs r n p gives =
    subst (λ (ps : List (ℕ × ℕ)). Gives (word_from (region_start image) words) (region_start image + (length words - 8)) ps) (sym p)
    (subst (λ start. Gives (word_from start words) (start + (length words - 8)) pairs) (ap₂ (λ a b. a * b) r n) gives)

-- pairs that put the words after a head where the replica begins that the root names give that replica these words
module _ (words : List ℕ) (image : Image) (some : 1 ≤ image.callers) (count : image.count ≡ length words - 8 + region_words image.lines * (2 * image.callers - 1))
    (gives : Gives (word_from (region_start image) words) (region_start image + (length words - 8)) image.pairs) where
  -- how many replicas there are beside the one that the root names
  abbrev others : ℕ
  others = 2 * image.callers - 1

  -- no address is above those of the image
  pub below_count : All (λ (p : ℕ × ℕ). p.0 < image.count) image.pairs
  below_count =
      let first : root_replica_of image.callers image.root < 2 * image.callers = mod-lt image.root (omega (arith, some)) in
      let up : region_start image ≤ region_words image.lines * others = mul-le-mul_left (region_words image.lines) (omega (arith, first)) in
      All-weaker (λ (p : ℕ × ℕ). p.0 < region_start image + (length words - 8)) (λ (p : ℕ × ℕ). p.0 < image.count) (λ p small. omega (arith, small, up, count)) image.pairs gives.below

  -- where the image has its size, the words after the head are as many as a region has
  as_long : HasSize image → length words - 8 ≡ region_words image.lines
  as_long size =
      let n = region_words image.lines in
      let all : 2 * image.callers ≡ others + 1 = omega (arith, some) in
      let parts : n * (2 * image.callers) ≡ n * others + n * 1 = ap (λ m. n * m) all ∙ mul-add n others 1 in
      omega (arith, size, count, parts)

  -- pairs for the words after a head of format 2, put where the replica begins that the root names, say the image of these words
  pub says_region : SaysRegion words image
  says_region = record {
    count = count;
    region = λ size. (
        let n = region_words image.lines in
        let long = as_long size in
        let read : length (words_from image.pairs (region_start image) n) ≡ n = length-map-range_with_len (image_word image.pairs) (region_start image) n in
        ext_get_or 0 (region_of image) (drop 8 words) (read ∙ sym long ∙ sym (length-drop 8 words)) (λ at below. (
        let inside : at < n = omega (arith, below, read) in
        let behind : at + 8 ≡ 8 + at = omega arith in
        get_or-map-range_with_len (image_word image.pairs) (region_start image) n at (region_start image + at) 0 inside refl
        ∙ gives.words (region_start image + at) (omega (arith, inside, long))
        ∙ there (region_start image) words at
        ∙ ap (slice_index words) behind
        ∙ sym (get_or-drop 8 words at 0))));
  }
