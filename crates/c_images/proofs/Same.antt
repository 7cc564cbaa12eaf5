-- Images that the same words say are recovered as one: they have the same numbers, and the same region where they have their size.
use Rattle.std.proofs.Common.{◌≡◌, ◌≢◌, ◌+◌, ◌-◌, ◌*◌, ◌<◌, ◌≤◌, ◌∙◌, inl, inr, ℕ, List, Result, Ok, Err, ap, ap₂, arith, length, refl, subst, sym}
use Rattle.std.proofs.Math.Nat.{mod-lt, mul_comm}
use Rattle.std.proofs.lemmas.List.{ext_get_or}
use Rattle.std.proofs.lemmas.List.FromFn.{get_or-map-range_with_len, length-map-range_with_len}
use Rattle.std.proofs.lemmas.Nat.{mul-add-lt}
use Rattle.std.specs.Prelude.{MatchResult}
use Rattle.cx_base.specs.Codes.{root_place_of, root_replica_of}
use Rattle.cx_base.specs.OldFormat.{OldFormat}
use Rattle.cx_core.specs.declared.entry.Base.{Base}
use Rattle.cx_core.specs.declared.entry.Image.{Image}
use Rattle.cx_core.specs.Recovered.{recovered_base}
use Rattle.cx_core.specs.Region.{region_words}
use Rattle.recovery.specs.Images.{image_size, image_word, region_of, region_start, words_from}
use Rattle.recovery.specs.Recovery.{HasLawfulRegion, HasSize, IsAccepted, IsExactly, IsFaultOf, IsRecovered, IsRegionFault, NumbersWithin, place_in_root, recovered_from}
use Rattle.recovery.specs.declared.recovered_base.ImageFault.{ImageFault}
use Rattle.recovery.specs.declared.recovered_base.ImageFault.TheVariants.{Size, Root, Version, Place, Body, Memory}
use Rattle.c_images.specs.Exact.{AreAnsweredExactly}
use Rattle.c_images.specs.Words.{IsHeaded, IsTakenUp, IsWordsFault, SaysImage, SaysReplicas}
use Rattle.c_images.specs.declared.reader.WordsFault.{WordsFault}
use Rattle.c_images.specs.declared.reader.WordsFault.TheVariants.{Head, Kind, Image as ImageRefused, Numbers}

-- recovery's refusal by a fault
abbrev refusal : ImageFault → Result Base ImageFault
refusal fault = Err fault

-- two refusals that are one have one fault
err_is : (one two : ImageFault) → refusal one ≡ refusal two → one ≡ two
err_is one two same = cc

-- a refusal is no base
not_ok : (fault : ImageFault) (base : Base) → refusal fault ≡ Ok base → ⊥
not_ok fault base same = absurd cc

-- the first check that an image does not pass is the fault that is asked for
asked : {version : ℕ} {lawful : List ℕ → Type 0} {old : OldFormat} {image : Image} {answer : Result Base ImageFault} → IsExactly version lawful old image answer → (fault : ImageFault)
    → IsFaultOf version lawful old image fault → fault ≢ Memory → answer ≡ Err fault
asked exact (Size found) is other = exact.size is.1 ∙ ap (λ n. Err (Size n)) (sym is.0)
asked exact (Root found) is other = exact.root is.1 is.2 ∙ ap (λ n. Err (Root n)) (sym is.0)
asked exact (Version found) is other = exact.format is.0 is.1 is.2.1 ∙ ap (λ n. Err (Version n)) (sym is.2.0)
asked exact (Place root found) is other = exact.at_place is.0 is.1 is.2.2 is.2.3 ∙ ap₂ (λ n m. Err (Place n m)) (sym is.2.0) (sym is.2.1)
asked exact Body is other = exact.body is.0 is.1 is.2.0 is.2.1 is.2.2
asked exact Memory is other = absurd (other refl)

module _ (words : List ℕ) (headed : IsHeaded words) (one_image other_image : Image) (says : SaysImage words one_image) (other : SaysImage words other_image) where
  -- two images that the same words say have the same number of callers
  callers_are : one_image.callers ≡ other_image.callers
  callers_are = says.callers ∙ sym other.callers

  -- two images that the same words say have the same number of lines
  lines_are : one_image.lines ≡ other_image.lines
  lines_are = says.lines ∙ sym other.lines

  -- two images that the same words say have the same root
  root_is : one_image.root ≡ other_image.root
  root_is = says.root ∙ sym other.root

  -- two images that the same words say have the same place in the root
  place_is : place_in_root one_image ≡ place_in_root other_image
  place_is = ap₂ root_place_of callers_are root_is

  -- two images that the same words say have the same number of words
  count_is : one_image.count ≡ other_image.count
  count_is = elim headed.format [
    | inl all ↦ (let one = (says.replicas all).count in let two = (other.replicas all).count in omega (arith, one, two))
    | inr of ↦ (says.one of).count ∙ ap₂ (λ lines callers. length words - 8 + region_words lines * (2 * callers - 1)) lines_are callers_are ∙ sym (other.one of).count
  ]

  -- where one of two images that the same words say has its size, the other has
  size_is : HasSize one_image → HasSize other_image
  size_is size = sym count_is ∙ size ∙ ap₂ image_size callers_are lines_are

  -- where the other of two images that the same words say has its size, the one has
  sym_size : HasSize other_image → HasSize one_image
  sym_size size = count_is ∙ size ∙ sym (ap₂ image_size callers_are lines_are)

  -- in two images that the same words say, the replica that the root names begins at the same address
  start_is : region_start one_image ≡ region_start other_image
  start_is = ap₂ (λ lines replica. region_words lines * replica) lines_are (ap₂ root_replica_of callers_are root_is)

  -- words of format 1 have each word of the region
  from_replicas : HasSize one_image → SaysReplicas words one_image → SaysReplicas words other_image → region_of one_image ≡ region_of other_image
  from_replicas size one two =
      let n = region_words one_image.lines in
      let start = region_start one_image in
      let some : 1 ≤ one_image.callers = (let least = headed.some in let same = says.callers in omega (arith, least, same)) in
      let replica = root_replica_of one_image.callers one_image.root in
      let first : replica < 2 * one_image.callers = mod-lt one_image.root (omega (arith, some)) in
      let here : length (words_from one_image.pairs start n) ≡ n = length-map-range_with_len (image_word one_image.pairs) start n in
      let there : length (words_from other_image.pairs start n) ≡ n = length-map-range_with_len (image_word other_image.pairs) start n in
      ext_get_or 0 (words_from one_image.pairs start n) (words_from other_image.pairs start n) (here ∙ sym there) (λ at below. (
      let inside : at < n = omega (arith, below, here) in
      let within : start + at < one_image.count = (let low = mul-add-lt replica n at (2 * one_image.callers) first inside in let turned = mul_comm n replica in omega (arith, low, turned, size)) in
      let also : start + at < other_image.count = omega (arith, within, count_is) in
      get_or-map-range_with_len (image_word one_image.pairs) start n at (start + at) 0 inside refl
      ∙ one.pairs.words (start + at) within
      ∙ sym (two.pairs.words (start + at) also)
      ∙ sym (get_or-map-range_with_len (image_word other_image.pairs) start n at (start + at) 0 inside refl)))
      ∙ ap₂ (words_from other_image.pairs) start_is (ap region_words lines_are)

  -- images that the same words say have the same region, where they have their size
  region_is : HasSize one_image → region_of one_image ≡ region_of other_image
  region_is size = elim headed.format [
    | inl all ↦ from_replicas size (says.replicas all) (other.replicas all)
    | inr of ↦ (says.one of).region size ∙ sym ((other.one of).region (size_is size))
  ]

  module _ (version : ℕ) (lawful : List ℕ → Type 0) (old : OldFormat) where
    -- where one of two images that the same words say passes all checks, the other does
    pub same_accepted : IsAccepted version lawful old one_image → IsAccepted version lawful old other_image
    same_accepted is = record {
      size = size_is is.size;
      root = subst (λ n. n ≤ 1099511627776) place_is is.root;
      region = subst (λ n. HasLawfulRegion version lawful old n (region_of other_image)) place_is (subst (HasLawfulRegion version lawful old (place_in_root one_image)) (region_is is.size) is.region);
    }

    -- a base that is recovered from one of two images that the same words say is recovered from the other
    pub same_recovered : (base : Base) → IsRecovered version lawful old one_image base → IsRecovered version lawful old other_image base
    same_recovered base is = record { accepted = same_accepted is.accepted; is = is.is ∙ ap₂ (recovered_base old) place_is (region_is is.accepted.size) }

    -- a fault of the region of one of two images that the same words say is a fault of the other's
    same_region_fault : (fault : ImageFault) → HasSize one_image → IsRegionFault version lawful old (place_in_root one_image) (region_of one_image) fault → IsRegionFault version lawful old (place_in_root other_image) (region_of other_image) fault
    same_region_fault fault size is = subst (λ n. IsRegionFault version lawful old n (region_of other_image) fault) place_is (subst (λ region. IsRegionFault version lawful old (place_in_root one_image) region fault) (region_is size) is)

    -- a fault of one of two images that the same words say is a fault of the other
    pub same_fault : (fault : ImageFault) → IsFaultOf version lawful old one_image fault → IsFaultOf version lawful old other_image fault
    same_fault (Size found) is = (is.0 ∙ count_is, λ size. is.1 (sym_size size))
    same_fault (Root found) is = (is.0 ∙ root_is, size_is is.1, λ has. is.2 (subst (λ n. n ≤ 1099511627776) (sym place_is) has))
    same_fault (Version found) is = (size_is is.0, subst (λ n. n ≤ 1099511627776) place_is is.1, same_region_fault (Version found) is.0 is.2)
    same_fault (Place root found) is = (size_is is.0, subst (λ n. n ≤ 1099511627776) place_is is.1, same_region_fault (Place root found) is.0 is.2)
    same_fault Body is = (size_is is.0, subst (λ n. n ≤ 1099511627776) place_is is.1, same_region_fault Body is.0 is.2)
    same_fault Memory is = tt

-- ---- the answer for words is the one that the checks of each image ask for that the words say

module _ (version : ℕ) (lawful : List ℕ → Type 0) (old : OldFormat)
    (exact : (image : Image) (answer : Result Base ImageFault) → MatchResult answer (IsRecovered version lawful old image) (IsFaultOf version lawful old image) → answer ≢ Err Memory → IsExactly version lawful old image answer) where
  -- a refusal by another fault is not want of memory
  no_memory : (fault : ImageFault) → fault ≢ Memory → refusal fault ≢ refusal Memory
  no_memory fault other same = other (err_is fault Memory same)

  -- an image has one fault but for want of memory
  one_fault : (image : Image) (one two : ImageFault) → IsFaultOf version lawful old image one → IsFaultOf version lawful old image two → one ≢ Memory → two ≢ Memory → one ≡ two
  one_fault image one two first second some other = err_is one two (asked (exact image (Err one) first (no_memory one some)) two second other)

  -- an image that passes all checks has no fault but for want of memory
  no_fault : (image : Image) (fault : ImageFault) → IsAccepted version lawful old image → IsFaultOf version lawful old image fault → fault ≢ Memory → ⊥
  no_fault image fault accepted is other = not_ok fault (recovered_from old image) ((exact image (Err fault) is (no_memory fault other)).accepted accepted)

  module _ (words : List ℕ) (headed : IsHeaded words) where
    -- a base that is recovered from an image that words say is recovered from each that they say
    accepted_alone : (base : Base) (image other : Image) → SaysImage words image → IsRecovered version lawful old image base → SaysImage words other → IsRecovered version lawful old other base
    accepted_alone base image other says is also = same_recovered words headed image other says also version lawful old base is

    -- an answer for words, but for want of memory, is the one that the checks of each image ask for that they say
    pub answered_exactly : (answer : Result Base WordsFault) → MatchResult answer (IsTakenUp version lawful old words) (IsWordsFault version lawful old words) → answer ≢ Err (ImageRefused Memory)
        → AreAnsweredExactly version lawful old words answer
    answered_exactly (Ok base) answered some = record {
      refused = λ image fault says is other. absurd (no_fault image fault (accepted_alone base answered.image image answered.says answered.recovered says).accepted is other);
      above = λ image says _ not. absurd (not (subst NumbersWithin (accepted_alone base answered.image image answered.says answered.recovered says).is answered.numbers));
      accepted = λ image says _ _. ap Ok (accepted_alone base answered.image image answered.says answered.recovered says).is;
    }
    answered_exactly (Err (ImageRefused Memory)) answered some = absurd (some refl)
    answered_exactly (Err (ImageRefused fault)) answered some =
        let here = λ (image : Image) (says : SaysImage words image). same_fault words headed answered.image image answered.says says version lawful old fault answered.is in
        let other = λ (same : fault ≡ Memory). some (ap (λ f. Err (ImageRefused f)) same) in
        record {
          refused = λ image found says is also. ap (λ f. Err (ImageRefused f)) (one_fault image fault found (here image says) is other also);
          above = λ image says accepted _. absurd (no_fault image fault accepted (here image says) other);
          accepted = λ image says accepted _. absurd (no_fault image fault accepted (here image says) other);
        }
    answered_exactly (Err Numbers) answered some = record {
      refused = λ image fault says is other. absurd (no_fault image fault (accepted_alone answered.base answered.image image answered.says answered.recovered says).accepted is other);
      above = λ image says _ _. refl;
      accepted = λ image says _ within. absurd (answered.above (subst NumbersWithin (sym (accepted_alone answered.base answered.image image answered.says answered.recovered says).is) within));
    }
    answered_exactly (Err Head) answered some = absurd answered
    answered_exactly (Err (Kind found)) answered some = absurd answered
