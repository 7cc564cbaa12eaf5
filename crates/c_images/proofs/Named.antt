-- What is written of a base says an image whose root names that base.
use Rattle.std.proofs.Common.{◌≡◌, ◌+◌, ◌-◌, ◌*◌, ◌≤◌, ◌∙◌, ℕ, List, ap, ap₂, arith, drop, length, slice_index, sym}
use Rattle.std.proofs.Math.Nat.{mul-add}
use Rattle.std.proofs.lemmas.List.{ext_get_or, get_or-drop, length-drop}
use Rattle.cx_base.specs.Codes.{root_place_of}
use Rattle.cx_core.specs.declared.entry.Image.{Image}
use Rattle.cx_core.specs.Region.{region_words}
use Rattle.cx_core.proofs.RootCodes.{code_place}
use Rattle.recovery.specs.Images.{region_of}
use Rattle.recovery.specs.Recovery.{HasSize, named_base, place_in_root}
use Rattle.c_images.specs.Taken.{IsWrittenOf, base_at}
use Rattle.c_images.specs.Words.{SaysImage, SaysRegion}

module _ (kind callers lines place : ℕ) (region words : List ℕ) (some : 1 ≤ callers) (long : length region ≡ region_words lines) (written : IsWrittenOf kind callers lines place region words)
    (image : Image) (says : SaysImage words image) where
  -- the image has as many callers as were written
  callers_are : image.callers ≡ callers
  callers_are = says.callers ∙ written.head.callers_are

  -- the image has as many lines as were written
  lines_are : image.lines ≡ lines
  lines_are = says.lines ∙ written.head.lines_are

  -- the words say one region, since their format is 2
  one : SaysRegion words image
  one = says.one written.head.format_is

  -- the image that words of one region say has its size
  pub has_size : HasSize image
  has_size =
      let n = region_words image.lines in
      let others = 2 * image.callers - 1 in
      let all : 2 * image.callers ≡ 1 + others = omega (arith, some, callers_are) in
      let parts : n * (2 * image.callers) ≡ n * 1 + n * others = ap (λ m. n * m) all ∙ mul-add n 1 others in
      let here : length words - 8 ≡ n = (let wide = written.long in let same = ap region_words lines_are in omega (arith, wide, same)) in
      let count = one.count in
      omega (arith, count, parts, here)

  -- the image's root has the place that was written
  place_is : place_in_root image ≡ place
  place_is = ap₂ root_place_of callers_are (says.root ∙ written.head.root_is) ∙ code_place callers place 0 (omega (arith, some))

  -- the region that the image's root names is the one that was written
  region_is : region_of image ≡ region
  region_is =
      let n = region_words lines in
      let here : length (drop 8 words) ≡ n = (let wide = written.long in let cut = length-drop 8 words in omega (arith, wide, cut)) in
      one.region has_size
      ∙ ext_get_or 0 (drop 8 words) region (here ∙ sym long) (λ at below. (
      let behind : 8 + at ≡ at + 8 = omega arith in
      get_or-drop 8 words at 0 ∙ ap (slice_index words) behind ∙ written.each at (omega (arith, below, here))))

  -- the base that the root of that image names is the region at its place
  pub named : named_base image ≡ base_at place region
  named = ap₂ base_at place_is region_is
