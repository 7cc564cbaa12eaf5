-- What is recovered from an image, and the checks that it has to pass.
use Rattle.std.specs.Prelude.{◌≡◌, ◌≢◌, ◌^◌, ◌<◌, ◌≤◌, ◌⊎◌, ℕ, List, Result, Ok, Err, Some, length, replicate}
use Rattle.cx_base.specs.Codes.{root_place_of}
use Rattle.cx_base.specs.OldFormat.{OldFormat}
use Rattle.cx_core.specs.declared.entry.Base.{Base}
use Rattle.cx_core.specs.declared.entry.Image.{Image}
use Rattle.cx_core.specs.Recovered.{recovered_base, version_of}
use Rattle.cx_core.specs.Region.{LawfulResults, object_part, place_of, slot_number, slot_reply}
use Rattle.recovery.specs.declared.recovered_base.ImageFault.{ImageFault}
use Rattle.recovery.specs.declared.recovered_base.ImageFault.TheVariants.{Size, Root, Version, Place, Body, Memory}
use Rattle.recovery.specs.Images.{image_size, region_of}

-- the place that the root names
abbrev pub place_in_root : Image → ℕ
place_in_root image = root_place_of image.callers image.root

-- the checks of an image: as many words as all replicas have, and a root's place of at most 2^40
abbrev pub HasSize : Image → Type 0
HasSize image = image.count ≡ image_size image.callers image.lines

abbrev pub HasRootPlace : Image → Type 0
HasRootPlace image = place_in_root image ≤ 2 ^ 40

-- a region's words have a slot of this caller
pub record HasSlot (caller : ℕ) (words : List ℕ) : Type 0 where
  pub caller_is : caller < 8
  pub long : 1168 ≤ length words

-- a caller's slot without a number has no reply
abbrev pub IsLawfulSlot : ℕ → List ℕ → Type 0
IsLawfulSlot caller region = slot_number caller region ≡ 0 → slot_reply caller region ≡ replicate 144 0

-- a region's object part begins with the object's version, or with the old one
abbrev pub IsKnownVersion : ℕ → OldFormat → List ℕ → Type 0
IsKnownVersion version old region = (version_of region ≡ version) ⊎ (old.version ≡ Some (version_of region))

-- the checks of the region that the root names: a known version, the root's place as place word, and lawful results with an object part
-- that is lawful for its version
pub record HasBody (lawful : List ℕ → Type 0) (old : OldFormat) (region : List ℕ) : Type 0 where
  pub results : LawfulResults region
  pub object : lawful (object_part region) ⊎ old.lawful (object_part region)

pub record HasLawfulRegion (version : ℕ) (lawful : List ℕ → Type 0) (old : OldFormat) (place : ℕ) (region : List ℕ) : Type 0 where
  pub format : IsKnownVersion version old region
  pub at_place : place_of region ≡ place
  pub body : HasBody lawful old region

-- an image passes all checks for an object with this version, these lawful images and this old format
pub record IsAccepted (version : ℕ) (lawful : List ℕ → Type 0) (old : OldFormat) (image : Image) : Type 0 where
  pub size : HasSize image
  pub root : HasRootPlace image
  pub region : HasLawfulRegion version lawful old (place_in_root image) (region_of image)

-- the base that the root names: its region as it is, at the root's place
abbrev pub named_base : Image → Base
named_base image = record { place = place_in_root image; words = region_of image }

-- What is recovered: the region that the root names, at the root's place, with its object part upgraded where it begins with the old
-- version. So the place and the results are those of the image.
abbrev pub recovered_from : OldFormat → Image → Base
recovered_from old image = recovered_base old (place_in_root image) (region_of image)

pub record IsRecovered (version : ℕ) (lawful : List ℕ → Type 0) (old : OldFormat) (image : Image) (base : Base) : Type 0 where
  pub accepted : IsAccepted version lawful old image
  pub is : base ≡ recovered_from old image

-- the fault of a region: the first check that it does not pass, with what was found there. Running out of memory has no cause.
abbrev pub IsRegionFault : ℕ → (List ℕ → Type 0) → OldFormat → ℕ → List ℕ → ImageFault → Type 0
IsRegionFault version lawful old place region (Size found) = ⊥
IsRegionFault version lawful old place region (Root found) = ⊥
IsRegionFault version lawful old place region (Version found) = (found ≡ version_of region) × (¬ IsKnownVersion version old region)
IsRegionFault version lawful old place region (Place root found) =
    (root ≡ place) × (found ≡ place_of region) × IsKnownVersion version old region × (place_of region ≢ place)
IsRegionFault version lawful old place region Body = IsKnownVersion version old region × (place_of region ≡ place) × (¬ HasBody lawful old region)
IsRegionFault version lawful old place region Memory = Unit {0}

-- the fault of an image: the first check that it does not pass
abbrev pub IsFaultOf : ℕ → (List ℕ → Type 0) → OldFormat → Image → ImageFault → Type 0
IsFaultOf version lawful old image (Size found) = (found ≡ image.count) × (¬ HasSize image)
IsFaultOf version lawful old image (Root found) = (found ≡ image.root) × HasSize image × (¬ HasRootPlace image)
IsFaultOf version lawful old image Memory = Unit {0}
IsFaultOf version lawful old image fault =
    HasSize image × HasRootPlace image × IsRegionFault version lawful old (place_in_root image) (region_of image) fault

-- no number of a result slot is above the place, as in each base that a service leaves
abbrev pub NumbersWithin : Base → Type 0
NumbersWithin base = (caller : ℕ) → caller < 8 → slot_number caller base.words ≤ base.place

-- each check that is the first to fail is answered by its refusal, and an image that passes all by the base
pub record IsExactly (version : ℕ) (lawful : List ℕ → Type 0) (old : OldFormat) (image : Image) (answer : Result Base ImageFault) : Type 0 where
  pub size : ¬ HasSize image → answer ≡ Err (Size image.count)
  pub root : HasSize image → ¬ HasRootPlace image → answer ≡ Err (Root image.root)
  pub format : HasSize image → HasRootPlace image → ¬ IsKnownVersion version old (region_of image) → answer ≡ Err (Version (version_of (region_of image)))
  pub at_place : HasSize image → HasRootPlace image → IsKnownVersion version old (region_of image) → place_of (region_of image) ≢ place_in_root image →
      answer ≡ Err (Place (place_in_root image) (place_of (region_of image)))
  pub body : HasSize image → HasRootPlace image → IsKnownVersion version old (region_of image) → place_of (region_of image) ≡ place_in_root image →
      ¬ HasBody lawful old (region_of image) → answer ≡ Err Body
  pub accepted : IsAccepted version lawful old image → answer ≡ Ok (recovered_from old image)
