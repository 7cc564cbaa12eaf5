-- An image whose root names a lawful base is refused by no check, and that base is recovered as it is.
use Rattle.std.proofs.Common.{◌≡◌, ◌*◌, ◌↔◌, ◌∙◌, ℕ, List, Result, Ok, Err, MatchResult, ap, inl, refl, sym, slice_index}
use Rattle.cx_base.specs.Memory.{Words}
use Rattle.cx_base.specs.OldFormat.{OldFormat, TakesOver, no_old_format}
use Rattle.cx_core.specs.declared.entry.Base.{Base}
use Rattle.cx_core.specs.declared.entry.Image.{Image}
use Rattle.cx_core.specs.Base.{LawfulBase}
use Rattle.cx_core.specs.Recovered.{version_of}
use Rattle.cx_core.specs.Region.{object_part}
use Rattle.cx_core.proofs.Upgrading.{own_stays}
use Rattle.recovery.specs.declared.recovered_base.ImageFault.{ImageFault}
use Rattle.recovery.specs.declared.recovered_base.ImageFault.TheVariants.{Size, Root, Version, Place, Body, Memory}
use Rattle.recovery.specs.Images.{region_of}
use Rattle.recovery.specs.Recovery.{HasSize, IsAccepted, IsFaultOf, IsRecovered, named_base, place_in_root, recovered_from}

-- an image that is accepted has no fault
no_fault : (version : ℕ) (lawful : List ℕ → Type 0) (old : OldFormat) (image : Image) (fault : ImageFault) → IsAccepted version lawful old image → IsFaultOf version lawful old image fault → fault ≡ Memory
no_fault version lawful old image (Size found) ok is = absurd (is.1 ok.size)
no_fault version lawful old image (Root found) ok is = absurd (is.2 ok.root)
no_fault version lawful old image (Version found) ok is = absurd (is.2.1 ok.region.format)
no_fault version lawful old image (Place root found) ok is = absurd (is.2.3 ok.region.at_place)
no_fault version lawful old image Body ok is = absurd (is.2.2 ok.region.body)
no_fault version lawful old image Memory ok is = refl

module _ (lines : ℕ) (lawful : List ℕ → Type 0) (version : ℕ) (shape : (words : List ℕ) → lawful words → Words (8 * lines) words × (slice_index words 0 ≡ version))
    (old : OldFormat) (takes : TakesOver lines version lawful old) (image : Image) (size : HasSize image) (base : LawfulBase lines lawful (named_base image)) where
  -- the object part of an image that is accepted is of the object's own version
  own : version_of (region_of image) ≡ version
  own = (shape (object_part (region_of image)) base.object).1

  as_it_is : recovered_from old image ≡ named_base image
  as_it_is = ap (λ (ws : List ℕ). record { place = place_in_root image; words = ws }) (own_stays lines version lawful old takes shape (region_of image) own)

  accepted : (any : OldFormat) → IsAccepted version lawful any image
  accepted any = record {
    size = size;
    root = base.place_within;
    region = record { format = inl own; at_place = base.at_place; body = record { results = base.results; object = inl base.object } };
  }

  -- what recovery answers
  pub base_named : (answer : Result Base ImageFault) → MatchResult answer (IsRecovered version lawful old image) (IsFaultOf version lawful old image) →
      MatchResult answer (λ found. found ≡ named_base image) (λ fault. fault ≡ Memory)
  base_named (Ok found) is = is.is ∙ as_it_is
  base_named (Err fault) is = no_fault version lawful old image fault (accepted old) is

  pub any_format : (found : Base) → IsRecovered version lawful old image found ↔ IsRecovered version lawful no_old_format image found
  any_format found = (λ is. record { accepted = accepted no_old_format; is = is.is ∙ as_it_is }, λ is. record { accepted = accepted old; is = is.is ∙ sym as_it_is })
