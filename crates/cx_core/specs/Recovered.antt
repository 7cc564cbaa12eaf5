-- What is recovered from the region that an image's root names.
use Rattle.std.specs.Prelude.{◌++◌, ℕ, Bool, List, Some, nat_eq, slice_index, take, if◌then◌else◌}
use Rattle.std.specs.Option.{option_eq}
use Rattle.cx_base.specs.OldFormat.{OldFormat}
use Rattle.cx_core.specs.declared.entry.Base.{Base}
use Rattle.cx_core.specs.Region.{object_part}

-- the first word of a region's object part
abbrev pub version_of : List ℕ → ℕ
version_of region = slice_index (object_part region) 0

-- whether it is the old version
abbrev pub is_old : OldFormat → List ℕ → Bool
is_old old region = option_eq nat_eq old.version (Some (version_of region))

-- a region whose object part is upgraded where it begins with the old version
abbrev pub upgraded_region : OldFormat → List ℕ → List ℕ
upgraded_region old region = if is_old old region then take 1168 region ++ old.upgraded (object_part region) else region

-- what is recovered from a region at a place: the region at that place, its object part upgraded where it begins with the object's old version
abbrev pub recovered_base : OldFormat → ℕ → List ℕ → Base
recovered_base old place region = record { place = place; words = upgraded_region old region }
