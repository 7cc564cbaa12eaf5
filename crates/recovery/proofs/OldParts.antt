-- The version that the object part of a region begins with.
use Rattle.std.proofs.Common.{◌≡◌, ◌-◌, ◌∙◌, ℕ, Bool, true, false, cond, List, ◌++◌, Option, None, Some, IfSome, ap, arith, drop, eqb-true, length, nat_eq, slice_index, take}
use Rattle.std.proofs.lemmas.Bool.{false≢true}
use Rattle.std.proofs.lemmas.List.{append-nil, drop_all, length-drop}
use Rattle.std.specs.Option.{option_eq}
use borrow.Rule.Slice.PartMut.{put_mid}
use Rattle.cx_base.specs.OldFormat.{CanUpgrade, OldFormat}
use Rattle.cx_core.specs.Recovered.{is_old, upgraded_region, version_of}
use Rattle.cx_core.specs.Region.{object_part}
use Rattle.recovery.proofs.Slots.{part_at}

where_some : (P : Type 0) (version : Option ℕ) → P → IfSome version (λ _. P)
where_some P None is = tt
where_some P (Some n) is = is

pub can_upgrade : (old : OldFormat) (image : List ℕ) → old.lawful image → CanUpgrade old image
can_upgrade old image is = where_some (old.lawful image) old.version is

same_number : (version : Option ℕ) (found : ℕ) → option_eq nat_eq version (Some found) ≡ true → version ≡ Some found
same_number None found same = absurd (false≢true same)
same_number (Some n) found same = ap Some (eqb-true n found same)

-- the word behind the head is the version
asked : (old : OldFormat) (words : List ℕ) (b : Bool) → option_eq nat_eq old.version (Some (slice_index words 1168)) ≡ b → is_old old words ≡ b
asked old words b is = ap (λ (n : ℕ). option_eq nat_eq old.version (Some n)) (part_at words 0) ∙ is

pub version_is : (old : OldFormat) (words : List ℕ) → option_eq nat_eq old.version (Some (slice_index words 1168)) ≡ true → old.version ≡ Some (version_of words)
version_is old words is = same_number old.version (version_of words) (asked old words true is)

pub named_old : (old : OldFormat) (words : List ℕ) → option_eq nat_eq old.version (Some (slice_index words 1168)) ≡ true
    → upgraded_region old words ≡ take 1168 words ++ old.upgraded (object_part words)
named_old old words is = ap (λ (b : Bool). cond b (take 1168 words ++ old.upgraded (object_part words)) words) (asked old words true is)

pub named_other : (old : OldFormat) (words : List ℕ) → option_eq nat_eq old.version (Some (slice_index words 1168)) ≡ false → upgraded_region old words ≡ words
named_other old words is = ap (λ (b : Bool). cond b (take 1168 words ++ old.upgraded (object_part words)) words) (asked old words false is)

-- all words behind the head are put anew
pub put_behind : (words part : List ℕ) → put_mid 1168 (length words - 1168) words part ≡ take 1168 words ++ part
put_behind words part =
    ap (λ (ws : List ℕ). take 1168 words ++ (part ++ ws)) (drop_all (length words - 1168) (drop 1168 words) (omega (arith, length-drop 1168 words)))
    ∙ ap (λ (ws : List ℕ). take 1168 words ++ ws) (append-nil part)
