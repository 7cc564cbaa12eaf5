-- A base that is taken up, or is not, with its replies looked at.
use Rattle.std.proofs.Common.{inl, inr, ℕ, ℤ, List, Result, Ok, Err, refl, sym, subst}
use Rattle.std.specs.Prelude.{MatchResult}
use Rattle.cx_core.specs.declared.entry.Base.{Base}
use Rattle.recovery.specs.declared.recovered_base.ImageFault.TheVariants.{Body, Memory}
use Rattle.c_images.specs.declared.reader.WordsFault.{WordsFault}
use Rattle.c_images.specs.declared.reader.WordsFault.TheVariants.{Image}
use Rattle.githoppu_c.specs.Objects.{IsBaseWith, IsFaultOr, IsNoneWith, IsSameWith}
use Rattle.githoppu_c.specs.Recoveries.{IsRefusal}

-- a base that `takes` allows, given back only where its results keep replies, is one of `IsBaseWith`, and a refusal is one of `IsFaultOr`
pub taken : (is : List ℕ → Type 0) (takes : Base → Type 0) (faulty : WordsFault → Type 0) (base : Base) (answer : Result Base ℤ) → takes base → faulty (Image Memory)
    → MatchResult answer (IsSameWith is base) (IsNoneWith is base) → MatchResult answer (IsBaseWith is takes) (IsRefusal (IsFaultOr is takes faulty))
taken is takes faulty base (Ok same) took memory is_same = subst (IsBaseWith is takes) (sym is_same.0) (took, is_same.1)
taken is takes faulty base (Err code) took memory (inl not_kept) = (Image Body, inr (refl, (base, took, not_kept.1)), not_kept.0)
taken is takes faulty base (Err code) took memory (inr no_memory) = (Image Memory, inl memory, no_memory)
