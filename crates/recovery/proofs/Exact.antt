-- An answer of recovery is the one that the checks of the image ask for.
use Rattle.std.proofs.Common.{◌≢◌, ℕ, List, Result, Ok, Err, MatchResult, refl, ap, ◌∙◌}
use Rattle.cx_base.specs.OldFormat.{OldFormat}
use Rattle.cx_core.specs.declared.entry.Base.{Base}
use Rattle.cx_core.specs.declared.entry.Image.{Image}
use Rattle.recovery.specs.declared.recovered_base.ImageFault.{ImageFault}
use Rattle.recovery.specs.declared.recovered_base.ImageFault.TheVariants.{Size, Root, Version, Place, Body, Memory}
use Rattle.recovery.specs.Recovery.{IsExactly, IsFaultOf, IsRecovered, place_in_root}

pub exactly : (version : ℕ) (lawful : List ℕ → Type 0) (old : OldFormat) (image : Image) (answer : Result Base ImageFault) →
    MatchResult answer (IsRecovered version lawful old image) (IsFaultOf version lawful old image) → answer ≢ Err Memory → IsExactly version lawful old image answer
exactly version lawful old image (Ok base) is some = record {
  size = λ no. absurd (no is.accepted.size);
  root = λ _ no. absurd (no is.accepted.root);
  format = λ _ _ no. absurd (no is.accepted.region.format);
  at_place = λ _ _ _ no. absurd (no is.accepted.region.at_place);
  body = λ _ _ _ _ no. absurd (no is.accepted.region.body);
  accepted = λ _. ap Ok is.is;
}
exactly version lawful old image (Err (Size found)) is some = record {
  size = λ _. ap (λ n. Err (Size n)) is.0;
  root = λ has. absurd (is.1 has);
  format = λ has. absurd (is.1 has);
  at_place = λ has. absurd (is.1 has);
  body = λ has. absurd (is.1 has);
  accepted = λ ok. absurd (is.1 ok.size);
}
exactly version lawful old image (Err (Root found)) is some = record {
  size = λ no. absurd (no is.1);
  root = λ _ _. ap (λ n. Err (Root n)) is.0;
  format = λ _ has. absurd (is.2 has);
  at_place = λ _ has. absurd (is.2 has);
  body = λ _ has. absurd (is.2 has);
  accepted = λ ok. absurd (is.2 ok.root);
}
exactly version lawful old image (Err (Version found)) is some = record {
  size = λ no. absurd (no is.0);
  root = λ _ no. absurd (no is.1);
  format = λ _ _ _. ap (λ n. Err (Version n)) is.2.0;
  at_place = λ _ _ has. absurd (is.2.1 has);
  body = λ _ _ has. absurd (is.2.1 has);
  accepted = λ ok. absurd (is.2.1 ok.region.format);
}
exactly version lawful old image (Err (Place root found)) is some = record {
  size = λ no. absurd (no is.0);
  root = λ _ no. absurd (no is.1);
  format = λ _ _ no. absurd (no is.2.2);
  at_place = λ _ _ _ _. ap (λ n. Err (Place n found)) is.2.0 ∙ ap (λ n. Err (Place (place_in_root image) n)) is.2.1;
  body = λ _ _ _ has. absurd (is.2.3 has);
  accepted = λ ok. absurd (is.2.3 ok.region.at_place);
}
exactly version lawful old image (Err Body) is some = record {
  size = λ no. absurd (no is.0);
  root = λ _ no. absurd (no is.1);
  format = λ _ _ no. absurd (no is.2.0);
  at_place = λ _ _ _ no. absurd (no is.2.1);
  body = λ _ _ _ _ _. refl;
  accepted = λ ok. absurd (is.2.2 ok.region.body);
}
exactly version lawful old image (Err Memory) is some = absurd (some refl)
