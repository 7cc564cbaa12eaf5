-- An answer that is right for the object of the kind that the words name is right for the words.
use Rattle.std.proofs.Common.{inr, ℤ, List, Result, Ok, Err, ℕ}
use Rattle.std.specs.Prelude.{MatchResult}
use Rattle.cx_core.specs.declared.entry.Base.{Base}
use Rattle.c_images.specs.Words.{IsHeaded, object_kind_in}
use Rattle.c_images.specs.declared.reader.WordsFault.{WordsFault}
use Rattle.githoppu_c.specs.Outcomes.{IsBaseIn, IsBaseOfKind, IsFaultOfKind, RefusesBase}
use Rattle.githoppu_c.specs.Recoveries.{IsRefusal}

-- An answer that is a base of which `taken` holds, or the status for a fault of which `faulty` holds, is right for `words`: where both belong to the
-- kind of object that the words name.
pub base_for_kind : (words : List ℕ) (taken : Base → Type 0) (faulty : WordsFault → Type 0) (answer : Result Base ℤ) → IsHeaded words → ((b : Base) → taken b → IsBaseOfKind (object_kind_in words) words b)
    → ((f : WordsFault) → faulty f → IsFaultOfKind (object_kind_in words) words f) → MatchResult answer taken (IsRefusal faulty) → MatchResult answer (IsBaseIn words) (RefusesBase words)
base_for_kind words taken faulty (Ok base) headed goes fails is_taken = (headed, goes base is_taken)
base_for_kind words taken faulty (Err code) headed goes fails refused = (refused.0, inr (headed, fails refused.0 refused.1), refused.2)
