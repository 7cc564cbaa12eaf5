-- What is written is what a loss of power leaves, and is taken up.
use Rattle.std.proofs.Common.{◌≡◌, ◌<◌, ◌≤◌, ◌∙◌, ℕ, List, Result, Ok, Err, ap, sym, subst, refl, arith, length}
use Rattle.std.specs.Prelude.{MatchResult}
use Rattle.cx_base.specs.OldFormat.{OldFormat}
use Rattle.cx_core.specs.declared.entry.Base.{Base}
use Rattle.cx_core.specs.declared.entry.Image.{Image}
use Rattle.cx_table.specs.declared.remains.Remains.{Remains}
use Rattle.recovery.specs.Crashes.{IsLeftOf}
use Rattle.recovery.specs.Images.{image_size}
use Rattle.recovery.specs.Recovery.{IsFaultOf, IsRecovered, NumbersWithin}
use Rattle.recovery.specs.declared.recovered_base.ImageFault.{ImageFault}
use Rattle.recovery.specs.declared.recovered_base.ImageFault.TheVariants.{Memory}
use Rattle.c_images.specs.Words.{HasHead, IsFormat, IsHeaded, IsKind, IsTakenUp, IsWordsFault, AreRemainsWritten, SaysImage, object_kind_in}
use Rattle.c_images.specs.declared.reader.WordsFault.{WordsFault}
use Rattle.c_images.specs.declared.reader.WordsFault.TheVariants.{Head, Kind, Image as ImageRefused, Numbers}

-- words with a head whose numbers are within the limits
pub headed : (format kind callers lines root : ℕ) (words : List ℕ) → HasHead format kind callers lines root words → IsFormat format → IsKind kind → 8 ≤ length words → 1 ≤ callers → callers ≤ 8 → 64 ≤ lines → lines ≤ 16384
    → IsHeaded words × (object_kind_in words ≡ kind)
headed format kind callers lines root words has of known enough some few least most = (
  record {
    enough = enough;
    name = has.name;
    format = subst IsFormat (sym has.format_is) of;
    kind = subst IsKind (sym has.kind_is) known;
    zeros = has.zeros;
    some = subst (λ n. 1 ≤ n) (sym has.callers_are) some;
    few = subst (λ n. n ≤ 8) (sym has.callers_are) few;
    least = subst (λ n. 64 ≤ n) (sym has.lines_are) least;
    most = subst (λ n. n ≤ 16384) (sym has.lines_are) most;
  },
  has.kind_is,
)

-- the image that written words say is what a crash leaves of the closed service, by the choice that they were written by
pub left_of : (kind choice : ℕ) (r : Remains) (words : List ℕ) (image : Image) → AreRemainsWritten kind r choice words → SaysImage words image → IsLeftOf r choice image
left_of kind choice r words image is says =
    let all = says.replicas is.head.format_is in
    let count : image.count ≡ image_size r.callers r.lines = (let long = is.left.long in let said = all.count in omega (arith, long, said)) in
    record {
      callers = says.callers ∙ is.head.callers_are;
      lines = says.lines ∙ is.head.lines_are;
      count = count;
      root = says.root ∙ is.head.root_is;
      pairs = record {
        rising = all.pairs.rising;
        below = all.pairs.below;
        some = all.pairs.some;
        words = λ at small. all.pairs.words at small ∙ is.left.each at (subst (λ n. at < n) count small);
      };
    }

-- what recovery gives is taken up where its numbers are within the place, and refused where they are not
pub within : (version : ℕ) (lawful : List ℕ → Type 0) (old : OldFormat) (words : List ℕ) (image : Image) (base : Base) (answer : Result Base WordsFault) → SaysImage words image → IsRecovered version lawful old image base
    → MatchResult answer (λ same. (same ≡ base) × NumbersWithin base) (λ fault. (fault ≡ Numbers) × (¬ NumbersWithin base))
    → MatchResult answer (IsTakenUp version lawful old words) (IsWordsFault version lawful old words)
within version lawful old words image base (Ok same) says is checked = subst (IsTakenUp version lawful old words) (sym checked.0) (record { image = image; says = says; recovered = is; numbers = checked.1 })
within version lawful old words image base (Err fault) says is checked = subst (IsWordsFault version lawful old words) (sym checked.0) (record { image = image; says = says; base = base; recovered = is; above = checked.1 })

-- Where recovery refuses no image that these words say but for want of memory, and what it gives is kept and has numbers within its place, so it is with the words
-- themselves.
pub taken_up : (version : ℕ) (lawful : List ℕ → Type 0) (old : OldFormat) (words : List ℕ) (kept : Base → Type 0)
    → ((image : Image) → SaysImage words image → (answer : Result Base ImageFault) → MatchResult answer (IsRecovered version lawful old image) (IsFaultOf version lawful old image) → MatchResult answer kept (λ fault. fault ≡ Memory))
    → ((base : Base) → kept base → NumbersWithin base)
    → (answer : Result Base WordsFault) → MatchResult answer (IsTakenUp version lawful old words) (IsWordsFault version lawful old words) → MatchResult answer kept (λ fault. fault ≡ ImageRefused Memory)
taken_up version lawful old words kept recovers numbers (Ok base) answered = recovers answered.image answered.says (Ok base) answered.recovered
taken_up version lawful old words kept recovers numbers (Err (ImageRefused Memory)) answered = refl
taken_up version lawful old words kept recovers numbers (Err (ImageRefused fault)) answered = ap ImageRefused (recovers answered.image answered.says (Err fault) answered.is)
taken_up version lawful old words kept recovers numbers (Err Numbers) answered = absurd (answered.above (numbers answered.base (recovers answered.image answered.says (Ok answered.base) answered.recovered)))
taken_up version lawful old words kept recovers numbers (Err Head) answered = absurd answered
taken_up version lawful old words kept recovers numbers (Err (Kind found)) answered = absurd answered
