-- The laws of an object.
use Rattle.std.specs.Prelude.{◌≡◌, ◌-◌, ◌*◌, ◌^◌, ◌<◌, ◌≤◌, ◌==◌, nat_lt, ℕ, suc, Bool, true, false, cond, List, ◌∷◌, All, replicate, slice_index, slice_set, IsTrue, refl}
use Rattle.std.proofs.Common.{ap, ◌∙◌, arith, lit<}
use Rattle.std.proofs.lemmas.List.{get_or-set_other, length-replicate}
use Rattle.std.proofs.lemmas.List.Elements.{All-cons, All-replicate}
use Rattle.cx_base.specs.Memory.{Words}
use Rattle.cx_base.specs.WordLaws.{Words-at, Words-set}
use Rattle.object_to_copy.specs.Meaning.{IsImage, image_after, is_reading, number_in, object_opening, object_reads, object_step, raised, reply_to}
use Rattle.object_to_copy.specs.Operations.{op_in, reply_words, words_with}
use Rattle.object_to_copy.specs.declared.operations.Op.{Op}
use Rattle.object_to_copy.specs.declared.operations.Op.TheVariants.{Raise, Read, Other}

-- numbers of 64 bits
abbrev Small : ℕ → Type 0
Small n = n < 2 ^ 64

-- a fact of a choice
by_case : {A : Type 0} (P : A → Type 0) (b : Bool) (x y : A) → P x → P y → P (cond b x y)
by_case P true x y p q = p
by_case P false x y p q = q

-- the opening image is one
pub opens : (lines : ℕ) → 1 ≤ lines → IsImage lines (object_opening lines)
opens lines some = record {
  words = record {
    long = omega (arith, length-replicate {A = ℕ} (8 * lines - 1) 0);
    fit = All-cons Small 1 (replicate (8 * lines - 1) 0) (lit< tt) (All-replicate Small (8 * lines - 1) 0 (lit< tt));
  };
  version = refl;
}

-- what an operation's words ask for is of 64 bits
abbrev IsSmall : Op → Type 0
IsSmall (Raise to) = Small to
IsSmall _ = Unit {0}

op_is_small : (op : List ℕ) → Words 144 op → IsSmall (op_in op)
op_is_small op w =
    by_case IsSmall (slice_index op 0 == 1) (Raise (slice_index op 1)) (cond (slice_index op 0 == 2) Read Other)
    (Words-at 144 op 1 w)
    (by_case IsSmall (slice_index op 0 == 2) Read Other tt tt)

-- a step of an image leaves an image
kept : (lines : ℕ) (image : List ℕ) (op : Op) → IsImage lines image → IsSmall op → IsImage lines (image_after image op)
kept lines image (Raise to) i small =
    by_case (IsImage lines) (nat_lt (number_in image) to) (slice_set image 1 to) image
    (record { words = Words-set (8 * lines) image 1 to small i.words; version = get_or-set_other image 1 0 to 0 (λ e. omega (arith, e)) ∙ i.version })
    i
kept lines image Read i small = i
kept lines image Other i small = i

pub keeps : (lines : ℕ) (image op : List ℕ) → IsImage lines image → Words 144 op → IsImage lines (object_step image op).0
keeps lines image op i w = kept lines image (op_in op) i (op_is_small op w)

-- an image has 8 words in each line, the first of which is the version
pub shape : (lines : ℕ) (image : List ℕ) → IsImage lines image → Words (8 * lines) image × (slice_index image 0 ≡ 1)
shape lines image i = (i.words, i.version)

-- the words of a reply are 144 words
words_with_fit : (kind first second : ℕ) → Small kind → Small first → Small second → Words 144 (words_with kind first second)
unfolding words_with
words_with_fit kind first second k f s =
    let zeros : List ℕ = replicate 141 0 in
    let rest : All Small zeros = All-replicate Small 141 0 (lit< tt) in
    record {
      long = ap (λ n. suc (suc (suc n))) (length-replicate {A = ℕ} 141 0);
      fit = All-cons Small kind (first ∷ second ∷ zeros) k (All-cons Small first (second ∷ zeros) f (All-cons Small second zeros s rest));
    }

reply_fits : (lines : ℕ) (image : List ℕ) (op : Op) → IsImage lines image → IsSmall op → Words 144 (reply_words (reply_to image op))
reply_fits lines image (Raise to) i small =
    words_with_fit 1 (raised (number_in image) to) 0 (lit< tt) (by_case Small (nat_lt (number_in image) to) to (number_in image) small (Words-at (8 * lines) image 1 i.words)) (lit< tt)
reply_fits lines image Read i small = words_with_fit 1 (number_in image) 0 (lit< tt) (Words-at (8 * lines) image 1 i.words) (lit< tt)
reply_fits lines image Other i small = words_with_fit 0 0 0 (lit< tt) (lit< tt) (lit< tt)

pub replies : (lines : ℕ) (image op : List ℕ) → IsImage lines image → Words 144 op → Words 144 (object_step image op).1
replies lines image op i w = reply_fits lines image (op_in op) i (op_is_small op w)

-- an operation that only reads leaves the image
left_by_reading : (image : List ℕ) (op : Op) → IsTrue (is_reading op) → image_after image op ≡ image
left_by_reading image (Raise to) reads = cc
left_by_reading image Read reads = refl
left_by_reading image Other reads = refl

pub leaves : (lines : ℕ) (image op : List ℕ) → IsImage lines image → Words 144 op → IsTrue (object_reads op) → (object_step image op).0 ≡ image
leaves lines image op i w reads = left_by_reading image (op_in op) reads
