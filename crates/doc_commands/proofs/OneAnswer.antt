-- There is one answer for each image.
use Rattle.std.proofs.Common.{◌≡◌, ◌≢◌, ◌≤◌, ℕ, length, All, List, [], ◌∷◌, map, Result, Ok, Err, IfOk, MatchResult, refl, ap, sym, subst, ◌∙◌, inl, inr, ◌⊎◌}
use Rattle.std.proofs.lemmas.List.Elements.{All-head, All-tail}
use Rattle.cx_base.specs.OldFormat.{OldFormat}
use Rattle.cx_core.specs.Region.{object_part, slot_number, slot_reply}
use Rattle.cx_core.specs.declared.entry.Base.{Base}
use Rattle.cx_core.specs.declared.entry.Image.{Image}
use Rattle.doc_model.proofs.ReplyKinds.{replies_same}
use Rattle.doc_model.specs.Revisions.{RevisedStore}
use Rattle.doc_model.specs.declared.operations.Reply.{Reply}
use Rattle.doc_store.specs.ExactStep.{IsImageOfStore, first_format}
use Rattle.doc_text.specs.declared.recovered.Applied.{Applied}
use Rattle.doc_text.specs.declared.recovered.Recovered.{Recovered}
use Rattle.recovery.specs.Images.{region_of}
use Rattle.recovery.proofs.Exact.{exactly}
use Rattle.recovery.specs.Recovery.{IsAccepted, IsFaultOf, IsRecovered, recovered_from}
use Rattle.recovery.specs.declared.recovered_base.ImageFault.{ImageFault}
use Rattle.recovery.specs.declared.recovered_base.ImageFault.TheVariants.{Size, Root, Version, Place, Body, Memory}
use Rattle.doc_commands.specs.Documents.{IsAnswerTo, IsDocumentFault, IsStoreImage, HasDocuments, TellsDocuments}
use Rattle.doc_commands.specs.Outcomes.{HoldsStoreReplies, IsLastCommand, IsOutcomesFault, IsReplyOf}
use Rattle.doc_commands.proofs.Upgraded.{recovered_part, replies_go_on, replies_stay}

-- ---- what is recovered

replies_one : (words : List ℕ) (one other : Reply) → IsReplyOf words one → IsReplyOf words other → one ≡ other
replies_one words one other x y = replies_same one other x.whole.limits x.whole.number y.whole.limits y.whole.number (x.has ∙ sym y.has)

commands_one : (region : List ℕ) (one other : Applied) → one.client ≡ other.client → IsLastCommand region one → IsLastCommand region other → one ≡ other
commands_one region one other same x y =
    let made : ℕ → ℕ → Reply → Applied = λ client number reply. record { client = client; number = number; reply = reply } in
    let number : one.number ≡ other.number = x.number ∙ ap (λ c. slot_number c region) same ∙ sym y.number in
    let reply : one.reply ≡ other.reply =
    replies_one (slot_reply other.client region) one.reply other.reply (subst (λ c. IsReplyOf (slot_reply c region) one.reply) same x.reply) y.reply in
    ap (λ c. made c one.number one.reply) same ∙ ap (λ n. made other.client n one.reply) number ∙ ap (made other.client other.number) reply

all_commands_one : (region : List ℕ) (one other : List Applied) → map (λ (a : Applied). a.client) one ≡ map (λ (a : Applied). a.client) other
    → All (IsLastCommand region) one → All (IsLastCommand region) other → one ≡ other
all_commands_one region [] [] same xs ys = refl
all_commands_one region [] (b ∷ other) same xs ys = absurd cc
all_commands_one region (a ∷ one) [] same xs ys = absurd cc
all_commands_one region (a ∷ one) (b ∷ other) same xs ys =
    let first : a.client ≡ b.client = cc in
    let later : map (λ (a : Applied). a.client) one ≡ map (λ (a : Applied). a.client) other = cc in
    let head : a ≡ b = commands_one region a b first (All-head (IsLastCommand region) a one xs) (All-head (IsLastCommand region) b other ys) in
    let tail : one ≡ other = all_commands_one region one other later (All-tail (IsLastCommand region) a one xs) (All-tail (IsLastCommand region) b other ys) in
    rw (head, tail) refl

recovered_one : (base : Base) (one other : Recovered) → HasDocuments base one → HasDocuments base other → one ≡ other
recovered_one base one other x y =
    let made : ℕ → List Applied → List ((List ℕ × List ℕ) × ℕ) → Recovered = λ place outcomes documents. record { place = place; outcomes = outcomes; documents = documents } in
    let place : one.place ≡ other.place = x.place ∙ sym y.place in
    let outcomes : one.outcomes ≡ other.outcomes =
    all_commands_one base.words one.outcomes other.outcomes (x.outcomes.clients ∙ sym y.outcomes.clients) x.outcomes.commands y.outcomes.commands in
    let documents : one.documents ≡ other.documents =
    ap (λ (s : RevisedStore). s.triples) (sym x.documents.1.revised ∙ y.documents.1.revised) in
    ap (λ p. made p one.outcomes one.documents) place ∙ ap (λ o. made other.place o one.documents) outcomes ∙ ap (made other.place other.outcomes) documents

-- ---- faults

the_fault : {A : Type 0} (f g : ImageFault) → ◌≡◌ {A = Result A ImageFault} (Err f) (Err g) → f ≡ g
the_fault f g same = cc

-- the faults of recovery
module _ (version : ℕ) (lawful : List ℕ → Type 0) (old : OldFormat) (image : Image) where
  fault_one : (f g : ImageFault) → IsFaultOf version lawful old image f → f ≢ Memory → IsFaultOf version lawful old image g → g ≢ Memory → f ≡ g
  fault_one f (Size found) is some (same, fails) more =
      the_fault f (Size found) ((exactly version lawful old image (Err f) is (λ e. some (the_fault f Memory e))).size fails ∙ ap (λ n. Err (Size n)) (sym same))
  fault_one f (Root found) is some (same, size, fails) more =
      the_fault f (Root found) ((exactly version lawful old image (Err f) is (λ e. some (the_fault f Memory e))).root size fails ∙ ap (λ n. Err (Root n)) (sym same))
  fault_one f (Version found) is some (size, root, (same, fails)) more =
      the_fault f (Version found) ((exactly version lawful old image (Err f) is (λ e. some (the_fault f Memory e))).format size root fails ∙ ap (λ n. Err (Version n)) (sym same))
  fault_one f (Place place found) is some (size, root, (same, at, format, fails)) more =
      the_fault f (Place place found) ((exactly version lawful old image (Err f) is (λ e. some (the_fault f Memory e))).at_place size root format fails ∙ rw (same, at) refl)
  fault_one f Body is some (size, root, (format, at, fails)) more =
      the_fault f Body ((exactly version lawful old image (Err f) is (λ e. some (the_fault f Memory e))).body size root format at fails)
  fault_one f Memory is some other more = absurd (more refl)

  refused_is_not_accepted : (f : ImageFault) → IsFaultOf version lawful old image f → f ≢ Memory → ¬ IsAccepted version lawful old image
  refused_is_not_accepted f is some accepted =
      let wrong : ◌≡◌ {A = Result Base ImageFault} (Err f) (Ok (recovered_from old image)) =
      (exactly version lawful old image (Err f) is (λ e. some (the_fault f Memory e))).accepted accepted in
      absurd cc

-- a fault of an image of documents is one of recovery, or a slot that holds no reply
kinds : (image : Image) (fault : ImageFault) → IsDocumentFault image fault
    → IsFaultOf 2 (IsImageOfStore image.lines) (first_format image.lines) image fault ⊎ ((fault ≡ Body) × IsStoreImage image × (¬ HoldsStoreReplies (region_of image)))
kinds image (Size found) is = inl is
kinds image (Root found) is = inl is
kinds image (Version found) is = inl is
kinds image (Place root found) is = inl is
kinds image Body (inl is) = inl is
kinds image Body (inr is) = inr (refl, is.0, is.1)
kinds image Memory is = inl is

pub tells_nothing : (image : Image) (fault : ImageFault) → IsDocumentFault image fault → fault ≢ Memory → ¬ TellsDocuments image
tells_nothing image fault is some tells =
    elim (kinds image fault is) [
      | inl plain ↦ refused_is_not_accepted 2 (IsImageOfStore image.lines) (first_format image.lines) image fault plain some tells.accepted
      | inr slots ↦ slots.2 tells.replies
    ]

-- an image has at most one fault besides running out of memory: `f` and `g` are equal
document_fault_one : (image : Image) (f g : ImageFault) → IsDocumentFault image f → f ≢ Memory → IsDocumentFault image g → g ≢ Memory → f ≡ g
document_fault_one image f g x some y more =
    elim (kinds image f x) [
      | inl f_plain ↦ elim (kinds image g y) [
        | inl g_plain ↦ fault_one 2 (IsImageOfStore image.lines) (first_format image.lines) image f g f_plain some g_plain more
        | inr g_slots ↦ absurd (refused_is_not_accepted 2 (IsImageOfStore image.lines) (first_format image.lines) image f f_plain some g_slots.1)
      ]
      | inr f_slots ↦ elim (kinds image g y) [
        | inl g_plain ↦ absurd (refused_is_not_accepted 2 (IsImageOfStore image.lines) (first_format image.lines) image g g_plain more f_slots.1)
        | inr g_slots ↦ f_slots.0 ∙ sym g_slots.0
      ]
    ]

-- ---- answers

pub answers_one : (image : Image) (one other : Result Recovered ImageFault) → IsAnswerTo image one → IsAnswerTo image other
    → one ≢ Err Memory → other ≢ Err Memory → one ≡ other
answers_one image (Ok a) (Ok b) x y some more = ap Ok (recovered_one (recovered_from (first_format image.lines) image) a b x.has_documents y.has_documents)
answers_one image (Ok a) (Err g) x y some more = absurd (tells_nothing image g y (λ e. more (ap Err e)) x.tells)
answers_one image (Err f) (Ok b) x y some more = absurd (tells_nothing image f x (λ e. some (ap Err e)) y.tells)
answers_one image (Err f) (Err g) x y some more =
    ap Err (document_fault_one image f g x (λ e. some (ap Err e)) y (λ e. more (ap Err e)))

-- the object part of a base that is recovered is an image of documents
pub part_is_image : (image : Image) (base : Base) → 1168 ≤ length (region_of image) → IsRecovered 2 (IsImageOfStore image.lines) (first_format image.lines) image base
    → IsImageOfStore image.lines (object_part base.words)
part_is_image image base long is =
    subst (λ (b : Base). IsImageOfStore image.lines (object_part b.words)) (sym is.is) (recovered_part image.lines (region_of image) long is.accepted.region.body.object)

-- an answer that is right for the base that recovery gives is right for the image
pub answered : (image : Image) (base : Base) (answer : Result Recovered ImageFault) → 1168 ≤ length (region_of image)
    → IsRecovered 2 (IsImageOfStore image.lines) (first_format image.lines) image base
    → MatchResult answer (HasDocuments base) (IsOutcomesFault base.words) → IfOk answer (λ _. HoldsStoreReplies base.words) → IsAnswerTo image answer
answered image base (Ok found) long is result_is replies = record {
  tells = record {
    accepted = is.accepted;
    replies = replies_stay (first_format image.lines) (region_of image) long (subst (λ (b : Base). HoldsStoreReplies b.words) is.is replies);
  };
  has_documents = subst (λ b. HasDocuments b found) is.is result_is;
}
answered image base (Err Body) long is result_is replies =
    inr (is.accepted, λ holds. subst (λ (b : Base). ¬ HoldsStoreReplies b.words) is.is result_is (replies_go_on (first_format image.lines) (region_of image) long holds))
answered image base (Err Memory) long is result_is replies = tt
answered image base (Err fault) long is result_is replies = absurd result_is
