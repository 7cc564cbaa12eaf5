-- The part on answers: what was answered stays where more is durable, the floor rises and more is answered.
use Rattle.std.proofs.Common.{◌≡◌, ◌+◌, ◌-◌, ◌*◌, ◌/◌, ◌<◌, ◌≤◌, ◌⊎◌, inl, inr, ℕ, List, ◌++◌, Option, Some, length, set, take, refl, ap, sym, subst, ◌∙◌, arith}
use Rattle.std.proofs.lemmas.List.{get_or-set_other, take-append-le}
use Rattle.std.proofs.lemmas.Option.{none-some, slice_get_cases}
use Rattle.std.specs.List.{slice_get}
use Rattle.std.specs.Option.{option_map}
use Rattle.cx_core.specs.declared.entry.Entry.{Entry}
use Rattle.cx_core.specs.declared.local.Answer.{Answer}
use Rattle.cx_core.specs.declared.local.Linked.{Linked}
use Rattle.cx_core.specs.declared.local.Local.{Local}
use Rattle.cx_core.specs.declared.local.SeenRead.{SeenRead}
use Rattle.cx_core.specs.History.{image_after, reply_at}
use Rattle.cx_core.specs.LawfulAnswers.{Answers, AreAnswers, IsAnswer, IsRead, NeverFall, durable_place}
use Rattle.cx_core.specs.Layout.{dur_at}
use Rattle.cx_core.specs.Region.{object_part}
use Rattle.cx_core.specs.RootEvents.{reply_after}
use Rattle.cx_core.specs.State.{Instance}
use Rattle.cx_core.proofs.ListLemmas.{slice_get-append_left}
use Rattle.cx_core.proofs.Locals.{EachLocal-set, EachLocal-then}
use Rattle.core_replica.specs.AnswerFrames.{OffAnswers, SameAnswers}

-- an own entry was there before, or it is one that a read doesn't count, at or above the read's place
abbrev pub IsAbove : Local → Local → SeenRead → Type 0
IsAbove l l' x = (i : ℕ) (y : Linked) → slice_get l'.own i ≡ Some y → (slice_get l.own i ≡ Some y) ⊎ ((x.before ≤ i) × (x.place ≤ y.ticket))

-- where the own entries of `l'` are those of `l`, none is new since the read `x`
pub above_same : (l l' : Local) (x : SeenRead) → l'.own ≡ l.own → IsAbove l l' x
above_same l l' x same i y at = inl (ap (λ (o : List Linked). slice_get o i) (sym same) ∙ at)

-- an answer `x` stays true where more is durable, up to `end'`, and the caller's floor does not fall
pub answer_stays : (instance : Instance) (history : List Entry) (end_ end' : ℕ) (l l' : Local) (x : Answer) → IsAnswer instance history end_ l x → end_ ≤ end' → l.floor ≤ l'.floor → IsAnswer instance history end' l' x
answer_stays instance history end_ end' l l' x old up floor = record {
  reply = old.reply;
  durable = omega (arith, old.durable);
  below_floor = omega (arith, old.below_floor);
}

-- an answered read `x` stays true where more is durable and answered, the floor does not fall, and new own entries are at or above its place
pub read_stays : (instance : Instance) (history : List Entry) (end_ end' : ℕ) (l l' : Local) (x : SeenRead) → IsRead instance history end_ l x → end_ ≤ end' → l.floor ≤ l'.floor →
    length l.answered ≤ length l'.answered → IsAbove l l' x → IsRead instance history end' l' x
read_stays instance history end_ end' l l' x old up floor more above = record {
  words = old.words;
  reads = old.reads;
  reply = old.reply;
  from = old.from;
  durable = omega (arith, old.durable);
  up_to_floor = omega (arith, old.up_to_floor);
  before = omega (arith, old.before);
  below = λ i y at counted. elim (above i y at) [
    | inl was ↦ old.below i y was counted
    | inr new ↦ (let past : x.before ≤ i = new.0 in absurd (omega arith))
  ];
  above = λ i y at past. elim (above i y at) [
    | inl was ↦ old.above i y was past
    | inr new ↦ new.1
  ];
}

-- with no answer more
pub same_stay : (instance : Instance) (history : List Entry) (end_ end' : ℕ) (l l' : Local) → AreAnswers instance history end_ l → end_ ≤ end' → l'.answered ≡ l.answered → l'.seen_reads ≡ l.seen_reads →
    l'.floor ≡ l.floor → ((x : SeenRead) → IsRead instance history end_ l x → IsAbove l l' x) → AreAnswers instance history end' l'
same_stay instance history end_ end' l l' old up answered reads floor above = record {
  entries = λ i x at. answer_stays instance history end_ end' l l' x (old.entries i x (ap (λ (o : List Answer). slice_get o i) (sym answered) ∙ at)) up (omega (arith, floor));
  reads = λ i x at. (
      let was = old.reads i x (ap (λ (o : List SeenRead). slice_get o i) (sym reads) ∙ at) in
      read_stays instance history end_ end' l l' x was up (omega (arith, floor)) (omega (arith, ap length answered)) (above x was));
  rise = subst NeverFall (sym reads) old.rise;
}

-- one local state put, with no less durable
pub answers_put : (instance : Instance) (history : List Entry) (words words' : List ℕ) (locals : List Local) (caller : ℕ) (l l' : Local) → Answers instance history words locals → slice_get locals caller ≡ Some l →
    durable_place instance words ≤ durable_place instance words' → AreAnswers instance history (durable_place instance words') l' → Answers instance history words' (set locals caller l')
answers_put instance history words words' locals caller l l' old at up here = record {
  each = EachLocal-set locals caller l l' (λ _ x. AreAnswers instance history (durable_place instance words') x) at
      (EachLocal-then locals (λ _ x. AreAnswers instance history (durable_place instance words) x) (λ _ x. AreAnswers instance history (durable_place instance words') x) old.each
      (λ d x there are. same_stay instance history (durable_place instance words) (durable_place instance words') x x are up refl refl refl (λ y _. above_same x x y refl))) here;
}

pub same_durable : (instance : Instance) (words : List ℕ) (at v : ℕ) → OffAnswers at → durable_place instance (set words at v) ≡ durable_place instance words
same_durable instance words at v off = ap (λ code. code / (2 * instance.callers)) (get_or-set_other words at dur_at v 0 (λ e. off (sym e)))

-- a step on another word than DUR, of a caller that is answered nothing
pub answers_apart : (instance : Instance) (history : List Entry) (words : List ℕ) (locals : List Local) (at v caller : ℕ) (l l' : Local) → Answers instance history words locals → slice_get locals caller ≡ Some l → OffAnswers at →
    l'.answered ≡ l.answered → l'.seen_reads ≡ l.seen_reads → l'.floor ≡ l.floor → ((x : SeenRead) → IsRead instance history (durable_place instance words) l x → IsAbove l l' x) →
    Answers instance history (set words at v) (set locals caller l')
answers_apart instance history words locals at v caller l l' old there off answered reads floor above =
    let same = same_durable instance words at v off in
    let up : durable_place instance words ≤ durable_place instance (set words at v) = omega (arith, same) in
    answers_put instance history words (set words at v) locals caller l l' old there up
    (same_stay instance history (durable_place instance words) (durable_place instance (set words at v)) l l' (old.each caller l there) up answered reads floor above)

-- the framing law: answers name DUR, and of a local state the fields of SameAnswers
pub answers_framed : (instance : Instance) (history : List Entry) (words : List ℕ) (locals : List Local) (at v caller : ℕ) (l l' : Local) → Answers instance history words locals → slice_get locals caller ≡ Some l → OffAnswers at →
    SameAnswers l l' → Answers instance history (set words at v) (set locals caller l')
answers_framed instance history words locals at v caller l l' old there off same =
    answers_apart instance history words locals at v caller l l' old there off same.answered same.seen_reads same.floor (λ x _. above_same l l' x same.own)

-- the history's reply at a ticket stays as the history goes on
pub reply_stays : (instance : Instance) (history more : List Entry) (ticket : ℕ) (reply : List ℕ) →
    reply_at instance.step instance.base.place (object_part instance.base.words) history ticket ≡ Some reply →
    reply_at instance.step instance.base.place (object_part instance.base.words) (history ++ more) ticket ≡ Some reply
reply_stays instance history more ticket reply is =
    let n = ticket - instance.base.place in
    let reply_in = λ (front : List Entry) (o : Option Entry). option_map (λ (e : Entry). (instance.step (image_after instance.step (object_part instance.base.words) front) e.op).1) o in
    elim (slice_get_cases history n).1 [
      | inl a ↦ (
          let within : n ≤ length history = (let below : n < length history = a.1 in omega arith) in
          let there : slice_get (history ++ more) n ≡ slice_get history n = slice_get-append_left history more n a.0 a.2 ∙ sym a.2 in
          ap (λ front. reply_in front (slice_get (history ++ more) n)) (take-append-le n history more within) ∙ ap (reply_in (take n history)) there ∙ is)
      | inr b ↦ absurd (none-some reply (ap (reply_in (take n history)) (sym b.1) ∙ is))
    ]

-- the object's reply after a place that the history reaches stays where the history goes on
pub after_stays : (instance : Instance) (history more : List Entry) (place : ℕ) (op : List ℕ) → place ≤ instance.base.place + length history →
    reply_after instance (history ++ more) place op ≡ reply_after instance history place op
after_stays instance history more place op within =
    ap (λ front. (instance.step (image_after instance.step (object_part instance.base.words) front) op).1) (take-append-le (place - instance.base.place) history more (omega arith))

-- a longer history
pub answers_longer : (instance : Instance) (history history' more : List Entry) (words : List ℕ) (locals : List Local) → history' ≡ history ++ more → durable_place instance words ≤ instance.base.place + length history →
    Answers instance history words locals → Answers instance history' words locals
answers_longer instance history history' more words locals is within old =
    subst (λ h. Answers instance h words locals) (sym is) (record {
      each = EachLocal-then locals (λ _ x. AreAnswers instance history (durable_place instance words) x) (λ _ x. AreAnswers instance (history ++ more) (durable_place instance words) x) old.each (λ d l there are. record {
        entries = λ i x at. (
            let was = are.entries i x at in
            record { reply = reply_stays instance history more x.ticket x.reply was.reply; durable = was.durable; below_floor = was.below_floor });
        reads = λ i x at. (
            let was = are.reads i x at in
            record {
              words = was.words;
              reads = was.reads;
              reply = was.reply ∙ sym (after_stays instance history more x.place x.op (omega (arith, was.durable)));
              from = was.from;
              durable = was.durable;
              up_to_floor = was.up_to_floor;
              before = was.before;
              below = was.below;
              above = was.above;
            });
        rise = are.rise;
      });
    })
