-- A base goes on entry by entry: its store, and of each client the number of its entries and the reply to the last.
use Rattle.std.proofs.Common.{◌≡◌, ◌≢◌, ◌+◌, ◌^◌, ◌<◌, ◌≤◌, inl, inr, ℕ, zero, suc, cond, List, [], ◌∷◌, length, take, Option, None, Some, refl, sym, ap, subst, ◌∙◌, arith}
use Rattle.std.specs.List.{cons_option, slice_get}
use Rattle.std.proofs.lemmas.Bool.{cases_eq, cases_order, eq-eqb, ne_eqb}
use Rattle.cx_core.specs.Base.{Keeps, LawfulBase}
use Rattle.cx_core.specs.History.{AreLawful, IsLawfulEntry, image_from}
use Rattle.cx_core.specs.Merge.{own_of}
use Rattle.cx_core.specs.Region.{object_part, slot_number, slot_reply}
use Rattle.cx_core.specs.Step.{full_step_of}
use Rattle.cx_core.specs.declared.entry.Base.{Base}
use Rattle.cx_core.specs.declared.entry.Entry.{Entry}
use Rattle.cx_core.specs.declared.local.Linked.{Linked}
use Rattle.cx_core.proofs.KeepLemmas.{keeps}
use Rattle.cx_core.proofs.MergeLemmas.{own_mine, own_other}
use Rattle.life_records.specs.Works.{HasCommandWords}
use Rattle.life_records.specs.Begins.{Begun, IsBaseOf, begun_after, with_result, words_to}
use Rattle.life_records.specs.Meanings.{HaveWordsOfLines}
use Rattle.life_records.specs.Replies.{HasOpValues}
use Rattle.life_records.proofs.Steps.{Stepped, op_is, rest_of, stepped, store_next}
use Rattle.life_records.proofs.TypedSteps.{TypedSteps}
use Rattle.life_records.specs.Limits.{IsLifeInLimits}
use Rattle.life_records.specs.Lives.{ops_of, store_after_all}
use Rattle.life_records.specs.Scripts.{named_op}
use Rattle.life_records.specs.Records.{JournalLine, Life, Meaning}

-- the entries are of so many callers, and those of each are numbered on from its slot
pub record Numbered (count ticket : ℕ) (history : List Entry) (region : List ℕ) : Type 0 where
  pub callers : (i : ℕ) (entry : Entry) → slice_get history i ≡ Some entry → entry.caller < count
  pub numbers : (caller : ℕ) → caller < count → (i : ℕ) (x : Linked) → slice_get (own_of caller ticket history) i ≡ Some x → x.entry.number ≡ slot_number caller region + i + 1

-- each line is of its entry's caller
module _ {Reply : Type 0} where
  abbrev pub AreOfCallers : List Entry → List (JournalLine Reply) → Type 0
  AreOfCallers history journal = (i : ℕ) (line : JournalLine Reply) (entry : Entry) → slice_get journal i ≡ Some line → slice_get history i ≡ Some entry → line.client ≡ entry.caller

-- operations one after another
store_on : {Op Reply Store : Type 0} → (m : Meaning Op Reply Store) (store : Store) (o : Option Op) (ops : List Op) → store_after_all m (store_after_all m store (cons_option o [])) ops ≡ store_after_all m store (cons_option o ops)
store_on m store None ops = refl
store_on m store (Some op) ops = refl

module _ {Op Reply Store : Type 0} (t : TypedSteps Op Reply Store) {most : ℕ} (life : Life Op) (limits : IsLifeInLimits t.meaning.is_op most life) (op_values : HasOpValues t.meaning life) (count : ℕ) (few : count ≤ 8) where
  -- one entry more
  module _ (entry : Entry) (history : List Entry) (line : JournalLine Reply) (journal : List (JournalLine Reply)) (base : Base) (begun : Begun Store) (law : LawfulBase t.lines t.lawful base)
      (is : IsBaseOf t.meaning base begun) (are : HaveWordsOfLines t.meaning.encoding life (entry ∷ history) (line ∷ journal)) (of : AreOfCallers (entry ∷ history) (line ∷ journal))
      (lawful : AreLawful base.place (entry ∷ history)) (numbered : Numbered count base.place (entry ∷ history) base.words) (small : base.place + suc (length history) ≤ 2 ^ 40) where
    abbrev next : Base
    next = record { place = base.place + 1; words = full_step_of t.step entry base.words }

    abbrev begun_next : Begun Store
    begun_next = record {
      place = begun.place + 1;
      store = store_after_all t.meaning begun.store (ops_of life (line ∷ []));
      results = with_result t.meaning begun.store life line begun.results;
    }

    has : HasCommandWords t.meaning.encoding life line.client line.command entry.op
    has = are.words 0 line entry refl refl

    is_entry : IsLawfulEntry (base.place + 0) entry
    is_entry = lawful 0 entry refl

    mine : line.client ≡ entry.caller
    mine = of 0 line entry refl refl

    done : Stepped t begun.store has.op (t.step (object_part base.words) entry.op)
    done = stepped t (object_part base.words) begun.store has.op entry.op (record { is_lawful = law.object; stands = is.stands }) (op_is t life limits op_values line.client line.command entry.op has)

    kept : Keeps t.lines t.lawful t.step base entry next
    kept =
        let image = t.object.keeps (object_part base.words) entry.op law.object is_entry.op in
        keeps t.lines t.lawful t.step base entry next law (omega (arith, small)) is_entry.caller is_entry.some (let most = is_entry.most in omega (arith, most)) image (t.object.shape (t.step (object_part base.words) entry.op).0 image) (t.object.replies (object_part base.words) entry.op law.object is_entry.op) refl refl

    -- the entry's number is the next one of its caller
    number_is : entry.number ≡ slot_number entry.caller base.words + 1
    number_is =
        let first : Linked = record { ticket = base.place; entry = entry } in
        let there : slice_get (own_of entry.caller base.place (entry ∷ history)) 0 ≡ Some first = ap (λ (o : List Linked). slice_get o 0) (own_mine entry.caller base.place entry history refl) in
        omega (arith, numbered.numbers entry.caller (numbered.callers 0 entry refl) 0 first there)

    abbrev HasResult : (ℕ × List ℕ) → ℕ → Type 0
    HasResult result client = (slot_number client next.words ≡ result.0) × (slot_reply client next.words ≡ result.1)

    own_result : (client : ℕ) → client ≡ line.client → client < 8 → HasResult ((begun.results client).0 + 1, words_to t.meaning begun.store (named_op life line.client line.command)) client
    own_result client same below =
        let caller = same ∙ mine in (
          ap (λ c. slot_number c next.words) caller ∙ kept.number ∙ number_is ∙ ap (λ c. slot_number c base.words + 1) (sym caller) ∙ ap (λ n. n + 1) (is.numbers client below),
          ap (λ c. slot_reply c next.words) caller ∙ kept.reply ∙ done.answer ∙ ap (words_to t.meaning begun.store) (sym has.named),
        )

    other_result : (client : ℕ) → client ≢ line.client → client < 8 → HasResult (begun.results client) client
    other_result client other below = elim (cases_order client entry.caller) [
      | inl same ↦ absurd (other (same ∙ sym mine))
      | inr apart ↦ (let stay = kept.others client below apart in (stay.0 ∙ is.numbers client below, stay.1 ∙ is.replies client below))
    ]

    result_is : (client : ℕ) → client < 8 → HasResult (with_result t.meaning begun.store life line begun.results client) client
    result_is client below =
        let own : ℕ × List ℕ = ((begun.results client).0 + 1, words_to t.meaning begun.store (named_op life line.client line.command)) in
        elim (cases_eq client line.client) [
          | inl same ↦ subst (λ b. HasResult (cond b own (begun.results client)) client) (sym (eq-eqb client line.client same)) (own_result client same below)
          | inr other ↦ subst (λ b. HasResult (cond b own (begun.results client)) client) (sym (ne_eqb client line.client other)) (other_result client other below)
        ]

    pub next_is : IsBaseOf t.meaning next begun_next
    next_is = record {
      at_place = ap (λ p. p + 1) is.at_place;
      stands =
          subst (t.meaning.stands (object_part next.words)) (sym (store_next t life limits op_values begun.store line has.op [] has.named))
          (subst (λ image. t.meaning.stands image (t.meaning.store_after begun.store has.op)) (sym kept.object) done.after.stands);
      numbers = λ client below. (result_is client below).0;
      replies = λ client below. (result_is client below).1;
    }

    pub next_lawful : LawfulBase t.lines t.lawful next
    next_lawful = kept.lawful_next

    pub rest_lawful : AreLawful next.place history
    rest_lawful i e at = (let place : base.place + suc i ≡ base.place + 1 + i = omega arith in subst (λ p. IsLawfulEntry p e) place (lawful (suc i) e at))

    rest_numbers : (caller : ℕ) → caller < count → (i : ℕ) (x : Linked) → slice_get (own_of caller (base.place + 1) history) i ≡ Some x → x.entry.number ≡ slot_number caller next.words + i + 1
    rest_numbers caller below i x at = elim (cases_order caller entry.caller) [
      | inl same ↦ (
          let was = numbered.numbers caller below (suc i) x (ap (λ (o : List Linked). slice_get o (suc i)) (own_mine caller base.place entry history (sym same)) ∙ at) in
          let now : slot_number caller next.words ≡ slot_number caller base.words + 1 = ap (λ c. slot_number c next.words) same ∙ kept.number ∙ number_is ∙ ap (λ c. slot_number c base.words + 1) (sym same) in
          omega (arith, was, now))
      | inr apart ↦ (
          let other : entry.caller ≢ caller = λ e. elim apart [ inl less ↦ omega (arith, less, e) | inr more ↦ omega (arith, more, e) ] in
          let was = numbered.numbers caller below i x (ap (λ (o : List Linked). slice_get o i) (own_other caller base.place entry history other) ∙ at) in
          let stay = kept.others caller (omega (arith, below, few)) apart in
          omega (arith, was, stay.0))
    ]

    pub rest_numbered : Numbered count next.place history next.words
    rest_numbered = record { callers = λ i e at. numbered.callers (suc i) e at; numbers = rest_numbers }

  -- so many entries more
  pub goes_on : (n : ℕ) (history : List Entry) (journal : List (JournalLine Reply)) (base : Base) (begun : Begun Store) → LawfulBase t.lines t.lawful base → IsBaseOf t.meaning base begun → HaveWordsOfLines t.meaning.encoding life history journal →
      AreOfCallers history journal → AreLawful base.place history → Numbered count base.place history base.words → base.place + length history ≤ 2 ^ 40 → n ≤ length history →
      IsBaseOf t.meaning (record { place = base.place + n; words = image_from t.step base.words (take n history) }) (begun_after t.meaning begun life journal n)
  goes_on zero history journal base begun law is are of lawful numbered small within = record { at_place = ap (λ p. p + 0) is.at_place; stands = is.stands; numbers = is.numbers; replies = is.replies }
  goes_on (suc n) [] journal base begun law is are of lawful numbered small within = absurd (omega arith)
  goes_on (suc n) (entry ∷ history) [] base begun law is are of lawful numbered small within = absurd (omega (arith, are.long))
  goes_on (suc n) (entry ∷ history) (line ∷ journal) base begun law is are of lawful numbered small within =
      let after = next entry history line journal base begun law is are of lawful numbered small in
      let begun' = begun_next entry history line journal base begun law is are of lawful numbered small in
      let rest =
      goes_on n history journal after begun' (next_lawful entry history line journal base begun law is are of lawful numbered small) (next_is entry history line journal base begun law is are of lawful numbered small)
      (rest_of t life entry history line journal are) (λ i l e at_l at_e. of (suc i) l e at_l at_e) (rest_lawful entry history line journal base begun law is are of lawful numbered small)
      (rest_numbered entry history line journal base begun law is are of lawful numbered small) (omega (arith, small)) (omega arith) in
      record {
        at_place = (let place = rest.at_place in omega (arith, place));
        stands = subst (t.meaning.stands (object_part (image_from t.step after.words (take n history)))) (store_on t.meaning begun.store (named_op life line.client line.command) (ops_of life (take n journal))) rest.stands;
        numbers = rest.numbers;
        replies = rest.replies;
      }
