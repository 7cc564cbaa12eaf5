-- What the steps of a history's entries mean, one after another.
use Rattle.std.proofs.Common.{◌≡◌, ◌+◌, ◌-◌, ◌<◌, ◌≤◌, ℕ, zero, suc, List, [], ◌∷◌, length, filter, take, ◌==◌, Option, Some, refl, sym, ap, subst, ◌∙◌, arith}
use Rattle.std.specs.List.{All, cons_option, slice_get}
use Rattle.std.specs.Option.{option_map}
use Rattle.std.proofs.lemmas.List.Elements.{All-filter, All-map, All-weaker}
use Rattle.std.proofs.lemmas.Option.{none-some, same_Some, slice_get_within}
use Rattle.cx_core.specs.Base.{LawfulBase}
use Rattle.cx_core.specs.History.{image_after, reply_at}
use Rattle.cx_core.specs.Region.{object_part}
use Rattle.cx_core.specs.declared.entry.Base.{Base}
use Rattle.cx_core.specs.declared.entry.Entry.{Entry}
use Rattle.cx_core.proofs.ListLemmas.{item_below}
use Rattle.life_records.specs.Works.{HasCommandWords}
use Rattle.life_records.specs.Meanings.{HaveWordsOfLines, MeanStores}
use Rattle.life_records.specs.Replies.{HasOpValues}
use Rattle.life_records.proofs.ItemLists.{All-item}
use Rattle.life_records.proofs.TypedSteps.{TypedSteps}
use Rattle.life_records.specs.Limits.{IsCommandOf, IsLifeInLimits}
use Rattle.life_records.specs.Lives.{ops_of, store_after_all, store_at}
use Rattle.life_records.specs.Scripts.{named_op, own_ops}
use Rattle.life_records.specs.Records.{Command, OpHasWords, JournalLine, Life, Meaning}

-- what holds of each command's operation holds of one that is named
module _ {Op : Type 0} where
  named_has : (P : Op → Type 0) (life : Life Op) → All (λ (c : Command Op). P c.op) life.commands → (client command : ℕ) (op : Op) → named_op life client command ≡ Some op → P op
  named_has P life all client zero op named = absurd (none-some op named)
  named_has P life all client (suc before) op named =
      let own = filter (λ (c : Command Op). c.client == client) life.commands in
      All-item P (own_ops client life.commands) before op
      (All-map P (λ (c : Command Op). c.op) own (All-filter (λ (c : Command Op). c.client == client) (λ (c : Command Op). P c.op) life.commands all)) named

module _ {Op Reply Store : Type 0} (t : TypedSteps Op Reply Store) where
  abbrev m : Meaning Op Reply Store
  m = t.meaning

  -- a lawful image that stands for a store
  pub record Stands (image : List ℕ) (store : Store) : Type 0 where
    pub is_lawful : t.lawful image
    pub stands : m.stands image store

  -- the step of the words of an operation
  pub record Stepped (store : Store) (op : Op) (done : List ℕ × List ℕ) : Type 0 where
    pub after : Stands done.0 (m.store_after store op)
    pub answer : done.1 ≡ m.encoding.reply_words (m.reply_to store op)

  pub stepped : (image : List ℕ) (store : Store) (op : Op) (words : List ℕ) → Stands image store → OpHasWords m words op → Stepped store op (t.step image words)
  stepped image store op words s is =
      subst (λ ws. Stepped store op (t.step image ws)) is.has (record {
        after = record {
          is_lawful = t.object.keeps image (m.encoding.op_words op) s.is_lawful (t.means.fit op is.limits is.value);
          stands = t.means.after image store op s.is_lawful s.stands is.limits is.value;
        };
        answer = t.means.answer image store op s.is_lawful s.stands is.limits is.value;
      })

  pub rest_of : (life : Life Op) (entry : Entry) (history : List Entry) (line : JournalLine Reply) (journal : List (JournalLine Reply)) → HaveWordsOfLines m.encoding life (entry ∷ history) (line ∷ journal) → HaveWordsOfLines m.encoding life history journal
  rest_of life entry history line journal are = record {
    long = omega (arith, are.long);
    words = λ i l e at_l at_e. are.words (suc i) l e at_l at_e;
  }

  module _ {most : ℕ} (life : Life Op) (limits : IsLifeInLimits m.is_op most life) (op_values : HasOpValues m life) where
    pub op_limits : (client command : ℕ) (op : Op) → named_op life client command ≡ Some op → m.is_op op
    op_limits = named_has m.is_op life (All-weaker (IsCommandOf m.is_op life) (λ c. m.is_op c.op) (λ c is. is.op) life.commands limits.commands)

    pub op_has_value : (client command : ℕ) (op : Op) → named_op life client command ≡ Some op → m.is_op_value op
    op_has_value = named_has m.is_op_value life op_values

    pub op_is : (client command : ℕ) (words : List ℕ) (has : HasCommandWords m.encoding life client command words) → OpHasWords m words has.op
    op_is client command words has = record {
      limits = op_limits client command has.op has.named;
      value = op_has_value client command has.op has.named;
      has = has.words_are;
    }

    -- the store after a line whose operation is named
    pub store_next : (store : Store) (line : JournalLine Reply) (op : Op) (journal : List (JournalLine Reply)) → named_op life line.client line.command ≡ Some op →
        store_after_all m store (ops_of life (line ∷ journal)) ≡ store_after_all m (m.store_after store op) (ops_of life journal)
    store_next store line op journal named = ap (λ (o : Option Op). store_after_all m store (cons_option o (ops_of life journal))) named

    -- after any number of entries the image stands for the store after their operations
    pub stands_at : (n : ℕ) (history : List Entry) (journal : List (JournalLine Reply)) (image : List ℕ) (store : Store) → HaveWordsOfLines m.encoding life history journal → Stands image store → n ≤ length history →
        Stands (image_after t.step image (take n history)) (store_at m store life journal n)
    stands_at zero history journal image store are s within = s
    stands_at (suc n) [] journal image store are s within = absurd (omega arith)
    stands_at (suc n) (entry ∷ history) [] image store are s within = absurd (omega (arith, are.long))
    stands_at (suc n) (entry ∷ history) (line ∷ journal) image store are s within =
        let has = are.words 0 line entry refl refl in
        let done = stepped image store has.op entry.op s (op_is line.client line.command entry.op has) in
        let rest = stands_at n history journal (t.step image entry.op).0 (m.store_after store has.op) (rest_of life entry history line journal are) done.after (omega arith) in
        subst (Stands (image_after t.step (t.step image entry.op).0 (take n history))) (sym (store_next store line has.op (take n journal) has.named)) rest

    module _ (base : Base) (law : LawfulBase t.lines t.lawful base) (history : List Entry) (journal : List (JournalLine Reply)) (store : Store) (are : HaveWordsOfLines m.encoding life history journal)
        (stands : m.stands (object_part base.words) store) where
      abbrev image : List ℕ
      image = object_part base.words

      pub image_stands : (n : ℕ) → n ≤ length history → Stands (image_after t.step image (take n history)) (store_at m store life journal n)
      image_stands n within = stands_at n history journal image store are (record { is_lawful = law.object; stands = stands }) within

      answer_to : (n : ℕ) (op : Op) (words : List ℕ) → n ≤ length history → OpHasWords m words op →
          (t.step (image_after t.step image (take n history)) words).1 ≡ m.encoding.reply_words (m.reply_to (store_at m store life journal n) op)
      answer_to n op words within is = (stepped (image_after t.step image (take n history)) (store_at m store life journal n) op words (image_stands n within) is).answer

      answered_at : (i : ℕ) (line : JournalLine Reply) (op : Op) → slice_get journal i ≡ Some line → named_op life line.client line.command ≡ Some op → i < length journal →
          reply_at t.step base.place image history (base.place + i) ≡ Some (m.encoding.reply_words (m.reply_to (store_at m store life journal i) op))
      answered_at i line op at named below =
          let away : base.place + i - base.place ≡ i = omega arith in
          let e = item_below history i (omega (arith, are.long)) in
          let has = are.words i line e.0 at e.1 in
          let same : has.op ≡ op = same_Some has.op op (sym has.named ∙ named) in
          let reply_of = λ (n : ℕ) (o : Option Entry). option_map (λ (x : Entry). (t.step (image_after t.step image (take n history)) x.op).1) o in
          ap (λ n. reply_of n (slice_get history n)) away
          ∙ ap (reply_of i) e.1
          ∙ ap Some (answer_to i has.op e.0.op (omega (arith, are.long)) (op_is line.client line.command e.0.op has)
          ∙ ap (λ o. m.encoding.reply_words (m.reply_to (store_at m store life journal i) o)) same)

      pub mean_stores : MeanStores m t.step t.reads life base history journal store
      mean_stores = record {
        images = λ n within. (image_stands n within).stands;
        replies = λ i line op at named. answered_at i line op at named (slice_get_within journal i line at);
        answers = λ callers place op limits_ value within. answer_to (place - base.place) op (m.encoding.op_words op) (omega arith) (record { limits = limits_; value = value; has = refl });
      }
