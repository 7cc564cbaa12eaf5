-- The laws of the queue as an object.
use Rattle.std.specs.Prelude.{◌≡◌, ◌≢◌, ◌==◌, ◌||◌, ◌⊎◌, ◌+◌, ◌-◌, ◌*◌, ◌%◌, ◌^◌, ◌<◌, ◌≤◌, nat_le, ℕ, suc, Bool, true, false, cond, List, replicate, slice_index, slice_set, IsTrue, refl}
use Rattle.std.proofs.Common.{ap, sym, subst, ◌∙◌, arith, inl, inr, lit<}
use Rattle.std.proofs.Math.Nat.{mod-add-mod, mod-eq_of_lt, mod-lt}
use Rattle.std.proofs.lemmas.Bool.{cases_lt, eqb-true, leb-false, eqb-false}
use Rattle.std.proofs.lemmas.List.{get_or-replicate}
use Rattle.std.proofs.lemmas.List.Elements.{All-replicate}
use Rattle.cx_base.specs.Memory.{Words, overwritten}
use Rattle.cx_base.specs.WordLaws.{Words-set, Words-then_zeros}
use Rattle.cx_base.proofs.WordLemmas.{Words-overwritten}
use Rattle.fifo_object.specs.Words.{is_item, item_in, kind_in, no_item, number_item, reply_words, text_in, words_of_item}
use Rattle.fifo_object.specs.WordLaws.{item_holds, item_is_asked, no_item_fits, number_fits, text_fits, words_of_fit}
use Rattle.fifo_object.specs.declared.operations.FifoReply.TheVariants.{Empty, Full, Pushed}
use Rattle.fifo_object.specs.Fifo.{IsFifo, count_in, fifo_opening, fifo_reads, fifo_step, front_words, queue_head, item_at, len_step, peek_step, item_place, pop_step, popped, push_step, pushed, step_by}
use Rattle.fifo_object.specs.Places.{popped_count, popped_head, popped_header, popped_items, pushed_apart, pushed_count, pushed_header, pushed_here}
use Rattle.fifo_object.specs.RingLaws.{apart}

-- ---- choices

pub holds_of_choice : {A : Type 0} (P : A → Type 0) (b : Bool) (x y : A) → (b ≡ true → P x) → (b ≡ false → P y) → P (cond b x y)
holds_of_choice P true x y p q = p refl
holds_of_choice P false x y p q = q refl

step_case : (P : List ℕ × List ℕ → Type 0) (kind lines : ℕ) (item image : List ℕ) → (kind ≡ 1 → P (push_step lines item image)) → P (pop_step lines image) → P (peek_step image) → P (len_step image) →
    P (image, replicate 144 0) → P (step_by kind lines item image)
step_case P kind lines item image push pop peek len none =
    let rest = cond (kind == 4) (len_step image) (image, replicate 144 0) in
    holds_of_choice P (kind == 1) (push_step lines item image) (cond (kind == 2) (pop_step lines image) (cond (kind == 3) (peek_step image) rest)) (λ e. push (eqb-true kind 1 e))
    (λ _. holds_of_choice P (kind == 2) (pop_step lines image) (cond (kind == 3) (peek_step image) rest) (λ _. pop)
    (λ _. holds_of_choice P (kind == 3) (peek_step image) rest (λ _. peek) (λ _. holds_of_choice P (kind == 4) (len_step image) (image, replicate 144 0) (λ _. len) (λ _. none))))

-- ---- items

pub item_fits : (item : List ℕ) → is_item item ≡ true → Words 8 item
item_fits item passes = (let holds = item_holds item passes in subst (Words 8) holds.1 (text_fits (text_in item) holds.0))

module _ (lines : ℕ) (image : List ℕ) (i : IsFifo lines image) where
  pub at_head : item_place lines image 0 ≡ queue_head image
  at_head = ap (λ k. k % (lines - 1)) (let e : queue_head image + 0 ≡ queue_head image = omega arith in e) ∙ mod-eq_of_lt i.header.head

  -- where there is an item, the item of a text stands at the head
  pub front_item : 0 < count_in image → is_item (item_at image (queue_head image)) ≡ true
  front_item some = ap (λ p. is_item (item_at image p)) (sym at_head) ∙ i.items 0 some

  -- a push into a place leaves a lawful image
  pub pushed_is : (item : List ℕ) → 2 ≤ lines → lines ≤ 2 ^ 32 → is_item item ≡ true → count_in image < lines - 1 → IsFifo lines (pushed lines item image)
  unfolding pushed
  pushed_is item some few passes room =
      let fits = item_fits item passes in
      let h = i.header in
      let kept : (j : ℕ) → j < 8 → j ≢ 2 → slice_index (pushed lines item image) j ≡ slice_index image j = pushed_header lines image item i.words some fits.long in
      let count = pushed_count lines image item i.words some fits.long in
      let head : queue_head (pushed lines item image) ≡ queue_head image = kept 1 (omega arith) (λ e. omega (arith, e)) in
      record {
        words = Words-set (8 * lines) (overwritten (8 * (item_place lines image (count_in image) + 1)) item image) 2 (count_in image + 1) (omega (arith, room, few)) (Words-overwritten (8 * lines) item image (8 * (item_place lines image (count_in image) + 1)) fits.fit i.words);
        header = record {
          version = kept 0 (omega arith) (λ e. omega (arith, e)) ∙ h.version;
          head = (let s = h.head in omega (arith, head, s));
          count = omega (arith, count, room);
          zeros = (
            kept 3 (omega arith) (λ e. omega (arith, e)) ∙ h.zeros.0,
            kept 4 (omega arith) (λ e. omega (arith, e)) ∙ h.zeros.1,
            kept 5 (omega arith) (λ e. omega (arith, e)) ∙ h.zeros.2,
            kept 6 (omega arith) (λ e. omega (arith, e)) ∙ h.zeros.3,
            kept 7 (omega arith) (λ e. omega (arith, e)) ∙ h.zeros.4,
          );
        };
        items = λ k below.
            let place : item_place lines (pushed lines item image) k ≡ item_place lines image k = ap (λ n. (n + k) % (lines - 1)) head in
            ap (λ p. is_item (item_at (pushed lines item image) p)) place ∙ elim (cases_lt k (count_in image)) [
              | inl old ↦ ap is_item (pushed_apart lines image item i.words some fits.long (item_place lines image k) (apart (lines - 1) (queue_head image) (count_in image) k old room)) ∙ i.items k old
              | inr new ↦ (
                  let last : k ≡ count_in image = omega (arith, new, below, count) in
                  ap (λ n. is_item (item_at (pushed lines item image) (item_place lines image n))) last ∙ ap is_item (pushed_here lines image item i.words some fits.long) ∙ passes)
            ];
      }

  -- a pop of an item leaves a lawful image
  pub popped_is : 2 ≤ lines → lines ≤ 2 ^ 32 → 0 < count_in image → IsFifo lines (popped lines image)
  unfolding popped
  popped_is some few there =
      let h = i.header in
      let kept : (j : ℕ) → j ≢ 1 → j ≢ 2 → slice_index (popped lines image) j ≡ slice_index image j = popped_header lines image i.words some in
      let count = popped_count lines image i.words some in
      let head = popped_head lines image i.words some in
      let small : item_place lines image 1 < lines - 1 = mod-lt (queue_head image + 1) (omega (arith, some)) in
      record {
        words = Words-set (8 * lines) (slice_set image 1 (item_place lines image 1)) 2 (count_in image - 1) (let c = h.count in omega (arith, c, few)) (Words-set (8 * lines) image 1 (item_place lines image 1) (omega (arith, small, few)) i.words);
        header = record {
          version = kept 0 (λ e. omega (arith, e)) (λ e. omega (arith, e)) ∙ h.version;
          head = omega (arith, head, small);
          count = (let c = h.count in omega (arith, count, c));
          zeros = (
            kept 3 (λ e. omega (arith, e)) (λ e. omega (arith, e)) ∙ h.zeros.0,
            kept 4 (λ e. omega (arith, e)) (λ e. omega (arith, e)) ∙ h.zeros.1,
            kept 5 (λ e. omega (arith, e)) (λ e. omega (arith, e)) ∙ h.zeros.2,
            kept 6 (λ e. omega (arith, e)) (λ e. omega (arith, e)) ∙ h.zeros.3,
            kept 7 (λ e. omega (arith, e)) (λ e. omega (arith, e)) ∙ h.zeros.4,
          );
        };
        items = λ k below.
            let place : item_place lines (popped lines image) k ≡ item_place lines image (suc k) =
            ap (λ n. (n + k) % (lines - 1)) head ∙ mod-add-mod (queue_head image + 1) (lines - 1) k ∙ ap (λ n. n % (lines - 1)) (let e : queue_head image + 1 + k ≡ queue_head image + suc k = omega arith in e) in
            ap (λ p. is_item (item_at (popped lines image) p)) place ∙ ap is_item (popped_items lines image i.words some (item_place lines image (suc k))) ∙ i.items (suc k) (omega (arith, below, count));
      }

-- ---- the laws

pub opens : (lines : ℕ) → 2 ≤ lines → IsFifo lines (fifo_opening lines)
opens lines some =
    let n = 8 * lines - 1 in
    let zero_at : (k : ℕ) → k < 7 → slice_index (fifo_opening lines) (suc k) ≡ 0 = λ k below. get_or-replicate (8 * lines - 1) k 0 0 (omega (arith, some, below)) in
    record {
      words = subst (λ m. Words m (fifo_opening lines)) (let e : suc (8 * lines - 1) ≡ 8 * lines = omega (arith, some) in e) (Words-then_zeros 16 (8 * lines - 1) (lit< tt));
      header = record {
        version = refl;
        head = omega (arith, some, zero_at 0 (omega arith));
        count = omega (arith, some, zero_at 1 (omega arith));
        zeros = (zero_at 2 (omega arith), zero_at 3 (omega arith), zero_at 4 (omega arith), zero_at 5 (omega arith), zero_at 6 (omega arith));
      };
      items = λ i below. absurd (omega (arith, below, zero_at 1 (omega arith)));
    }

pub keeps : (lines : ℕ) → 2 ≤ lines → lines ≤ 2 ^ 32 → (image op : List ℕ) → IsFifo lines image → IsFifo lines (fifo_step lines image op).0
unfolding fifo_step push_step pop_step
keeps lines some few image op i =
    let item = item_in op in
    step_case (λ p. IsFifo lines p.0) (kind_in op) lines item image
    (λ one. holds_of_choice (λ (p : List ℕ × List ℕ). IsFifo lines p.0) (nat_le (lines - 1) (count_in image)) (image, reply_words Full) (pushed lines item image, reply_words Pushed) (λ _. i)
    (λ room. pushed_is lines image i item some few (item_is_asked op one) (leb-false (lines - 1) (count_in image) room)))
    (holds_of_choice (λ (p : List ℕ × List ℕ). IsFifo lines p.0) (count_in image == 0) (image, reply_words Empty) (popped lines image, words_of_item 3 (item_at image (queue_head image))) (λ _. i)
    (λ there. popped_is lines image i some few (some_there (count_in image) there)))
    i i i
  where
    some_there : (n : ℕ) → (n == 0) ≡ false → 0 < n
    some_there n other = (let no = eqb-false n 0 other in elim (cases_lt 0 n) [ inl more ↦ more | inr none ↦ absurd (no (omega (arith, none))) ])

pub shape : (lines : ℕ) (image : List ℕ) → IsFifo lines image → Words (8 * lines) image × (slice_index image 0 ≡ 16)
shape lines image i = (i.words, i.header.version)

zeros_fit : Words 144 (replicate 144 0)
zeros_fit = record { long = refl; fit = All-replicate (λ w. w < 2 ^ 64) 144 0 (lit< tt) }

front_fits : (lines : ℕ) (image : List ℕ) → IsFifo lines image → (count_in image == 0) ≡ false → Words 144 (words_of_item 3 (item_at image (queue_head image)))
front_fits lines image i other =
    let some : 0 < count_in image = (let no = eqb-false (count_in image) 0 other in elim (cases_lt 0 (count_in image)) [ inl more ↦ more | inr none ↦ absurd (no (omega (arith, none))) ]) in
    words_of_fit 3 (item_at image (queue_head image)) (lit< tt) (item_fits (item_at image (queue_head image)) (front_item lines image i some))

bare_fits : (kind : ℕ) → kind < 2 ^ 64 → Words 144 (words_of_item kind no_item)
bare_fits kind small = words_of_fit kind no_item small no_item_fits

pub replies : (lines : ℕ) → lines ≤ 2 ^ 32 → (image op : List ℕ) → IsFifo lines image → Words 144 (fifo_step lines image op).1
unfolding fifo_step push_step pop_step front_words
replies lines few image op i =
    let item = item_in op in
    let front = words_of_item 3 (item_at image (queue_head image)) in
    let c = i.header.count in
    step_case (λ p. Words 144 p.1) (kind_in op) lines item image
    (λ _. holds_of_choice (λ (p : List ℕ × List ℕ). Words 144 p.1) (nat_le (lines - 1) (count_in image)) (image, reply_words Full) (pushed lines item image, reply_words Pushed) (λ _. bare_fits 2 (lit< tt)) (λ _. bare_fits 1 (lit< tt)))
    (holds_of_choice (λ (p : List ℕ × List ℕ). Words 144 p.1) (count_in image == 0) (image, reply_words Empty) (popped lines image, front) (λ _. bare_fits 4 (lit< tt)) (front_fits lines image i))
    (holds_of_choice (Words 144) (count_in image == 0) (reply_words Empty) front (λ _. bare_fits 4 (lit< tt)) (front_fits lines image i))
    (words_of_fit 5 (number_item (count_in image)) (lit< tt) (number_fits (count_in image) (omega (arith, c, few))))
    zeros_fit

pub reads_kind : (k : ℕ) → (k == 3 || k == 4) ≡ true → (k ≡ 3) ⊎ (k ≡ 4)
reads_kind k reads =
    (elim (k == 3) as (λ b. (k == 3) ≡ b → (b || k == 4) ≡ true → (k ≡ 3) ⊎ (k ≡ 4)) [ true ↦ λ e _. inl (eqb-true k 3 e) | false ↦ λ _ f. inr (eqb-true k 4 f) ]) refl reads

pub leaves : (lines : ℕ) (image op : List ℕ) → IsTrue (fifo_reads op) → (fifo_step lines image op).0 ≡ image
unfolding fifo_step fifo_reads
leaves lines image op reads = elim (reads_kind (kind_in op) reads) [
  | inl three ↦ ap (λ k. (step_by k lines (item_in op) image).0) three
  | inr four ↦ ap (λ k. (step_by k lines (item_in op) image).0) four
]
