-- Texts, operations and replies are read back from their words.
use Rattle.std.specs.Prelude.{◌≡◌, ◌==◌, ◌&&◌, ◌<◌, ◌≤◌, ◌^◌, nat_le, min, ℕ, suc, Bool, true, false, cond, List, ◌++◌, All, length, replicate, slice_index, refl}
use Rattle.std.proofs.Common.{ap, sym, ◌∙◌, arith, inl, inr, lit<, get_or, length-append}
use Rattle.std.specs.Bool.{Decides}
use Rattle.std.specs.List.{list_all}
use Rattle.std.specs.Str.{bytes_eq}
use Rattle.std.proofs.lemmas.Bool.{and_parts, and_from, leb-true, le-leb, cases_lt}
use Rattle.std.proofs.lemmas.Bool.Decides.{Decides-by_and}
use Rattle.std.proofs.lemmas.List.{get_or_past, length-replicate, take_at}
use Rattle.std.proofs.lemmas.List.Elements.{All-append, All-cons, All-replicate}
use Rattle.std.proofs.lemmas.List.FromFn.{length-map-range_with_len}
use Rattle.std.proofs.lemmas.Slice.Eq.{bytes_eq-Decides}
use Rattle.cx_base.specs.Memory.{Words}
use Rattle.cx_base.specs.Packing.{packed, packed_at, unpacked}
use Rattle.cx_base.proofs.PackingLemmas.{packed_fit, unpacked-packed}
use Rattle.fifo_object.specs.Queue.{IsOp, IsReply, IsReplyValue, IsText}
use Rattle.fifo_object.specs.Words.{has_text, is_item, is_op_in, is_reply_in, is_text, item_in, item_words, kind_in, no_item, number_item, op_in, op_words, reply_in, reply_words, text_in, words_of_item}
use Rattle.fifo_object.specs.declared.operations.FifoOp.{FifoOp}
use Rattle.fifo_object.specs.declared.operations.FifoOp.TheVariants.{Push, Pop, Peek, Len}
use Rattle.fifo_object.specs.declared.operations.FifoReply.{FifoReply}
use Rattle.fifo_object.specs.declared.operations.FifoReply.TheVariants.{Pushed, Full, Item, Empty, Length}

-- ---- texts

visible_tests : (b : ℕ) → Decides (nat_le 33 b && nat_le b 126) ((33 ≤ b) × (b ≤ 126))
visible_tests b = (
  λ passes. (let parts = and_parts (nat_le 33 b) (nat_le b 126) passes in (leb-true 33 b parts.0, leb-true b 126 parts.1)),
  λ is. and_from (nat_le 33 b) (nat_le b 126) (le-leb 33 b is.0) (le-leb b 126 is.1),
)

visible_decides : (text : List ℕ) → Decides (list_all (λ b. nat_le 33 b && nat_le b 126) text) (All (λ b. (33 ≤ b) × (b ≤ 126)) text)
visible_decides text =
    Decides-by_and (λ b. nat_le 33 b && nat_le b 126) (λ b. (33 ≤ b) × (b ≤ 126)) (list_all (λ b. nat_le 33 b && nat_le b 126)) visible_tests refl (λ _ _. refl) text

pub text_from_test : (text : List ℕ) → is_text text ≡ true → IsText text
text_from_test text passes =
    let both = and_parts (nat_le 1 (length text) && nat_le (length text) 56) (list_all (λ b. nat_le 33 b && nat_le b 126) text) passes in
    let lengths = and_parts (nat_le 1 (length text)) (nat_le (length text) 56) both.0 in
    record { some = leb-true 1 (length text) lengths.0; short = leb-true (length text) 56 lengths.1; visible = (visible_decides text).0 both.1 }

pub text_passes : (text : List ℕ) → IsText text → is_text text ≡ true
text_passes text is =
    and_from (nat_le 1 (length text) && nat_le (length text) 56) (list_all (λ b. nat_le 33 b && nat_le b 126) text)
    (and_from (nat_le 1 (length text)) (nat_le (length text) 56) (le-leb 1 (length text) is.some) (le-leb (length text) 56 is.short))
    ((visible_decides text).1 is.visible)

pub bytes_small : (text : List ℕ) → IsText text → (i : ℕ) → get_or text i 0 < 256
bytes_small text is i = elim (cases_lt i (length text)) [
  | inl within ↦ (let seen = is.visible i 0 within in omega (arith, seen.1))
  | inr past ↦ omega (arith, get_or_past text i 0 past)
]

-- ---- items

-- a text of at most 56 bytes is read back from its item
short_again : (text : List ℕ) → length text ≤ 56 → ((i : ℕ) → get_or text i 0 < 256) → text_in (item_words text) ≡ text
unfolding text_in
short_again text few small =
    let short : min (length text) 56 ≡ length text = omega (arith, few) in
    ap (λ n. unpacked n (packed 7 text)) short ∙ unpacked-packed 7 text small (omega (arith, few))

pub text_again : (text : List ℕ) → IsText text → text_in (item_words text) ≡ text
text_again text is = short_again text is.short (bytes_small text is)

pub item_passes : (text : List ℕ) → IsText text → is_item (item_words text) ≡ true
unfolding is_item
item_passes text is =
    let again = text_again text is in
    and_from (is_text (text_in (item_words text))) (bytes_eq (item_words (text_in (item_words text))) (item_words text))
    (ap is_text again ∙ text_passes text is)
    ((bytes_eq-Decides (item_words (text_in (item_words text))) (item_words text)).1 (ap item_words again))

-- what an item that passes holds
pub item_holds : (item : List ℕ) → is_item item ≡ true → IsText (text_in item) × (item_words (text_in item) ≡ item)
unfolding is_item
item_holds item passes =
    let both = and_parts (is_text (text_in item)) (bytes_eq (item_words (text_in item)) item) passes in
    (text_from_test (text_in item) both.0, (bytes_eq-Decides (item_words (text_in item)) item).0 both.1)

-- ---- words of a kind and an item

long_item : (text : List ℕ) → length (item_words text) ≡ 8
long_item text = ap suc (length-map-range_with_len (packed_at text) 0 7)

item_back : (kind : ℕ) (item : List ℕ) → length item ≡ 8 → item_in (words_of_item kind item) ≡ item
unfolding words_of_item
item_back kind item long = take_at item (replicate 135 0) 8 long

pub text_back : (kind : ℕ) (text : List ℕ) → item_in (words_of_item kind (item_words text)) ≡ item_words text
text_back kind text = item_back kind (item_words text) (long_item text)

has_text_passes : (kind : ℕ) (text : List ℕ) → IsText text → has_text kind (words_of_item kind (item_words text)) ≡ true
unfolding has_text
has_text_passes kind text is =
    let ws = words_of_item kind (item_words text) in
    let back = text_back kind text in
    and_from (is_item (item_in ws)) (bytes_eq (words_of_item kind (item_in ws)) ws) (ap is_item back ∙ item_passes text is) ((bytes_eq-Decides (words_of_item kind (item_in ws)) ws).1 (ap (words_of_item kind) back))

-- ---- operations

-- an operation within the limits is read back from its words
pub op_is_read : (op : FifoOp) → IsOp op → (is_op_in (op_words op) ≡ true) × (op_in (op_words op) ≡ op)
unfolding is_op_in op_in words_of_item
op_is_read (Push text) is = (has_text_passes 1 text is, ap (λ item. Push (text_in item)) (text_back 1 text) ∙ ap Push (text_again text is))
op_is_read Pop is = (refl, refl)
op_is_read Peek is = (refl, refl)
op_is_read Len is = (refl, refl)

-- ---- replies

-- a reply within the limits is read back from its words
pub reply_is_read : (reply : FifoReply) → IsReply reply → (is_reply_in (reply_words reply) ≡ true) × (reply_in (reply_words reply) ≡ reply)
unfolding is_reply_in reply_in words_of_item
reply_is_read Pushed is = (refl, refl)
reply_is_read Full is = (refl, refl)
reply_is_read (Item text) is = (has_text_passes 3 text is, ap (λ item. Item (text_in item)) (text_back 3 text) ∙ ap Item (text_again text is))
reply_is_read Empty is = (refl, refl)
reply_is_read (Length number) is = ((bytes_eq-Decides (words_of_item 5 (number_item number)) (words_of_item 5 (number_item number))).1 refl, refl)

-- two replies within the limits that have the same words are one
pub replies_same : (one other : FifoReply) → IsReply one → IsReply other → reply_words one ≡ reply_words other → one ≡ other
replies_same one other is are e = sym (reply_is_read one is).1 ∙ ap reply_in e ∙ (reply_is_read other are).1

-- a text of bytes that has the words of one within the limits, and its length, is that one
text_by_words : (text other : List ℕ) → All (λ b. b < 256) text → IsText other → length text ≡ length other → item_words text ≡ item_words other → text ≡ other
text_by_words text other bytes is long same =
    let small : (i : ℕ) → get_or text i 0 < 256 = λ i. elim (cases_lt i (length text)) [ inl within ↦ bytes i 0 within | inr past ↦ omega (arith, get_or_past text i 0 past) ] in
    sym (short_again text (let s = is.short in omega (arith, long, s)) small) ∙ ap text_in same ∙ text_again other is

-- a reply that has the words of another within the limits is that one
pub replies_by_words : (one other : FifoReply) → IsReplyValue one → IsReply other → reply_words one ≡ reply_words other → one ≡ other
unfolding words_of_item
replies_by_words Pushed other value is same = replies_same Pushed other tt is same
replies_by_words Full other value is same = replies_same Full other tt is same
replies_by_words Empty other value is same = replies_same Empty other tt is same
replies_by_words (Length number) other value is same = replies_same (Length number) other tt is same
replies_by_words (Item text) (Item other) value is same =
    ap Item (text_by_words text other value is (ap (λ w. slice_index w 1) same) (sym (text_back 3 text) ∙ ap item_in same ∙ text_back 3 other))
replies_by_words (Item text) Pushed value is same = absurd (let k : 3 ≡ 1 = ap (λ w. slice_index w 0) same in omega (arith, k))
replies_by_words (Item text) Full value is same = absurd (let k : 3 ≡ 2 = ap (λ w. slice_index w 0) same in omega (arith, k))
replies_by_words (Item text) Empty value is same = absurd (let k : 3 ≡ 4 = ap (λ w. slice_index w 0) same in omega (arith, k))
replies_by_words (Item text) (Length number) value is same = absurd (let k : 3 ≡ 5 = ap (λ w. slice_index w 0) same in omega (arith, k))

-- ---- what an object is asked

pub kind_is_read : (op : FifoOp) → IsOp op → kind_in (op_words op) ≡ slice_index (op_words op) 0
unfolding kind_in
kind_is_read op is = ap (λ b. cond b (slice_index (op_words op) 0) 0) (op_is_read op is).0

-- whether words pass as an operation of a kind
abbrev pub op_test : ℕ → List ℕ → Bool
op_test k words = cond (k == 1) (has_text 1 words) (nat_le 2 k && nat_le k 4 && bytes_eq (words_of_item k no_item) words)

push_has_item : (words : List ℕ) (k : ℕ) → k ≡ 1 → op_test k words ≡ true → is_item (item_in words) ≡ true
unfolding has_text
push_has_item words k one passes =
    let test : has_text 1 words ≡ true = sym (ap (λ n. op_test n words) one) ∙ passes in
    (and_parts (is_item (item_in words)) (bytes_eq (words_of_item 1 (item_in words)) words) test).0

pub item_is_asked : (words : List ℕ) → kind_in words ≡ 1 → is_item (item_in words) ≡ true
unfolding kind_in is_op_in
item_is_asked words one =
    (elim (op_test (slice_index words 0) words) as (λ b. op_test (slice_index words 0) words ≡ b → cond b (slice_index words 0) 0 ≡ 1 → is_item (item_in words) ≡ true) [
      | true ↦ λ passes is. push_has_item words (slice_index words 0) is passes
      | false ↦ λ _ is. absurd (omega (arith, is))
    ]) refl one

-- ---- they are 144 words

pub words_of_fit : (kind : ℕ) (item : List ℕ) → kind < 2 ^ 64 → Words 8 item → Words 144 (words_of_item kind item)
unfolding words_of_item
words_of_fit kind item small w =
    let Small : ℕ → Type 0 = λ x. x < 2 ^ 64 in
    let zeros : List ℕ = replicate 135 0 in
    record {
      long = omega (arith, length-append item zeros, w.long, length-replicate {A = ℕ} 135 0);
      fit = All-cons Small kind (item ++ zeros) small (All-append Small item zeros w.fit (All-replicate Small 135 0 (lit< tt)));
    }

pub no_item_fits : Words 8 no_item
no_item_fits = record { long = refl; fit = All-replicate (λ x. x < 2 ^ 64) 8 0 (lit< tt) }

pub number_fits : (number : ℕ) → number < 2 ^ 64 → Words 8 (number_item number)
number_fits number small = record { long = refl; fit = All-cons (λ x. x < 2 ^ 64) number (replicate 7 0) small (All-replicate (λ x. x < 2 ^ 64) 7 0 (lit< tt)) }

pub text_fits : (text : List ℕ) → IsText text → Words 8 (item_words text)
text_fits text is = record {
  long = long_item text;
  fit = All-cons (λ x. x < 2 ^ 64) (length text) (packed 7 text) (let s = is.short in omega arith) (packed_fit 7 text (bytes_small text is));
}

-- the words of an operation within the limits are 144, each of 64 bits
pub op_fits : (op : FifoOp) → IsOp op → Words 144 (op_words op)
op_fits (Push text) is = words_of_fit 1 (item_words text) (lit< tt) (text_fits text is)
op_fits Pop is = words_of_fit 2 no_item (lit< tt) no_item_fits
op_fits Peek is = words_of_fit 3 no_item (lit< tt) no_item_fits
op_fits Len is = words_of_fit 4 no_item (lit< tt) no_item_fits
