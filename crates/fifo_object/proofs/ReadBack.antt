-- What passes as the words of an operation or a reply is the words of one.
use Rattle.std.specs.Prelude.{◌≡◌, ◌==◌, ◌&&◌, ◌≤◌, nat_le, ℕ, zero, suc, Bool, true, false, cond, List, slice_index, refl}
use Rattle.std.proofs.Common.{ap, sym, ◌∙◌, arith}
use Rattle.std.proofs.Common.{Result, Ok, Err, IsErrAnd, IsErrOf}
use Rattle.fifo_object.specs.declared.words.FifoFault.{FifoFault}
use Rattle.fifo_object.specs.declared.words.FifoFault.TheVariants.{BadOp, Memory}
use Rattle.std.specs.Str.{bytes_eq}
use Rattle.std.proofs.lemmas.Bool.{and_parts, leb-true, ne_eqb}
use Rattle.std.proofs.lemmas.Slice.Eq.{bytes_eq-Decides}
use Rattle.fifo_object.specs.Queue.{IsOp, IsReply, IsText}
use Rattle.fifo_object.specs.Words.{AreOfNoOp, AreOfNoReply, has_text, is_item, is_op_in, is_reply_in, item_in, item_words, kind_in, no_item, number_item, op_in, op_words, reply_in, reply_words, text_in, words_of_item}
use Rattle.fifo_object.specs.declared.operations.FifoOp.{FifoOp}
use Rattle.fifo_object.specs.declared.operations.FifoOp.TheVariants.{Push, Pop, Peek, Len}
use Rattle.fifo_object.specs.declared.operations.FifoReply.{FifoReply}
use Rattle.fifo_object.specs.declared.operations.FifoReply.TheVariants.{Pushed, Full, Item, Empty, Length}
use Rattle.fifo_object.specs.WordLaws.{item_holds, op_is_read, op_test, reply_is_read}

-- words that have a text
has_text_holds : (kind : ℕ) (words : List ℕ) → has_text kind words ≡ true → IsText (text_in (item_in words)) × (words_of_item kind (item_words (text_in (item_in words))) ≡ words)
unfolding has_text
has_text_holds kind words passes =
    let both = and_parts (is_item (item_in words)) (bytes_eq (words_of_item kind (item_in words)) words) passes in
    let holds = item_holds (item_in words) both.0 in
    (holds.0, ap (words_of_item kind) holds.1 ∙ (bytes_eq-Decides (words_of_item kind (item_in words)) words).0 both.1)

-- words that have neither text nor number
bare_holds : (least k : ℕ) (words : List ℕ) → (nat_le least k && nat_le k 4 && bytes_eq (words_of_item k no_item) words) ≡ true → (k ≤ 4) × (words_of_item k no_item ≡ words)
bare_holds least k words passes =
    let both = and_parts (nat_le least k && nat_le k 4) (bytes_eq (words_of_item k no_item) words) passes in
    (leb-true k 4 (and_parts (nat_le least k) (nat_le k 4) both.0).1, (bytes_eq-Decides (words_of_item k no_item) words).0 both.1)

abbrev op_by : ℕ → List ℕ → FifoOp
op_by k words = cond (k == 1) (Push (text_in (item_in words))) (cond (k == 2) Pop (cond (k == 3) Peek Len))

op_by_kind : (words : List ℕ) (k : ℕ) → op_test k words ≡ true → IsOp (op_by k words) × (op_words (op_by k words) ≡ words)
op_by_kind words zero passes = cc
op_by_kind words (suc zero) passes = has_text_holds 1 words passes
op_by_kind words (suc (suc zero)) passes = (tt, (bare_holds 2 2 words passes).1)
op_by_kind words (suc (suc (suc zero))) passes = (tt, (bare_holds 2 3 words passes).1)
op_by_kind words (suc (suc (suc (suc zero)))) passes = (tt, (bare_holds 2 4 words passes).1)
op_by_kind words (suc (suc (suc (suc (suc k))))) passes =
    let n = suc (suc (suc (suc (suc k)))) in
    let other : (n == 1) ≡ false = ne_eqb n 1 (λ e. omega (arith, e)) in
    let few = (bare_holds 2 n words (sym (ap (λ b. cond b (has_text 1 words) (nat_le 2 n && nat_le n 4 && bytes_eq (words_of_item n no_item) words)) other) ∙ passes)).0 in
    absurd (omega (arith, few))

pub fifo_op_is_there : (words : List ℕ) → is_op_in words ≡ true → IsOp (op_in words) × (op_words (op_in words) ≡ words)
unfolding is_op_in op_in
fifo_op_is_there words passes = op_by_kind words (slice_index words 0) passes

pub no_op : (words : List ℕ) → is_op_in words ≡ false → AreOfNoOp words
no_op words fails op is has = (let passes : is_op_in words ≡ true = ap is_op_in (sym has) ∙ (op_is_read op is).0 in cc)

pub ops_same : (one other : FifoOp) → IsOp one → IsOp other → op_words one ≡ op_words other → one ≡ other
ops_same one other is are e = sym (op_is_read one is).1 ∙ ap op_in e ∙ (op_is_read other are).1

abbrev reply_test : ℕ → List ℕ → Bool
reply_test k words =
    cond (k == 3) (has_text 3 words) (cond (k == 5) (bytes_eq (words_of_item 5 (number_item (slice_index words 1))) words) (nat_le 1 k && nat_le k 4 && bytes_eq (words_of_item k no_item) words))

abbrev reply_by : ℕ → List ℕ → FifoReply
reply_by k words = cond (k == 1) Pushed (cond (k == 2) Full (cond (k == 3) (Item (text_in (item_in words))) (cond (k == 4) Empty (Length (slice_index words 1)))))

reply_by_kind : (words : List ℕ) (k : ℕ) → reply_test k words ≡ true → IsReply (reply_by k words) × (reply_words (reply_by k words) ≡ words)
reply_by_kind words zero passes = cc
reply_by_kind words (suc zero) passes = (tt, (bare_holds 1 1 words passes).1)
reply_by_kind words (suc (suc zero)) passes = (tt, (bare_holds 1 2 words passes).1)
reply_by_kind words (suc (suc (suc zero))) passes = has_text_holds 3 words passes
reply_by_kind words (suc (suc (suc (suc zero)))) passes = (tt, (bare_holds 1 4 words passes).1)
reply_by_kind words (suc (suc (suc (suc (suc zero))))) passes = (tt, (bytes_eq-Decides (words_of_item 5 (number_item (slice_index words 1))) words).0 passes)
reply_by_kind words (suc (suc (suc (suc (suc (suc k)))))) passes =
    let n = suc (suc (suc (suc (suc (suc k))))) in
    let bare : Bool = nat_le 1 n && nat_le n 4 && bytes_eq (words_of_item n no_item) words in
    let number : Bool = bytes_eq (words_of_item 5 (number_item (slice_index words 1))) words in
    let three : (n == 3) ≡ false = ne_eqb n 3 (λ e. omega (arith, e)) in
    let five : (n == 5) ≡ false = ne_eqb n 5 (λ e. omega (arith, e)) in
    let few = (bare_holds 1 n words (sym (ap (λ b. cond b (has_text 3 words) (cond (n == 5) number bare)) three ∙ ap (λ b. cond b number bare) five) ∙ passes)).0 in
    absurd (omega (arith, few))

pub reply_is_there : (words : List ℕ) → is_reply_in words ≡ true → IsReply (reply_in words) × (reply_words (reply_in words) ≡ words)
unfolding is_reply_in reply_in
reply_is_there words passes = reply_by_kind words (slice_index words 0) passes

pub no_reply : (words : List ℕ) → is_reply_in words ≡ false → AreOfNoReply words
no_reply words fails reply is has = (let passes : is_reply_in words ≡ true = ap is_reply_in (sym has) ∙ (reply_is_read reply is).0 in cc)

-- words of no operation have no kind
pub none_has_no_kind : (words : List ℕ) → AreOfNoOp words → kind_in words ≡ 0
unfolding kind_in
none_has_no_kind words none =
    (elim (is_op_in words) as (λ b. is_op_in words ≡ b → cond b (slice_index words 0) 0 ≡ 0) [
      | true ↦ λ passes. (let there = fifo_op_is_there words passes in absurd (none (op_in words) there.0 there.1))
      | false ↦ λ _. refl
    ]) refl

-- words that have a kind are those of an operation of that kind
pub of_kind : (words : List ℕ) (k : ℕ) → kind_in words ≡ suc k → IsOp (op_by (suc k) words) × (op_words (op_by (suc k) words) ≡ words)
unfolding kind_in is_op_in
of_kind words k is =
    (elim (op_test (slice_index words 0) words) as (λ b. op_test (slice_index words 0) words ≡ b → cond b (slice_index words 0) 0 ≡ suc k → IsOp (op_by (suc k) words) × (op_words (op_by (suc k) words) ≡ words)) [
      | true ↦ λ passes same. op_by_kind words (suc k) (sym (ap (λ n. op_test n words) same) ∙ passes)
      | false ↦ λ _ same. absurd (omega (arith, same))
    ]) refl is

-- out of memory is no refusal
pub memory_is_not_bad : {T : Type 0} (answer : Result T FifoFault) → IsErrAnd answer (λ fault. fault ≡ Memory) → IsErrOf answer BadOp → ⊥
memory_is_not_bad (Ok x) memory bad = cc
memory_is_not_bad (Err e) memory bad = cc
