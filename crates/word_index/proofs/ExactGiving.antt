-- What is taken out leaves the exact words of its meaning.
use Rattle.std.proofs.Common.{◌≡◌, ◌^◌, ◌+◌, ◌*◌, ◌/◌, ◌<◌, ◌≤◌, ℕ, zero, suc, List, refl, sym, ap, ◌∙◌, arith}
use Rattle.cx_base.specs.Memory.{Words}
use Rattle.index_validation.proofs.Texts.{blocks_are}
use Rattle.avl_words.specs.Lines.{with_word, word_of}
use Rattle.word_index.proofs.Giving.{ChainSoFar, so_far_none, so_far_more, so_far_all, next_can_be_given}
use Rattle.word_index.proofs.PairsGiven.{text_given, pair_given, has_document_text, has_key_text, node_can_be_given}
use Rattle.word_index.specs.Changes.{with_line_given, LooseChain, ChainGiven, LooseText, TextGiven, HasLoosePair, PairGiven}
use Rattle.word_index.specs.Exact.{with_chain_given, with_text_given, with_pair_given}
use Rattle.cx_base.proofs.WordLemmas.{Words-at, Words-set}

-- giving back a line leaves as many words, each of 64 bits
pub given_words : (n : ℕ) (ws : List ℕ) (line : ℕ) → line < 2 ^ 64 → word_of ws 0 4 ≤ 2 ^ 32 → Words n ws → Words n (with_line_given line ws)
unfolding with_line_given
given_words n ws line small few w =
    let w1 = with_word line 0 (word_of ws 0 2) ws in
    let w2 = with_word 0 2 line w1 in
    Words-set n w2 (8 * 0 + 4) (word_of ws 0 4 + 1) (omega arith) (Words-set n w1 (8 * 0 + 2) line small (Words-set n ws (8 * line + 0) (word_of ws 0 2) (Words-at n ws 2 w) w))

-- a chain
module _ (first count : ℕ) (x : List ℕ) where
  -- giving back the `n` lines that are left of a chain, after `i` of them, gives the whole chain back
  chain_goes : (n i line : ℕ) (y : List ℕ) → i + n ≡ count → ChainSoFar first count i line x y → ChainGiven first count x (with_chain_given n line y)
  chain_goes zero i line y e r = so_far_all first count i line x y (omega arith) r
  chain_goes (suc n) i line y e r =
      chain_goes n (i + 1) (word_of y line 0) (with_line_given line y) (omega arith) (so_far_more first count i line (word_of y line 0) x y (with_line_given line y) (omega arith) r refl refl)

  -- giving back the `n` lines that are left of a loose chain leaves `k` words of 64 bits each
  chain_words_go : (k n i line : ℕ) (y : List ℕ) → i + n ≡ count → LooseChain x first count → ChainSoFar first count i line x y → line < 2 ^ 64 → Words k y → Words k (with_chain_given n line y)
  chain_words_go k zero i line y e h r small w = w
  chain_words_go k (suc n) i line y e h r small w =
      let can = next_can_be_given first count i line x y (omega arith) h r in
      chain_words_go k n (i + 1) (word_of y line 0) (with_line_given line y) (omega arith) h (so_far_more first count i line (word_of y line 0) x y (with_line_given line y) (omega arith) r refl refl)
      (Words-at k y (8 * line + 0) w) (given_words k y line small can.few w)

  pub chain_is_given : ChainGiven first count x (with_chain_given count first x)
  chain_is_given = chain_goes count 0 first x (omega arith) (so_far_none first count x x refl)

  -- giving back a whole loose chain from the line `first` on leaves `k` words of 64 bits each
  pub chain_given_words : (k : ℕ) → LooseChain x first count → first < 2 ^ 64 → Words k x → Words k (with_chain_given count first x)
  chain_given_words k h small w = chain_words_go k count 0 first x (omega arith) h (so_far_none first count x x refl) small w

pub text_is_given : (node at : ℕ) (x : List ℕ) → TextGiven node at x (with_text_given node at x)
unfolding with_text_given
text_is_given node at x =
    let len = word_of x node (at + 1) in
    text_given node at (word_of x node at) len ((len + 55) / 56) x x (with_chain_given ((len + 55) / 56) (word_of x node at) x) refl refl refl (blocks_are len)
    (chain_is_given (word_of x node at) ((len + 55) / 56) x)

loose_chain : (x : List ℕ) (node at : ℕ) → LooseText x node at → LooseChain x (word_of x node at) ((word_of x node (at + 1) + 55) / 56)
loose_chain x node at t = record {
  head = t.head;
  store = t.store;
  tree = t.tree;
  places = t.places;
  lines = t.lines;
  others = t.others;
  loose = t.loose;
  chain = t.text.holds.chain;
  counted = ap (λ n. (n + 55) / 56) t.text.long ∙ sym t.text.holds.enough;
}

pub text_given_words : (k node at : ℕ) (x : List ℕ) → LooseText x node at → Words k x → Words k (with_text_given node at x)
unfolding with_text_given
text_given_words k node at x t w =
    chain_given_words (word_of x node at) ((word_of x node (at + 1) + 55) / 56) x k (loose_chain x node at t) (Words-at k x (8 * node + at) w) w

-- giving back a pair by the definition gives back its lines
pub pair_is_given : (node : ℕ) (x : List ℕ) → PairGiven node x (with_pair_given node x)
unfolding with_pair_given
pair_is_given node x =
    let y = with_text_given node 5 x in
    let z = with_text_given node 3 y in
    pair_given x y z (with_line_given node z) node (text_is_given node 5 x) (text_is_given node 3 y) refl

pub pair_given_words : (k node : ℕ) (x : List ℕ) → HasLoosePair x node → node < 2 ^ 64 → Words k x → Words k (with_pair_given node x)
unfolding with_pair_given
pair_given_words k node x h small w =
    let y = with_text_given node 5 x in
    let z = with_text_given node 3 y in
    let t = text_is_given node 5 x in
    let can = node_can_be_given x y z node h t (text_is_given node 3 y) in
    given_words k z node small can.few (text_given_words k node 3 y (has_key_text x y node h t) (text_given_words k node 5 x (has_document_text x node h) w))
