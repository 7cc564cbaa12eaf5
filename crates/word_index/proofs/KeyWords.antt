-- The key of a node, compared word by word where it stands.
use Rattle.std.proofs.Common.{◌≡◌, ◌+◌, ◌*◌, ◌/◌, ◌%◌, ◌<◌, ◌≤◌, ℕ, List, length, get_or, refl, sym, ap, subst, zero-add, ◌∙◌, ◌⊎◌, inr, below_more, arith}
use Rattle.std.proofs.lemmas.List.FromFn.{get_or-map-range_with_len}
use Rattle.std.specs.Ordering.{nat_cmp}
use Rattle.std.specs.declared.cmp.Ordering.{Ordering}
use Rattle.std.proofs.lemmas.List.{get_or_past}
use Rattle.cx_base.proofs.PackingLemmas.{packed_byte}
use Rattle.cx_base.specs.Packing.{byte_at, packed_at, packed, unpacked}
use Rattle.cx_base.specs.Store.{key_cmp, IsKey}
use Rattle.avl_words.specs.Lines.{IsWithin, word_of}
use Rattle.index_validation.specs.Blocks.{HasChainWords}
use Rattle.index_validation.specs.Layout.{Holds}
use Rattle.index_validation.proofs.BlockReads.{chain_first, chain_next}
use Rattle.index_validation.proofs.Texts.{key_small}
use Rattle.word_index.specs.Answers.{IsNodeOf}
use Rattle.word_index.specs.Walk.{HasNode}
use Rattle.word_index.proofs.KeyOrders.{alike_to, words_bytes}
use Rattle.word_index.proofs.NodeReads.{key_text, unpacks}

some_line : (at bytes lines : ℕ) → at < (bytes + 7) / 8 → lines ≡ (bytes + 55) / 56 → 0 < lines
some_line at bytes lines l e = omega arith

two_lines : (at bytes lines : ℕ) → 7 ≤ at → at < (bytes + 7) / 8 → lines ≡ (bytes + 55) / 56 → 1 < lines
two_lines at bytes lines seven l e = omega arith

-- the first block of a key is there, and the second where the key has more than 7 words
pub first_within : (ws : List ℕ) (first at : ℕ) → ((count : ℕ) × (at < count) × HasChainWords ws first count) → IsWithin ws first
first_within ws first at c =
    let h = c.2 in
    let used : at < (length h.bytes + 7) / 8 = subst (λ n. at < n) h.counted c.1 in
    subst (IsWithin ws) (sym (chain_first ws h.lines first h.holds.chain)) (h.within 0 0 (some_line at (length h.bytes) (length h.lines) used h.holds.enough))

second_is : (ws : List ℕ) (first second : ℕ) (lines bytes : List ℕ) → Holds ws first lines bytes → 0 < length lines → word_of ws first 0 ≡ second → second ≡ get_or lines 1 0
second_is ws first second lines bytes h some e =
    sym e ∙ ap (λ x. word_of ws x 0) (chain_first ws lines first h.chain) ∙ chain_next ws lines first 0 h.chain some

pub second_within : (ws : List ℕ) (first second at : ℕ) → 7 ≤ at → ((count : ℕ) × (at < count) × HasChainWords ws first count) → word_of ws first 0 ≡ second → IsWithin ws second
second_within ws first second at seven c e =
    let h = c.2 in
    let used : at < (length h.bytes + 7) / 8 = subst (λ n. at < n) h.counted c.1 in
    let two = two_lines at (length h.bytes) (length h.lines) seven used h.holds.enough in
    subst (IsWithin ws) (sym (second_is ws first second h.lines h.bytes h.holds (omega (arith, two)) e)) (h.within 1 0 two)

-- the words 1 to 7 of the first block are the first packed words of a text, and word 1 of the second block is the next one
word_in_first : (ws : List ℕ) (first at v : ℕ) → at < 7 → word_of ws first (1 + at) ≡ v → (lines bytes : List ℕ) → Holds ws first lines bytes → 0 < length lines → v ≡ packed_at bytes at
word_in_first ws first at v low e lines bytes h some =
    let q : at / 7 ≡ 0 = omega (arith, low) in
    let r : at % 7 ≡ at = omega (arith, low) in
    sym e ∙ ap (λ x. word_of ws x (1 + at)) (chain_first ws lines first h.chain)
    ∙ sym (ap (λ j. word_of ws (get_or lines j 0) (1 + at)) q)
    ∙ sym (ap (λ j. word_of ws (get_or lines (at / 7) 0) (1 + j)) r)
    ∙ h.packed at (omega (arith, low, some))

-- a packed word of a key at `at`, below 7, is the word `1 + at` of the key's first block
pub word_of_first : (ws : List ℕ) (first at v : ℕ) → at < 7 → word_of ws first (1 + at) ≡ v → (lines bytes : List ℕ) → Holds ws first lines bytes → at < (length bytes + 7) / 8 → v ≡ packed_at bytes at
word_of_first ws first at v low e lines bytes h used = word_in_first ws first at v low e lines bytes h (some_line at (length bytes) (length lines) used h.enough)

-- the packed word of a key at 7 is the word 1 of the key's second block
pub word_of_second : (ws : List ℕ) (first second at v : ℕ) → at ≡ 7 → word_of ws first 0 ≡ second → word_of ws second 1 ≡ v → (lines bytes : List ℕ) → Holds ws first lines bytes → at < (length bytes + 7) / 8 → v ≡ packed_at bytes at
word_of_second ws first second at v seven s e lines bytes h used =
    let two = two_lines at (length bytes) (length lines) (omega (arith, seven)) used h.enough in
    sym e ∙ ap (λ x. word_of ws x 1) (second_is ws first second lines bytes h (omega (arith, two)) s)
    ∙ h.packed 7 (omega (arith, two))
    ∙ sym (ap (packed_at bytes) seven)

packed_word : (bytes : List ℕ) (k : ℕ) → k < 8 → get_or (packed 8 bytes) k 0 ≡ packed_at bytes k
packed_word bytes k b = get_or-map-range_with_len (packed_at bytes) 0 8 k k 0 b (zero-add k)

-- the first words of a node's key, as many as given, are those of another key
pub record Compared (node first len at : ℕ) (mine ws : List ℕ) : Type 0 where
  pub first_is : word_of ws node 3 ≡ first
  pub len_is : word_of ws node 4 ≡ len
  pub alike : (pair : List ℕ × List ℕ) → IsNodeOf ws node pair → (k : ℕ) → k < at → packed_at pair.0 k ≡ get_or mine k 0

pub compared_none : (node first len : ℕ) (mine ws : List ℕ) → word_of ws node 3 ≡ first → word_of ws node 4 ≡ len → Compared node first len 0 mine ws
compared_none node first len mine ws f l = record { first_is = f; len_is = l; alike = λ pair is k b. absurd (omega arith) }

module _ (node first len at : ℕ) (mine ws : List ℕ) (c : Compared node first len at mine ws) where
  pub long_is : (pair : List ℕ × List ℕ) → IsNodeOf ws node pair → len ≡ length pair.0
  long_is pair is = sym c.len_is ∙ (key_text ws node pair is).long

  holds_key : (pair : List ℕ × List ℕ) (is : IsNodeOf ws node pair) → Holds ws first is.place.key_lines pair.0
  holds_key pair is = subst (λ n. Holds ws n is.place.key_lines pair.0) c.first_is (key_text ws node pair is).holds

  whole_key : (pair : List ℕ × List ℕ) → IsNodeOf ws node pair → unpacked len (packed 8 pair.0) ≡ pair.0
  whole_key pair is = unpacks 8 len (packed 8 pair.0) pair.0 (record { long = long_is pair is; packs = refl }) (key_small pair.0 is.is_key) is.is_key.short

  pub compared_ends : (mine_len : ℕ) (order : Ordering) → at ≤ 8 → len ≤ 8 * at ⊎ mine_len ≤ 8 * at → order ≡ nat_cmp len mine_len →
      (pair : List ℕ × List ℕ) → IsNodeOf ws node pair → order ≡ key_cmp pair.0 (unpacked mine_len mine)
  compared_ends mine_len order few ends e pair is =
      e ∙ alike_to (packed 8 pair.0) mine len mine_len (8 * at) ends
      (words_bytes (packed 8 pair.0) mine at (λ k b. packed_word pair.0 k (omega (arith, few, b)) ∙ c.alike pair is k b))
      ∙ ap (λ k. key_cmp k (unpacked mine_len mine)) (whole_key pair is)

  pub compared_chain : HasNode ws node → at < (len + 7) / 8 → (count : ℕ) × (at < count) × HasChainWords ws first count
  compared_chain h l = (
    (length h.pair.0 + 7) / 8,
    subst (λ n. at < (n + 7) / 8) (long_is h.pair h.is) l,
    record {
      lines = h.is.place.key_lines;
      bytes = h.pair.0;
      holds = holds_key h.pair h.is;
      within = (key_text ws node h.pair h.is).within;
      counted = refl;
    },
  )

  module _ (v : ℕ) (below : at < (len + 7) / 8) (read : (lines bytes : List ℕ) → Holds ws first lines bytes → at < (length bytes + 7) / 8 → v ≡ packed_at bytes at) where
    word_is : (pair : List ℕ × List ℕ) → IsNodeOf ws node pair → packed_at pair.0 at ≡ v
    word_is pair is = sym (read is.place.key_lines pair.0 (holds_key pair is) (subst (λ n. at < (n + 7) / 8) (long_is pair is) below))

    pub compared_more : v ≡ get_or mine at 0 → Compared node first len (at + 1) mine ws
    compared_more same = record {
      first_is = c.first_is;
      len_is = c.len_is;
      alike = λ pair is. below_more (λ k. packed_at pair.0 k ≡ get_or mine k 0) at (c.alike pair is) (word_is pair is ∙ same);
    }

    pub compared_apart : (mine_len : ℕ) (order : Ordering) → at < 8 →
        ((these those : List ℕ) → ((k : ℕ) → k < at → get_or these k 0 ≡ get_or those k 0) → get_or these at 0 ≡ v → get_or those at 0 ≡ get_or mine at 0 → order ≡ key_cmp (unpacked len these) (unpacked mine_len those)) →
        (pair : List ℕ × List ℕ) → IsNodeOf ws node pair → order ≡ key_cmp pair.0 (unpacked mine_len mine)
    compared_apart mine_len order few tells pair is =
        tells (packed 8 pair.0) mine (λ k b. packed_word pair.0 k (omega (arith, few, b)) ∙ c.alike pair is k b) (packed_word pair.0 at few ∙ word_is pair is) refl
        ∙ ap (λ k. key_cmp k (unpacked mine_len mine)) (whole_key pair is)

-- The same where the length is not known. Nothing is asked of the length of the node's key, since its packed words are 0 behind its end.
pub record Begun (node first at : ℕ) (mine ws : List ℕ) : Type 0 where
  pub first_is : word_of ws node 3 ≡ first
  pub alike : (pair : List ℕ × List ℕ) → IsNodeOf ws node pair → (k : ℕ) → k < at → packed_at pair.0 k ≡ get_or mine k 0

pub begun_none : (node first : ℕ) (mine ws : List ℕ) → word_of ws node 3 ≡ first → Begun node first 0 mine ws
begun_none node first mine ws f = record { first_is = f; alike = λ pair is k b. absurd (omega arith) }

key_behind : (bytes : List ℕ) → IsKey bytes → (k : ℕ) → length bytes ≤ k → k < 64 → byte_at (packed 8 bytes) k ≡ 0
key_behind bytes is k past few = packed_byte 8 k bytes (key_small bytes is) few ∙ get_or_past bytes k 0 past

whole_of : (pair : List ℕ × List ℕ) → IsKey pair.0 → unpacked (length pair.0) (packed 8 pair.0) ≡ pair.0
whole_of pair is = unpacks 8 (length pair.0) (packed 8 pair.0) pair.0 (record { long = refl; packs = refl }) (key_small pair.0 is) is.short

some_key_line : (bytes lines : ℕ) → 1 ≤ bytes → lines ≡ (bytes + 55) / 56 → 0 < lines
some_key_line bytes lines l e = omega arith

module _ (node first at : ℕ) (mine ws : List ℕ) (c : Begun node first at mine ws) where
  begun_holds : (pair : List ℕ × List ℕ) (is : IsNodeOf ws node pair) → Holds ws first is.place.key_lines pair.0
  begun_holds pair is = subst (λ n. Holds ws n is.place.key_lines pair.0) c.first_is (key_text ws node pair is).holds

  begun_some : (pair : List ℕ × List ℕ) (is : IsNodeOf ws node pair) → 0 < length is.place.key_lines
  begun_some pair is = some_key_line (length pair.0) (length is.place.key_lines) is.is_key.some (begun_holds pair is).enough

  pub begun_within : HasNode ws node → IsWithin ws first
  begun_within h =
      subst (IsWithin ws) (sym (chain_first ws h.is.place.key_lines first (begun_holds h.pair h.is).chain)) ((key_text ws node h.pair h.is).within 0 0 (begun_some h.pair h.is))

  module _ (v : ℕ) (low : at < 7) (read : word_of ws first (1 + at) ≡ v) where
    begun_word : (pair : List ℕ × List ℕ) → IsNodeOf ws node pair → packed_at pair.0 at ≡ v
    begun_word pair is = sym (word_in_first ws first at v low read is.place.key_lines pair.0 (begun_holds pair is) (begun_some pair is))

    pub begun_more : v ≡ get_or mine at 0 → Begun node first (at + 1) mine ws
    begun_more same = record {
      first_is = c.first_is;
      alike = λ pair is. below_more (λ k. packed_at pair.0 k ≡ get_or mine k 0) at (c.alike pair is) (begun_word pair is ∙ same);
    }

    -- what the words that differ tell, with the lengths or without them
    pub begun_tells : (P : ℕ → List ℕ → Type 0) →
        ((these : List ℕ) (len : ℕ) → ((k : ℕ) → len ≤ k → k < 64 → byte_at these k ≡ 0) → ((k : ℕ) → k < at → get_or these k 0 ≡ get_or mine k 0) → get_or these at 0 ≡ v → P len (unpacked len these)) →
        (pair : List ℕ × List ℕ) → IsNodeOf ws node pair → P (length pair.0) pair.0
    begun_tells P tells pair is =
        subst (P (length pair.0)) (whole_of pair is.is_key)
        (tells (packed 8 pair.0) (length pair.0) (key_behind pair.0 is.is_key) (λ k b. packed_word pair.0 k (omega (arith, low, b)) ∙ c.alike pair is k b) (packed_word pair.0 at (omega (arith, low)) ∙ begun_word pair is))

  pub begun_ends : (mine_len : ℕ) → at ≤ 8 → mine_len ≤ 8 * at → (pair : List ℕ × List ℕ) → IsNodeOf ws node pair → nat_cmp (length pair.0) mine_len ≡ key_cmp pair.0 (unpacked mine_len mine)
  begun_ends mine_len few ends pair is =
      alike_to (packed 8 pair.0) mine (length pair.0) mine_len (8 * at) (inr ends)
      (words_bytes (packed 8 pair.0) mine at (λ k b. packed_word pair.0 k (omega (arith, few, b)) ∙ c.alike pair is k b))
      ∙ ap (λ k. key_cmp k (unpacked mine_len mine)) (whole_of pair is.is_key)
