-- Words stand for at most one store: the first node is forced, equal lengths force equal chains, and packed words force the bytes.
use Rattle.std.proofs.Common.{◌≡◌, ◌+◌, ◌*◌, ◌/◌, ◌%◌, ◌<◌, ◌≤◌, ℕ, List, [], ◌∷◌, ◌++◌, length, get_or, refl, sym, ap, subst, ◌∙◌, zero-add, arith}
use Rattle.std.specs.List.{All}
use Rattle.std.proofs.lemmas.List.{append-nil}
use Rattle.std.proofs.lemmas.List.Elements.{All-head, All-tail}
use Rattle.std.proofs.lemmas.List.FromFn.{fill_by_all, length-map-range_with_len, get_or-map-range_with_len}
use Rattle.cx_base.proofs.PackingLemmas.{unpacked-packed}
use Rattle.cx_base.specs.Packing.{packed_at, packed, unpacked}
use Rattle.cx_base.specs.Store.{Store, IsStore, IsKey, IsDocument}
use Rattle.avl_words.specs.Lines.{word_of}
use Rattle.index_validation.specs.Layout.{IsChain, Holds, PairLayout, IsAt, Placed, nodes_of}
use Rattle.index_validation.proofs.Texts.{key_small, document_small}

-- chains of one length from one line are equal
pub chain_one : (ws lines others : List ℕ) (first : ℕ) → IsChain ws first lines → IsChain ws first others → length lines ≡ length others → lines ≡ others
chain_one ws [] [] first c d e = refl
chain_one ws [] (m ∷ others) first c d e = absurd (omega arith)
chain_one ws (l ∷ lines) [] first c d e = absurd (omega arith)
chain_one ws (l ∷ lines) (m ∷ others) first c d e =
    let same : l ≡ m = sym c.0 ∙ d.0 in
    let behind = subst (λ x. IsChain ws (word_of ws x 0) others) (sym same) d.1 in
    ap (λ x. x ∷ lines) same ∙ ap (λ rest. m ∷ rest) (chain_one ws lines others (word_of ws l 0) c.1 behind (omega arith))

-- bytes with the same packed words
packed_one : (n : ℕ) (bytes others : List ℕ) → ((i : ℕ) → i < n → packed_at bytes i ≡ packed_at others i) → packed n bytes ≡ packed n others
packed_one n bytes others same =
    fill_by_all (packed_at others) (packed n bytes) n 0 (length-map-range_with_len (packed_at bytes) 0 n)
    (λ k l. get_or-map-range_with_len (packed_at bytes) 0 n k k 0 l (zero-add k) ∙ same k l)

pub bytes_one : (n : ℕ) (bytes others : List ℕ) → ((i : ℕ) → i < n → packed_at bytes i ≡ packed_at others i) → length bytes ≡ length others → length bytes ≤ 8 * n →
    ((i : ℕ) → get_or bytes i 0 < 256) → ((i : ℕ) → get_or others i 0 < 256) → bytes ≡ others
bytes_one n bytes others same long short small small_too =
    sym (unpacked-packed n bytes small short)
    ∙ ap (λ ws. unpacked (length bytes) ws) (packed_one n bytes others same)
    ∙ ap (λ k. unpacked k (packed n others)) long
    ∙ unpacked-packed n others small_too (omega arith)

-- a chain of blocks holds one list of bytes of a length
pub record SameText (lines others bytes more : List ℕ) : Type 0 where
  pub in_lines : lines ≡ others
  pub of_bytes : bytes ≡ more

fits : (len lines : ℕ) → lines ≡ (len + 55) / 56 → len ≤ 8 * (7 * lines)
fits len lines e = omega arith

pub text_one : (ws : List ℕ) (first : ℕ) (lines others bytes more : List ℕ) → Holds ws first lines bytes → Holds ws first others more → length bytes ≡ length more →
    ((i : ℕ) → get_or bytes i 0 < 256) → ((i : ℕ) → get_or more i 0 < 256) → SameText lines others bytes more
text_one ws first lines others bytes more h k long small small_too =
    let counts : length lines ≡ length others = h.enough ∙ ap (λ n. (n + 55) / 56) long ∙ sym k.enough in
    let same = chain_one ws lines others first h.chain k.chain counts in
    let there = subst (λ ls. (i : ℕ) → i < 7 * length ls → word_of ws (get_or ls (i / 7) 0) (1 + i % 7) ≡ packed_at more i) (sym same) k.packed in
    record {
      in_lines = same;
      of_bytes = bytes_one (7 * length lines) bytes more (λ i l. sym (h.packed i l) ∙ there i l) long (fits (length bytes) (length lines) h.enough) small small_too;
    }

-- a node names one pair, at one place
pub record SamePair (p q : PairLayout) (a b : List ℕ × List ℕ) : Type 0 where
  pub place : p ≡ q
  pub pair : a ≡ b

-- two places `p` and `q` are equal where their nodes, their lines and their revisions are
place_one : (p q : PairLayout) → p.node ≡ q.node → p.key_lines ≡ q.key_lines → p.document_lines ≡ q.document_lines → p.revision ≡ q.revision → p ≡ q
place_one p q e f g h =
    let make : ℕ → List ℕ → List ℕ → ℕ → PairLayout = λ n k d r. record { node = n; key_lines = k; document_lines = d; revision = r } in
    ap (λ n. make n p.key_lines p.document_lines p.revision) e ∙ ap (λ k. make q.node k p.document_lines p.revision) f ∙ ap (λ d. make q.node q.key_lines d p.revision) g
    ∙ ap (λ r. make q.node q.key_lines q.document_lines r) h

-- two pairs `a` and `b` are equal where their keys and their documents are
two_parts : (a b : List ℕ × List ℕ) → a.0 ≡ b.0 → a.1 ≡ b.1 → a ≡ b
two_parts a b e f =
    let make : List ℕ → List ℕ → List ℕ × List ℕ = λ k d. (k, d) in
    ap (λ k. make k a.1) e ∙ ap (λ d. make b.0 d) f

-- a pair within the limits
abbrev pub IsPair : List ℕ × List ℕ → Type 0
IsPair pair = IsKey pair.0 × IsDocument pair.1

pub pairs_of : (store : Store) → IsStore store → All IsPair store
pairs_of store s = λ k d l. (s.keys k d l, s.documents k d l)

-- of two places `p` and `q` with one node the pairs `a` and `b`, both within the limits, are equal, and so are the places
pub pair_one : (ws : List ℕ) (p q : PairLayout) (a b : List ℕ × List ℕ) → IsAt ws p a → IsAt ws q b → p.node ≡ q.node → IsPair a → IsPair b → SamePair p q a b
pair_one ws p q a b at at_too here is is_too =
    let key_long : length a.0 ≡ length b.0 = sym at.key_length ∙ ap (λ n. word_of ws n 4) here ∙ at_too.key_length in
    let document_long : length a.1 ≡ length b.1 = sym at.document_length ∙ ap (λ n. word_of ws n 6) here ∙ at_too.document_length in
    let key = text_one ws (word_of ws p.node 3) p.key_lines q.key_lines a.0 b.0 at.key
    (subst (λ n. Holds ws (word_of ws n 3) q.key_lines b.0) (sym here) at_too.key) key_long (key_small a.0 is.0) (key_small b.0 is_too.0) in
    let document = text_one ws (word_of ws p.node 5) p.document_lines q.document_lines a.1 b.1 at.document
    (subst (λ n. Holds ws (word_of ws n 5) q.document_lines b.1) (sym here) at_too.document) document_long (document_small a.1 is.1) (document_small b.1 is_too.1) in
    record {
      place = place_one p q here key.in_lines document.in_lines (sym at.revised ∙ ap (λ n. word_of ws n 7) here ∙ at_too.revised);
      pair = two_parts a b key.of_bytes document.of_bytes;
    }

-- pairs at the first of some nodes are the first of all pairs at them
pub record IsFront (ws : List ℕ) (more : List ℕ) (front places : List PairLayout) (lower store : Store) : Type 0 where
  pub rest : List PairLayout
  pub others : Store
  pub places_are : places ≡ front ++ rest
  pub store_is : store ≡ lower ++ others
  pub nodes : nodes_of rest ≡ more
  pub placed : Placed ws rest others

-- where the nodes of all places begin with those of some others, the pairs at those others are the first of all pairs
pub placed_front : (ws more : List ℕ) (front places : List PairLayout) (lower store : Store) → Placed ws front lower → Placed ws places store → nodes_of places ≡ nodes_of front ++ more →
    All IsPair lower → All IsPair store → IsFront ws more front places lower store
placed_front ws more [] places [] store n m e is is_too = record { rest = places; others = store; places_are = refl; store_is = refl; nodes = e; placed = m }
placed_front ws more [] places (a ∷ lower) store n m e is is_too = absurd n
placed_front ws more (p ∷ front) places [] store n m e is is_too = absurd n
placed_front ws more (p ∷ front) [] (a ∷ lower) store n m e is is_too = absurd (omega (arith, ap length e))
placed_front ws more (p ∷ front) (q ∷ places) (a ∷ lower) [] n m e is is_too = absurd m
placed_front ws more (p ∷ front) (q ∷ places) (a ∷ lower) (b ∷ store) n m e is is_too =
    let here : q.node ≡ p.node = cc in
    let behind : nodes_of places ≡ nodes_of front ++ more = cc in
    let same = pair_one ws p q a b n.0 m.0 (sym here) (All-head IsPair a lower is) (All-head IsPair b store is_too) in
    let f = placed_front ws more front places lower store n.1 m.1 behind (All-tail IsPair a lower is) (All-tail IsPair b store is_too) in
    record {
      rest = f.rest;
      others = f.others;
      places_are = ap (λ ps. q ∷ ps) f.places_are ∙ ap (λ x. x ∷ (front ++ f.rest)) (sym same.place);
      store_is = ap (λ s. b ∷ s) f.store_is ∙ ap (λ x. x ∷ (lower ++ f.others)) (sym same.pair);
      nodes = f.nodes;
      placed = f.placed;
    }

-- pairs in two parts
pub placed_append : (ws : List ℕ) (front rest : List PairLayout) (lower others : Store) → Placed ws front lower → Placed ws rest others → Placed ws (front ++ rest) (lower ++ others)
placed_append ws [] rest [] others n m = m
placed_append ws [] rest (a ∷ lower) others n m = absurd n
placed_append ws (p ∷ front) rest [] others n m = absurd n
placed_append ws (p ∷ front) rest (a ∷ lower) others n m = (n.0, placed_append ws front rest lower others n.1 m)

pub placed_count : (ws : List ℕ) (places : List PairLayout) (store : Store) → Placed ws places store → length (nodes_of places) ≡ length store
placed_count ws [] [] p = refl
placed_count ws [] (b ∷ store) p = absurd p
placed_count ws (q ∷ places) [] p = absurd p
placed_count ws (q ∷ places) (b ∷ store) p = omega (arith, placed_count ws places store p.1)

-- at some nodes stand the pairs of one store, at the same places
pub record IsSame (places more : List PairLayout) (store others : Store) : Type 0 where
  pub places_are : places ≡ more
  pub store_is : store ≡ others

-- where no node is left behind the places that are the first ones, both lists of places are equal, and so are the two stores
ended : (ws : List ℕ) (places more : List PairLayout) (store others : Store) (f : IsFront ws [] more places others store) (rest : List PairLayout) (left : Store) → rest ≡ f.rest → left ≡ f.others → nodes_of rest ≡ [] → Placed ws rest left → IsSame places more store others
ended ws places more store others f [] [] e g n p = record { places_are = f.places_are ∙ ap (λ u. more ++ u) (sym e) ∙ append-nil more; store_is = f.store_is ∙ ap (λ u. others ++ u) (sym g) ∙ append-nil others }
ended ws places more store others f [] (b ∷ left) e g n p = absurd p
ended ws places more store others f (q ∷ rest) left e g n p = absurd (omega (arith, ap length n))

-- two stores within the limits, at places with the same nodes in order, are one store at the same places
pub placed_one : (ws : List ℕ) (places more : List PairLayout) (store others : Store) → Placed ws places store → Placed ws more others → nodes_of places ≡ nodes_of more → IsStore store → IsStore others → IsSame places more store others
placed_one ws places more store others p q e is is_too =
    let f = placed_front ws [] more places others store q p (e ∙ sym (append-nil (nodes_of more))) (pairs_of others is_too) (pairs_of store is) in
    ended ws places more store others f f.rest f.others refl refl f.nodes f.placed
