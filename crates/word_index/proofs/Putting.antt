-- A pair is written into new lines.
use Rattle.std.proofs.Common.{◌≡◌, ◌^◌, ◌+◌, ◌*◌, ◌/◌, ◌%◌, ◌≤◌, ℕ, min, List, [], ◌∷◌, ◌++◌, length, get_or, refl, sym, ap, subst, ◌∙◌, inl, inr, zero-add, arith, length-append}
use Rattle.std.specs.List.{flat_map}
use Rattle.std.specs.Int.{div_ceil}
use Rattle.std.proofs.lemmas.Bool.{cases_lt}
use Rattle.std.proofs.lemmas.List.{get_or_past}
use Rattle.std.proofs.lemmas.List.Elements.{All-head}
use Rattle.std.proofs.lemmas.List.FromFn.{get_or-map-range_with_len, length-map-range_with_len}
use Rattle.std.proofs.lemmas.List.Sums.{sum_by-cons, sum_by-append}
use Rattle.cx_base.specs.Packing.{byte_at, packed_at, packed, unpacked}
use Rattle.cx_base.specs.Store.{Store, pair_lines, lines_of}
use Rattle.avl_words.specs.Lines.{IsWithin, word_of}
use Rattle.index_validation.proofs.BlockReads.{word_at_past}
use Rattle.index_validation.proofs.Lines.{all_left, all_right}
use Rattle.index_validation.proofs.Totals.{all_lines}
use Rattle.index_validation.specs.Layout.{Holds, PairLayout, lines_at, Placed, IsLaidOut, RevisionHead}
use Rattle.word_index.proofs.Frames.{times, times_append, times_cons, holds_same}
use Rattle.word_index.proofs.PairsGiven.{reordered, loose_within}
use Rattle.word_index.proofs.Taking.{from_one}
use Rattle.word_index.proofs.Writing.{fill_arranged}
use Rattle.word_index.specs.Answers.{IsPackOf}
use Rattle.word_index.specs.Packed.{IsPacked}
use Rattle.word_index.specs.Changes.{SameLine}
use Rattle.word_index.specs.Fresh.{CanTake, LineTaken, LineFilled, IsChainWritten, TextWritten}
use Rattle.word_index.specs.Insertion.{PairWritten}
use Rattle.avl_words.specs.Tree.{Tree}

-- the lines of a store's places are as many as the store takes
pub lines_of_places : (ws : List ℕ) (places : List PairLayout) (store : Store) → Placed ws places store → length (flat_map lines_at places) ≡ lines_of store
lines_of_places ws [] [] n = refl
lines_of_places ws [] (q ∷ store) n = absurd n
lines_of_places ws (p ∷ places) [] n = absurd n
lines_of_places ws (p ∷ places) (q ∷ store) n =
    let is = n.0 in
    omega (
      arith,
      lines_of_places ws places store n.1,
      sum_by-cons pair_lines q store,
      length-append (lines_at p) (flat_map lines_at places),
      length-append p.key_lines p.document_lines,
      is.key.enough,
      is.document.enough,
    )

pub lines_of_append : (xs ys : Store) → lines_of (xs ++ ys) ≡ lines_of xs + lines_of ys
lines_of_append xs ys = sum_by-append pair_lines xs ys

pub lines_of_cons : (p : List ℕ × List ℕ) (xs : Store) → lines_of (p ∷ xs) ≡ pair_lines p + lines_of xs
lines_of_cons p xs = sum_by-cons pair_lines p xs

-- packed bytes
pub length_unpacked : (n : ℕ) (words : List ℕ) → length (unpacked n words) ≡ n
length_unpacked n words = length-map-range_with_len (byte_at words) 0 n

pub packs : (n len : ℕ) (words : List ℕ) → IsPacked n len words → IsPackOf n len words (unpacked len words)
packs n len words p = record { long = sym (length_unpacked len words); packs = p.unused }

pub packed_word : (n i : ℕ) (bytes : List ℕ) → length bytes ≤ 8 * n → get_or (packed n bytes) i 0 ≡ packed_at bytes i
packed_word n i bytes short =
    elim (cases_lt i n) [
      | inl l ↦ get_or-map-range_with_len (packed_at bytes) 0 n i i 0 l (zero-add i)
      | inr past ↦ get_or_past (packed n bytes) i 0 (omega (arith, length-map-range_with_len (packed_at bytes) 0 n)) ∙ sym (word_at_past bytes i (omega arith))
    ]

pub count_blocks : (len count bytes : ℕ) → count ≡ len / 56 + min 1 (len % 56) → len ≡ bytes → count ≡ (bytes + 55) / 56
count_blocks len count bytes c e = omega arith

-- written words hold the bytes packed in them
pub written_holds : (x y : List ℕ) (head : RevisionHead) (store : Store) (tree : Tree ℕ) (places : List PairLayout) (first count n len : ℕ) (words bytes loose : List ℕ) → IsPackOf n len words bytes → length bytes ≤ 8 * n → count ≡ div_ceil len 56 →
    (w : IsChainWritten x y head store tree places first count 0 words loose) → Holds y first w.lines bytes
written_holds x y head store tree places first count n len words bytes loose p short counted w = record {
  chain = w.chain;
  enough = w.counted ∙ count_blocks len count (length bytes) counted p.long;
  packed = λ i l. w.content i (omega (arith, w.counted)) ∙ ap (λ k. get_or words k 0) (zero-add i) ∙ ap (λ ws. get_or ws i 0) p.packs ∙ packed_word n i bytes short;
}

-- a store has at least as many lines as pairs, and these are few
pairs_of_lines : (store : Store) → length store ≤ lines_of store
pairs_of_lines [] = omega arith
pairs_of_lines (q ∷ store) = omega (arith, pairs_of_lines store, sum_by-cons pair_lines q store)

pub few_pairs : (ws : List ℕ) (head : RevisionHead) (store : Store) (tree : Tree ℕ) (places : List PairLayout) (given loose : List ℕ) → IsLaidOut ws head store tree places given loose → word_of ws 0 5 ≤ 2 ^ 32
few_pairs ws head store tree places given loose a =
    omega (arith, pairs_of_lines store, lines_of_places ws places store a.nodes.pairs, all_lines ws head store tree places given loose a, a.pair_count, a.end_to, a.sized.few)

-- where `more` lines can be taken, fewer can be
pub room_less : (ws : List ℕ) (more less : ℕ) → less ≤ more → CanTake ws more → CanTake ws less
room_less ws more less l c = record {
  head = c.head;
  store = c.store;
  tree = c.tree;
  places = c.places;
  given = c.given;
  loose = c.loose;
  arranged = c.arranged;
  room = (let room = c.room in omega (arith, room));
}

-- with room for `1 + more` lines, there is room for `more` once one was taken
pub room_after_line : (x y : List ℕ) (line more : ℕ) → CanTake x (1 + more) → LineTaken line x y → CanTake y more
room_after_line x y line more c t =
    let room = c.room in
    let q = t c.head c.store c.tree c.places c.given c.loose c.arranged (omega (arith, room)) in
    record {
      head = c.head;
      store = c.store;
      tree = c.tree;
      places = c.places;
      given = q.given;
      loose = line ∷ c.loose;
      arranged = q.arranged;
      room = (let long = ap (λ n. n / 8) q.long in omega (arith, room, long));
    }

-- with room for `count + more` lines, there is room for `more` once a text was written into `count` blocks
pub room_after_text : (x y words : List ℕ) (count first more : ℕ) → CanTake x (count + more) → TextWritten words count first x y → CanTake y more
room_after_text x y words count first more c t =
    let room = c.room in
    let q = t c.head c.store c.tree c.places c.given c.loose c.arranged (omega (arith, room)) in
    record {
      head = c.head;
      store = c.store;
      tree = c.tree;
      places = c.places;
      given = q.taken.given;
      loose = q.lines ++ c.loose;
      arranged = q.taken.arranged;
      room = (let long = ap (λ n. n / 8) q.taken.long in omega (arith, room, long, q.counted, length-append q.lines c.loose));
    }

-- the node's line is still there when its words are written
pub node_still : (x y z w : List ℕ) (node count other key_first doc_first : ℕ) (key doc : List ℕ) → CanTake x (1 + (count + other)) → LineTaken node x y → TextWritten key count key_first y z → TextWritten doc other doc_first z w → IsWithin w node
node_still x y z w node count other key_first doc_first key doc c t k d =
    let room = c.room in
    let p = t c.head c.store c.tree c.places c.given c.loose c.arranged (omega (arith, room)) in
    let long_y = ap (λ n. n / 8) p.long in
    let q = k c.head c.store c.tree c.places p.given (node ∷ c.loose) p.arranged (omega (arith, room, long_y)) in
    let long_z = ap (λ n. n / 8) q.taken.long in
    let r = d c.head c.store c.tree c.places q.taken.given (q.lines ++ (node ∷ c.loose)) q.taken.arranged (omega (arith, room, long_y, long_z, q.counted, length-append q.lines (node ∷ c.loose))) in
    let within = loose_within w c.head c.store c.tree c.places r.taken.given (r.lines ++ (q.lines ++ (node ∷ c.loose))) r.taken.arranged in
    All-head (IsWithin w) node c.loose (all_right (IsWithin w) q.lines (node ∷ c.loose) (all_right (IsWithin w) r.lines (q.lines ++ (node ∷ c.loose)) within))

-- the blocks and the node in the order of a place
place_order : (x node : ℕ) (key_lines doc_lines : List ℕ) → times x (node ∷ (key_lines ++ doc_lines)) ≡ times x (doc_lines ++ (key_lines ++ (node ∷ [])))
place_order x node key_lines doc_lines =
    omega (arith, times_cons x node (key_lines ++ doc_lines), times_append x key_lines doc_lines, times_append x doc_lines (key_lines ++ (node ∷ [])), times_append x key_lines (node ∷ []), times_cons x node [])

-- a pair is written where a line is taken for its node, its key and its document are written, and the node's words are filled in
pub pair_written : (x y z w v : List ℕ) (node count other key_first doc_first key_len doc_len revision : ℕ) (key_words doc_words : List ℕ) → IsPacked 8 key_len key_words → IsPacked 128 doc_len doc_words →
    count ≡ div_ceil key_len 56 → other ≡ div_ceil doc_len 56 → LineTaken node x y → TextWritten key_words count key_first y z → TextWritten doc_words other doc_first z w →
    LineFilled node (0 ∷ 0 ∷ 1 ∷ key_first ∷ key_len ∷ doc_first ∷ doc_len ∷ revision ∷ []) w v → PairWritten (unpacked key_len key_words, unpacked doc_len doc_words) revision node x v
pair_written x y z w v node count other key_first doc_first key_len doc_len revision key_words doc_words key_packed doc_packed key_count doc_count t k d f head store tree places given a room =
    let key = unpacked key_len key_words in
    let doc = unpacked doc_len doc_words in
    let key_long = length_unpacked key_len key_words in
    let doc_long = length_unpacked doc_len doc_words in
    let key_short = key_packed.short in
    let doc_short = doc_packed.short in
    let key_blocks = count_blocks key_len count (length key) key_count (sym key_long) in
    let doc_blocks = count_blocks doc_len other (length doc) doc_count (sym doc_long) in
    let p = t head store tree places given [] a (omega (arith, room)) in
    let long_y = ap (λ n. n / 8) p.long in
    let q = k head store tree places p.given (node ∷ []) p.arranged (omega (arith, room, long_y, key_blocks, doc_blocks)) in
    let long_z = ap (λ n. n / 8) q.taken.long in
    let r = d head store tree places q.taken.given (q.lines ++ (node ∷ [])) q.taken.arranged (omega (arith, room, long_y, long_z, key_blocks, doc_blocks, q.counted, length-append q.lines (node ∷ []))) in
    let ordered = reordered w head store tree places r.taken.given (r.lines ++ (q.lines ++ (node ∷ []))) (node ∷ (q.lines ++ r.lines)) (λ n. place_order n node q.lines r.lines) r.taken.arranged in
    let u = fill_arranged w v head store tree places r.taken.given (q.lines ++ r.lines) (0 ∷ 0 ∷ 1 ∷ key_first ∷ key_len ∷ doc_first ∷ doc_len ∷ revision ∷ []) node ordered f in
    let key_same_w = all_left (SameLine z w) q.lines (node ∷ []) r.taken.same in
    let key_same = all_left (SameLine w v) q.lines r.lines u.1 in
    let doc_same = all_right (SameLine w v) q.lines r.lines u.1 in
    let key_holds = holds_same w v key_first q.lines key key_same (holds_same z w key_first q.lines key key_same_w
    (written_holds y z head store tree places key_first count 8 key_len key_words key (node ∷ []) (packs 8 key_len key_words key_packed) (omega arith) key_count q)) in
    let doc_holds = holds_same w v doc_first r.lines doc doc_same
    (written_holds z w head store tree places doc_first other 128 doc_len doc_words doc (q.lines ++ (node ∷ [])) (packs 128 doc_len doc_words doc_packed) (omega arith) doc_count r) in
    record {
      given = r.taken.given;
      place = record { node = node; key_lines = q.lines; document_lines = r.lines; revision = revision };
      here = refl;
      revised = refl;
      arranged = u.0;
      is = record {
        key = subst (λ n. Holds v n q.lines key) (sym (f.here 3 (omega arith))) key_holds;
        key_length = f.here 4 (omega arith) ∙ sym key_long;
        document = subst (λ n. Holds v n r.lines doc) (sym (f.here 5 (omega arith))) doc_holds;
        document_length = f.here 6 (omega arith) ∙ sym doc_long;
        revised = f.here 7 (omega arith);
      };
      leaf = record {
        some = All-head (λ l. 1 ≤ l) node (q.lines ++ r.lines) (from_one v head store tree places r.taken.given (node ∷ (q.lines ++ r.lines)) u.0).2;
        within = All-head (IsWithin v) node (q.lines ++ r.lines) (loose_within v head store tree places r.taken.given (node ∷ (q.lines ++ r.lines)) u.0);
        left_is = f.here 0 (omega arith);
        right_is = f.here 1 (omega arith);
        height_is = f.here 2 (omega arith);
      };
      long = f.long ∙ r.taken.long ∙ q.taken.long ∙ p.long;
    }
