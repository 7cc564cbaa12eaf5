-- The words that a change leaves are as many as before, of 64 bits.
use Rattle.std.proofs.Common.{◌≡◌, ◌≢◌, ◌^◌, ◌+◌, ◌*◌, ◌/◌, ◌%◌, ◌<◌, ◌≤◌, ◌==◌, ℕ, zero, suc, Bool, true, false, cond, eqb, List, [], length, get_or, map, is_some, inl, inr, refl, sym, ap, subst, ◌∙◌, lit<, arith}
use Rattle.std.specs.List.{range_with_len, All}
use Rattle.std.proofs.lemmas.Bool.{cases_eq}
use Rattle.std.proofs.lemmas.Bool.Decides.{nat_tests}
use Rattle.std.proofs.lemmas.List.Elements.{All-cons, All-map}
use Rattle.cx_base.specs.Memory.{Words}
use Rattle.cx_base.specs.Packing.{packed}
use Rattle.cx_base.specs.Store.{Store, IsKey, IsDocument, blocks, pair_lines, lines_of}
use Rattle.doc_model.specs.Meaning.{document_at, with_pair, has_room}
use Rattle.avl_words.specs.Tree.{Tree, Empty, Node, height, size}
use Rattle.avl_words.specs.Ways.{with_new}
use Rattle.avl_words.specs.Removal.{without}
use Rattle.avl_words.specs.Lines.{word_of, with_word, line_count}
use Rattle.avl_words.specs.Words.{root, times as tree_times}
use Rattle.avl_words.specs.Exact.{node_word, link_of, with_links, with_tree}
use Rattle.avl_words.proofs.ExactTrees.{AreThere, links_long}
use Rattle.avl_words.proofs.ExactWords.{tree_in_is}
use Rattle.index_validation.specs.Layout.{StandsFor, IsIndex, head_of}
use Rattle.index_validation.specs.Reading.{store_in}
use Rattle.index_validation.proofs.LawfulWords.{store_is}
use Rattle.index_validation.proofs.Texts.{document_small}
use Rattle.word_index.specs.Changes.{HasLoosePair}
use Rattle.word_index.specs.Exact.{order_in, node_at, block_words, with_chain_filled, document_blocks, with_refilled, with_emptied, with_renewed, with_rewritten, with_replaced, with_written, with_new_pair, with_one_more, with_added, with_one_less, with_node_cut, with_pair_given, is_key_in, with_document, with_key_removed}
use Rattle.word_index.specs.Fresh.{CanTake}
use Rattle.word_index.specs.Rewriting.{CanRewrite}
use Rattle.word_index.proofs.Adding.{add_room, plain_of, added_there, added_size, added_pairs}
use Rattle.word_index.proofs.Cutting.{cut_is, cut_loose, cut_there, cut_size, count_kept}
use Rattle.word_index.proofs.DocumentChanges.{chain_loose, renew_can}
use Rattle.word_index.proofs.ExactGiving.{chain_given_words, pair_given_words}
use Rattle.word_index.proofs.ExactTaking.{text_words, packed_small, new_pair_is, new_pair_words}
use Rattle.word_index.proofs.Frames.{times_self}
use Rattle.word_index.proofs.Inserting.{missing_lines, missing_key, here_key, here_can, node_at_is, room_parts}
use Rattle.word_index.proofs.NodeReads.{node_within}
use Rattle.word_index.proofs.KeyPlaces.{tree_of, walk_end, none_at, place_is_at, place_node}
use Rattle.cx_base.proofs.WordLemmas.{Words-at, Words-overwritten, Words-set}
use Rattle.doc_model.specs.Revisions.{next_revision}

-- a tree's links
height_size : (t : Tree ℕ) → height t ≤ size t
height_size Empty = omega arith
height_size (Node l x r) = (let a = height_size l in let b = height_size r in omega (arith, a, b))

root_fits : (t : Tree ℕ) → ((k : ℕ) → tree_times k t ≢ 0 → k < 2 ^ 64) → root t < 2 ^ 64
root_fits Empty f = lit< tt
root_fits (Node l x r) f = f x (λ z. absurd (let s = times_self x in omega (arith, z, s)))

-- a choice between two words of 64 bits is of 64 bits
cond_fits : (b : Bool) (a c : ℕ) → a < 2 ^ 64 → c < 2 ^ 64 → cond b a c < 2 ^ 64
cond_fits true a c p q = p
cond_fits false a c p q = q

-- each word `i` that a node gets is of 64 bits, where its children, its height and its old word are
node_fits : (left right high i old : ℕ) → left < 2 ^ 64 → right < 2 ^ 64 → high < 2 ^ 64 → old < 2 ^ 64 → node_word left right high i old < 2 ^ 64
node_fits left right high zero old l r h o = l
node_fits left right high (suc zero) old l r h o = r
node_fits left right high (suc (suc zero)) old l r h o = h
node_fits left right high (suc (suc (suc i))) old l r h o = o

-- each word `i` that a line gets with the links of a tree is of 64 bits, where the tree's nodes, its size and the old word are
link_fits : (t : Tree ℕ) (line i old : ℕ) → ((k : ℕ) → tree_times k t ≢ 0 → k < 2 ^ 64) → size t < 2 ^ 64 → old < 2 ^ 64 → link_of t line i old < 2 ^ 64
link_fits Empty line i old f s o = o
link_fits (Node l x r) line i old f s o =
    let fl : (k : ℕ) → tree_times k l ≢ 0 → k < 2 ^ 64 = λ k n. f k (λ z. n (omega (arith, z))) in
    let fr : (k : ℕ) → tree_times k r ≢ 0 → k < 2 ^ 64 = λ k n. f k (λ z. n (omega (arith, z))) in
    let h = height_size (Node l x r) in
    cond_fits (eqb x line) (node_word (root l) (root r) (height (Node l x r)) i old) (link_of l line i (link_of r line i old))
    (node_fits (root l) (root r) (height (Node l x r)) i old (root_fits l fl) (root_fits r fr) (omega (arith, h, s)) o)
    (link_fits l line i (link_of r line i old) fl (omega (arith, s)) (link_fits r line i old fr (omega (arith, s)) o))

pub tree_words : (n : ℕ) (t : Tree ℕ) (ws : List ℕ) → AreThere ws t → length ws ≤ 2 ^ 40 → size t < 2 ^ 64 → Words n ws → Words n (with_tree t ws)
unfolding with_tree with_links
tree_words n t ws there short few w =
    let f : (k : ℕ) → tree_times k t ≢ 0 → k < 2 ^ 64 = λ k m. (let within = (there k m).1 in omega (arith, within, short)) in
    let links : Words n (with_links t ws) = record {
      long = links_long t ws ∙ w.long;
      fit = All-map (λ v. v < 2 ^ 64) (λ p. link_of t (p / 8) (p % 8) (get_or ws p 0)) (range_with_len 0 (length ws))
          (λ i d m. (let p = get_or (range_with_len 0 (length ws)) i d in link_fits t (p / 8) (p % 8) (get_or ws p 0) f few (Words-at n ws p w)));
    } in
    Words-set n (with_links t ws) (8 * 0 + 1) (root t) (root_fits t f) links

-- a document in another's place
block_fits : (next : ℕ) (text : List ℕ) (from : ℕ) → next < 2 ^ 64 → ((i : ℕ) → get_or text i 0 < 2 ^ 64) → All (λ v. v < 2 ^ 64) (block_words next text from)
unfolding block_words
block_fits next text from l small =
    All-cons (λ v. v < 2 ^ 64) next (map (λ i. get_or text (from + i) 0) (range_with_len 0 7)) l
    (All-map (λ v. v < 2 ^ 64) (λ i. get_or text (from + i) 0) (range_with_len 0 7) (λ i d m. small (from + get_or (range_with_len 0 7) i d)))

filled_words : (k : ℕ) (text : List ℕ) (n from line : ℕ) (ws : List ℕ) → ((i : ℕ) → get_or text i 0 < 2 ^ 64) → Words k ws → Words k (with_chain_filled text n from line ws)
filled_words k text zero from line ws small w = w
filled_words k text (suc n) from line ws small w =
    let next = word_of ws line 0 in
    filled_words k text n (from + 7) next _ small (Words-overwritten k (block_words next text from) ws (8 * line) (block_fits next text from (Words-at k ws (8 * line + 0) w) small) w)

module _ (k : ℕ) (x : List ℕ) (node : ℕ) (document : List ℕ) (c : CanRewrite x node document) (is_document : IsDocument document) (w : Words k x) where
  small : (i : ℕ) → get_or (packed 128 document) i 0 < 2 ^ 64
  small = packed_small 128 document (document_small document is_document)

  long_fits : length document < 2 ^ 64
  long_fits = (let short = is_document.short in omega (arith, short))

  refilled_words : Words k (with_refilled document node x)
  unfolding with_refilled
  refilled_words =
      Words-set k _ (8 * node + 6) (length document) long_fits (filled_words k (packed 128 document) (blocks document) 0 (word_of x node 5) x small w)

  emptied_words : Words k (with_emptied node x)
  unfolding with_emptied
  emptied_words =
      chain_given_words (word_of x node 5) (document_blocks node x) (with_word node 6 0 (with_word node 5 0 x)) k (chain_loose x node document c (word_of x node 5) (document_blocks node x) refl refl) (Words-at k x (8 * node + 5) w)
      (Words-set k (with_word node 5 0 x) (8 * node + 6) 0 (lit< tt) (Words-set k x (8 * node + 5) 0 (lit< tt) w))

  renewed_words : Words k (with_renewed document node x)
  unfolding with_renewed
  renewed_words =
      let t = text_words k (packed 128 document) (blocks document) (with_emptied node x) (renew_can x node document c) small emptied_words in
      Words-set k _ (8 * node + 6) (length document) long_fits (Words-set k _ (8 * node + 5) _ t.0 t.1)

  by_blocks : (b : Bool) → Words k (cond b (with_refilled document node x) (with_renewed document node x))
  by_blocks true = refilled_words
  by_blocks false = renewed_words

  rewritten_words : Words k (with_rewritten document node x)
  unfolding with_rewritten
  rewritten_words = by_blocks (document_blocks node x == blocks document)

  pub replaced_words : (revision : ℕ) → revision < 2 ^ 64 → Words k (with_replaced document node revision x)
  unfolding with_replaced
  replaced_words revision fits = Words-set k (with_rewritten document node x) (8 * node + 7) revision fits rewritten_words

next_fits : (last : ℕ) → last < 2 ^ 64 → next_revision last < 2 ^ 64
next_fits last l = grind (arith, nat_tests)

module _ (k : ℕ) (x key document : List ℕ) (revision : ℕ) (fits : revision < 2 ^ 64) (version : ℕ) (store : Store) (s : StandsFor x version store) (w : Words k x) where
  short_words : length x ≤ 2 ^ 40
  short_words = (let whole = s.arranged.sized.whole in let few = s.arranged.sized.few in omega (arith, whole, few))

  -- a new pair
  added_words : 0 ≡ root (walk_end (order_in key x) s.tree).1 → IsKey key → IsDocument document → lines_of store + pair_lines (key, document) + 1 ≤ line_count x → Words k (with_added (key, document) revision x)
  unfolding with_added with_one_more
  added_words none is_key is_document room =
      let pair : List ℕ × List ℕ = (key, document) in
      let here = add_room x version store s pair room in
      let can : CanTake x (pair_lines pair) = record { head = head_of version s.last; store = store; tree = s.tree; places = s.places; given = s.given; loose = []; arranged = s.arranged; room = here } in
      let new = with_new_pair pair revision x in
      let plain = plain_of pair is_key is_document in
      let p = new_pair_is pair revision x plain can (head_of version s.last) store s.tree s.places s.given s.arranged here in
      let n = new_pair_words pair revision x plain can k fits w in
      let t = with_new (order_in key x) new.0 s.tree in
      let long : length new.1 ≡ length x = n.1.long ∙ sym w.long in
      let short = short_words in
      let size = added_size x pair version store s none new.1 revision new.0 p in
      let pairs = added_pairs x pair version store s none new.1 revision new.0 p in
      let tree = tree_words k t new.1 (added_there x pair version store s none new.1 revision new.0 p) (omega (arith, long, short)) (omega (arith, size)) n.1 in
      subst (λ u. Words k (with_one_more (with_tree (with_new (order_in key x) new.0 u) new.1))) (sym (tree_in_is x s.tree (tree_of x version store s)))
      (Words-set k (with_tree t new.1) (8 * 0 + 5) (word_of (with_tree t new.1) 0 5 + 1) (omega (arith, pairs)) tree)

  pub put_words : IsKey key → IsDocument document → lines_of (with_pair key document store) + 1 ≤ line_count x → (b : Bool) → is_some (document_at key store) ≡ b → Words k (cond b (with_replaced document (node_at key x) revision x) (with_added (key, document) revision x))
  put_words is_key is_document room b e =
      let node = root (walk_end (order_in key x) s.tree).1 in
      elim (cases_eq node 0) [
        | inl z ↦
            let m = none_at x key version store s (sym z) in
            let lines = missing_lines x key document version store s m in
            let f : false ≡ b = sym (missing_key x key document version store s m) ∙ e in
            subst (λ b. Words k (cond b (with_replaced document (node_at key x) revision x) (with_added (key, document) revision x))) f (added_words (sym z) is_key is_document (omega (arith, lines, room)))
        | inr n ↦
            let h = place_is_at x key version store s node refl n in
            let t : true ≡ b = sym (here_key x key document version store s node h) ∙ e in
            subst (λ b. Words k (cond b (with_replaced document (node_at key x) revision x) (with_added (key, document) revision x))) t
            (subst (λ n. Words k (with_replaced document n revision x)) (node_at_is x key document version store s) (replaced_words k x node document (here_can x key document version store s node h room) is_document w revision fits))
      ]

module _ (key document x : List ℕ) (i : IsIndex x) (is_key : IsKey key) (is_document : IsDocument document) (k : ℕ) (w : Words k x) where
  words_by : (b : Bool) → has_room (line_count x) (with_pair key document (store_in x)) ≡ b → Words k (cond b (with_word 0 6 (next_revision (word_of x 0 6)) (with_written key document (next_revision (word_of x 0 6)) x)) x)
  unfolding is_key_in with_written
  words_by true e =
      let same = store_is x 2 i.store i.stands in
      let room = subst (λ st. has_room (line_count x) (with_pair key document st) ≡ true) same e in
      let revision = next_revision (word_of x 0 6) in
      let fits = next_fits (word_of x 0 6) (Words-at k x 6 w) in
      Words-set k (with_written key document revision x) 6 revision fits (put_words k x key document revision fits 2 i.store i.stands w is_key is_document (room_parts (lines_of (with_pair key document i.store)) (line_count x) room i.stands.arranged.sized.some) (is_key_in key x)
      (ap (λ st. is_some (document_at key st)) (sym same)))
  words_by false e = w

  pub document_words : Words k (with_document key document x)
  unfolding with_document
  document_words = words_by (has_room (line_count x) (with_pair key document (store_in x))) refl

-- a key taken out
module _ (key x : List ℕ) (k : ℕ) (w : Words k x) (version : ℕ) (store : Store) (s : StandsFor x version store) where
  cut_words : (node : ℕ) → node ≡ root (walk_end (order_in key x) s.tree).1 → node ≢ 0 → Words k (with_pair_given node (with_node_cut key x))
  unfolding with_one_less
  cut_words node e n =
      let h = place_is_at x key version store s node e n in
      let t = without (order_in key x) s.tree in
      let now = with_one_less (with_tree t x) in
      let short = short_words k x key key 0 (lit< tt) version store s w in
      let size = cut_size x key version store s node h in
      let pairs = count_kept x key version store s node h in
      let loose : HasLoosePair now node = record { head = head_of version s.last; store = _; tree = t; places = _; place = _; pair = _; there = cut_loose x key version store s node h } in
      let within = node_within x node (record { pair = (key, h.document); is = place_node x key version store s (walk_end (order_in key x) s.tree).0 (walk_end (order_in key x) s.tree).1 node h }) in
      let tree = tree_words k t x (cut_there x key version store s node h) short (omega (arith, size)) w in
      let fits = Words-at k (with_tree t x) 5 tree in
      subst (λ u. Words k (with_pair_given node u)) (sym (cut_is x key version store s))
      (pair_given_words k node now loose (omega (arith, within, short)) (Words-set k (with_tree t x) (8 * 0 + 5) _ (omega (arith, fits)) tree))

  pub removed_by : (b : Bool) → is_some (document_at key store) ≡ b → Words k (cond b (with_pair_given (node_at key x) (with_node_cut key x)) x)
  removed_by false e = w
  removed_by true e =
      let node = root (walk_end (order_in key x) s.tree).1 in
      let ne : node ≢ 0 = λ z. absurd (let f : true ≡ false = sym e ∙ missing_key x key key version store s (none_at x key version store s (sym z)) in let g : ⊥ = cc in g) in
      subst (λ n. Words k (with_pair_given n (with_node_cut key x))) (node_at_is x key key version store s) (cut_words node refl ne)

pub removed_words : (key x : List ℕ) → IsIndex x → (k : ℕ) → Words k x → Words k (with_key_removed key x)
unfolding is_key_in with_key_removed
removed_words key x i k w = removed_by key x k w 2 i.store i.stands (is_key_in key x) (ap (λ st. is_some (document_at key st)) (sym (store_is x 2 i.store i.stands)))
