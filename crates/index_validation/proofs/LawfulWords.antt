-- Words of which all lines are checked stand for a store, and only such words.
use Rattle.std.proofs.Common.{◌≡◌, ◌≢◌, ◌+◌, ◌^◌, ◌<◌, ◌≤◌, ℕ, zero, suc, Bool, true, false, cond, eqb, ltb, leb, ◌&&◌, List, [], ◌∷◌, ◌++◌, length, get_or, map, set, replicate, refl, sym, ap, ap₂, subst, ◌∙◌, inl, inr, arith}
use Rattle.std.specs.List.{All, flat_map}
use Rattle.std.proofs.lemmas.Bool.{cases_eq, cases_lt}
use Rattle.std.proofs.lemmas.Bool.Decides.{nat_tests}
use Rattle.std.proofs.lemmas.List.{append-nil, length-set, length-replicate, get_or-set_same, get_or-set_other, get_or_past}
use Rattle.std.proofs.lemmas.List.Elements.{All-from_get_or, All-head, All-tail}
use Rattle.cx_base.specs.Store.{Store, IsKey, IsDocument}
use Rattle.avl_words.specs.Tree.{items}
use Rattle.avl_words.specs.Exact.{tree_in}
use Rattle.avl_words.specs.Lines.{word_of, line_count}
use Rattle.index_validation.proofs.Orders.{items_count, shape_lines, in_order_root}
use Rattle.index_validation.specs.Layout.{PairLayout, lines_at, Placed, nodes_of, head_of, IsHead, AreRevisions, StandsFor}
use Rattle.index_validation.specs.Lawful.{head_in, IsLawful, HasOneStore, count_of, mark_of, CanMark, HasChain, NoChain, HasNodes, NoNodes, IsHeader, HasRoot, AreLinesLawful}
use Rattle.index_validation.specs.Reading.{text_at, pair_at, store_in}
use Rattle.index_validation.proofs.Arranging.{tree_few, arranged_count, arranged_nodes, arranged_shape}
use Rattle.index_validation.proofs.Counts.{count_append}
use Rattle.index_validation.proofs.Marking.{in_line, past_line, can_mark_front, can_mark_rest}
use Rattle.index_validation.proofs.OneStore.{chain_one, placed_count, placed_one}
use Rattle.index_validation.proofs.Texts.{text_is, key_small, document_small}

-- where lines are lawful, those of the pairs and the given-back ones can all be marked
all_can : (ws : List ℕ) (marks : List Bool) (a : AreLinesLawful ws marks) → CanMark marks (flat_map lines_at a.places ++ a.given)
all_can ws marks a = record { once = λ x. omega (arith, a.once x) }

-- where no nodes can be found, lines are not lawful
pub no_lines_nodes : (ws : List ℕ) (old : List Bool) → NoNodes ws old → AreLinesLawful ws old → ⊥
no_lines_nodes ws old none a = none a.places a.store a.placed a.nodes a.lawful a.revisions (can_mark_front old (flat_map lines_at a.places) a.given (all_can ws old a))

-- where lines are lawful, the pairs stand at the places of the nodes that were found
same_places : (ws : List ℕ) (old now : List Bool) (h : HasNodes ws old now) (a : AreLinesLawful ws old) → a.places ≡ h.places
same_places ws old now h a = (placed_one ws a.places h.places a.store h.store a.placed h.placed (a.nodes ∙ sym h.nodes) a.lawful h.lawful).places_are

-- where the nodes were found, and no chain of given-back lines can be marked behind them, lines are not lawful
pub no_lines_given : (ws : List ℕ) (old now : List Bool) → HasNodes ws old now → NoChain ws (word_of ws 0 2) (word_of ws 0 4) now → AreLinesLawful ws old → ⊥
no_lines_given ws old now h none a =
    let can = subst (λ ps. CanMark old (flat_map lines_at ps ++ a.given)) (same_places ws old now h a) (all_can ws old a) in
    none a.given a.given_back a.given_counted (can_mark_rest old now (flat_map lines_at h.places) a.given h.marks can)

-- a line is marked in the end as often as it is one of the nodes' lines or of the given-back ones, and as it was marked at first
marked_times : (ws : List ℕ) (old now end : List Bool) (h : HasNodes ws old now) (g : HasChain ws (word_of ws 0 2) (word_of ws 0 4) now end) → (x : ℕ) → mark_of end x ≡ count_of x (flat_map lines_at h.places ++ g.lines) + mark_of old x
marked_times ws old now end h g x = omega (arith, h.marks.are x, g.marks.are x, count_append x (flat_map lines_at h.places) g.lines)

-- where all marks are set, a line counts 1 exactly where it is below the number of marks
all_marked : (marks : List Bool) → All (λ b. b ≡ true) marks → (x : ℕ) → ◌≡◌ {A = ℕ} (mark_of marks x) (cond (ltb x (length marks)) 1 0)
all_marked marks all x =
    elim (cases_lt x (length marks)) [
      | inl l ↦ ap (λ b. cond b 1 0) (all x false l) ∙ sym (in_line x (length marks) l)
      | inr l ↦ ap (λ b. cond b 1 0) (get_or_past marks x false l) ∙ sym (past_line x (length marks) l)
    ]

-- where the lines of the nodes and then the given-back ones were marked, and all are marked in the end, lines are lawful
pub lines_all : (ws : List ℕ) (old now end : List Bool) → HasNodes ws old now → HasChain ws (word_of ws 0 2) (word_of ws 0 4) now end → All (λ b. b ≡ true) end → AreLinesLawful ws old
lines_all ws old now end h g all =
    let long : length end ≡ length old = g.marks.long ∙ h.marks.long in
    record {
      places = h.places;
      store = h.store;
      given = g.lines;
      placed = h.placed;
      nodes = h.nodes;
      lawful = h.lawful;
      revisions = h.revisions;
      given_back = g.chain;
      given_counted = g.counted;
      once = λ x. sym (marked_times ws old now end h g x) ∙ all_marked end all x ∙ ap (λ n. cond (ltb x n) 1 0) long;
    }

-- a mark that counts 1 is set
is_marked : (b : Bool) → ◌≡◌ {A = ℕ} (cond b 1 0) 1 → b ≡ true
is_marked true e = refl
is_marked false e = absurd (omega arith)

-- where the lines are lawful, all are marked once those of the nodes `h` and the given-back ones `g` are
pub all_from_lines : (ws : List ℕ) (old now end : List Bool) → HasNodes ws old now → HasChain ws (word_of ws 0 2) (word_of ws 0 4) now end → AreLinesLawful ws old → All (λ b. b ≡ true) end
all_from_lines ws old now end h g a =
    let places = same_places ws old now h a in
    let given = chain_one ws a.given g.lines (word_of ws 0 2) a.given_back g.chain (a.given_counted ∙ sym g.counted) in
    let long : length end ≡ length old = g.marks.long ∙ h.marks.long in
    All-from_get_or (λ b. b ≡ true) end false (λ x l. (
    let same : count_of x (flat_map lines_at a.places ++ a.given) ≡ count_of x (flat_map lines_at h.places ++ g.lines) =
    ap (λ ps. count_of x (flat_map lines_at ps ++ a.given)) places ∙ ap (λ ls. count_of x (flat_map lines_at h.places ++ ls)) given in
    is_marked (get_or end x false) (omega (arith, marked_times ws old now end h g x, a.once x, same, in_line x (length old) (omega arith)))))

-- in a list of marks of which none is set, none is set at any place
all_false : (n x : ℕ) → get_or (replicate n false) x false ≡ false
all_false zero x = refl
all_false (suc n) zero = refl
all_false (suc n) (suc x) = all_false n x

-- no line but 0 counts as line 0
other : (x : ℕ) → x ≢ 0 → ◌≡◌ {A = ℕ} 0 (cond (eqb x 0) 1 0)
other x ne = grind (arith, nat_tests)

-- a list of marks in which line 0's alone is set counts 1 for line 0 and 0 for each other line
header_mark : (end x : ℕ) → 1 ≤ end → ◌≡◌ {A = ℕ} (mark_of (set (replicate end false) 0 true) x) (cond (eqb x 0) 1 0)
header_mark end x some =
    elim (cases_eq x 0) [
      | inl e ↦ subst (λ y. ◌≡◌ {A = ℕ} (mark_of (set (replicate end false) 0 true) y) (cond (eqb y 0) 1 0)) (sym e)
          (ap (λ b. cond b 1 0) (get_or-set_same (replicate end false) 0 true false (omega (arith, length-replicate end false))))
      | inr ne ↦ ap (λ b. cond b 1 0) (get_or-set_other (replicate end false) 0 x true false ne ∙ all_false end x) ∙ other x ne
    ]

-- Where count and mark of a line are one together exactly below `end`, and line 0 alone has a mark, the line counts once exactly where it is from 1 to below `end`.
once_from : (x end count mark : ℕ) → 1 ≤ end → count + mark ≡ cond (ltb x end) 1 0 → mark ≡ cond (eqb x 0) 1 0 → count ≡ cond (leb 1 x && ltb x end) 1 0
once_from x end count mark some e m = grind (arith, nat_tests)

-- where a line `x` from 1 to below `end` is counted once and line 0 alone has a mark, count and mark make one for each line below `end`
once_to : (x end count mark : ℕ) → 1 ≤ end → count ≡ cond (leb 1 x && ltb x end) 1 0 → mark ≡ cond (eqb x 0) 1 0 → count + mark ≡ cond (ltb x end) 1 0
once_to x end count mark some e m = grind (arith, nat_tests)

-- the list of marks in which line 0's alone is set has one for each line below `end`
first_long : (end : ℕ) → length (set (replicate end false) 0 true) ≡ end
first_long end = length-set (replicate end false) 0 true ∙ length-replicate end false

-- a number below another that is at most one of at most 2 ^ 32 is below 2 ^ 32
few_nodes : (n m k : ℕ) → n < m → m ≤ k → k ≤ 2 ^ 32 → n < 2 ^ 32
few_nodes n m k l e f = omega arith

-- words with a right header `h`, a tree of as many nodes as it says, and lawful lines `a` stand for a store
pub lawful_from : (ws : List ℕ) (version end : ℕ) → end ≡ word_of ws 0 3 → IsHeader ws version → HasRoot ws → AreLinesLawful ws (set (replicate end false) 0 true) → IsLawful ws version
lawful_from ws version end is h r a =
    let some : 1 ≤ end = (let from = h.end_from in omega arith) in
    let t = r.shape in
    let few = few_nodes (word_of ws 0 5) (word_of ws 0 3) (line_count ws) r.few h.end_to h.sized.few in
    let nodes = sym (shape_lines ws (word_of ws 0 1) (word_of ws 0 5) t few) ∙ sym a.nodes in (
      a.store,
      record {
        tree = t.tree;
        places = a.places;
        given = a.given;
        last = word_of ws 0 6;
        arranged = record {
          sized = h.sized;
          version_word = h.version_word;
          nodes = record { root_is = sym t.root_is; shape = t.stands; balanced = t.balanced; in_order = nodes; pairs = a.placed };
          given_back = a.given_back;
          end_from = h.end_from;
          end_to = h.end_to;
          once = λ x. (
              let whole : count_of x (flat_map lines_at a.places ++ a.given) + mark_of (set (replicate end false) 0 true) x ≡ cond (ltb x end) 1 0 = a.once x ∙ ap (λ n. cond (ltb x n) 1 0) (first_long end) in
              ap (λ ls. count_of x ls) (append-nil (flat_map lines_at a.places ++ a.given)) ∙ once_from x end _ _ some whole (header_mark end x some) ∙ ap (λ n. cond (leb 1 x && ltb x n) 1 0) is);
          given_count = sym a.given_counted;
          pair_count = sym t.counted ∙ sym (items_count t.tree) ∙ ap length nodes ∙ placed_count ws a.places a.store a.placed;
          last_word = refl;
          no_seventh = h.no_seventh;
        };
        lawful = a.lawful;
        known = subst (λ n. IsHead (head_of n (word_of ws 0 6))) h.version_word h.known;
        revisions = subst (λ n. AreRevisions (head_of n (word_of ws 0 6)) a.places) h.version_word a.revisions;
      },
    )

-- what the header of words that stand for a store says of revisions is their version and the last revision
pub head_is : (ws : List ℕ) (version : ℕ) (store : Store) (s : StandsFor ws version store) → head_of version s.last ≡ head_in ws
head_is ws version store s = ap₂ head_of (sym s.arranged.version_word) (sym s.arranged.last_word)

-- lawful words have a header of their version
pub header_from : (ws : List ℕ) (version : ℕ) → IsLawful ws version → IsHeader ws version
header_from ws version l =
    let a = l.1.arranged in
    record {
      sized = a.sized;
      version_word = a.version_word;
      end_from = a.end_from;
      end_to = a.end_to;
      known = subst IsHead (head_is ws version l.0 l.1) l.1.known;
      no_seventh = a.no_seventh;
    }

-- lawful words have a balanced tree of as many nodes as their header says
pub root_from : (ws : List ℕ) (version : ℕ) → IsLawful ws version → HasRoot ws
root_from ws version l =
    let s = l.1 in
    let head = head_of version s.last in
    let shape = arranged_shape ws head l.0 s.tree s.places s.given [] s.arranged in
    record { few = subst (λ n. n < word_of ws 0 3) (arranged_count ws head l.0 s.tree s.places s.given [] s.arranged) (tree_few ws head l.0 s.tree s.places s.given [] s.arranged); shape = shape }

-- the lines of lawful words are lawful, with the mark of line 0 alone set
pub lines_from : (ws : List ℕ) (version end : ℕ) → end ≡ word_of ws 0 3 → IsLawful ws version → AreLinesLawful ws (set (replicate end false) 0 true)
lines_from ws version end is l =
    let a = l.1.arranged in
    let some : 1 ≤ end = (let from = a.end_from in omega arith) in
    let places = l.1.places in
    let given = l.1.given in
    record {
      places = places;
      store = l.0;
      given = given;
      placed = a.nodes.pairs;
      nodes = arranged_nodes ws (head_of version l.1.last) l.0 l.1.tree places given [] a;
      lawful = l.1.lawful;
      revisions = subst (λ h. AreRevisions h places) (head_is ws version l.0 l.1) l.1.revisions;
      given_back = a.given_back;
      given_counted = sym a.given_count;
      once = λ x. (
          let count : count_of x (flat_map lines_at places ++ given) ≡ cond (leb 1 x && ltb x end) 1 0 =
          ap (λ ls. count_of x ls) (sym (append-nil (flat_map lines_at places ++ given))) ∙ a.once x ∙ ap (λ n. cond (leb 1 x && ltb x n) 1 0) (sym is) in
          once_to x end _ _ some count (header_mark end x some) ∙ ap (λ n. cond (ltb x n) 1 0) (sym (first_long end)));
    }

-- words stand for at most one store
pub one_store : (ws : List ℕ) (version other : ℕ) (store more : Store) → StandsFor ws version store → StandsFor ws other more → store ≡ more
one_store ws version other store more s t =
    let nodes = arranged_nodes ws (head_of version s.last) store s.tree s.places s.given [] s.arranged in
    let nodes_too = arranged_nodes ws (head_of other t.last) more t.tree t.places t.given [] t.arranged in
    (placed_one ws s.places t.places store more s.arranged.nodes.pairs t.arranged.nodes.pairs (nodes ∙ sym nodes_too) s.lawful t.lawful).store_is

-- lawful words have one store
pub has_one_store : (ws : List ℕ) (version : ℕ) → IsLawful ws version → HasOneStore ws version
has_one_store ws version l = record {
  store = l.0;
  stands = l.1;
  only_store = λ other more s. one_store ws other version more l.0 s l.1;
  only_version = λ other more s. sym s.arranged.version_word ∙ l.1.arranged.version_word;
}

-- a key and a document are a pair's where each is the pair's part
two_parts : (key document : List ℕ) (pair : List ℕ × List ℕ) → key ≡ pair.0 → document ≡ pair.1 → (key, document) ≡ pair
two_parts key document pair e f =
    let make : List ℕ → List ℕ → List ℕ × List ℕ = λ k d. (k, d) in
    ap (λ k. make k document) e ∙ ap (λ d. make pair.0 d) f

-- the pairs that are read at the nodes of places are those that stand there
pairs_are : (ws : List ℕ) (places : List PairLayout) (store : Store) → Placed ws places store → All (λ p. IsKey p.0) store → All (λ p. IsDocument p.1) store → map (pair_at ws) (nodes_of places) ≡ store
pairs_are ws [] [] n keys documents = refl
pairs_are ws [] (q ∷ store) n keys documents = absurd n
pairs_are ws (p ∷ places) [] n keys documents = absurd n
pairs_are ws (p ∷ places) (q ∷ store) n keys documents =
    let key : text_at p.node 3 ws ≡ q.0 = text_is ws p.node 3 p.key_lines q.0 n.0.key n.0.key_length (key_small q.0 (All-head (λ p. IsKey p.0) q store keys)) in
    let document : text_at p.node 5 ws ≡ q.1 = text_is ws p.node 5 p.document_lines q.1 n.0.document n.0.document_length (document_small q.1 (All-head (λ p. IsDocument p.1) q store documents)) in
    ap (λ x. x ∷ map (pair_at ws) (nodes_of places)) (two_parts (text_at p.node 3 ws) (text_at p.node 5 ws) q key document)
    ∙ ap (λ s. q ∷ s) (pairs_are ws places store n.1 (All-tail (λ p. IsKey p.0) q store keys) (All-tail (λ p. IsDocument p.1) q store documents))

-- the nodes of the tree that words stand for are those of the store's places
pub nodes_read : (ws : List ℕ) (version : ℕ) (store : Store) (s : StandsFor ws version store) → items (tree_in ws) ≡ nodes_of s.places
nodes_read ws version store s = sym (in_order_root ws) ∙ sym (arranged_nodes ws (head_of version s.last) store s.tree s.places s.given [] s.arranged)

-- the store that is read off words is the one that they stand for
pub store_is : (ws : List ℕ) (version : ℕ) (store : Store) → StandsFor ws version store → store_in ws ≡ store
unfolding store_in
store_is ws version store s =
    ap (map (pair_at ws)) (nodes_read ws version store s) ∙ pairs_are ws s.places store s.arranged.nodes.pairs s.lawful.keys s.lawful.documents
