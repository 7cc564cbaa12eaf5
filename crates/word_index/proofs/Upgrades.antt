-- Words of version 1 become words of version 2.
use Rattle.std.proofs.Common.{◌≡◌, ◌+◌, ◌*◌, ◌<◌, ◌≤◌, ℕ, zero, suc, cond, eqb, List, [], ◌∷◌, ◌++◌, length, get_or, map, refl, sym, ap, ap₂, subst, ◌∙◌, lit<, arith}
use Rattle.std.specs.List.{All}
use Rattle.std.proofs.lemmas.List.{append_assoc, get_or-set_same, get_or-set_other, length-set}
use Rattle.std.proofs.lemmas.List.Elements.{All-nil, All-cons}
use Rattle.cx_base.specs.Memory.{Words}
use Rattle.cx_base.specs.Store.{Store}
use Rattle.cx_base.proofs.WordLemmas.{Words-set}
use Rattle.doc_model.specs.Revisions.{pairs_in}
use Rattle.avl_words.specs.Tree.{Tree, Empty, Node, size, items}
use Rattle.avl_words.specs.Exact.{tree_at}
use Rattle.avl_words.specs.Lines.{word_of, with_word}
use Rattle.index_validation.specs.Lawful.{IsLawful, head_in}
use Rattle.index_validation.specs.Layout.{PairLayout, Placed, nodes_of, RevisionHead, head_of, IsRevision, IsLaidOut, StandsFor}
use Rattle.index_validation.specs.Order.{nodes_in_order, HasTree, IsLeftPassed, AreNoted, to_come}
use Rattle.index_validation.specs.Reading.{StandsForRevised}
use Rattle.index_validation.proofs.Arranging.{arranged_tree, arranged_nodes}
use Rattle.index_validation.proofs.OneStore.{placed_append, placed_count}
use Rattle.index_validation.proofs.Orders.{tree_of}
use Rattle.index_validation.proofs.Revisions.{triples_of}
use Rattle.word_index.specs.Upgrading.{with_first_revisions, upgraded_in, first_revisions, IsMigrated}
use Rattle.word_index.proofs.DocumentChanges.{revision_is}
use Rattle.word_index.proofs.ReplacedDocuments.{stands_linked, around, with_lines}
use Rattle.word_index.proofs.Taking.{header_stored}
use Rattle.word_index.proofs.Triples.{Triple, IsHeaded, headed_arranged, stands_again}

-- words with a header of version 2 that says revision 1 was given last
unfoldable pub with_header : List ℕ → List ℕ
with_header words = with_word 0 6 1 (with_word 0 0 2 words)

-- the place of a pair with its first revision
abbrev first_at : PairLayout → PairLayout
first_at place = with_lines place place.document_lines 1

-- the pairs at places with revision 1 each are the pairs of the store with revision 1
first_triples : (ws : List ℕ) (places : List PairLayout) (store : Store) → Placed ws places store → triples_of (map first_at places) store ≡ map (λ pair. (pair, 1)) store
first_triples ws [] [] n = refl
first_triples ws [] (q ∷ store) n = absurd n
first_triples ws (p ∷ places) [] n = absurd n
first_triples ws (p ∷ places) (q ∷ store) n = ap (λ (ts : List Triple). (q, 1) ∷ ts) (first_triples ws places store n.1)

-- the pairs of a store with first revisions are those of the store
first_pairs : (store : Store) → pairs_in (first_revisions store) ≡ store
first_pairs [] = refl
first_pairs (q ∷ store) = ap (λ s. q ∷ s) (first_pairs store)

-- revision 1 may be where the last one given is 1
first_given : (store : Store) → All (λ (t : Triple). IsRevision (head_of 2 1) t.1) (map (λ pair. (pair, 1)) store)
first_given [] = All-nil _
first_given (q ∷ store) =
    let here : IsRevision (head_of 2 1) 1 = (omega arith, omega arith) in
    All-cons (λ (t : Triple). IsRevision (head_of 2 1) t.1) (q, 1) (map (λ pair. (pair, 1)) store) here (first_given store)

-- once one pair after the other has got revision 1, the pairs stand as before, each with that revision
firsts_laid_out : (y : List ℕ) (head : RevisionHead) (tree : Tree ℕ) (given : List ℕ) (front rest : List PairLayout) (lower others : Store) → Placed y front lower → Placed y rest others → IsLaidOut y head (lower ++ others) tree (front ++ rest) given [] →
    IsLaidOut (with_first_revisions (nodes_of rest) y) head (lower ++ others) tree (front ++ map first_at rest) given []
firsts_laid_out y head tree given front [] lower others n m a = a
firsts_laid_out y head tree given front (p ∷ rest) lower [] n m a = absurd m
firsts_laid_out y head tree given front (p ∷ rest) lower (q ∷ others) n m a =
    let now = with_word p.node 7 1 y in
    let b = revision_is y y head lower others q tree front rest p given n a 1 in
    let r = around y now front rest lower others (first_at p) q n b.nodes.pairs in
    let split : front ++ first_at p ∷ rest ≡ (front ++ first_at p ∷ []) ++ rest = sym (append_assoc front (first_at p ∷ []) rest) in
    let parts : lower ++ q ∷ others ≡ (lower ++ q ∷ []) ++ others = sym (append_assoc lower (q ∷ []) others) in
    let c = subst (λ ps. IsLaidOut now head ((lower ++ q ∷ []) ++ others) tree ps given []) split (subst (λ st. IsLaidOut now head st tree (front ++ first_at p ∷ rest) given []) parts b) in
    let d = firsts_laid_out now head tree given (front ++ first_at p ∷ []) rest (lower ++ q ∷ []) others (placed_append now front (first_at p ∷ []) lower (q ∷ []) r.placed_front (r.is, tt)) r.placed_rest c in
    subst (λ ps. IsLaidOut (with_first_revisions (nodes_of rest) now) head (lower ++ q ∷ others) tree ps given []) (append_assoc front (first_at p ∷ []) (map first_at rest))
    (subst (λ st. IsLaidOut (with_first_revisions (nodes_of rest) now) head st tree ((front ++ first_at p ∷ []) ++ map first_at rest) given []) (sym parts) d)

module _ (x : List ℕ) (store : Store) (s : StandsFor x 1 store) where
  there : 8 ≤ length x
  there = (let whole = s.arranged.sized.whole in let some = s.arranged.sized.some in omega arith)

  is_headed : IsHeaded x (with_header x)
  unfolding with_header
  is_headed =
      let y = with_word 0 0 2 x in
      record {
        long = length-set y 6 1 ∙ length-set x 0 2;
        header = λ i zero six. get_or-set_other y 6 i 1 0 six ∙ get_or-set_other x 0 i 2 0 zero;
        lines = λ lines some k d l i b. header_stored y 6 1 lines (omega arith) some k d l i b ∙ header_stored x 0 2 lines (omega arith) some k d l i b;
      }

  head_is : head_in (with_header x) ≡ head_of 2 1
  unfolding with_header
  head_is =
      let y = with_word 0 0 2 x in
      let long : length y ≡ length x = length-set x 0 2 in
      let within = there in
      ap₂ head_of (get_or-set_other y 6 0 1 0 (omega arith) ∙ get_or-set_same x 0 2 0 (omega arith)) (get_or-set_same y 6 1 0 (omega (arith, long, within)))

  headed : IsLaidOut (with_header x) (head_of 2 1) store s.tree s.places s.given []
  headed = subst (λ h. IsLaidOut (with_header x) h store s.tree s.places s.given []) head_is (headed_arranged x (with_header x) (head_of 1 s.last) store s.tree s.places s.given [] is_headed s.arranged)

  pub header_tree : HasTree (with_header x) (word_of (with_header x) 0 1) 0
  header_tree =
      let ws = with_header x in
      let t = arranged_tree ws (head_of 2 1) store s.tree s.places s.given [] headed in
      tree_of ws (word_of ws 0 1) (size s.tree) (record { tree = s.tree; stands = t.stands; balanced = t.balanced; root_is = sym t.root_is; counted = refl }) t.few

  pub header_order : nodes_in_order (word_of (with_header x) 0 1) (with_header x) ≡ nodes_in_order (word_of x 0 1) x
  header_order = sym (arranged_nodes (with_header x) (head_of 2 1) store s.tree s.places s.given [] headed) ∙ arranged_nodes x (head_of 1 s.last) store s.tree s.places s.given [] s.arranged

  pub header_count : length (nodes_in_order (word_of (with_header x) 0 1) (with_header x)) ≡ word_of (with_header x) 0 5
  header_count =
      let ws = with_header x in
      sym (ap length (arranged_nodes ws (head_of 2 1) store s.tree s.places s.given [] headed)) ∙ placed_count ws s.places store headed.nodes.pairs ∙ sym headed.pair_count

  upgraded_stands : StandsForRevised (upgraded_in x) (first_revisions store)
  unfolding upgraded_in with_header
  upgraded_stands =
      let ws = with_word 0 6 1 (with_word 0 0 2 x) in
      let now = with_first_revisions (nodes_of s.places) ws in
      let revised = firsts_laid_out ws (head_of 2 1) s.tree s.given [] s.places [] store tt headed.nodes.pairs headed in
      let w = stands_again now 1 store (map (λ pair. (pair, 1)) store)
      (record { tree = s.tree; places = map first_at s.places; given = s.given; arranged = revised; triples_are = first_triples ws s.places store headed.nodes.pairs }) s.lawful (first_given store) in
      subst (λ ns. StandsForRevised (with_first_revisions ns ws) (first_revisions store)) (arranged_nodes x (head_of 1 s.last) store s.tree s.places s.given [] s.arranged)
      (record { pairs = subst (StandsFor now 2) (sym (first_pairs store)) w.stands; revised = w.revised })

first_words : (n : ℕ) (nodes ws : List ℕ) → Words n ws → Words n (with_first_revisions nodes ws)
first_words n [] ws w = w
first_words n (node ∷ nodes) ws w = first_words n nodes (with_word node 7 1 ws) (Words-set n ws (8 * node + 7) 1 (lit< tt) w)

upgraded_words : (x : List ℕ) (n : ℕ) → Words n x → Words n (upgraded_in x)
unfolding upgraded_in
upgraded_words x n w = first_words n (nodes_in_order (word_of x 0 1) x) _ (Words-set n (with_word 0 0 2 x) 6 1 (lit< tt) (Words-set n x 0 2 (lit< tt) w))

pub is_migrated : (x : List ℕ) → IsMigrated x (upgraded_in x)
is_migrated x = record { pairs = upgraded_stands x; words = upgraded_words x }

-- storing revision 1 in a node leaves the links of the tree
module _ (ws : List ℕ) (node : ℕ) where
  abbrev after : List ℕ
  after = with_word node 7 1 ws

  -- storing a revision in a node leaves the words 0 to 2 of each line `k`, the links of the tree, as they were
  link_same : (k i : ℕ) → i < 3 → word_of after k i ≡ word_of ws k i
  link_same k i l = get_or-set_other ws (8 * node + 7) (8 * k + i) 1 0 (omega arith)

  tree_same : (n line : ℕ) → tree_at n line after ≡ tree_at n line ws
  tree_same zero line = refl
  tree_same (suc n) line =
      let make : Tree ℕ → Tree ℕ → Tree ℕ = λ l r. cond (eqb line 0) Empty (Node l line r) in
      ap₂ make (tree_same n (word_of after line 0) ∙ ap (λ k. tree_at n k ws) (link_same line 0 (omega arith))) (tree_same n (word_of after line 1) ∙ ap (λ k. tree_at n k ws) (link_same line 1 (omega arith)))

  order_same : (line : ℕ) → nodes_in_order line after ≡ nodes_in_order line ws
  unfolding nodes_in_order
  order_same line = ap items (tree_same 64 line)

  pub to_come_same : (nodes : List ℕ) (depth : ℕ) → to_come after nodes depth ≡ to_come ws nodes depth
  to_come_same nodes zero = refl
  to_come_same nodes (suc depth) =
      let k = get_or nodes depth 0 in
      ap₂ (λ a b. k ∷ (a ++ b)) (order_same (word_of after k 1) ∙ ap (λ line. nodes_in_order line ws) (link_same k 1 (omega arith))) (to_come_same nodes depth)

  noted_same : (line level : ℕ) → IsLeftPassed ws line level → IsLeftPassed after line level
  noted_same line level n =
      let long = length-set ws (8 * node + 7) 1 in
      record {
        some = n.some;
        within = (let within = n.within in omega (arith, long, within));
        right = record {
          tree = n.right.tree;
          stands = stands_linked ws after n.right.tree long (λ k m i l. link_same k i l) n.right.stands;
          root_is = n.right.root_is ∙ sym (link_same line 1 (omega arith));
          low = n.right.low;
        };
      }

  pub are_noted_same : (nodes : List ℕ) (depth : ℕ) → AreNoted ws nodes depth → AreNoted after nodes depth
  are_noted_same nodes depth are p l = noted_same (get_or nodes p 0) p (are p l)

-- once the first of the nodes that are left has got revision 1, those behind it are left, and lead to the same last words
pub upgrade_more : (ws more last : List ℕ) (node : ℕ) (all : List ℕ) → with_first_revisions all ws ≡ last → all ≡ node ∷ more → with_first_revisions more (with_word node 7 1 ws) ≡ last
upgrade_more ws more last node all e is = ap (λ ns. with_first_revisions ns ws) (sym is) ∙ e

pub upgrade_ends : (ws all last : List ℕ) → with_first_revisions all ws ≡ last → length all ≡ 0 → ws ≡ last
upgrade_ends ws [] last e z = e
upgrade_ends ws (node ∷ all) last e z = absurd (omega arith)

pub upgrade_begins : (x : List ℕ) (all : List ℕ) → IsLawful x 1 → all ≡ nodes_in_order (word_of (with_header x) 0 1) (with_header x) → with_first_revisions all (with_header x) ≡ upgraded_in x
unfolding upgraded_in with_header
upgrade_begins x all l e = ap (λ ns. with_first_revisions ns (with_word 0 6 1 (with_word 0 0 2 x))) (e ∙ header_order x l.0 l.1)
