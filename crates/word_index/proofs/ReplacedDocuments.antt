-- A pair's document is replaced: what else stands goes on standing.
use Rattle.std.proofs.Common.{◌≡◌, ◌≢◌, ◌+◌, ◌*◌, ◌/◌, ◌<◌, ◌≤◌, ◌&&◌, ℕ, cond, eqb, leb, ltb, List, [], ◌∷◌, ◌++◌, length, inl, inr, sym, ap, subst, ◌∙◌, length-append, arith}
use Rattle.std.specs.List.{flat_map, All}
use Rattle.std.proofs.lemmas.Bool.{cases_eq}
use Rattle.cx_base.specs.Store.{Store}
use Rattle.avl_words.specs.Tree.{Tree, Empty, Node, height}
use Rattle.avl_words.specs.Lines.{word_of, IsPartLength}
use Rattle.avl_words.specs.Words.{root, IsNode, RepresentsTree, times as tree_times}
use Rattle.avl_words.proofs.Frames.{times_other}
use Rattle.index_validation.specs.Layout.{IsChain, Holds, PairLayout, lines_at, nodes_of, IsAt, Placed, IsLaidOut, RevisionHead}
use Rattle.index_validation.proofs.OneStore.{placed_append}
use Rattle.word_index.specs.Changes.{SameLine}
use Rattle.word_index.proofs.Cutting.{times_middle}
use Rattle.word_index.proofs.Frames.{times, times_append, times_cons, times_self, chain_same, holds_same, placed_same, all_nodes, all_blocks, nodes_and_blocks, tree_lines}
use Rattle.word_index.proofs.NewLinks.{all_present, at_most_once}
use Rattle.word_index.proofs.KeyPlaces.{map_append}

-- a node whose first three words did not change is the node that it was
links_same : (ws now : List ℕ) (line left right high : ℕ) → length now ≡ length ws → ((i : ℕ) → i < 3 → word_of now line i ≡ word_of ws line i) → IsNode ws line left right high → IsNode now line left right high
links_same ws now line left right high long same n = record {
  some = n.some;
  within = subst (λ k. 8 * line + 8 ≤ k) (sym long) n.within;
  left_is = same 0 (omega arith) ∙ n.left_is;
  right_is = same 1 (omega arith) ∙ n.right_is;
  height_is = same 2 (omega arith) ∙ n.height_is;
}

-- a tree stands after a change that left the first three words of each of its lines
pub stands_linked : (ws now : List ℕ) (t : Tree ℕ) → length now ≡ length ws → ((line : ℕ) → tree_times line t ≢ 0 → (i : ℕ) → i < 3 → word_of now line i ≡ word_of ws line i) → RepresentsTree ws t → RepresentsTree now t
stands_linked ws now Empty long same s = tt
stands_linked ws now (Node l x r) long same s = (
  links_same ws now x (root l) (root r) (height (Node l x r)) long (same x (λ z. absurd (omega (arith, times_self x, z)))) s.0,
  stands_linked ws now l long (λ line n. same line (λ z. n (omega (arith, z)))) s.1,
  stands_linked ws now r long (λ line n. same line (λ z. n (omega (arith, z)))) s.2,
)

-- of pairs at places: those before one pair, that pair, and those behind it stand at theirs
pub record IsAround (ws : List ℕ) (front rest : List PairLayout) (lower after : Store) (place : PairLayout) (pair : List ℕ × List ℕ) : Type 0 where
  pub placed_front : Placed ws front lower
  pub is : IsAt ws place pair
  pub placed_rest : Placed ws rest after

-- where pairs are placed and one of them is behind those of `front`, the pairs before it, itself and those behind it stand at their places
pub around : (v ws : List ℕ) (front rest : List PairLayout) (lower after : Store) (place : PairLayout) (pair : List ℕ × List ℕ) → Placed v front lower → Placed ws (front ++ place ∷ rest) (lower ++ pair ∷ after) → IsAround ws front rest lower after place pair
around v ws [] rest [] after place pair n m = record { placed_front = tt; is = m.0; placed_rest = m.1 }
around v ws [] rest (q ∷ lower) after place pair n m = absurd n
around v ws (p ∷ front) rest [] after place pair n m = absurd n
around v ws (p ∷ front) rest (q ∷ lower) after place pair n m =
    let r = around v ws front rest lower after place pair n.1 m.1 in
    record { placed_front = (m.0, r.placed_front); is = r.is; placed_rest = r.placed_rest }

-- the place of the pair with its document in other lines, and with a revision
abbrev pub with_lines : PairLayout → List ℕ → ℕ → PairLayout
with_lines place lines revision = record { node = place.node; key_lines = place.key_lines; document_lines = lines; revision = revision }

-- A pair's document and revision are replaced: the document stands in these lines, and no other words changed than the three of the node that say so and the old
-- lines of the document.
pub record IsRenewed (x now : List ℕ) (place : PairLayout) (lines document : List ℕ) (revision : ℕ) : Type 0 where
  pub long : length now ≡ length x
  pub others : (k : ℕ) → k ≢ place.node → times k place.document_lines ≡ 0 → SameLine x now k
  pub node : (i : ℕ) → i < 8 → i ≢ 5 → i ≢ 6 → i ≢ 7 → word_of now place.node i ≡ word_of x place.node i
  pub holds : Holds now (word_of now place.node 5) lines document
  pub counted : word_of now place.node 6 ≡ length document
  pub revised : word_of now place.node 7 ≡ revision

module _ (v x : List ℕ) (head : RevisionHead) (lower after : Store) (pair : List ℕ × List ℕ) (tree : Tree ℕ) (front rest : List PairLayout) (place : PairLayout) (given loose : List ℕ) (shape : Placed v front lower)
    (a : IsLaidOut x head (lower ++ pair ∷ after) tree (front ++ place ∷ rest) given loose) where
  whole : (k : ℕ) → times k (flat_map lines_at front) + times k (lines_at place) + times k (flat_map lines_at rest) + times k given + times k loose ≡ times k (flat_map lines_at (front ++ place ∷ rest) ++ given ++ loose)
  whole k =
      omega (arith, times_append k (flat_map lines_at (front ++ place ∷ rest) ++ given) loose, times_append k (flat_map lines_at (front ++ place ∷ rest)) given, times_middle k front rest place)

  -- a line is at most once among those of the pairs, the given-back ones and the loose ones
  pub most : (k : ℕ) → times k (flat_map lines_at front) + times k (lines_at place) + times k (flat_map lines_at rest) + times k given + times k loose ≤ 1
  most k = (let w = whole k in let o = at_most_once k (word_of x 0 3) (times k (flat_map lines_at (front ++ place ∷ rest) ++ given ++ loose)) (a.once k) in omega (arith, w, o))

  -- a line is as often among a pair's lines as it is the node, one of the key's and one of the document's
  pub parts : (k : ℕ) → times k (lines_at place) ≡ cond (eqb place.node k) 1 0 + times k place.key_lines + times k place.document_lines
  parts k = omega (arith, times_cons k place.node (place.key_lines ++ place.document_lines), times_append k place.key_lines place.document_lines)

  -- a line that counts 0 as the node of the place is another line
  pub not_here : (k : ℕ) → ◌≡◌ {A = ℕ} (cond (eqb place.node k) 1 0) 0 → k ≢ place.node
  not_here k z e = absurd (let o = times_self k in let y = subst (λ n. ◌≡◌ {A = ℕ} (cond (eqb n k) 1 0) 0) (sym e) z in omega (arith, o, y))

  -- the header's line is none of the pair's lines
  none_first : times 0 (lines_at place) ≡ 0
  none_first = (let w = whole 0 in let o : times 0 (flat_map lines_at (front ++ place ∷ rest) ++ given ++ loose) ≡ 0 = a.once 0 in omega (arith, w, o))

  nodes_middle : (k : ℕ) → times k (nodes_of (front ++ place ∷ rest)) ≡ times k (nodes_of front) + (cond (eqb place.node k) 1 0 + times k (nodes_of rest))
  nodes_middle k = ap (times k) (map_append (λ p. p.node) front (place ∷ rest)) ∙ omega (arith, times_append k (nodes_of front) (place.node ∷ nodes_of rest), times_cons k place.node (nodes_of rest))

  module _ (now lines document now_loose : List ℕ) (revision : ℕ) (c : IsRenewed x now place lines document revision)
      (same : (k : ℕ) → times k (flat_map lines_at (front ++ with_lines place lines revision ∷ rest) ++ given ++ now_loose) ≡ times k (flat_map lines_at (front ++ place ∷ rest) ++ given ++ loose)) where
    -- a line that is none of the pair's is as it was
    elsewhere : (k : ℕ) → times k (lines_at place) ≡ 0 → SameLine x now k
    elsewhere k z = (let p = parts k in c.others k (not_here k (omega (arith, p, z))) (omega (arith, p, z)))

    header : SameLine x now 0
    header = elsewhere 0 none_first

    kept : (xs : List ℕ) → ((k : ℕ) → times k xs ≢ 0 → times k (lines_at place) ≡ 0) → All (SameLine x now) xs
    kept xs f = all_present (SameLine x now) xs (λ k n. elsewhere k (f k n))

    front_same : All (SameLine x now) (flat_map lines_at front)
    front_same = kept (flat_map lines_at front) (λ k n. (let m = most k in let o : times k (flat_map lines_at front) ≢ 0 = n in omega (arith, m, o)))

    rest_same : All (SameLine x now) (flat_map lines_at rest)
    rest_same = kept (flat_map lines_at rest) (λ k n. (let m = most k in let o : times k (flat_map lines_at rest) ≢ 0 = n in omega (arith, m, o)))

    given_same : All (SameLine x now) given
    given_same = kept given (λ k n. (let m = most k in let o : times k given ≢ 0 = n in omega (arith, m, o)))

    key_same : All (SameLine x now) place.key_lines
    key_same = all_present (SameLine x now) place.key_lines (λ k n. (
        let m = most k in
        let p = parts k in
        let o : times k place.key_lines ≢ 0 = n in
        c.others k (not_here k (omega (arith, m, p, o))) (omega (arith, m, p, o))))

    placed_on : (places : List PairLayout) (store : Store) → All (SameLine x now) (flat_map lines_at places) → Placed x places store → Placed now places store
    placed_on places store s n = placed_same x now places store (λ k d l i b far. all_nodes (SameLine x now) places s k d l i b) (all_blocks (SameLine x now) places s) n

    is_now : IsAround x front rest lower after place pair → IsAt now (with_lines place lines revision) (pair.0, document)
    is_now r = record {
      key = subst (λ n. Holds now n place.key_lines pair.0) (sym (c.node 3 (omega arith) (omega arith) (omega arith) (omega arith))) (holds_same x now (word_of x place.node 3) place.key_lines pair.0 key_same r.is.key);
      key_length = c.node 4 (omega arith) (omega arith) (omega arith) (omega arith) ∙ r.is.key_length;
      document = c.holds;
      document_length = c.counted;
      revised = c.revised;
    }

    -- the links of each node `k` of the tree are as they were
    linked : (k : ℕ) → tree_times k tree ≢ 0 → (i : ℕ) → i < 3 → word_of now k i ≡ word_of x k i
    linked k n i l =
        elim (cases_eq k place.node) [
          | inl e ↦ subst (λ m. word_of now m i ≡ word_of x m i) (sym e) (c.node i (omega arith) (omega arith) (omega arith) (omega arith))
          | inr ne ↦
              let o = times_other place.node k (λ e. ne (sym e)) in
              let t = tree_lines k tree ∙ ap (times k) a.nodes.in_order ∙ nodes_middle k in
              let f = nodes_and_blocks k front in
              let r = nodes_and_blocks k rest in
              let m = most k in
              let some : tree_times k tree ≢ 0 = n in
              elsewhere k (omega (arith, o, t, f, r, m, some)) i (omega arith)
        ]

    -- the pairs stand where they stood, and the one pair with its new document and revision in its place
    pub renewed : IsLaidOut now head (lower ++ (pair.0, document) ∷ after) tree (front ++ with_lines place lines revision ∷ rest) given now_loose
    renewed =
        let r = around v x front rest lower after place pair shape a.nodes.pairs in
        let nodes : nodes_of (front ++ place ∷ rest) ≡ nodes_of (front ++ with_lines place lines revision ∷ rest) = map_append (λ p. p.node) front (place ∷ rest) ∙ sym (map_append (λ p. p.node) front (with_lines place lines revision ∷ rest)) in
        let end = header 3 (omega arith) in
        record {
          sized = subst IsPartLength (sym c.long) a.sized;
          version_word = header 0 (omega arith) ∙ a.version_word;
          nodes = record {
            root_is = header 1 (omega arith) ∙ a.nodes.root_is;
            shape = stands_linked x now tree c.long linked a.nodes.shape;
            balanced = a.nodes.balanced;
            in_order = a.nodes.in_order ∙ nodes;
            pairs = placed_append now front (with_lines place lines revision ∷ rest) lower ((pair.0, document) ∷ after) (placed_on front lower front_same r.placed_front) (is_now r, placed_on rest after rest_same r.placed_rest);
          };
          given_back = subst (λ f. IsChain now f given) (sym (header 2 (omega arith))) (chain_same x now given (word_of x 0 2) given_same a.given_back);
          end_from = subst (λ e. 1 ≤ e) (sym end) a.end_from;
          end_to = subst (λ n. word_of now 0 3 ≤ n / 8) (sym c.long) (subst (λ e. e ≤ length x / 8) (sym end) a.end_to);
          once = λ k. same k ∙ a.once k ∙ ap (λ e. cond (leb 1 k && ltb k e) 1 0) (sym end);
          given_count = header 4 (omega arith) ∙ a.given_count;
          pair_count = header 5 (omega arith) ∙ a.pair_count ∙ length-append lower (pair ∷ after) ∙ sym (length-append lower ((pair.0, document) ∷ after));
          last_word = header 6 (omega arith) ∙ a.last_word;
          no_seventh = header 7 (omega arith) ∙ a.no_seventh;
        }
