-- Words get the links of another tree: what stands at places goes on standing.
use Rattle.std.proofs.Common.{◌≡◌, ◌≢◌, ◌+◌, ◌*◌, ◌/◌, ◌<◌, ◌≤◌, ◌&&◌, ℕ, cond, leb, ltb, List, [], ◌∷◌, ◌++◌, length, sym, ap, subst, ◌∙◌, arith}
use Rattle.std.specs.List.{flat_map, All}
use Rattle.std.proofs.Math.ListN.{length-set}
use Rattle.std.proofs.lemmas.Bool.Decides.{nat_tests}
use Rattle.std.proofs.lemmas.List.{get_or-set_same, get_or-set_other}
use Rattle.std.proofs.lemmas.List.Elements.{All-nil, All-cons}
use Rattle.cx_base.specs.Store.{Store}
use Rattle.avl_words.specs.Tree.{Tree, items, Balanced}
use Rattle.avl_words.specs.Lines.{word_of, IsWithin, with_word, IsPartLength}
use Rattle.avl_words.specs.Words.{root, RepresentsTree, times as tree_times}
use Rattle.avl_words.specs.Exact.{with_tree}
use Rattle.avl_words.proofs.ExactTrees.{AreThere, tree_long, tree_header, tree_words_far, tree_words_other, tree_root, tree_stands}
use Rattle.avl_words.proofs.Frames.{stands_same}
use Rattle.index_validation.specs.Layout.{IsChain, PairLayout, lines_at, nodes_of, Placed, IsLaidOut, RevisionHead}
use Rattle.index_validation.proofs.Lines.{lines_there, lines_within}
use Rattle.word_index.specs.Changes.{SameLine}
use Rattle.word_index.proofs.Frames.{times, times_append, times_cons, times_self, chain_same, placed_same, nodes_and_blocks, blocks_of, SameNode, found, tree_lines}

-- what holds of each line that stands in a list
pub all_present : (P : ℕ → Type 0) (xs : List ℕ) → ((x : ℕ) → times x xs ≢ 0 → P x) → All P xs
all_present P [] f = All-nil P
all_present P (x ∷ xs) f =
    All-cons P x xs (f x (λ z. absurd (let c = times_cons x x xs in let o = times_self x in omega (arith, c, o, z)))) (all_present P xs (λ y n. f y (λ z. n (let c = times_cons y x xs in omega (arith, c, z)))))

-- the words now have the links of a tree and a count of pairs, and what else they had is as it was
pub record IsRelaid (ws now : List ℕ) (t : Tree ℕ) (count : ℕ) : Type 0 where
  pub long : length now ≡ length ws
  pub root_is : word_of now 0 1 ≡ root t
  pub stands : RepresentsTree now t
  pub counted : word_of now 0 5 ≡ count
  pub header : (i : ℕ) → i < 8 → i ≢ 1 → i ≢ 5 → word_of now 0 i ≡ word_of ws 0 i
  pub far : (line i : ℕ) → 1 ≤ line → IsWithin ws line → i < 8 → 3 ≤ i → word_of now line i ≡ word_of ws line i
  pub other : (line i : ℕ) → 1 ≤ line → IsWithin ws line → i < 8 → tree_times line t ≡ 0 → word_of now line i ≡ word_of ws line i

pub relaid_words : (ws : List ℕ) (t : Tree ℕ) (v : ℕ) → 8 ≤ length ws → ((k : ℕ) → tree_times k t ≤ 1) → AreThere ws t → IsRelaid ws (with_word 0 5 v (with_tree t ws)) t v
relaid_words ws t v header once there =
    let w = with_tree t ws in
    let long = tree_long t ws header once there in
    record {
      long = length-set w (8 * 0 + 5) v ∙ long;
      root_is = get_or-set_other w (8 * 0 + 5) (8 * 0 + 1) v 0 (omega arith) ∙ tree_root t ws header once there;
      stands = stands_same w (with_word 0 5 v w) t (length-set w (8 * 0 + 5) v) (λ line n i l. get_or-set_other w (8 * 0 + 5) (8 * line + i) v 0 (let some = (there line n).0 in omega arith)) (tree_stands t ws header once there);
      counted = get_or-set_same w (8 * 0 + 5) v 0 (omega (arith, long));
      header = λ i l one five. get_or-set_other w (8 * 0 + 5) (8 * 0 + i) v 0 (omega arith) ∙ tree_header t ws header once there i l one;
      far = λ line i some within l f. get_or-set_other w (8 * 0 + 5) (8 * line + i) v 0 (omega arith) ∙ tree_words_far t ws header once there line i some within l f;
      other = λ line i some within l none. get_or-set_other w (8 * 0 + 5) (8 * line + i) v 0 (omega arith) ∙ tree_words_other t ws header once there line i some within l none;
    }

-- a number that is 1 for a line from 1 to below `end`, and 0 for any other, is at most 1
pub at_most_once : (x end n : ℕ) → n ≡ cond (leb 1 x && ltb x end) 1 0 → n ≤ 1
at_most_once x end n e = grind (arith, nat_tests)

-- other places of the same lines, and another tree over their nodes
module _ (ws : List ℕ) (head : RevisionHead) (store more : Store) (tree t : Tree ℕ) (places others : List PairLayout) (given loose now_loose : List ℕ)
    (a : IsLaidOut ws head store tree places given loose) (in_order : items t ≡ nodes_of others) (same : (x : ℕ) → times x (flat_map lines_at others ++ given ++ now_loose) ≡ times x (flat_map lines_at places ++ given ++ loose)) where
  pub present : (x : ℕ) → times x (flat_map lines_at others ++ given ++ now_loose) ≢ 0 → (1 ≤ x) × IsWithin ws x
  present x n =
      let m : times x (flat_map lines_at places ++ given ++ loose) ≢ 0 = λ z. n (same x ∙ z) in (
        (found (λ l. (1 ≤ l) × (l < word_of ws 0 3)) x (flat_map lines_at places ++ given ++ loose) (lines_there ws head store tree places given loose a) m).0,
        found (IsWithin ws) x (flat_map lines_at places ++ given ++ loose) (lines_within ws head store tree places given loose a) m,
      )

  counted : (x : ℕ) → times x (nodes_of others) + times x (blocks_of others) + times x given + times x now_loose ≤ 1
  counted x =
      let used = flat_map lines_at others in
      omega (arith, at_most_once x (word_of ws 0 3) (times x (flat_map lines_at places ++ given ++ loose)) (a.once x), same x, times_append x (used ++ given) now_loose, times_append x used given, nodes_and_blocks x others)

  tree_is : (x : ℕ) → tree_times x t ≡ times x (nodes_of others)
  tree_is x = tree_lines x t ∙ ap (times x) in_order

  pub relaid_once : (x : ℕ) → tree_times x t ≤ 1
  relaid_once x = (let c = counted x in let e = tree_is x in omega (arith, c, e))

  whole_count : (x : ℕ) → times x (flat_map lines_at others ++ given ++ now_loose) ≡ times x (nodes_of others) + times x (blocks_of others) + times x given + times x now_loose
  whole_count x = (let used = flat_map lines_at others in omega (arith, times_append x (used ++ given) now_loose, times_append x used given, nodes_and_blocks x others))

  pub relaid_there : AreThere ws t
  relaid_there x n = present x (λ z. n (let w = whole_count x in let e = tree_is x in omega (arith, w, e, z)))

  module _ (now : List ℕ) (r : IsRelaid ws now t (length more)) where
    kept : (xs : List ℕ) → ((x : ℕ) → times x xs ≢ 0 → (times x (flat_map lines_at others ++ given ++ now_loose) ≢ 0) × (times x (nodes_of others) ≡ 0)) → All (SameLine ws now) xs
    kept xs f = all_present (SameLine ws now) xs (λ x n i l. (let p = f x n in let q = present x p.0 in r.other x i q.0 q.1 l (tree_is x ∙ p.1)))

    pub loose_same : All (SameLine ws now) now_loose
    loose_same = kept now_loose (λ x n. (
      (λ z. n (let w = whole_count x in omega (arith, w, z))),
      (let c = counted x in let m : times x now_loose ≢ 0 = n in omega (arith, c, m)),
    ))

    pub relaid : Balanced t → Placed ws others more → IsLaidOut now head more t others given now_loose
    relaid balanced placed =
        let nodes = all_present (SameNode ws now) (nodes_of others) (λ x n i l far. (let q = present x (λ z. n (let w = whole_count x in omega (arith, w, z))) in r.far x i q.0 q.1 l far)) in
        let blocks = kept (blocks_of others) (λ x n. (
          (λ z. n (let w = whole_count x in omega (arith, w, z))),
          (let c = counted x in let m : times x (blocks_of others) ≢ 0 = n in omega (arith, c, m)),
        )) in
        let chain = kept given (λ x n. (
          (λ z. n (let w = whole_count x in omega (arith, w, z))),
          (let c = counted x in let m : times x given ≢ 0 = n in omega (arith, c, m)),
        )) in
        let end = r.header 3 (omega arith) (omega arith) (omega arith) in
        record {
          sized = subst IsPartLength (sym r.long) a.sized;
          version_word = r.header 0 (omega arith) (omega arith) (omega arith) ∙ a.version_word;
          nodes = record { root_is = r.root_is; shape = r.stands; balanced = balanced; in_order = in_order; pairs = placed_same ws now others more nodes blocks placed };
          given_back = subst (λ x. IsChain now x given) (sym (r.header 2 (omega arith) (omega arith) (omega arith))) (chain_same ws now given (word_of ws 0 2) chain a.given_back);
          end_from = subst (λ x. 1 ≤ x) (sym end) a.end_from;
          end_to = subst (λ m. word_of now 0 3 ≤ m / 8) (sym r.long) (subst (λ x. x ≤ length ws / 8) (sym end) a.end_to);
          once = λ x. same x ∙ a.once x ∙ ap (λ e. cond (leb 1 x && ltb x e) 1 0) (sym end);
          given_count = r.header 4 (omega arith) (omega arith) (omega arith) ∙ a.given_count;
          pair_count = r.counted;
          last_word = r.header 6 (omega arith) (omega arith) (omega arith) ∙ a.last_word;
          no_seventh = r.header 7 (omega arith) (omega arith) (omega arith) ∙ a.no_seventh;
        }
