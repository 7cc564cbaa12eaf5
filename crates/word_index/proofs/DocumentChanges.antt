-- A pair's document is replaced, in the same blocks or in new ones, and the words stand for the pairs with it.
use Rattle.std.proofs.Common.{◌≡◌, ◌≢◌, ◌+◌, ◌*◌, ◌/◌, ◌%◌, ◌<◌, ◌≤◌, ◌==◌, ℕ, zero, suc, Bool, true, false, cond, eqb, List, [], ◌∷◌, ◌++◌, length, get_or, refl, sym, ap, subst, ◌∙◌, zero-add, arith}
use Rattle.std.specs.List.{flat_map, All}
use Rattle.std.proofs.lemmas.Bool.{eqb-true}
use Rattle.std.proofs.lemmas.List.{get_or-set_same, get_or-set_other, length-set}
use Rattle.std.proofs.lemmas.List.Elements.{All-head, All-tail}
use Rattle.cx_base.specs.Packing.{packed}
use Rattle.cx_base.specs.Store.{Store, blocks}
use Rattle.avl_words.specs.Tree.{Tree}
use Rattle.avl_words.specs.Lines.{word_of, with_word, IsWithin}
use Rattle.index_validation.specs.Layout.{IsChain, Holds, PairLayout, lines_at, IsLaidOut, RevisionHead, Placed}
use Rattle.index_validation.proofs.Lines.{all_left, all_right, lines_within, place_lines}
use Rattle.index_validation.proofs.Texts.{blocks_are}
use Rattle.word_index.specs.Changes.{SameLine, with_line_given, LooseChain, IsGiven}
use Rattle.word_index.specs.Exact.{with_chain_given, with_chain_filled, with_text, document_blocks, with_refilled, with_emptied, with_renewed, with_rewritten, with_replaced}
use Rattle.word_index.specs.Fresh.{HasRoom, CanTake, IsChainWritten}
use Rattle.word_index.specs.Rewriting.{HasLines, CanRewrite}
use Rattle.word_index.proofs.Cutting.{times_middle}
use Rattle.word_index.proofs.ExactGiving.{chain_is_given}
use Rattle.word_index.proofs.ExactTaking.{text_is_written}
use Rattle.word_index.proofs.Frames.{times, times_append, times_cons, times_self, absent, stored_elsewhere, same_then, holds_same}
use Rattle.word_index.proofs.Putting.{lines_of_places, lines_of_append, lines_of_cons, packed_word, written_holds}
use Rattle.word_index.proofs.FilledChains.{SameNext, chain_on, IsFilled, chain_filled}
use Rattle.word_index.proofs.NewLinks.{all_present}
use Rattle.word_index.proofs.ReplacedDocuments.{IsAround, around, with_lines, IsRenewed, most, parts, not_here, renewed}

-- two words of a node are stored
pub record IsNamed (x now : List ℕ) (node a b : ℕ) : Type 0 where
  pub long : length now ≡ length x
  pub others : (k : ℕ) → k ≢ node → SameLine x now k
  pub rest : (i : ℕ) → i < 8 → i ≢ 5 → i ≢ 6 → word_of now node i ≡ word_of x node i
  pub first : word_of now node 5 ≡ a
  pub last : word_of now node 6 ≡ b

-- storing `a` and `b` as the words 5 and 6 of a node leaves its other words and all other lines as they were
pub named : (x : List ℕ) (node a b : ℕ) → IsWithin x node → IsNamed x (with_word node 6 b (with_word node 5 a x)) node a b
named x node a b within =
    let y = with_word node 5 a x in
    record {
      long = length-set y (8 * node + 6) b ∙ length-set x (8 * node + 5) a;
      others = λ k ne. same_then x y (with_word node 6 b y) k (stored_elsewhere x node 5 a k (omega arith) ne) (stored_elsewhere y node 6 b k (omega arith) ne);
      rest = λ i l five six. get_or-set_other y (8 * node + 6) (8 * node + i) b 0 (omega arith) ∙ get_or-set_other x (8 * node + 5) (8 * node + i) a 0 (omega arith);
      first = get_or-set_other y (8 * node + 6) (8 * node + 5) b 0 (omega arith) ∙ get_or-set_same x (8 * node + 5) a 0 (omega arith);
      last = get_or-set_same y (8 * node + 6) b 0 (let long = length-set x (8 * node + 5) a in omega arith);
    }

-- storing the words 5 and 6 of a node leaves the word 0 of each line, the next line of its chain, as it was
pub names_kept : (x : List ℕ) (node a b : ℕ) → SameNext x (with_word node 6 b (with_word node 5 a x))
names_kept x node a b k = get_or-set_other (with_word node 5 a x) (8 * node + 6) (8 * k + 0) b 0 (omega arith) ∙ get_or-set_other x (8 * node + 5) (8 * k + 0) a 0 (omega arith)

-- a chain given back leaves the number of the words
given_keeps : (line : ℕ) (ws : List ℕ) → length (with_line_given line ws) ≡ length ws
unfolding with_line_given
given_keeps line ws =
    let w1 = with_word line 0 (word_of ws 0 2) ws in
    let w2 = with_word 0 2 line w1 in
    length-set w2 (8 * 0 + 4) (word_of ws 0 4 + 1) ∙ length-set w1 (8 * 0 + 2) line ∙ length-set ws (8 * line + 0) (word_of ws 0 2)

chain_keeps : (n line : ℕ) (ws : List ℕ) → length (with_chain_given n line ws) ≡ length ws
chain_keeps zero line ws = refl
chain_keeps (suc n) line ws = chain_keeps n (word_of ws line 0) (with_line_given line ws) ∙ given_keeps line ws

-- where one place is replaced by another, a line is as often among all lines, if it is so among those of the two places and the loose ones
balanced : (k : ℕ) (front rest : List PairLayout) (place other : PairLayout) (given loose now_loose : List ℕ) → times k (lines_at other) + times k now_loose ≡ times k (lines_at place) + times k loose →
    times k (flat_map lines_at (front ++ other ∷ rest) ++ given ++ now_loose) ≡ times k (flat_map lines_at (front ++ place ∷ rest) ++ given ++ loose)
balanced k front rest place other given loose now_loose e =
    omega (
      arith,
      e,
      times_append k (flat_map lines_at (front ++ other ∷ rest) ++ given) now_loose,
      times_append k (flat_map lines_at (front ++ other ∷ rest)) given,
      times_middle k front rest other,
      times_append k (flat_map lines_at (front ++ place ∷ rest) ++ given) loose,
      times_append k (flat_map lines_at (front ++ place ∷ rest)) given,
      times_middle k front rest place,
    )

-- the pairs with a document in place of another
pub record IsRewritten (now : List ℕ) (head : RevisionHead) (lower after : Store) (pair : List ℕ × List ℕ) (front rest : List PairLayout) (place : PairLayout) (revision : ℕ) : Type 0 where
  pub tree : Tree ℕ
  pub lines : List ℕ
  pub given : List ℕ
  pub arranged : IsLaidOut now head (lower ++ pair ∷ after) tree (front ++ with_lines place lines revision ∷ rest) given []

node_within : (x : List ℕ) (head : RevisionHead) (store : Store) (tree : Tree ℕ) (front rest : List PairLayout) (place : PairLayout) (given loose : List ℕ) → IsLaidOut x head store tree (front ++ place ∷ rest) given loose → All (IsWithin x) (lines_at place)
node_within x head store tree front rest place given loose a =
    place_lines (IsWithin x) front rest place (all_left (IsWithin x) (flat_map lines_at (front ++ place ∷ rest)) given
    (all_left (IsWithin x) (flat_map lines_at (front ++ place ∷ rest) ++ given) loose (lines_within x head store tree (front ++ place ∷ rest) given loose a)))

-- a pair gets a revision
module _ (v y : List ℕ) (head : RevisionHead) (lower after : Store) (pair : List ℕ × List ℕ) (tree : Tree ℕ) (front rest : List PairLayout) (place : PairLayout) (given : List ℕ) (shape : Placed v front lower)
    (a : IsLaidOut y head (lower ++ pair ∷ after) tree (front ++ place ∷ rest) given []) (revision : ℕ) where
  -- storing a revision in word 7 of a pair's node replaces the revision alone
  revision_words : IsRenewed y (with_word place.node 7 revision y) place place.document_lines pair.1 revision
  revision_words =
      let n = place.node in
      let lines = place.document_lines in
      let now = with_word n 7 revision y in
      let r = around v y front rest lower after place pair shape a.nodes.pairs in
      let within : IsWithin y n = All-head (IsWithin y) n (place.key_lines ++ lines) (node_within y head (lower ++ pair ∷ after) tree front rest place given [] a) in
      let m = most v y head lower after pair tree front rest place given [] shape a n in
      let p = parts v y head lower after pair tree front rest place given [] shape a n in
      let apart = absent n lines (omega (arith, m, p, times_self n)) in
      record {
        long = length-set y (8 * n + 7) revision;
        others = λ k ne z. stored_elsewhere y n 7 revision k (omega arith) ne;
        node = λ i l five six seven. get_or-set_other y (8 * n + 7) (8 * n + i) revision 0 (omega arith);
        holds = subst (λ f. Holds now f lines pair.1) (sym (get_or-set_other y (8 * n + 7) (8 * n + 5) revision 0 (omega arith)))
            (holds_same y now (word_of y n 5) lines pair.1 (λ k d l. stored_elsewhere y n 7 revision (get_or lines k d) (omega arith) (apart k d l)) r.is.document);
        counted = get_or-set_other y (8 * n + 7) (8 * n + 6) revision 0 (omega arith) ∙ r.is.document_length;
        revised = get_or-set_same y (8 * n + 7) revision 0 (omega arith);
      }

  -- with a revision stored in word 7 of a pair's node the pairs stand as before, and this one has that revision
  pub revision_is : IsLaidOut (with_word place.node 7 revision y) head (lower ++ pair ∷ after) tree (front ++ with_lines place place.document_lines revision ∷ rest) given []
  revision_is =
      renewed v y head lower after pair tree front rest place given [] shape a (with_word place.node 7 revision y) place.document_lines pair.1 [] revision revision_words
      (λ k. balanced k front rest place (with_lines place place.document_lines revision) given [] [] refl)

module _ (x : List ℕ) (node : ℕ) (document : List ℕ) (c : CanRewrite x node document) where
  abbrev old : List ℕ
  old = c.place.document_lines

  -- the pair's place with its document in other lines
  abbrev moved : List ℕ → PairLayout
  moved lines = with_lines c.place lines c.place.revision

  r : IsAround x c.front c.rest c.lower c.after c.place c.pair
  r = around x x c.front c.rest c.lower c.after c.place c.pair c.placed_front c.arranged.nodes.pairs

  lines_here : All (IsWithin x) (lines_at c.place)
  lines_here = node_within x c.head (c.lower ++ c.pair ∷ c.after) c.tree c.front c.rest c.place c.given [] c.arranged

  place_here : IsWithin x c.place.node
  place_here = All-head (IsWithin x) c.place.node (c.place.key_lines ++ old) lines_here

  pub node_here : IsWithin x node
  node_here = subst (IsWithin x) (sym c.here) place_here

  old_within : All (IsWithin x) old
  old_within = all_right (IsWithin x) c.place.key_lines old (All-tail (IsWithin x) c.place.node (c.place.key_lines ++ old) lines_here)

  blocks_counted : document_blocks node x ≡ length old
  unfolding document_blocks
  blocks_counted = ap (λ n. (word_of x n 6 + 55) / 56) c.here ∙ ap (λ n. (n + 55) / 56) r.is.document_length ∙ sym r.is.document.enough

  first_here : word_of x node 5 ≡ word_of x c.place.node 5
  first_here = ap (λ n. word_of x n 5) c.here

  pub old_lines : (first count : ℕ) → word_of x node 5 ≡ first → document_blocks node x ≡ count → HasLines x first count
  old_lines first count f e = record {
    lines = old;
    chain = subst (λ m. IsChain x m old) (sym first_here ∙ f) r.is.document.chain;
    counted = sym e ∙ blocks_counted;
    within = old_within;
  }

  once_most : (k : ℕ) → times k (lines_at c.place) ≤ 1
  once_most k = (let m = most x x c.head c.lower c.after c.pair c.tree c.front c.rest c.place c.given [] c.placed_front c.arranged k in omega (arith, m))

  once_parts : (k : ℕ) → times k (lines_at c.place) ≡ cond (eqb c.place.node k) 1 0 + times k c.place.key_lines + times k old
  once_parts k = parts x x c.head c.lower c.after c.pair c.tree c.front c.rest c.place c.given [] c.placed_front c.arranged k

  apart : times c.place.node old ≡ 0
  apart = (let m = once_most c.place.node in let p = once_parts c.place.node in let s = times_self c.place.node in omega (arith, m, p, s))

  -- a document that needs as many blocks as the old one, written into its blocks
  module _ (same : length old ≡ blocks document) (short : length document ≤ 1024) where
    filled : IsFilled x (with_chain_filled (packed 128 document) (length old) 0 (word_of x c.place.node 5) x) old (packed 128 document) 0
    filled = chain_filled (packed 128 document) old x 0 (word_of x c.place.node 5) r.is.document.chain old_within (λ k. (let m = once_most k in let p = once_parts k in omega (arith, m, p)))

    refilled_words : IsRenewed x (with_word c.place.node 6 (length document) (with_chain_filled (packed 128 document) (length old) 0 (word_of x c.place.node 5) x)) c.place old document c.place.revision
    refilled_words =
        let n = c.place.node in
        let y = with_chain_filled (packed 128 document) (length old) 0 (word_of x n 5) x in
        let v = length document in
        let now = with_word n 6 v y in
        let f = filled in
        let long = f.long in
        let within = place_here in
        let ne = absent n old apart in
        let next : SameNext x now = λ k. get_or-set_other y (8 * n + 6) (8 * k + 0) v 0 (omega arith) ∙ f.next k in
        let first : word_of now n 5 ≡ word_of x n 5 = get_or-set_other y (8 * n + 6) (8 * n + 5) v 0 (omega arith) ∙ f.others n apart 5 (omega arith) in
        record {
          long = length-set y (8 * n + 6) v ∙ long;
          others = λ k m z. same_then x y now k (f.others k z) (stored_elsewhere y n 6 v k (omega arith) m);
          node = λ i l five six seven. get_or-set_other y (8 * n + 6) (8 * n + i) v 0 (omega arith) ∙ f.others n apart i l;
          holds = record {
            chain = subst (λ m. IsChain now m old) (sym first) (chain_on x now old (word_of x n 5) next r.is.document.chain);
            enough = same;
            packed = λ i l. (
                let k = get_or old (i / 7) 0 in
                stored_elsewhere y n 6 v k (omega arith) (ne (i / 7) 0 (omega arith)) (1 + i % 7) (omega arith) ∙ f.content i l ∙ ap (λ m. get_or (packed 128 document) m 0) (zero-add i) ∙ packed_word 128 i document (omega arith));
          };
          counted = get_or-set_same y (8 * n + 6) v 0 (omega arith);
          revised = get_or-set_other y (8 * n + 6) (8 * n + 7) v 0 (omega arith) ∙ f.others n apart 7 (omega arith) ∙ r.is.revised;
        }

    refilled_at : IsRewritten (with_word c.place.node 6 (length document) (with_chain_filled (packed 128 document) (length old) 0 (word_of x c.place.node 5) x)) c.head c.lower c.after (c.pair.0, document) c.front c.rest c.place c.place.revision
    refilled_at =
        let now = with_word c.place.node 6 (length document) (with_chain_filled (packed 128 document) (length old) 0 (word_of x c.place.node 5) x) in
        record {
          tree = c.tree;
          lines = old;
          given = c.given;
          arranged = renewed x x c.head c.lower c.after c.pair c.tree c.front c.rest c.place c.given [] c.placed_front c.arranged now old document [] c.place.revision refilled_words
              (λ k. balanced k c.front c.rest c.place (moved old) c.given [] [] refl);
        }

    pub refilled_is : IsRewritten (with_refilled document node x) c.head c.lower c.after (c.pair.0, document) c.front c.rest c.place c.place.revision
    unfolding with_refilled
    refilled_is =
        subst (λ n. IsRewritten (with_word n 6 (length document) (with_chain_filled (packed 128 document) (blocks document) 0 (word_of x n 5) x)) c.head c.lower c.after (c.pair.0, document) c.front c.rest c.place c.place.revision) (sym c.here)
        (subst (λ m. IsRewritten (with_word c.place.node 6 (length document) (with_chain_filled (packed 128 document) m 0 (word_of x c.place.node 5) x)) c.head c.lower c.after (c.pair.0, document) c.front c.rest c.place c.place.revision) same refilled_at)

  -- the node without its document
  abbrev bare : List ℕ
  bare = with_word c.place.node 6 0 (with_word c.place.node 5 0 x)

  abbrev emptied : List ℕ
  emptied = with_chain_given (length old) (word_of x c.place.node 5) bare

  bare_words : IsRenewed x bare c.place [] [] c.place.revision
  bare_words =
      let m = named x c.place.node 0 0 place_here in
      record {
        long = m.long;
        others = λ k ne z. m.others k ne;
        node = λ i l five six seven. m.rest i l five six;
        holds = record { chain = m.first; enough = refl; packed = λ i l. absurd (omega arith) };
        counted = m.last;
        revised = m.rest 7 (omega arith) (omega arith) (omega arith) ∙ r.is.revised;
      }

  bare_is : IsLaidOut bare c.head (c.lower ++ (c.pair.0, []) ∷ c.after) c.tree (c.front ++ moved [] ∷ c.rest) c.given (old ++ [])
  bare_is =
      renewed x x c.head c.lower c.after c.pair c.tree c.front c.rest c.place c.given [] c.placed_front c.arranged bare [] [] (old ++ []) c.place.revision bare_words
      (λ k. balanced k c.front c.rest c.place (moved []) c.given [] (old ++ []) (
      let p = once_parts k in
      omega (arith, p, times_cons k c.place.node (c.place.key_lines ++ []), times_append k c.place.key_lines [], times_append k old [])))

  bare_chain : IsChain bare (word_of x c.place.node 5) old
  bare_chain = chain_on x bare old (word_of x c.place.node 5) (names_kept x c.place.node 0 0) r.is.document.chain

  bare_loose : LooseChain bare (word_of x c.place.node 5) (length old)
  bare_loose = record {
    head = c.head;
    store = c.lower ++ (c.pair.0, []) ∷ c.after;
    tree = c.tree;
    places = c.front ++ moved [] ∷ c.rest;
    lines = old;
    others = [];
    loose = record { given = c.given; arranged = bare_is };
    chain = bare_chain;
    counted = refl;
  }

  given_is : IsGiven bare emptied c.head (c.lower ++ (c.pair.0, []) ∷ c.after) c.tree (c.front ++ moved [] ∷ c.rest) []
  given_is =
      chain_is_given (word_of x c.place.node 5) (length old) bare c.head (c.lower ++ (c.pair.0, []) ∷ c.after) c.tree (c.front ++ moved [] ∷ c.rest) old []
      (record { given = c.given; arranged = bare_is }) bare_chain refl

  emptied_long : length emptied ≡ length x
  emptied_long = chain_keeps (length old) (word_of x c.place.node 5) bare ∙ (named x c.place.node 0 0 place_here).long

  emptied_room : HasRoom emptied (c.front ++ moved [] ∷ c.rest) [] (blocks document)
  emptied_room =
      let lines = lines_of_places emptied (c.front ++ moved [] ∷ c.rest) (c.lower ++ (c.pair.0, []) ∷ c.after) given_is.loose.arranged.nodes.pairs in
      let total = lines_of_append c.lower ((c.pair.0, []) ∷ c.after) in
      let cons = lines_of_cons (c.pair.0, []) c.after in
      let count = ap (λ n. n / 8) emptied_long in
      let room = c.room in
      omega (arith, lines, total, cons, count, room)

  emptied_can : CanTake emptied (blocks document)
  emptied_can = record {
    head = c.head;
    store = c.lower ++ (c.pair.0, []) ∷ c.after;
    tree = c.tree;
    places = c.front ++ moved [] ∷ c.rest;
    given = given_is.loose.given;
    loose = [];
    arranged = given_is.loose.arranged;
    room = emptied_room;
  }

  abbrev text : ℕ × List ℕ
  text = with_text (packed 128 document) (blocks document) 0 emptied

  text_is : IsChainWritten emptied text.1 c.head (c.lower ++ (c.pair.0, []) ∷ c.after) c.tree (c.front ++ moved [] ∷ c.rest) text.0 (blocks document) 0 (packed 128 document) []
  text_is =
      text_is_written (packed 128 document) (blocks document) emptied emptied_can c.head (c.lower ++ (c.pair.0, []) ∷ c.after) c.tree (c.front ++ moved [] ∷ c.rest) given_is.loose.given []
      given_is.loose.arranged emptied_room

  written_here : IsWithin text.1 c.place.node
  written_here =
      All-head (IsWithin text.1) c.place.node (c.place.key_lines ++ [])
      (node_within text.1 c.head (c.lower ++ (c.pair.0, []) ∷ c.after) c.tree c.front c.rest (moved []) text_is.taken.given (text_is.lines ++ []) text_is.taken.arranged)

  module _ (short : length document ≤ 1024) where
    abbrev done : List ℕ
    done = with_word c.place.node 6 (length document) (with_word c.place.node 5 text.0 text.1)

    renewed_words : IsRenewed text.1 done (moved []) text_is.lines document c.place.revision
    renewed_words =
        let m = named text.1 c.place.node text.0 (length document) written_here in
        let w = text_is in
        let apart_from : (k : ℕ) → times k w.lines ≢ 0 → k ≢ c.place.node = λ k n. (
        let o = most x text.1 c.head c.lower c.after (c.pair.0, []) c.tree c.front c.rest (moved []) w.taken.given (w.lines ++ []) c.placed_front w.taken.arranged k in
        let p = parts x text.1 c.head c.lower c.after (c.pair.0, []) c.tree c.front c.rest (moved []) w.taken.given (w.lines ++ []) c.placed_front w.taken.arranged k in
        let q = times_append k w.lines [] in
        let some : times k w.lines ≢ 0 = n in
        not_here x text.1 c.head c.lower c.after (c.pair.0, []) c.tree c.front c.rest (moved []) w.taken.given (w.lines ++ []) c.placed_front w.taken.arranged k (omega (arith, o, p, q, some))) in
        let same = all_present (SameLine text.1 done) w.lines (λ k n. m.others k (apart_from k n)) in
        record {
          long = m.long;
          others = λ k ne z. m.others k ne;
          node = λ i l five six seven. m.rest i l five six;
          holds = subst (λ f. Holds done f w.lines document) (sym m.first) (holds_same text.1 done text.0 w.lines document same
              (written_holds emptied text.1 c.head (c.lower ++ (c.pair.0, []) ∷ c.after) c.tree (c.front ++ moved [] ∷ c.rest) text.0 (blocks document) 128 (length document) (packed 128 document) document []
              (record { long = refl; packs = refl }) (omega arith) (blocks_are (length document)) w));
          counted = m.last;
          revised = m.rest 7 (omega arith) (omega arith) (omega arith) ∙ (around x text.1 c.front c.rest c.lower c.after (moved []) (c.pair.0, []) c.placed_front w.taken.arranged.nodes.pairs).is.revised;
        }

    renewed_at : IsRewritten done c.head c.lower c.after (c.pair.0, document) c.front c.rest c.place c.place.revision
    renewed_at =
        let w = text_is in
        record {
          tree = c.tree;
          lines = w.lines;
          given = w.taken.given;
          arranged = renewed x text.1 c.head c.lower c.after (c.pair.0, []) c.tree c.front c.rest (moved []) w.taken.given (w.lines ++ []) c.placed_front w.taken.arranged done w.lines document [] c.place.revision renewed_words
              (λ k. balanced k c.front c.rest (moved []) (moved w.lines) w.taken.given (w.lines ++ []) [] (omega (
                arith,
                times_cons k c.place.node (c.place.key_lines ++ w.lines),
                times_append k c.place.key_lines w.lines,
                times_cons k c.place.node (c.place.key_lines ++ []),
                times_append k c.place.key_lines [],
                times_append k w.lines [],
              )));
        }

  -- the words with the document of the node given back are those by the definition
  pub emptied_is : with_emptied node x ≡ emptied
  unfolding with_emptied
  emptied_is =
      ap (λ n. with_chain_given n (word_of x node 5) (with_word node 6 0 (with_word node 5 0 x))) blocks_counted
      ∙ ap (λ n. with_chain_given (length old) (word_of x n 5) (with_word n 6 0 (with_word n 5 0 x))) c.here

  pub renewed_is : length document ≤ 1024 → IsRewritten (with_renewed document node x) c.head c.lower c.after (c.pair.0, document) c.front c.rest c.place c.place.revision
  unfolding with_renewed
  renewed_is short =
      let put : ℕ → List ℕ → List ℕ = λ n e. with_word n 6 (length document) (with_word n 5 (with_text (packed 128 document) (blocks document) 0 e).0 (with_text (packed 128 document) (blocks document) 0 e).1) in
      subst (λ e. IsRewritten (put node e) c.head c.lower c.after (c.pair.0, document) c.front c.rest c.place c.place.revision) (sym emptied_is)
      (subst (λ n. IsRewritten (put n emptied) c.head c.lower c.after (c.pair.0, document) c.front c.rest c.place c.place.revision) (sym c.here) (renewed_at short))

  rewritten_by : (b : Bool) → (document_blocks node x == blocks document) ≡ b → length document ≤ 1024 → IsRewritten (cond b (with_refilled document node x) (with_renewed document node x)) c.head c.lower c.after (c.pair.0, document) c.front c.rest c.place c.place.revision
  rewritten_by true e short = refilled_is (sym blocks_counted ∙ eqb-true (document_blocks node x) (blocks document) e) short
  rewritten_by false e short = renewed_is short

  pub rewritten_is : length document ≤ 1024 → IsRewritten (with_rewritten document node x) c.head c.lower c.after (c.pair.0, document) c.front c.rest c.place c.place.revision
  unfolding with_rewritten
  rewritten_is short = rewritten_by (document_blocks node x == blocks document) refl short

  pub rewritten_here : length document ≤ 1024 → IsWithin (with_rewritten document node x) node
  rewritten_here short =
      let y = with_rewritten document node x in
      let w = rewritten_is short in
      subst (IsWithin y) (sym c.here) (All-head (IsWithin y) c.place.node (c.place.key_lines ++ w.lines) (node_within y c.head (c.lower ++ (c.pair.0, document) ∷ c.after) w.tree c.front c.rest (moved w.lines) w.given [] w.arranged))

  -- the words with a document replaced and a revision stand for the pairs with these two
  pub replaced_is : (revision : ℕ) → length document ≤ 1024 → IsRewritten (with_replaced document node revision x) c.head c.lower c.after (c.pair.0, document) c.front c.rest c.place revision
  unfolding with_replaced
  replaced_is revision short =
      let y = with_rewritten document node x in
      let w = rewritten_is short in
      subst (λ n. IsRewritten (with_word n 7 revision y) c.head c.lower c.after (c.pair.0, document) c.front c.rest c.place revision) (sym c.here) (record {
        tree = w.tree;
        lines = w.lines;
        given = w.given;
        arranged = revision_is x y c.head c.lower c.after (c.pair.0, document) w.tree c.front c.rest (moved w.lines) w.given c.placed_front w.arranged revision;
      })

  -- once the node names no document, the blocks of the one that it named are a loose chain
  pub chain_loose : (first count : ℕ) → word_of x node 5 ≡ first → document_blocks node x ≡ count → LooseChain (with_word node 6 0 (with_word node 5 0 x)) first count
  chain_loose first count f e =
      subst (λ n. LooseChain (with_word n 6 0 (with_word n 5 0 x)) first count) (sym c.here)
      (subst (λ m. LooseChain bare m count) (sym first_here ∙ f) (subst (LooseChain bare (word_of x c.place.node 5)) (sym blocks_counted ∙ e) bare_loose))

  pub renew_can : CanTake (with_emptied node x) (blocks document)
  renew_can = subst (λ e. CanTake e (blocks document)) (sym emptied_is) emptied_can

  pub renew_here : IsWithin (with_text (packed 128 document) (blocks document) 0 (with_emptied node x)).1 node
  renew_here =
      subst (λ e. IsWithin (with_text (packed 128 document) (blocks document) 0 e).1 node) (sym emptied_is) (subst (IsWithin text.1) (sym c.here) written_here)
