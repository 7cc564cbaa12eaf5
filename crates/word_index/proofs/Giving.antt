-- Loose lines are given back.
use Rattle.std.proofs.Common.{◌≡◌, ◌≢◌, ◌+◌, ◌*◌, ◌/◌, ◌<◌, ◌≤◌, ℕ, suc, cond, leb, ltb, ◌&&◌, List, [], ◌∷◌, ◌++◌, length, get_or, refl, sym, ap, subst, ◌∙◌, arith}
use Rattle.std.specs.List.{flat_map, All}
use Rattle.std.proofs.lemmas.Bool.Decides.{nat_tests}
use Rattle.std.proofs.lemmas.List.{append-nil, get_or-set_same, get_or-set_other, length-set}
use Rattle.std.proofs.lemmas.List.Elements.{All-head, All-tail, All-weaker}
use Rattle.cx_base.specs.Store.{Store}
use Rattle.avl_words.specs.Lines.{IsWithin, with_word, word_of, IsPartLength}
use Rattle.index_validation.proofs.Lines.{all_left, all_right, lines_there, lines_within}
use Rattle.index_validation.proofs.Totals.{few_given}
use Rattle.index_validation.specs.Layout.{IsChain, PairLayout, lines_at, Nodes, IsLaidOut, RevisionHead}
use Rattle.word_index.proofs.Frames.{times, times_append, times_cons, times_self, absent, stored_elsewhere, same_then, chain_same, nodes_same}
use Rattle.word_index.specs.Changes.{SameLine, with_line_given, CanGive, IsLoose, LooseChain, ChainGiven}
use Rattle.avl_words.specs.Tree.{Tree}

-- a line that stands first among the loose ones stands nowhere else
pub record StandsAlone (line : ℕ) (used given loose : List ℕ) : Type 0 where
  pub not_used : All (λ x. x ≢ line) used
  pub not_given : All (λ x. x ≢ line) given
  pub not_loose : All (λ x. x ≢ line) loose

at_most_once : (line end n : ℕ) → n ≡ cond (leb 1 line && ltb line end) 1 0 → n ≤ 1
at_most_once line end n e = grind (arith, nat_tests)

pub stands_alone : (line end : ℕ) (used given loose : List ℕ) → times line (used ++ given ++ (line ∷ loose)) ≡ cond (leb 1 line && ltb line end) 1 0 → StandsAlone line used given loose
stands_alone line end used given loose once =
    let most = at_most_once line end (times line (used ++ given ++ (line ∷ loose))) once in
    let a = times_append line (used ++ given) (line ∷ loose) in
    let b = times_append line used given in
    let c = times_cons line line loose in
    let d = times_self line in
    record {
      not_used = absent line used (omega (arith, most, a, b, c, d));
      not_given = absent line given (omega (arith, most, a, b, c, d));
      not_loose = absent line loose (omega (arith, most, a, b, c, d));
    }

-- what giving a line back leaves as it was in the words
module _ (ws : List ℕ) (line : ℕ) (some : 1 ≤ line) (within : 8 * line + 8 ≤ length ws) where
  pub given_elsewhere : (other : ℕ) → other ≢ line → 1 ≤ other → SameLine ws (with_line_given line ws) other
  unfolding with_line_given
  given_elsewhere other ne above =
      let w1 = with_word line 0 (word_of ws 0 2) ws in
      let w2 = with_word 0 2 line w1 in
      let zero_apart : other ≢ 0 = omega arith in
      same_then ws w2 (with_word 0 4 (word_of ws 0 4 + 1) w2) other
      (same_then ws w1 w2 other (stored_elsewhere ws line 0 (word_of ws 0 2) other (omega arith) ne) (stored_elsewhere w1 0 2 line other (omega arith) zero_apart))
      (stored_elsewhere w2 0 4 (word_of ws 0 4 + 1) other (omega arith) zero_apart)

  pub given_header : (i : ℕ) → i < 8 → i ≢ 2 → i ≢ 4 → get_or (with_line_given line ws) i 0 ≡ get_or ws i 0
  unfolding with_line_given
  given_header i l two four =
      let w1 = with_word line 0 (word_of ws 0 2) ws in
      let w2 = with_word 0 2 line w1 in
      get_or-set_other w2 4 i (word_of ws 0 4 + 1) 0 four ∙ get_or-set_other w1 2 i line 0 two ∙ get_or-set_other ws (8 * line + 0) i (word_of ws 0 2) 0 (omega arith)

  pub given_head : get_or (with_line_given line ws) 2 0 ≡ line
  unfolding with_line_given
  given_head =
      let w1 = with_word line 0 (word_of ws 0 2) ws in
      let w2 = with_word 0 2 line w1 in
      let long : 2 < length w1 = omega (arith, length-set ws (8 * line + 0) (word_of ws 0 2)) in
      get_or-set_other w2 4 2 (word_of ws 0 4 + 1) 0 (omega arith) ∙ get_or-set_same w1 2 line 0 long

  pub given_number : get_or (with_line_given line ws) 4 0 ≡ get_or ws 4 0 + 1
  unfolding with_line_given
  given_number =
      let w1 = with_word line 0 (word_of ws 0 2) ws in
      let w2 = with_word 0 2 line w1 in
      let long : 4 < length w2 = omega (arith, length-set w1 2 line, length-set ws (8 * line + 0) (word_of ws 0 2)) in
      get_or-set_same w2 4 (word_of ws 0 4 + 1) 0 long

  pub given_next : word_of (with_line_given line ws) line 0 ≡ get_or ws 2 0
  unfolding with_line_given
  given_next =
      let w1 = with_word line 0 (word_of ws 0 2) ws in
      let w2 = with_word 0 2 line w1 in
      let long : 8 * line + 0 < length ws = omega arith in
      get_or-set_other w2 4 (8 * line + 0) (word_of ws 0 4 + 1) 0 (omega arith) ∙ get_or-set_other w1 2 (8 * line + 0) line 0 (omega arith) ∙ get_or-set_same ws (8 * line + 0) (word_of ws 0 2) 0 long

  pub given_long : length (with_line_given line ws) ≡ length ws
  unfolding with_line_given
  given_long =
      let w1 = with_word line 0 (word_of ws 0 2) ws in
      let w2 = with_word 0 2 line w1 in
      length-set w2 4 (word_of ws 0 4 + 1) ∙ length-set w1 2 line ∙ length-set ws (8 * line + 0) (word_of ws 0 2)

-- lines that are there and are not this one are as they were
pub others_same : (ws : List ℕ) (line : ℕ) (lines : List ℕ) → 1 ≤ line → 8 * line + 8 ≤ length ws → All (λ x. x ≢ line) lines → All (λ x. 1 ≤ x) lines → All (SameLine ws (with_line_given line ws)) lines
others_same ws line lines some within apart above = λ k d l. given_elsewhere ws line some within (get_or lines k d) (apart k d l) (above k d l)

pub moved_line : (x line : ℕ) (used given loose : List ℕ) → times x (used ++ (line ∷ given) ++ loose) ≡ times x (used ++ given ++ (line ∷ loose))
moved_line x line used given loose =
    omega (
      arith,
      times_append x (used ++ (line ∷ given)) loose,
      times_append x used (line ∷ given),
      times_cons x line given,
      times_append x (used ++ given) (line ∷ loose),
      times_append x used given,
      times_cons x line loose,
    )

one_more : (n : ℕ) → n + 1 ≡ suc n
one_more n = omega arith

pub give_arranged : (ws : List ℕ) (head : RevisionHead) (store : Store) (tree : Tree ℕ) (places : List PairLayout) (given loose : List ℕ) (line : ℕ) → IsLaidOut ws head store tree places given (line ∷ loose) →
    IsLaidOut (with_line_given line ws) head store tree places (line ∷ given) loose × All (SameLine ws (with_line_given line ws)) loose
give_arranged ws head store tree places given loose line a =
    let used = flat_map lines_at places in
    let alone = stands_alone line (word_of ws 0 3) used given loose (a.once line) in
    let there = All-weaker (λ x. (1 ≤ x) × (x < word_of ws 0 3)) (λ x. 1 ≤ x) (λ x h. h.0) (used ++ given ++ (line ∷ loose)) (lines_there ws head store tree places given (line ∷ loose) a) in
    let front = all_left (λ x. 1 ≤ x) (used ++ given) (line ∷ loose) there in
    let back = all_right (λ x. 1 ≤ x) (used ++ given) (line ∷ loose) there in
    let some = All-head (λ x. 1 ≤ x) line loose back in
    let within = All-head (IsWithin ws) line loose (all_right (IsWithin ws) (used ++ given) (line ∷ loose) (lines_within ws head store tree places given (line ∷ loose) a)) in
    let now = with_line_given line ws in
    let header = given_header ws line some within in
    let same_used = others_same ws line used some within alone.not_used (all_left (λ x. 1 ≤ x) used given front) in
    let same_given = others_same ws line given some within alone.not_given (all_right (λ x. 1 ≤ x) used given front) in
    let same_loose = others_same ws line loose some within alone.not_loose (All-tail (λ x. 1 ≤ x) line loose back) in
    let long = given_long ws line some within in
    let end = header 3 (omega arith) (omega arith) (omega arith) in (
      record {
        sized = subst IsPartLength (sym long) a.sized;
        version_word = header 0 (omega arith) (omega arith) (omega arith) ∙ a.version_word;
        nodes = subst (λ x. Nodes now x tree places store) (sym (header 1 (omega arith) (omega arith) (omega arith))) (nodes_same ws now (word_of ws 0 1) tree places store long same_used a.nodes);
        given_back = (given_head ws line some within, subst (λ x. IsChain now x given) (sym (given_next ws line some within)) (chain_same ws now given (word_of ws 0 2) same_given a.given_back));
        end_from = subst (λ x. 1 ≤ x) (sym end) a.end_from;
        end_to = subst (λ n. word_of now 0 3 ≤ n / 8) (sym long) (subst (λ x. x ≤ length ws / 8) (sym end) a.end_to);
        once = λ x. moved_line x line used given loose ∙ a.once x ∙ ap (λ e. cond (leb 1 x && ltb x e) 1 0) (sym end);
        given_count = given_number ws line some within ∙ ap (λ n. n + 1) a.given_count ∙ one_more (length given);
        pair_count = header 5 (omega arith) (omega arith) (omega arith) ∙ a.pair_count;
        last_word = header 6 (omega arith) (omega arith) (omega arith) ∙ a.last_word;
        no_seventh = header 7 (omega arith) (omega arith) (omega arith) ∙ a.no_seventh;
      },
      same_loose,
    )

-- a chain of loose lines, some of which are given back
pub record Partly (before now : List ℕ) (head : RevisionHead) (store : Store) (tree : Tree ℕ) (places : List PairLayout) (others : List ℕ) (i line count : ℕ) : Type 0 where
  pub rest : List ℕ
  pub loose : IsLoose now head store tree places rest others
  pub chain : IsChain now line rest
  pub left : i + length rest ≡ count
  pub same : All (SameLine before now) others

abbrev pub ChainSoFar : ℕ → ℕ → ℕ → ℕ → List ℕ → List ℕ → Type 0
ChainSoFar first count i line before now =
    (head : RevisionHead) (store : Store) (tree : Tree ℕ) (places : List PairLayout) (lines others : List ℕ) → IsLoose before head store tree places lines others → IsChain before first lines → count ≡ length lines →
    Partly before now head store tree places others i line count

-- at the beginning no line of a chain is given back, and all lines are left, from `first` on
pub so_far_none : (first count : ℕ) (x y : List ℕ) → x ≡ y → ChainSoFar first count 0 first x y
so_far_none first count x y e head store tree places lines others loose chain counted =
    subst (λ w. Partly x w head store tree places others 0 first count) e (record {
      rest = lines;
      loose = loose;
      chain = chain;
      left = omega arith;
      same = λ k d l i b. refl;
    })

-- where some lines of a loose chain are left, from `line` on, `line` can be given back
part_within : (x y : List ℕ) (head : RevisionHead) (store : Store) (tree : Tree ℕ) (places : List PairLayout) (others rest given : List ℕ) (i line count : ℕ) → i < count → i + length rest ≡ count →
    IsLaidOut y head store tree places given (rest ++ others) → IsChain y line rest → CanGive y line
part_within x y head store tree places others [] given i line count l e a c = absurd (omega arith)
part_within x y head store tree places others (r ∷ rest) given i line count l e a c = record {
  there = subst (IsWithin y) (sym c.0) (All-head (IsWithin y) r (rest ++ others) (all_right (IsWithin y) (flat_map lines_at places ++ given) (r ∷ (rest ++ others)) (lines_within y head store tree places given (r ∷ (rest ++ others)) a)));
  few = few_given y head store tree places given (r ∷ (rest ++ others)) a;
}

-- where `i` lines of a loose chain are given back, fewer than all, the next one, `line`, can be given back
pub next_can_be_given : (first count i line : ℕ) (x y : List ℕ) → i < count → LooseChain x first count → ChainSoFar first count i line x y → CanGive y line
next_can_be_given first count i line x y l h r =
    let p = r h.head h.store h.tree h.places h.lines h.others h.loose h.chain h.counted in
    part_within x y h.head h.store h.tree h.places h.others p.rest p.loose.given i line count l p.left p.loose.arranged p.chain

-- lines that are the same in `x` and `y`, and in `y` and `z`, are the same in `x` and `z`
pub all_same_then : (x y z lines : List ℕ) → All (SameLine x y) lines → All (SameLine y z) lines → All (SameLine x z) lines
all_same_then x y z lines p q = λ k d l. same_then x y z (get_or lines k d) (p k d l) (q k d l)

-- where `rest` is left of a loose chain, from `line` on, giving back `line` leaves the lines behind it, from `next` on
part_more : (x y z : List ℕ) (head : RevisionHead) (store : Store) (tree : Tree ℕ) (places : List PairLayout) (others rest given : List ℕ) (i line next count : ℕ) → i < count → i + length rest ≡ count →
    IsLaidOut y head store tree places given (rest ++ others) → IsChain y line rest → All (SameLine x y) others → word_of y line 0 ≡ next → z ≡ with_line_given line y →
    Partly x z head store tree places others (i + 1) next count
part_more x y z head store tree places others [] given i line next count l e a c same word is = absurd (omega arith)
part_more x y z head store tree places others (r ∷ rest) given i line next count l e a c same word is =
    let given_now = give_arranged y head store tree places given (rest ++ others) r a in
    let now : z ≡ with_line_given r y = is ∙ ap (λ q. with_line_given q y) c.0 in
    let rest_same = all_left (SameLine y (with_line_given r y)) rest others given_now.1 in
    let others_same = all_right (SameLine y (with_line_given r y)) rest others given_now.1 in
    let after : word_of y r 0 ≡ next = ap (λ q. word_of y q 0) (sym c.0) ∙ word in
    subst (λ w. Partly x w head store tree places others (i + 1) next count) (sym now) (record {
      rest = rest;
      loose = record { given = r ∷ given; arranged = given_now.0 };
      chain = subst (λ q. IsChain (with_line_given r y) q rest) after (chain_same y (with_line_given r y) rest (word_of y r 0) rest_same c.1);
      left = omega arith;
      same = all_same_then x y (with_line_given r y) others same others_same;
    })

-- where `i` lines of a chain are given back and then `line` is, `i + 1` are, and the others are left from `next` on
pub so_far_more : (first count i line next : ℕ) (x y z : List ℕ) → i < count → ChainSoFar first count i line x y → word_of y line 0 ≡ next → z ≡ with_line_given line y → ChainSoFar first count (i + 1) next x z
so_far_more first count i line next x y z l r word is head store tree places lines others loose chain counted =
    let p = r head store tree places lines others loose chain counted in
    part_more x y z head store tree places others p.rest p.loose.given i line next count l p.left p.loose.arranged p.chain p.same word is

-- where `count` lines of a chain of as many are given back, the loose lines are only the others
none_left : (x y : List ℕ) (head : RevisionHead) (store : Store) (tree : Tree ℕ) (places : List PairLayout) (others rest given : List ℕ) (i count : ℕ) → i ≡ count → i + length rest ≡ count →
    IsLaidOut y head store tree places given (rest ++ others) → IsLaidOut y head store tree places given (others ++ [])
none_left x y head store tree places others [] given i count e l a = subst (IsLaidOut y head store tree places given) (sym (append-nil others)) a
none_left x y head store tree places others (r ∷ rest) given i count e l a = absurd (omega arith)

-- where `count` lines of a chain of as many are given back, the whole chain is
pub so_far_all : (first count i line : ℕ) (x y : List ℕ) → i ≡ count → ChainSoFar first count i line x y → ChainGiven first count x y
so_far_all first count i line x y e r head store tree places lines others loose chain counted =
    let p = r head store tree places lines others loose chain counted in
    record { loose = record { given = p.loose.given; arranged = none_left x y head store tree places others p.rest p.loose.given i count e p.left p.loose.arranged }; same = p.same }
