-- Lines are taken from the given-back ones, or from those never given.
use Rattle.std.proofs.Common.{◌≡◌, ◌^◌, ◌≢◌, ◌+◌, ◌-◌, ◌/◌, ◌<◌, ◌≤◌, ℕ, cond, eqb, leb, ltb, ◌&&◌, List, [], ◌∷◌, ◌++◌, length, get_or, sym, ap, subst, ◌∙◌, arith}
use Rattle.std.specs.List.{flat_map, All}
use Rattle.std.proofs.lemmas.Bool.Decides.{nat_tests}
use Rattle.std.proofs.lemmas.List.{get_or-set_same, get_or-set_other, length-set}
use Rattle.std.proofs.lemmas.List.Elements.{All-head, All-tail, All-weaker}
use Rattle.cx_base.specs.Store.{Store}
use Rattle.avl_words.specs.Lines.{IsWithin, with_word, word_of, IsPartLength}
use Rattle.index_validation.proofs.Lines.{all_left, all_right, lines_there, lines_within}
use Rattle.index_validation.proofs.Totals.{all_lines}
use Rattle.index_validation.specs.Layout.{IsChain, PairLayout, lines_at, Nodes, IsLaidOut, RevisionHead}
use Rattle.word_index.proofs.Frames.{times, times_append, times_cons, stored_elsewhere, same_then, chain_same, nodes_same}
use Rattle.word_index.proofs.Giving.{moved_line}
use Rattle.word_index.specs.Changes.{SameLine}
use Rattle.word_index.specs.Fresh.{HasRoom, CanTake, AreLinesTaken, LineTaken}
use Rattle.avl_words.specs.Tree.{Tree}

-- the lines of places, those given back and the loose ones are from 1 on
pub from_one : (ws : List ℕ) (said : RevisionHead) (store : Store) (tree : Tree ℕ) (places : List PairLayout) (given loose : List ℕ) → IsLaidOut ws said store tree places given loose →
    All (λ x. 1 ≤ x) (flat_map lines_at places) × All (λ x. 1 ≤ x) given × All (λ x. 1 ≤ x) loose
from_one ws said store tree places given loose a =
    let used = flat_map lines_at places in
    let all = All-weaker (λ x. (1 ≤ x) × (x < word_of ws 0 3)) (λ x. 1 ≤ x) (λ x h. h.0) (used ++ given ++ loose) (lines_there ws said store tree places given loose a) in
    let front = all_left (λ x. 1 ≤ x) (used ++ given) loose all in
    (all_left (λ x. 1 ≤ x) used given front, all_right (λ x. 1 ≤ x) used given front, all_right (λ x. 1 ≤ x) (used ++ given) loose all)

-- a stored header word leaves the lines
pub header_stored : (ws : List ℕ) (i v : ℕ) (lines : List ℕ) → i < 8 → All (λ x. 1 ≤ x) lines → All (SameLine ws (with_word 0 i v ws)) lines
header_stored ws i v lines l some = λ k d below. stored_elsewhere ws 0 i v (get_or lines k d) l (let s = some k d below in omega arith)

-- whether a line `k` is from 1 to below `end`, or is `end`, is whether it is from 1 to below `end + 1`
one_more_end : (k end m : ℕ) → 1 ≤ end → m ≡ cond (leb 1 k && ltb k end) 1 0 → m + cond (eqb end k) 1 0 ≡ cond (leb 1 k && ltb k (end + 1)) 1 0
one_more_end k end m some e = grind (arith, nat_tests)

pub new_taken : (x : List ℕ) (said : RevisionHead) (store : Store) (tree : Tree ℕ) (places : List PairLayout) (given loose : List ℕ) (line : ℕ) → IsLaidOut x said store tree places given loose → HasRoom x places loose 1 →
    word_of x 0 2 ≡ 0 → word_of x 0 3 ≡ line → AreLinesTaken x (with_word 0 3 (line + 1) x) said store tree places (line ∷ []) loose
new_taken x said store tree places (g ∷ given) loose line a room none end =
    absurd (let some = All-head (λ y. 1 ≤ y) g given (from_one x said store tree places (g ∷ given) loose a).1 in omega (arith, some, a.given_back.0, none))
new_taken x said store tree places [] loose line a room none end =
    let y = with_word 0 3 (line + 1) x in
    let used = flat_map lines_at places in
    let total = all_lines x said store tree places [] loose a in
    let some = from_one x said store tree places [] loose a in
    let header : (i : ℕ) → i ≢ 3 → get_or y i 0 ≡ get_or x i 0 = λ i ne. get_or-set_other x 3 i (line + 1) 0 ne in
    let long : length y ≡ length x = length-set x 3 (line + 1) in
    let now : get_or y 3 0 ≡ line + 1 = get_or-set_same x 3 (line + 1) 0 (omega (arith, a.sized.some)) in
    record {
      given = [];
      arranged = record {
        sized = subst IsPartLength (sym long) a.sized;
        version_word = header 0 (omega arith) ∙ a.version_word;
        nodes = subst (λ r. Nodes y r tree places store) (sym (header 1 (omega arith))) (nodes_same x y (word_of x 0 1) tree places store long (header_stored x 3 (line + 1) used (omega arith) some.0) a.nodes);
        given_back = header 2 (omega arith) ∙ a.given_back;
        end_from = omega (arith, now);
        end_to = subst (λ n. get_or y 3 0 ≤ n / 8) (sym long) (omega (arith, now, total, room, end));
        once = λ k. omega (
          arith,
          times_append k (used ++ []) (line ∷ loose),
          times_cons k line loose,
          times_append k (used ++ []) loose,
          subst (λ e. times k (used ++ [] ++ loose) + cond (eqb e k) 1 0 ≡ cond (leb 1 k && ltb k (e + 1)) 1 0) end (one_more_end k (word_of x 0 3) (times k (used ++ [] ++ loose)) a.end_from (a.once k)),
          ap (λ e. cond {A = ℕ} (leb 1 k && ltb k e) 1 0) now,
        );
        given_count = header 4 (omega arith) ∙ a.given_count;
        pair_count = header 5 (omega arith) ∙ a.pair_count;
        last_word = header 6 (omega arith) ∙ a.last_word;
        no_seventh = header 7 (omega arith) ∙ a.no_seventh;
      };
      same = header_stored x 3 (line + 1) loose (omega arith) some.2;
      long = long;
    }

pub given_taken : (x : List ℕ) (said : RevisionHead) (store : Store) (tree : Tree ℕ) (places : List PairLayout) (given loose : List ℕ) (head : ℕ) → IsLaidOut x said store tree places given loose →
    (head ≡ 0 → ⊥) → word_of x 0 2 ≡ head → AreLinesTaken x (with_word 0 4 (word_of x 0 4 - 1) (with_word 0 2 (word_of x head 0) x)) said store tree places (head ∷ []) loose
given_taken x said store tree places [] loose head a some is = absurd (some (sym is ∙ a.given_back))
given_taken x said store tree places (g ∷ given) loose head a some is =
    subst (λ h. AreLinesTaken x (with_word 0 4 (word_of x 0 4 - 1) (with_word 0 2 (word_of x h 0) x)) said store tree places (h ∷ []) loose) (sym a.given_back.0 ∙ is) (
    let w = with_word 0 2 (word_of x g 0) x in
    let y = with_word 0 4 (word_of x 0 4 - 1) w in
    let used = flat_map lines_at places in
    let some = from_one x said store tree places (g ∷ given) loose a in
    let lines : (lines : List ℕ) → All (λ l. 1 ≤ l) lines → All (SameLine x y) lines = λ lines from k d l. same_then x w y (get_or lines k d)
    (header_stored x 2 (word_of x g 0) lines (omega arith) from k d l) (header_stored w 4 (word_of x 0 4 - 1) lines (omega arith) from k d l) in
    let header : (i : ℕ) → i ≢ 2 → i ≢ 4 → get_or y i 0 ≡ get_or x i 0 = λ i two four. get_or-set_other w 4 i (word_of x 0 4 - 1) 0 four ∙ get_or-set_other x 2 i (word_of x g 0) 0 two in
    let long : length y ≡ length x = length-set w 4 (word_of x 0 4 - 1) ∙ length-set x 2 (word_of x g 0) in
    let first : get_or y 2 0 ≡ word_of x g 0 = get_or-set_other w 4 2 (word_of x 0 4 - 1) 0 (omega arith) ∙ get_or-set_same x 2 (word_of x g 0) 0 (omega (arith, a.sized.some)) in
    let number : get_or y 4 0 ≡ word_of x 0 4 - 1 = get_or-set_same w 4 (word_of x 0 4 - 1) 0 (omega (arith, a.sized.some, length-set x 2 (word_of x g 0))) in
    let end = header 3 (omega arith) (omega arith) in
    record {
      given = given;
      arranged = record {
        sized = subst IsPartLength (sym long) a.sized;
        version_word = header 0 (omega arith) (omega arith) ∙ a.version_word;
        nodes = subst (λ r. Nodes y r tree places store) (sym (header 1 (omega arith) (omega arith))) (nodes_same x y (word_of x 0 1) tree places store long (lines used some.0) a.nodes);
        given_back = subst (λ f. IsChain y f given) (sym first) (chain_same x y given (word_of x g 0) (lines given (All-tail (λ l. 1 ≤ l) g given some.1)) a.given_back.1);
        end_from = subst (λ e. 1 ≤ e) (sym end) a.end_from;
        end_to = subst (λ n. word_of y 0 3 ≤ n / 8) (sym long) (subst (λ e. e ≤ length x / 8) (sym end) a.end_to);
        once = λ k. sym (moved_line k g used given loose) ∙ a.once k ∙ ap (λ e. cond (leb 1 k && ltb k e) 1 0) (sym end);
        given_count = omega (arith, number, a.given_count);
        pair_count = header 5 (omega arith) (omega arith) ∙ a.pair_count;
        last_word = header 6 (omega arith) (omega arith) ∙ a.last_word;
        no_seventh = header 7 (omega arith) (omega arith) ∙ a.no_seventh;
      };
      same = lines loose some.2;
      long = long;
    })

-- where lines can be taken, the end of the lines ever given is at most 2^32
pub end_small : (x : List ℕ) (more : ℕ) → CanTake x more → word_of x 0 3 ≤ 2 ^ 32
end_small x more c = omega (arith, c.arranged.end_to, c.arranged.sized.few)

head_known : (x : List ℕ) (said : RevisionHead) (store : Store) (tree : Tree ℕ) (places : List PairLayout) (given loose : List ℕ) (head : ℕ) → IsLaidOut x said store tree places given loose → (head ≡ 0 → ⊥) → word_of x 0 2 ≡ head →
    IsWithin x head × (1 ≤ word_of x 0 4)
head_known x said store tree places [] loose head a some is = absurd (some (sym is ∙ a.given_back))
head_known x said store tree places (g ∷ given) loose head a some is =
    let within = all_right (IsWithin x) (flat_map lines_at places) (g ∷ given) (all_left (IsWithin x) (flat_map lines_at places ++ (g ∷ given)) loose (lines_within x said store tree places (g ∷ given) loose a)) in
    (subst (IsWithin x) (sym a.given_back.0 ∙ is) (All-head (IsWithin x) g given within), omega (arith, a.given_count))

pub head_there : (x : List ℕ) (head more : ℕ) → CanTake x more → (head ≡ 0 → ⊥) → word_of x 0 2 ≡ head → IsWithin x head × (1 ≤ word_of x 0 4)
head_there x head more c some is = head_known x c.head c.store c.tree c.places c.given c.loose head c.arranged some is

-- taking the first line that was never given, as the code does where none is given back, takes that line
pub new_line : (x y z : List ℕ) (head line : ℕ) → y ≡ x → word_of y 0 2 ≡ head → head ≡ 0 → (word_of y 0 3 ≡ line) × (z ≡ with_word 0 3 (line + 1) y) → LineTaken line x z
new_line x y z head line e is none r said store tree places given loose a room =
    let last : word_of x 0 3 ≡ line = subst (λ w. word_of w 0 3 ≡ line) e r.0 in
    let first : word_of x 0 2 ≡ 0 = subst (λ w. word_of w 0 2 ≡ 0) e (subst (λ n. word_of y 0 2 ≡ n) none is) in
    let now : z ≡ with_word 0 3 (line + 1) x = subst (λ w. z ≡ with_word 0 3 (line + 1) w) e r.1 in
    subst (λ w. AreLinesTaken x w said store tree places (line ∷ []) loose) (sym now) (new_taken x said store tree places given loose line a room first last)

-- taking the first line `head` of those given back, as the code does, takes that line
pub given_line : (x y z : List ℕ) (head : ℕ) → y ≡ x → word_of y 0 2 ≡ head → (head ≡ 0 → ⊥) → z ≡ with_word 0 4 (word_of y 0 4 - 1) (with_word 0 2 (word_of y head 0) y) → LineTaken head x z
given_line x y z head e is some r said store tree places given loose a room =
    let first : word_of x 0 2 ≡ head = subst (λ w. word_of w 0 2 ≡ head) e is in
    let now = subst (λ w. z ≡ with_word 0 4 (word_of w 0 4 - 1) (with_word 0 2 (word_of w head 0) w)) e r in
    subst (λ w. AreLinesTaken x w said store tree places (head ∷ []) loose) (sym now) (given_taken x said store tree places given loose head a some first)
