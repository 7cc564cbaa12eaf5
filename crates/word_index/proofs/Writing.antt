-- Lines are filled, and words written into chains of new blocks.
use Rattle.std.proofs.Common.{◌≡◌, ◌≢◌, ◌+◌, ◌-◌, ◌*◌, ◌/◌, ◌%◌, ◌<◌, ◌≤◌, ℕ, suc, cond, leb, ltb, ◌&&◌, List, [], ◌∷◌, ◌++◌, length, get_or, refl, sym, ap, subst, ◌∙◌, inl, inr, arith, length-append}
use Rattle.std.specs.List.{flat_map, All}
use Rattle.std.proofs.lemmas.Bool.{cases_lt}
use Rattle.std.proofs.lemmas.List.Elements.{All-head}
use Rattle.cx_base.specs.Store.{Store}
use Rattle.avl_words.specs.Lines.{IsWithin, word_of, IsPartLength}
use Rattle.index_validation.proofs.Lines.{all_left, all_right}
use Rattle.index_validation.specs.Layout.{IsChain, PairLayout, lines_at, Nodes, IsLaidOut, RevisionHead}
use Rattle.word_index.proofs.Frames.{chain_same, nodes_same}
use Rattle.word_index.proofs.Giving.{stands_alone, all_same_then}
use Rattle.word_index.proofs.PairsGiven.{loose_within}
use Rattle.word_index.proofs.Taking.{from_one}
use Rattle.word_index.specs.Changes.{SameLine}
use Rattle.word_index.specs.Fresh.{HasRoom, CanTake, LineTaken, LineFilled, IsBlock, IsChainWritten, TextWritten}
use Rattle.avl_words.specs.Tree.{Tree}

-- filling a loose line leaves the pairs, and the other loose lines, as they were
pub fill_arranged : (x y : List ℕ) (head : RevisionHead) (store : Store) (tree : Tree ℕ) (places : List PairLayout) (given loose content : List ℕ) (line : ℕ) → IsLaidOut x head store tree places given (line ∷ loose) → LineFilled line content x y →
    IsLaidOut y head store tree places given (line ∷ loose) × All (SameLine x y) loose
fill_arranged x y head store tree places given loose content line a f =
    let used = flat_map lines_at places in
    let alone = stands_alone line (word_of x 0 3) used given loose (a.once line) in
    let some = All-head (λ l. 1 ≤ l) line loose (from_one x head store tree places given (line ∷ loose) a).2 in
    let zero_apart : 0 ≢ line = omega arith in
    let header : (i : ℕ) → i < 8 → word_of y 0 i ≡ word_of x 0 i = f.others 0 zero_apart in
    let same : (lines : List ℕ) → All (λ l. l ≢ line) lines → All (SameLine x y) lines = λ lines apart k d l. f.others (get_or lines k d) (apart k d l) in (
      record {
        sized = subst IsPartLength (sym f.long) a.sized;
        version_word = header 0 (omega arith) ∙ a.version_word;
        nodes = subst (λ r. Nodes y r tree places store) (sym (header 1 (omega arith))) (nodes_same x y (word_of x 0 1) tree places store f.long (same used alone.not_used) a.nodes);
        given_back = subst (λ r. IsChain y r given) (sym (header 2 (omega arith))) (chain_same x y given (word_of x 0 2) (same given alone.not_given) a.given_back);
        end_from = subst (λ e. 1 ≤ e) (sym (header 3 (omega arith))) a.end_from;
        end_to = subst (λ n. word_of y 0 3 ≤ n / 8) (sym f.long) (subst (λ e. e ≤ length x / 8) (sym (header 3 (omega arith))) a.end_to);
        once = λ k. a.once k ∙ ap (λ e. cond (leb 1 k && ltb k e) 1 0) (sym (header 3 (omega arith)));
        given_count = header 4 (omega arith) ∙ a.given_count;
        pair_count = header 5 (omega arith) ∙ a.pair_count;
        last_word = header 6 (omega arith) ∙ a.last_word;
        no_seventh = header 7 (omega arith) ∙ a.no_seventh;
      },
      same loose alone.not_loose,
    )

-- the last `j` of the `count` blocks of some words are written, in a chain from `next` on
abbrev pub WrittenSoFar : List ℕ → ℕ → ℕ → ℕ → List ℕ → List ℕ → Type 0
WrittenSoFar words count j next before now =
    (head : RevisionHead) (store : Store) (tree : Tree ℕ) (places : List PairLayout) (given loose : List ℕ) → IsLaidOut before head store tree places given loose → HasRoom before places loose count →
    IsChainWritten before now head store tree places next j (7 * (count - j)) words loose

-- at the beginning no block of the words is written
pub written_none : (words : List ℕ) (count : ℕ) (x y : List ℕ) → x ≡ y → WrittenSoFar words count 0 0 x y
written_none words count x y e head store tree places given loose a room =
    subst (λ w. IsChainWritten x w head store tree places 0 0 (7 * (count - 0)) words loose) e (record {
      lines = [];
      taken = record { given = given; arranged = a; same = λ k d l i b. refl; long = refl };
      chain = refl;
      counted = refl;
      content = λ i l. absurd (omega arith);
    })

-- where fewer than `count` blocks are written, a line can be taken for the next one
pub can_take_next : (words : List ℕ) (count j next : ℕ) (x y : List ℕ) → j < count → CanTake x count → WrittenSoFar words count j next x y → CanTake y 1
can_take_next words count j next x y l c r =
    let p = r c.head c.store c.tree c.places c.given c.loose c.arranged c.room in
    record {
      head = c.head;
      store = c.store;
      tree = c.tree;
      places = c.places;
      given = p.taken.given;
      loose = p.lines ++ c.loose;
      arranged = p.taken.arranged;
      room = (let room = c.room in let long = ap (λ n. n / 8) p.taken.long in omega (arith, room, long, p.counted, length-append p.lines c.loose));
    }

-- the line taken for the next block of a chain is there
pub taken_within : (words : List ℕ) (count j next line : ℕ) (x y z : List ℕ) → j < count → CanTake x count → WrittenSoFar words count j next x y → LineTaken line y z → IsWithin z line
taken_within words count j next line x y z l c r t =
    let n = can_take_next words count j next x y l c r in
    let q = t n.head n.store n.tree n.places n.given n.loose n.arranged n.room in
    All-head (IsWithin z) line n.loose (loose_within z n.head n.store n.tree n.places q.given (line ∷ n.loose) q.arranged)

-- the content of a chain with one block more in front
place_in_front : (line : ℕ) (lines : List ℕ) (i : ℕ) → 7 ≤ i → get_or (line ∷ lines) (i / 7) 0 ≡ get_or lines ((i - 7) / 7) 0
place_in_front line lines i l =
    let place : i / 7 ≡ suc ((i - 7) / 7) = omega arith in
    ap (λ n. get_or (line ∷ lines) n 0) place

-- where `j` blocks of a chain are written, the last ones first, and one more is filled into a line taken, `j + 1` are, from that line on
pub written_more : (words : List ℕ) (count j next line : ℕ) (content x y z w : List ℕ) → j < count → WrittenSoFar words count j next x y → LineTaken line y z → IsBlock next words (7 * (count - 1 - j)) content → LineFilled line content z w →
    WrittenSoFar words count (j + 1) line x w
written_more words count j next line content x y z w l r t b f head store tree places given loose a room =
    let p = r head store tree places given loose a room in
    let long_y = ap (λ n. n / 8) p.taken.long in
    let room_y : HasRoom y places (p.lines ++ loose) 1 = omega (arith, room, long_y, p.counted, length-append p.lines loose) in
    let q = t head store tree places p.taken.given (p.lines ++ loose) p.taken.arranged room_y in
    let v = fill_arranged z w head store tree places q.given (p.lines ++ loose) content line q.arranged f in
    let all_same = all_same_then y z w (p.lines ++ loose) q.same v.1 in
    let lines_same = all_left (SameLine y w) p.lines loose all_same in
    let first : word_of w line 0 ≡ next = f.here 0 (omega arith) ∙ b.first in
    record {
      lines = line ∷ p.lines;
      taken = record {
        given = q.given;
        arranged = v.0;
        same = all_same_then x y w loose p.taken.same (all_right (SameLine y w) p.lines loose all_same);
        long = f.long ∙ q.long ∙ p.taken.long;
      };
      chain = (refl, subst (λ n. IsChain w n p.lines) (sym first) (chain_same y w p.lines next lines_same p.chain));
      counted = omega (arith, p.counted);
      content = λ i below. (
          elim (cases_lt i 7) [
            | inl small ↦
                let here : i / 7 ≡ 0 = omega arith in
                let rest : i % 7 ≡ i = omega arith in
                let from : 7 * (count - 1 - j) + i ≡ 7 * (count - (j + 1)) + i = omega arith in
                ap (λ n. word_of w (get_or (line ∷ p.lines) n 0) (1 + i % 7)) here ∙ ap (λ n. word_of w line (1 + n)) rest ∙ f.here (1 + i) (omega arith) ∙ b.rest i small ∙ ap (λ n. get_or words n 0) from
            | inr large ↦
                let place = place_in_front line p.lines i large in
                let within : (i - 7) / 7 < length p.lines = omega (arith, p.counted, below) in
                let rest : i % 7 ≡ (i - 7) % 7 = omega arith in
                let from : 7 * (count - j) + (i - 7) ≡ 7 * (count - (j + 1)) + i = omega arith in
                ap (λ n. word_of w n (1 + i % 7)) place ∙ ap (λ n. word_of w (get_or p.lines ((i - 7) / 7) 0) (1 + n)) rest
                ∙ lines_same ((i - 7) / 7) 0 within (1 + (i - 7) % 7) (omega arith) ∙ p.content (i - 7) (omega (arith, below)) ∙ ap (λ n. get_or words n 0) from
          ]);
    }

-- where all `count` blocks of a chain are written, the words stand in it from the line `next` on
pub written_all : (words : List ℕ) (count j next : ℕ) (x y : List ℕ) → j ≡ count → WrittenSoFar words count j next x y → TextWritten words count next x y
written_all words count j next x y e r head store tree places given loose a room =
    let p = r head store tree places given loose a room in
    let none : 7 * (count - j) ≡ 0 = omega arith in
    subst (λ n. IsChainWritten x y head store tree places next n 0 words loose) e (subst (λ n. IsChainWritten x y head store tree places next j n words loose) none p)
