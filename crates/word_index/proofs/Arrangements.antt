-- Words that stand for a store.
use Rattle.std.proofs.Common.{◌≡◌, ◌<◌, ◌+◌, ◌++◌, ℕ, drop, set, refl, subst, cond, ltb, leb, ◌&&◌, List, [], ◌∷◌, length, get_or, take, replicate, sym, ap, inr, ◌∙◌, arith}
use Rattle.std.proofs.lemmas.Bool.Decides.{nat_tests}
use Rattle.std.proofs.lemmas.List.{get_or-take, take-append-drop, take_more, take_more_set, drop-set-lt}
use Rattle.std.proofs.lemmas.List.Elements.{All-nil}
use Rattle.word_index.specs.Exact.{with_empty_header}
use Rattle.avl_words.specs.Tree.{Empty}
use Rattle.avl_words.specs.Lines.{IsPartLength}
use Rattle.index_validation.specs.Layout.{IsIndex, StandsFor}
use Rattle.index_validation.specs.Reading.{store_in}
use Rattle.index_validation.proofs.LawfulWords.{store_is}

-- the header of no pairs
header_word : (ws front : List ℕ) (i : ℕ) → take 8 ws ≡ front → i < 8 → get_or ws i 0 ≡ get_or front i 0
header_word ws front i e l = sym (get_or-take 8 ws i 0 l) ∙ ap (λ s. get_or s i 0) e

none_below : (line end : ℕ) → end ≡ 1 → ◌≡◌ {A = ℕ} 0 (cond (leb 1 line && ltb line end) 1 0)
none_below line end e = grind (arith, nat_tests)

pub stands_empty : (ws : List ℕ) (version : ℕ) → version ≡ 2 → IsPartLength (length ws) → take 8 ws ≡ version ∷ 0 ∷ 0 ∷ 1 ∷ replicate 4 0 → StandsFor ws version []
stands_empty ws version two sized header =
    let front : List ℕ = version ∷ 0 ∷ 0 ∷ 1 ∷ replicate 4 0 in
    let end : get_or ws 3 0 ≡ 1 = header_word ws front 3 header (omega arith) in
    record {
      tree = Empty;
      places = [];
      given = [];
      last = 0;
      arranged = record {
        sized = sized;
        version_word = header_word ws front 0 header (omega arith);
        nodes = record { root_is = header_word ws front 1 header (omega arith); shape = tt; balanced = tt; in_order = refl; pairs = tt };
        given_back = header_word ws front 2 header (omega arith);
        end_from = omega arith;
        end_to = (let some = sized.some in omega arith);
        once = λ line. none_below line (get_or ws 3 0) end;
        given_count = header_word ws front 4 header (omega arith);
        pair_count = header_word ws front 5 header (omega arith);
        last_word = header_word ws front 6 header (omega arith);
        no_seventh = header_word ws front 7 header (omega arith);
      };
      lawful = record { rising = tt; keys = All-nil _; documents = All-nil _ };
      known = inr two;
      revisions = All-nil _;
    }

-- the first words of the header, as many as given, are stored, and those behind the header are as they were
pub record EmptySoFar (version at : ℕ) (before now : List ℕ) : Type 0 where
  pub front : take at now ≡ take at (version ∷ 0 ∷ 0 ∷ 1 ∷ replicate 4 0)
  pub behind : drop 8 now ≡ drop 8 before

-- at the beginning no word of the empty header is stored
pub empty_begins : (version : ℕ) (x y : List ℕ) → x ≡ y → EmptySoFar version 0 x y
empty_begins version x y e = record { front = refl; behind = ap (drop 8) (sym e) }

-- storing the word `v` of the empty header at `at` has one word more of it stored
pub empty_more : (version at v : ℕ) (x y : List ℕ) → at < 8 → IsPartLength (length y) → v ≡ get_or (version ∷ 0 ∷ 0 ∷ 1 ∷ replicate 4 0) at 0 → EmptySoFar version at x y → EmptySoFar version (at + 1) x (set y at v)
empty_more version at v x y below sized is so =
    let front : List ℕ = version ∷ 0 ∷ 0 ∷ 1 ∷ replicate 4 0 in
    record {
      front = take_more_set y at v (let some = sized.some in omega arith) ∙ ap (λ s. s ++ v ∷ []) so.front ∙ ap (λ w. take at front ++ w ∷ []) is ∙ sym (take_more front at 0 below);
      behind = drop-set-lt 8 y at v below ∙ so.behind;
    }

-- once 8 words of the empty header are stored, the first 8 words are those of the empty header
whole_header : (version at : ℕ) (x y : List ℕ) → at ≡ 8 → EmptySoFar version at x y → take 8 y ≡ version ∷ 0 ∷ 0 ∷ 1 ∷ replicate 4 0
whole_header version at x y e so = subst (λ n. take n y ≡ take n (version ∷ 0 ∷ 0 ∷ 1 ∷ replicate 4 0)) e so.front

-- once all 8 words of the empty header are stored, with version 2, the words stand for the store without pairs
pub empty_stands : (version at : ℕ) (x y : List ℕ) → version ≡ 2 → at ≡ 8 → IsPartLength (length y) → EmptySoFar version at x y → StandsFor y version []
empty_stands version at x y two e sized so = stands_empty y version two sized (whole_header version at x y e so)

pub empty_done : (version at : ℕ) (x y : List ℕ) → at ≡ 8 → EmptySoFar version at x y → y ≡ with_empty_header version x
unfolding with_empty_header
empty_done version at x y e so = sym (take-append-drop 8 y) ∙ ap (λ s. s ++ drop 8 y) (whole_header version at x y e so) ∙ ap (λ s. (version ∷ 0 ∷ 0 ∷ 1 ∷ replicate 4 0) ++ s) so.behind

-- an index stands for the store that is read off its words
pub stands_read : (ws : List ℕ) (i : IsIndex ws) → StandsFor ws 2 (store_in ws)
stands_read ws i = subst (StandsFor ws 2) (sym (store_is ws 2 i.store i.stands)) i.stands
