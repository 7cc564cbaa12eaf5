-- The lines of a pair that is out of the nodes are given back.
use Rattle.std.proofs.Common.{◌≡◌, ◌+◌, ◌/◌, ◌%◌, ℕ, min, List, [], ◌∷◌, ◌++◌, length, sym, ap, subst, ◌∙◌, arith}
use Rattle.std.specs.List.{flat_map, All}
use Rattle.std.specs.Int.{div_ceil}
use Rattle.std.proofs.lemmas.List.Elements.{All-head, All-tail}
use Rattle.cx_base.specs.Store.{Store}
use Rattle.avl_words.specs.Lines.{IsWithin, word_of}
use Rattle.index_validation.proofs.Lines.{all_left, all_right, lines_within}
use Rattle.index_validation.proofs.Totals.{few_given}
use Rattle.index_validation.specs.Blocks.{IsTextAt}
use Rattle.index_validation.specs.Layout.{IsChain, Holds, PairLayout, lines_at, IsLaidOut, RevisionHead}
use Rattle.word_index.proofs.Frames.{times, times_append, times_cons, holds_same}
use Rattle.word_index.proofs.Giving.{give_arranged}
use Rattle.word_index.specs.Changes.{SameLine, with_line_given, CanGive, IsLoose, ChainGiven, LooseText, TextGiven, LoosePair, HasLoosePair, PairGiven}
use Rattle.avl_words.specs.Tree.{Tree}

-- loose lines may be listed in another order
pub reordered : (ws : List ℕ) (head : RevisionHead) (store : Store) (tree : Tree ℕ) (places : List PairLayout) (given loose other : List ℕ) → ((x : ℕ) → times x other ≡ times x loose) →
    IsLaidOut ws head store tree places given loose → IsLaidOut ws head store tree places given other
reordered ws head store tree places given loose other same a = record {
  sized = a.sized;
  version_word = a.version_word;
  nodes = a.nodes;
  given_back = a.given_back;
  end_from = a.end_from;
  end_to = a.end_to;
  once = λ x. (let used = flat_map lines_at places ++ given in times_append x used other ∙ ap (λ n. times x used + n) (same x) ∙ sym (times_append x used loose) ∙ a.once x);
  given_count = a.given_count;
  pair_count = a.pair_count;
  last_word = a.last_word;
  no_seventh = a.no_seventh;
}

pub loose_within : (ws : List ℕ) (head : RevisionHead) (store : Store) (tree : Tree ℕ) (places : List PairLayout) (given loose : List ℕ) → IsLaidOut ws head store tree places given loose → All (IsWithin ws) loose
loose_within ws head store tree places given loose a = all_right (IsWithin ws) (flat_map lines_at places ++ given) loose (lines_within ws head store tree places given loose a)

-- the blocks of a text by its length, as the code counts them, are those that its bytes need
block_count : (len count bytes lines : ℕ) → count ≡ len / 56 + min 1 (len % 56) → len ≡ bytes → lines ≡ (bytes + 55) / 56 → count ≡ lines
block_count len count bytes lines c e l = omega arith

-- where the chain that a node names by its words `at` and `at + 1` is given back, the text of the node is
pub text_given : (node at first len count : ℕ) (x y z : List ℕ) → y ≡ x → word_of y node at ≡ first → word_of y node (at + 1) ≡ len → count ≡ div_ceil len 56 → ChainGiven first count y z → TextGiven node at x z
text_given node at first len count x y z e first_is len_is counted given head store tree places lines others bytes loose text =
    let chain = subst (λ w. ChainGiven first count w z) e given in
    let first_here : word_of x node at ≡ first = subst (λ w. word_of w node at ≡ first) e first_is in
    let len_here : word_of x node (at + 1) ≡ len = subst (λ w. word_of w node (at + 1) ≡ len) e len_is in
    chain head store tree places lines others loose (subst (λ f. IsChain x f lines) first_here text.holds.chain)
    (block_count len count (length bytes) (length lines) counted (sym len_here ∙ text.long) text.holds.enough)

-- the lines of a pair, with the blocks of its document listed first
document_first : (x : ℕ) (place : PairLayout) → times x (place.document_lines ++ (place.node ∷ place.key_lines)) ≡ times x (lines_at place ++ [])
document_first x place =
    omega (
      arith,
      times_append x place.document_lines (place.node ∷ place.key_lines),
      times_cons x place.node place.key_lines,
      times_append x (lines_at place) [],
      times_cons x place.node (place.key_lines ++ place.document_lines),
      times_append x place.key_lines place.document_lines,
    )

pub loose_document : (ws : List ℕ) (node : ℕ) (head : RevisionHead) (store : Store) (tree : Tree ℕ) (places : List PairLayout) (place : PairLayout) (pair : List ℕ × List ℕ) → LoosePair ws node head store tree places place pair →
    IsLoose ws head store tree places place.document_lines (place.node ∷ place.key_lines) × IsTextAt ws node 5 place.document_lines pair.1
loose_document ws node head store tree places place pair p =
    let a = reordered ws head store tree places p.loose.given (lines_at place ++ []) (place.document_lines ++ (place.node ∷ place.key_lines)) (λ x. document_first x place) p.loose.arranged in
    let within = loose_within ws head store tree places p.loose.given (place.document_lines ++ (place.node ∷ place.key_lines)) a in
    let others = all_right (IsWithin ws) place.document_lines (place.node ∷ place.key_lines) within in (
      record { given = p.loose.given; arranged = a },
      subst (λ n. IsTextAt ws n 5 place.document_lines pair.1) (sym p.here) (record {
        holds = p.is.document;
        long = p.is.document_length;
        node_within = All-head (IsWithin ws) place.node place.key_lines others;
        within = all_left (IsWithin ws) place.document_lines (place.node ∷ place.key_lines) within;
      }),
    )

key_first : (x : ℕ) (place : PairLayout) → times x (place.key_lines ++ (place.node ∷ [])) ≡ times x ((place.node ∷ place.key_lines) ++ [])
key_first x place =
    omega (arith, times_append x place.key_lines (place.node ∷ []), times_cons x place.node [], times_append x (place.node ∷ place.key_lines) [], times_cons x place.node place.key_lines)

-- once the document of a loose pair is given back, the blocks of its key are loose, beside its node
pub loose_key : (x y : List ℕ) (node : ℕ) (head : RevisionHead) (store : Store) (tree : Tree ℕ) (places : List PairLayout) (place : PairLayout) (pair : List ℕ × List ℕ) → LoosePair x node head store tree places place pair → TextGiven node 5 x y →
    IsLoose y head store tree places place.key_lines (place.node ∷ []) × IsTextAt y node 3 place.key_lines pair.0
loose_key x y node head store tree places place pair p t =
    let d = loose_document x node head store tree places place pair p in
    let g = t head store tree places place.document_lines (place.node ∷ place.key_lines) pair.1 d.0 d.1 in
    let a = reordered y head store tree places g.loose.given ((place.node ∷ place.key_lines) ++ []) (place.key_lines ++ (place.node ∷ [])) (λ n. key_first n place) g.loose.arranged in
    let within = loose_within y head store tree places g.loose.given (place.key_lines ++ (place.node ∷ [])) a in
    let node_same = All-head (SameLine x y) place.node place.key_lines g.same in
    let key_same = All-tail (SameLine x y) place.node place.key_lines g.same in (
      record { given = g.loose.given; arranged = a },
      subst (λ n. IsTextAt y n 3 place.key_lines pair.0) (sym p.here) (record {
        holds = subst (λ f. Holds y f place.key_lines pair.0) (sym (node_same 3 (omega arith))) (holds_same x y (word_of x place.node 3) place.key_lines pair.0 key_same p.is.key);
        long = node_same 4 (omega arith) ∙ p.is.key_length;
        node_within = All-head (IsWithin y) place.node [] (all_right (IsWithin y) place.key_lines (place.node ∷ []) within);
        within = all_left (IsWithin y) place.key_lines (place.node ∷ []) within;
      }),
    )

-- once the document and the key of a loose pair are given back, its node is the only line that is loose
pub loose_node : (x y z : List ℕ) (node : ℕ) (head : RevisionHead) (store : Store) (tree : Tree ℕ) (places : List PairLayout) (place : PairLayout) (pair : List ℕ × List ℕ) → LoosePair x node head store tree places place pair →
    TextGiven node 5 x y → TextGiven node 3 y z → IsLoose z head store tree places (place.node ∷ []) []
loose_node x y z node head store tree places place pair p t u =
    let k = loose_key x y node head store tree places place pair p t in
    (u head store tree places place.key_lines (place.node ∷ []) pair.0 k.0 k.1).loose

-- once the document and the key of a loose pair are given back, its node can be given back
pub node_can_be_given : (x y z : List ℕ) (node : ℕ) → HasLoosePair x node → TextGiven node 5 x y → TextGiven node 3 y z → CanGive z node
node_can_be_given x y z node h t u =
    let l = loose_node x y z node h.head h.store h.tree h.places h.place h.pair h.there t u in
    record {
      there = subst (IsWithin z) (sym h.there.here) (All-head (IsWithin z) h.place.node [] (loose_within z h.head h.store h.tree h.places l.given (h.place.node ∷ []) l.arranged));
      few = few_given z h.head h.store h.tree h.places l.given (h.place.node ∷ []) l.arranged;
    }

-- a loose pair is given back by giving back its document, its key and then its node
pub pair_given : (x y z w : List ℕ) (node : ℕ) → TextGiven node 5 x y → TextGiven node 3 y z → w ≡ with_line_given node z → PairGiven node x w
pair_given x y z w node t u is head store tree places place pair p =
    let l = loose_node x y z node head store tree places place pair p t u in
    let g = give_arranged z head store tree places l.given [] place.node l.arranged in
    let now : w ≡ with_line_given place.node z = is ∙ ap (λ n. with_line_given n z) p.here in
    subst (λ v. IsLoose v head store tree places [] []) (sym now) (record { given = place.node ∷ l.given; arranged = g.0 })

pub has_document_text : (ws : List ℕ) (node : ℕ) → HasLoosePair ws node → LooseText ws node 5
has_document_text ws node h =
    let d = loose_document ws node h.head h.store h.tree h.places h.place h.pair h.there in
    record { head = h.head; store = h.store; tree = h.tree; places = h.places; lines = h.place.document_lines; others = h.place.node ∷ h.place.key_lines; bytes = h.pair.1; loose = d.0; text = d.1 }

-- once the document of a loose pair is given back, the blocks that its node names by the words 3 and 4 are all loose
pub has_key_text : (x y : List ℕ) (node : ℕ) → HasLoosePair x node → TextGiven node 5 x y → LooseText y node 3
has_key_text x y node h t =
    let k = loose_key x y node h.head h.store h.tree h.places h.place h.pair h.there t in
    record { head = h.head; store = h.store; tree = h.tree; places = h.places; lines = h.place.key_lines; others = h.place.node ∷ []; bytes = h.pair.0; loose = k.0; text = k.1 }
