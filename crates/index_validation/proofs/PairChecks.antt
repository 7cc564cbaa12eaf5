-- A node that names a pair, or does not.
use Rattle.std.proofs.Common.{◌≡◌, ◌≤◌, ℕ, Bool, List, [], ◌∷◌, ◌++◌, length, refl, sym, ap, subst, ◌∙◌, arith}
use Rattle.std.specs.declared.cmp.Ordering.TheVariants.{Less}
use Rattle.cx_base.specs.Store.{IsKey, key_cmp}
use Rattle.avl_words.specs.Lines.{word_of}
use Rattle.index_validation.specs.Layout.{Holds, PairLayout, lines_at, IsAt, IsRevision}
use Rattle.index_validation.specs.Lawful.{head_in, Marks, CanMark, HasKey, HasDocument, NoDocument, HasPair, NoPair}
use Rattle.index_validation.proofs.Marking.{marks_then, can_mark_rest}
use Rattle.index_validation.proofs.Texts.{key_small}
use Rattle.index_validation.proofs.OneStore.{SameText, text_one}

-- where all lines of a pair can be marked, those of its key and its document can be once its node is marked
behind_node : (node : ℕ) (old now : List Bool) (place : PairLayout) → Marks old (node ∷ []) now → node ≡ place.node → CanMark old (lines_at place) → CanMark now (place.key_lines ++ place.document_lines)
behind_node node old now place m here can =
    can_mark_rest old now (node ∷ []) (place.key_lines ++ place.document_lines) m (subst (λ n. CanMark old (n ∷ (place.key_lines ++ place.document_lines))) (sym here) can)

-- the key that was read at a node is that of each pair that stands there, and stands in the same lines
key_same : (ws : List ℕ) (node : ℕ) (old now : List Bool) (key : List ℕ) (h : HasKey ws node old now key) (place : PairLayout) (pair : List ℕ × List ℕ) → node ≡ place.node → IsAt ws place pair → IsKey pair.0 → SameText h.lines place.key_lines key pair.0
key_same ws node old now key h place pair here is is_key =
    text_one ws (word_of ws node 3) h.lines place.key_lines key pair.0 h.holds (subst (λ n. Holds ws (word_of ws n 3) place.key_lines pair.0) (sym here) is.key)
    (sym h.long ∙ ap (λ n. word_of ws n 4) here ∙ is.key_length) (key_small key h.is_key) (key_small pair.0 is_key)

-- where a node's key was marked and no document can be marked behind it, the node is no pair's
pub no_pair_document : (ws : List ℕ) (node : ℕ) (last : List ℕ) (old now after : List Bool) (key : List ℕ) → Marks old (node ∷ []) now → HasKey ws node now after key → NoDocument ws node after → NoPair ws node last old
no_pair_document ws node last old now after key m h none place pair here is revision is_key is_document rises can =
    let same = (key_same ws node now after key h place pair here is is_key).in_lines in
    let left = subst (λ ls. CanMark now (ls ++ place.document_lines)) (sym same) (behind_node node old now place m here can) in
    none place.document_lines pair.1 (subst (λ n. Holds ws (word_of ws n 5) place.document_lines pair.1) (sym here) is.document) (ap (λ n. word_of ws n 6) here ∙ is.document_length) is_document
    (can_mark_rest now after h.lines place.document_lines h.marks left)

-- where word 7 of a node is no revision that may be, the node is no pair's
pub no_pair_revision : (ws : List ℕ) (node : ℕ) (last : List ℕ) (old : List Bool) → (IsRevision (head_in ws) (word_of ws node 7) → ⊥) → NoPair ws node last old
no_pair_revision ws node last old none place pair here is revision is_key is_document rises can =
    none (subst (IsRevision (head_in ws)) (sym (ap (λ n. word_of ws n 7) here ∙ is.revised)) revision)

-- where a node's key is not above the last one, the node is no pair's
pub no_pair_order : (ws : List ℕ) (node : ℕ) (last : List ℕ) (old now after : List Bool) (key : List ℕ) → HasKey ws node now after key → (key_cmp last key ≡ Less → ⊥) → NoPair ws node last old
no_pair_order ws node last old now after key h none place pair here is revision is_key is_document rises can =
    none (subst (λ k. key_cmp last k ≡ Less) (sym (key_same ws node now after key h place pair here is is_key).of_bytes) rises)

-- a marked node with a revision that may be, a marked key `k` above the last one, and a marked document `d` is the node of a pair
pub pair_there : (ws : List ℕ) (node : ℕ) (last : List ℕ) (old now after end : List Bool) (key : List ℕ) → Marks old (node ∷ []) now → IsRevision (head_in ws) (word_of ws node 7) → HasKey ws node now after key → HasDocument ws node after end → key_cmp last key ≡ Less →
    HasPair ws node last old end key
pair_there ws node last old now after end key m revision k d rises = record {
  place = record { node = node; key_lines = k.lines; document_lines = d.lines; revision = word_of ws node 7 };
  document = d.document;
  here = refl;
  is = record {
    key = k.holds;
    key_length = k.long;
    document = d.holds;
    document_length = d.long;
    revised = refl;
  };
  is_revision = revision;
  is_key = k.is_key;
  is_document = d.is_document;
  rises = rises;
  marks = marks_then old now end (node ∷ []) (k.lines ++ d.lines) m (marks_then now after end k.lines d.lines k.marks d.marks);
}

-- word 4 of a pair's node, which is the length of its key, is at most 64
pub key_short : (ws : List ℕ) (node : ℕ) (last : List ℕ) (old now : List Bool) (key : List ℕ) → HasPair ws node last old now key → word_of ws node 4 ≤ 64
key_short ws node last old now key h =
    let short = h.is_key.short in
    let long : word_of ws node 4 ≡ length key = ap (λ n. word_of ws n 4) h.here ∙ h.is.key_length in
    omega arith
