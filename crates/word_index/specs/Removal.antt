-- The node at the end of a walk to its key is taken out.
use Rattle.std.specs.Prelude.{◌≡◌, ◌≢◌, ℕ, false, List}
use Rattle.index_validation.specs.Layout.{IsIndex}
use Rattle.word_index.specs.Exact.{with_node_cut, with_pair_given}
use Rattle.word_index.specs.Walk.{AtSpot}

-- the walk to some key ended at this node of words that stand for a store
pub record CanCut (words nodes sides : List ℕ) (depth node : ℕ) : Type 0 where
  pub key : List ℕ
  pub above : ℕ
  pub spot : AtSpot false key nodes sides depth node above words
  pub index : IsIndex words
  pub some : node ≢ 0

-- for each key the walk to which ended at this node, the words now are those without the key's node in the tree
abbrev pub Cuts : List ℕ → List ℕ → ℕ → ℕ → List ℕ → List ℕ → Type 0
Cuts nodes sides depth node before now =
    (key : List ℕ) (above : ℕ) → AtSpot false key nodes sides depth node above before → IsIndex before → node ≢ 0 → now ≡ with_node_cut key before

-- the node at the end of the walk to its key is taken out of the tree, and the lines of its pair are given back
abbrev pub TakesOut : List ℕ → List ℕ → ℕ → ℕ → List ℕ → List ℕ → Type 0
TakesOut nodes sides depth node before now = (cut : List ℕ) × Cuts nodes sides depth node before cut × (now ≡ with_pair_given node cut)
