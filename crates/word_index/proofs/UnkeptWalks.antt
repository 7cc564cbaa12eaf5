-- The walk of which no way is kept, by that of some way.
use Rattle.std.proofs.Common.{◌≡◌, ◌≢◌, ◌+◌, ◌<◌, ◌≤◌, ℕ, List, Bool, set, ◌∙◌}
use Rattle.std.specs.Prelude.{replicate}
use Rattle.std.specs.declared.cmp.Ordering.{Ordering}
use Rattle.std.specs.declared.cmp.Ordering.TheVariants.{Less, Equal, Greater}
use Rattle.std.proofs.Math.ListN.{length-set}
use Rattle.std.proofs.lemmas.List.{length-replicate}
use Rattle.cx_base.specs.Store.{key_cmp}
use Rattle.avl_words.specs.Lines.{word_of}
use Rattle.index_validation.specs.Layout.{IsIndex}
use Rattle.word_index.specs.Answers.{IsNodeOf}
use Rattle.word_index.specs.Walk.{HasNode, FewVisits, OnSomeWay, AtEnd, toward}
use Rattle.word_index.proofs.KeyPlaces.{passing_begins, passing_few, passing_few_node, passing_has_node, passing_ends, passing_ends_same, passing_deep, passing_on}

module _ (ws : List ℕ) (past : Bool) (key : List ℕ) (d node above : ℕ) where
  -- a walk of which no way is kept begins at depth 0 at the root that the header names, with no node above
  pub some_begins : word_of ws 0 1 ≡ node → above ≡ 0 → d ≡ 0 → OnSomeWay past key d node above ws
  some_begins e a z = record {
    nodes = replicate 64 0;
    sides = replicate 64 0;
    nodes_long = length-replicate {A = ℕ} 64 0;
    sides_long = length-replicate {A = ℕ} 64 0;
    on = passing_begins ws past key (replicate 64 0) (replicate 64 0) d node above e a z;
  }

  pub some_few : OnSomeWay past key d node above ws → FewVisits d ws
  some_few w = passing_few ws past key w.nodes w.sides d node above w.on

  pub some_few_node : OnSomeWay past key d node above ws → node ≢ 0 → FewVisits (d + 1) ws
  some_few_node w n = passing_few_node ws past key w.nodes w.sides d node above w.on n

  -- a node that a walk passes, of which no way is kept, is the node of some pair, in words that stand for a store
  pub some_has_node : OnSomeWay past key d node above ws → node ≢ 0 → IsIndex ws → HasNode ws node
  some_has_node w n i = passing_has_node ws past key w.nodes w.sides d node above w.on n i

  pub some_ends : OnSomeWay past key d node above ws → node ≡ 0 → AtEnd past key node above ws
  some_ends w z = record { depth = d; nodes = w.nodes; sides = w.sides; at = passing_ends ws past key w.nodes w.sides d node above w.on z }

  -- a walk to a key of which no way is kept, at a node whose key compares as equal, is at its end
  pub some_ends_same : (order : Ordering) → OnSomeWay past key d node above ws → node ≢ 0 → ((pair : List ℕ × List ℕ) → IsNodeOf ws node pair → order ≡ key_cmp pair.0 key) → toward past order ≡ Equal → AtEnd past key node above ws
  some_ends_same order w n is q = record { depth = d; nodes = w.nodes; sides = w.sides; at = passing_ends_same ws past key w.nodes w.sides d node above order w.on n is q }

  pub some_deep : OnSomeWay past key d node above ws → 64 ≤ d → AtEnd past key node above ws
  some_deep w deep = record { depth = d; nodes = w.nodes; sides = w.sides; at = passing_deep ws past key w.nodes w.sides d node above w.on deep }

  pub some_on : (next side after : ℕ) (order : Ordering) → OnSomeWay past key d node above ws → d < 64 → node ≢ 0 → ((pair : List ℕ × List ℕ) → IsNodeOf ws node pair → order ≡ key_cmp pair.0 key) →
      toward past order ≢ Equal → (toward past order ≡ Less → side ≡ 1) → (toward past order ≡ Greater → side ≡ 0) → (side ≡ 0 → after ≡ node) → (side ≡ 1 → after ≡ above) → word_of ws node side ≡ next →
      OnSomeWay past key (d + 1) next after ws
  some_on next side after order w room n is ne less more left right word = record {
    nodes = set w.nodes d node;
    sides = set w.sides d side;
    nodes_long = length-set w.nodes d node ∙ w.nodes_long;
    sides_long = length-set w.sides d side ∙ w.sides_long;
    on = passing_on ws past key w.nodes w.sides d node above next side after order w.on room w.nodes_long w.sides_long n is ne less more left right word;
  }
