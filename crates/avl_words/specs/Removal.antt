-- An item is taken out of a tree.
use Rattle.std.specs.Prelude.{List, [], ◌∷◌, ◌++◌}
use Rattle.std.specs.declared.cmp.Ordering.{Ordering}
use Rattle.avl_words.specs.Tree.{Tree, Empty, Node}
use Rattle.avl_words.specs.Ways.{Turn, mended, spot}

-- the way to the least node of a tree, that node, and its right child
pub record Least (A : Type 0) : Type 0 where
  pub way : List (Turn A)
  pub item : A
  pub rest : Tree A

module _ {A : Type 0} where
  -- the least node of the tree with these children and this root, with the way to it and its right child
  abbrev pub least : List (Turn A) → Tree A → A → Tree A → Least A
  least way Empty x r = record { way = way; item = x; rest = r }
  least way (Node a y b) x r = least (record { side = 0; item = x; sibling = r } ∷ way) a y b

  -- The way to the place at which a tree is to hang once a node is taken out: the node's own place where it has one child or none, and else the place of the
  -- least node behind it, which takes the node's place on the way.
  abbrev pub gone_way : List (Turn A) → Tree A → Tree A → List (Turn A)
  gone_way way Empty r = way
  gone_way way (Node a y b) Empty = way
  gone_way way (Node a y b) (Node c z d) =
      (least [] c z d).way ++ record { side = 1; item = (least [] c z d).item; sibling = Node a y b } ∷ way

  -- The tree that is to hang there (`gone_way`) once a node is taken out: the node's one child or none, or the right child of the least node behind it.
  abbrev pub gone_rest : Tree A → Tree A → Tree A
  gone_rest Empty r = r
  gone_rest (Node a y b) Empty = Node a y b
  gone_rest (Node a y b) (Node c z d) = (least [] c z d).rest

  -- the whole tree without the node that stands at the end of a way
  abbrev pub with_out : List (Turn A) → Tree A → Tree A
  with_out way Empty = mended way Empty
  with_out way (Node l x r) = mended (gone_way way l r) (gone_rest l r)

  -- the item where a walk ends is taken out
  abbrev pub without : (A → Ordering) → Tree A → Tree A
  without order t = with_out (spot order [] t).0 (spot order [] t).1
