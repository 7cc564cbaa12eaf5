use Rattle.std.proofs.Common.{◌≡◌, length, ℕ, List}
use Rattle.cx_base.specs.Memory.{Becomes, Framed, Reads}
use Rattle.avl_words.specs.Tree.{Tree}
use Rattle.avl_words.specs.Ways.{Turn}
use Rattle.avl_words.specs.Changes.{IsBelow, IsDescending}
use Rattle.avl_words.specs.Lines.{IsPartLength}
use Rattle.avl_words.proofs.changes.descend.Given as goal

abbrev pub Descending : List ℕ → List ℕ → ℕ → ℕ → List ℕ → List ℕ → ℕ → ℕ → List ℕ → Type 0
Descending nodes sides depth node nodes_now sides_now depth_now node_now words =
    (way : List (Turn ℕ)) (c : Tree ℕ) (z : ℕ) (d : Tree ℕ) → IsBelow words nodes sides depth node way c z d → IsDescending words nodes_now sides_now depth_now node_now way c z d

abbrev pub invariant-loop-depth : goal.invariant-loop-depth
invariant-loop-depth g l = record {
  done : Reads (g.M.Memory.stands l.fn.mem) (g.M.Memory.stands l.mem) (Descending l.initial.way.nodes l.initial.way.sides l.initial.way.depth l.fn.node l.way.nodes l.way.sides l.depth l.least);
  nodes_long : length l.way.nodes ≡ 64;
  sides_long : length l.way.sides ≡ 64;
  kept : Becomes (g.M.Memory.stands l.fn.mem) (g.M.Memory.stands l.mem) ◌≡◌;
  sized : IsPartLength (g.M.Memory.size l.mem);
  framed : Framed g.M.Memory.size g.M.Memory.fixed g.M.Memory.writable g.M.Memory.left l.fn.mem l.mem;
}
