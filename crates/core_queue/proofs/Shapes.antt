-- The shape of a state is kept by each step.
use Rattle.std.proofs.Common.{◌≡◌, ◌^◌, ◌<◌, ℕ, List, length, set, inl, inr, refl, ap, subst, ◌∙◌, arith, Some}
use Rattle.std.proofs.lemmas.List.{length-set}
use Rattle.std.proofs.lemmas.List.Elements.{All-set}
use Rattle.std.proofs.lemmas.Option.{slice_get-get_or}
use Rattle.std.specs.List.{slice_get}
use Rattle.cx_core.specs.declared.local.Cell.{Cell}
use Rattle.cx_core.specs.declared.local.Local.{Local}
use Rattle.cx_core.specs.QueueEvents.{cell_of, linked, written}
use Rattle.cx_core.specs.Lawful.{CellShape, LocalShape, Shape}
use Rattle.cx_core.specs.State.{Instance}
use Rattle.cx_core.proofs.Locals.{EachLocal-set, item_after}

-- a caller's cell is among its cells
pub cell_there : (caller : ℕ) (l : Local) (j : ℕ) → LocalShape caller l → j < 16 → slice_get l.cells j ≡ Some (cell_of l j)
cell_there caller l j shape below = let within : j < length l.cells = omega (arith, shape.cells) in slice_get-get_or l.cells j _ within

-- a cell of a caller, after one cell was put
pub shape_put : (caller : ℕ) (l l' : Local) (j : ℕ) (new : Cell) → LocalShape caller l → j < 16 → CellShape new → l'.number ≡ l.number →
    l'.cells ≡ set l.cells j new → LocalShape caller l'
shape_put caller l l' j new shape below here number cells = record {
  number = number ∙ shape.number;
  cells = ap length cells ∙ length-set l.cells j new ∙ shape.cells;
  each = λ k cell at. (
      let within : j < length l.cells = omega (arith, shape.cells) in
      elim (item_after l.cells j k new cell within (subst (λ cs. slice_get cs k ≡ Some cell) cells at)) [
        | inl e ↦ subst CellShape e.1 here
        | inr ne ↦ shape.each k cell ne.1
      ]);
}

-- the local state after a link that won
pub shape_linked : (caller : ℕ) (l : Local) (j : ℕ) → LocalShape caller l → j < 16 → LocalShape caller (linked l j)
shape_linked caller l j shape below =
    let old = shape.each j (cell_of l j) (cell_there caller l j shape below) in
    shape_put caller l (linked l j) j _ shape below (record { words = old.words; fit = old.fit; set = old.set }) refl refl

-- the local state after a word was written into a cell
pub shape_written : (caller : ℕ) (l l' : Local) (j i v : ℕ) → LocalShape caller l → j < 16 → v < 2 ^ 64 → l'.number ≡ l.number → l'.cells ≡ written l j i v →
    LocalShape caller l'
shape_written caller l l' j i v shape below fits number cells =
    let old = shape.each j (cell_of l j) (cell_there caller l j shape below) in
    shape_put caller l l' j _ shape below (record {
      words = length-set (cell_of l j).words i v ∙ old.words;
      fit = All-set (λ w. w < 2 ^ 64) (cell_of l j).words i v fits old.fit;
      set = old.set;
    }) number cells

-- a local state with the same number and cells
pub shape_same : (caller : ℕ) (l l' : Local) → LocalShape caller l → l'.number ≡ l.number → l'.cells ≡ l.cells → LocalShape caller l'
shape_same caller l l' shape number cells = record {
  number = number ∙ shape.number;
  cells = ap length cells ∙ shape.cells;
  each = λ j cell at. shape.each j cell (subst (λ cs. slice_get cs j ≡ Some cell) cells at);
}

-- the shape stays where a word is put, and a caller's local state of the caller's shape
pub shape_kept : (instance : Instance) (words : List ℕ) (locals : List Local) (at v caller : ℕ) (l l' : Local) → Shape instance words locals →
    slice_get locals caller ≡ Some l → LocalShape caller l' → Shape instance (set words at v) (set locals caller l')
shape_kept instance words locals at v caller l l' shape there here = record {
  some = shape.some;
  few = shape.few;
  long = length-set words at v ∙ shape.long;
  count = length-set locals caller l' ∙ shape.count;
  each = EachLocal-set locals caller l l' LocalShape there shape.each here;
}
