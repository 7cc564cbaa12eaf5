-- Which cells are named with live tickets, after a local state was put.
use Rattle.std.proofs.Common.{◌≡◌, ◌<◌, ◌≤◌, inl, inr, ℕ, List, set, ap, sym, ◌∙◌, arith, Option, Some, None}
use Rattle.std.proofs.lemmas.Bool.{cases_eq}
use Rattle.std.proofs.lemmas.Option.{same_Some, slice_get_within, none-some}
use Rattle.std.specs.List.{slice_get}
use Rattle.cx_core.specs.declared.local.Cell.{Cell}
use Rattle.cx_core.specs.declared.local.Local.{Local}
use Rattle.cx_core.specs.QueueEvents.{IsIdleAt}
use Rattle.cx_core.specs.Lawful.{IsOffered, NamesCell}
use Rattle.cx_core.proofs.ListLemmas.{slice_get-set_same, slice_get-set_other}

-- each cell that a live ticket is named for is named for it still, and has the same words
abbrev pub KeepsNames : ℕ → List Local → List Local → Type 0
KeepsNames free locals locals' = (caller j ticket : ℕ) (cell : Cell) → NamesCell locals caller j ticket cell → free ≤ ticket → NamesCell locals' caller j ticket cell

-- the caller that names a cell
named_by : (locals : List Local) (caller : ℕ) (l : Local) (d j ticket : ℕ) (cell : Cell) → slice_get locals caller ≡ Some l → d ≡ caller → (names : NamesCell locals d j ticket cell) → names.local ≡ l
named_by locals caller l d j ticket cell at e names = same_Some names.local l (sym names.of_caller ∙ ap (slice_get locals) e ∙ at)

-- the local state `l'` that was put for a caller stands at `d`, where `d` is that caller
put_there : (locals : List Local) (caller : ℕ) (l l' : Local) (d : ℕ) → slice_get locals caller ≡ Some l → d ≡ caller → slice_get (set locals caller l') d ≡ Some l'
put_there locals caller l l' d at e =
    ap (slice_get (set locals caller l')) e ∙ slice_get-set_same locals caller l' (slice_get_within locals caller l at)

-- where a caller's new local state has the cells that it had, each cell that a live ticket is named for is named for it still, with the same words
pub names_same : (free : ℕ) (locals : List Local) (caller : ℕ) (l l' : Local) → slice_get locals caller ≡ Some l → l'.cells ≡ l.cells →
    KeepsNames free locals (set locals caller l')
names_same free locals caller l l' at same d j ticket cell names live =
    elim (cases_eq d caller) [
      | inl e ↦ record {
        local = l';
        of_caller = put_there locals caller l l' d at e;
        at = ap (λ cs. slice_get cs j) (same ∙ ap (λ (x : Local). x.cells) (sym (named_by locals caller l d j ticket cell at e names))) ∙ names.at;
        named = names.named;
      }
      | inr ne ↦ record {
        local = names.local;
        of_caller = slice_get-set_other locals caller d l' ne ∙ names.of_caller;
        at = names.at;
        named = names.named;
      }
    ]

-- an idle cell is named with no live ticket
pub idle_is_dead : (seen free ticket : ℕ) (o : Option ℕ) → seen ≤ free → free ≤ ticket → IsIdleAt seen o → o ≡ Some ticket → ⊥
idle_is_dead seen free ticket None le live idle named = none-some ticket named
idle_is_dead seen free ticket (Some t) le live idle named =
    let same : t ≡ ticket = same_Some t ticket named in
    let below : t < seen = idle in
    omega arith

-- where a caller puts an idle cell
pub names_put : (seen free : ℕ) (locals : List Local) (caller : ℕ) (l l' : Local) (k : ℕ) (old new : Cell) → slice_get locals caller ≡ Some l →
    slice_get l.cells k ≡ Some old → IsIdleAt seen old.ticket → seen ≤ free → l'.cells ≡ set l.cells k new →
    KeepsNames free locals (set locals caller l')
names_put seen free locals caller l l' k old new at there idle le put d j ticket cell names live =
    elim (cases_eq d caller) [
      | inl e ↦ (
          let by = named_by locals caller l d j ticket cell at e names in
          let cell_at : slice_get l.cells j ≡ Some cell = ap (λ (x : Local). slice_get x.cells j) (sym by) ∙ names.at in
          elim (cases_eq j k) [
            | inl same ↦ (
                let is : old ≡ cell = same_Some old cell (sym there ∙ ap (slice_get l.cells) (sym same) ∙ cell_at) in
                absurd (idle_is_dead seen free ticket old.ticket le live idle (ap (λ (x : Cell). x.ticket) is ∙ names.named)))
            | inr ne ↦ record {
              local = l';
              of_caller = put_there locals caller l l' d at e;
              at = ap (λ cs. slice_get cs j) put ∙ slice_get-set_other l.cells k j new ne ∙ cell_at;
              named = names.named;
            }
          ])
      | inr ne ↦ record {
        local = names.local;
        of_caller = slice_get-set_other locals caller d l' ne ∙ names.of_caller;
        at = names.at;
        named = names.named;
      }
    ]

pub offered_still : (free : ℕ) (locals locals' : List Local) (k ticket : ℕ) → KeepsNames free locals locals' → free ≤ ticket → IsOffered locals k ticket → IsOffered locals' k ticket
offered_still free locals locals' k ticket keeps live o = record {
  caller = o.caller;
  j = o.j;
  cell = o.cell;
  is = o.is;
  names = keeps o.caller o.j ticket o.cell o.names live;
  offer = o.offer;
}
