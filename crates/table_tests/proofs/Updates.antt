-- A caller without entries that announced one and tried to link it.
use Rattle.std.proofs.Common.{◌≡◌, ◌+◌, ℕ, List, [], ◌∷◌, ◌++◌, length, slice_index, slice_range, take_all, sym, ap, ◌∙◌, arith}
use Rattle.cx_core.specs.declared.local.Cell.{Cell}
use Rattle.cx_core.specs.declared.local.Linked.{Linked}
use Rattle.cx_core.specs.QueueEvents.{cell_of, entry_in, next_number}
use Rattle.cx_core.specs.Region.{slot_number}
use Rattle.cx_table.specs.Running.{IsSeatOf, Running}
use Rattle.cx_table.specs.Seats.{Seated}
use Rattle.mutation_queue.specs.declared.links.LinkTried.{LinkTried}
use Rattle.mutation_queue.specs.declared.links.LinkTried.TheVariants.{Again, Linked as LinkedAt, Worn}
use Rattle.mutation_queue.specs.Cells.{Announces}
use Rattle.mutation_queue.specs.Links.{LinksAt, LinksNone, Tried}
use Rattle.mutation_queue.specs.Tests.{HasLinked, HasTried}

module _ {O : Type 0} (r : Running O) (op : List ℕ) (s t u : Seated) (of : IsSeatOf r s) (none : s.known.local.own ≡ []) (long : length op ≡ 144)
    (done : Announces 0 (next_number r.base s.known.local ∷ op) s t) where
  -- announcing an entry leaves the caller without linked entries
  still_none : t.known.local.own ≡ []
  still_none = ap (λ (x : Seated). x.known.local.own) done.rest ∙ none

  -- tries that linked nothing leave the caller without linked entries
  none_yet : LinksNone t u → u.known.local.own ≡ []
  none_yet at = ap (λ (x : Seated). x.known.local.own) at.same ∙ still_none

  -- where the tries linked the entry in cell 0, it is the only one of the caller, with that ticket and the operation `op`
  has_linked : (ticket : ℕ) → LinksAt 0 ticket t u → HasLinked u ticket op
  has_linked ticket at =
      -- the cell has the number of the next entry, and then the operation
      let words : (cell_of t.known.local 0).words ≡ next_number r.base s.known.local ∷ op = ap (λ (x : Cell). x.words) done.cell in
      -- the caller's last number in the base of the table
      let before : u.before ≡ slot_number s.known.local.number r.base.words = ap (λ (x : Seated). x.before) at.same ∙ ap (λ (x : Seated). x.before) done.rest ∙ of.before in
      -- the number in the cell is one above that of the base
      let number : slice_index (cell_of t.known.local 0).words 0 ≡ u.before + 1 = ap (λ ws. slice_index ws 0) words ∙ (let e = ap length none in omega (arith, before)) in
      let same_op : slice_range (cell_of t.known.local 0).words 1 145 ≡ op = ap (λ ws. slice_range ws 1 145) words ∙ take_all 144 op (omega (arith, long)) in
      let caller : t.known.local.number ≡ u.known.local.number = sym (ap (λ (x : Seated). x.known.local.number) at.same) in
      -- the list of one entry that has these three and the ticket
      let linked = λ (c n : ℕ) (o : List ℕ). (let x : Linked = record { ticket = ticket; entry = record { caller = c; number = n; op = o } } in x ∷ []) in
      at.own
      ∙ ap (λ xs. xs ++ record { ticket = ticket; entry = entry_in t.known.local 0 } ∷ []) still_none
      ∙ ap (λ c. linked c (slice_index (cell_of t.known.local 0).words 0) (slice_range (cell_of t.known.local 0).words 1 145)) caller
      ∙ ap (λ n. linked u.known.local.number n (slice_range (cell_of t.known.local 0).words 1 145)) number
      ∙ ap (λ o. linked u.known.local.number (u.before + 1) o) same_op

  -- whatever the tries did, the caller has the entry where they linked it, and else no entry
  pub has_tried : (callers tries : ℕ) (tried : LinkTried) → Tried callers 0 tries t u tried → HasTried u op tried
  has_tried callers tries (LinkedAt ticket) at = has_linked ticket at
  has_tried callers tries Again at = none_yet at.none
  has_tried callers tries Worn at = none_yet at.none
