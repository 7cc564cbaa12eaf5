-- The cells of a caller that have a ticket have its own entry with it, after each step, and so the seat has it in plain memory.
use Rattle.std.proofs.Common.{◌≡◌, ◌+◌, ◌==◌, ◌<◌, ◌≤◌, inl, inr, ℕ, nat_lt, Bool, true, false, cond, List, [], ◌∷◌, ◌++◌, ◌*◌, ◌-◌, drop, length, get_or, set, slice_index, slice_range, take, refl, ap, sym, subst, ◌∙◌, arith, Some, None}
use Rattle.std.proofs.lemmas.Bool.{cases_eq}
use Rattle.std.proofs.lemmas.List.{ext_get_or, get_or-drop, get_or-set_other, get_or-set_same, get_or-take, length-drop, length-take-le}
use Rattle.std.proofs.lemmas.Option.{none-some, same_Some, slice_get-get_or}
use Rattle.std.specs.List.{slice_get}
use Rattle.atomic_table.specs.Table.{Me}
use Rattle.cx_base.specs.Memory.{Words}
use Rattle.cx_core.specs.declared.entry.Entry.{Entry}
use Rattle.cx_core.specs.declared.kinds.Kind.{Kind}
use Rattle.cx_core.specs.declared.kinds.Kind.TheVariants.{WriteCell, Link, TryExclusive, TryShared, BackOff, Publish, WriteSet, Offer}
use Rattle.cx_core.specs.declared.local.Cell.{Cell}
use Rattle.cx_core.specs.declared.local.Linked.{Linked}
use Rattle.cx_core.specs.declared.local.Local.{Local}
use Rattle.cx_core.specs.LockEvents.{exclusive_mark, passing, refused_by, shared_by, taken}
use Rattle.cx_core.specs.QueueEvents.{cell_of, entry_in, linked, lost, seen_word}
use Rattle.cx_core.specs.Region.{slot_number}
use Rattle.cx_core.specs.Rights.{is_at, shared_on}
use Rattle.cx_core.specs.RootEvents.{outrun, published}
use Rattle.cx_core.specs.SetEvents.{offer_of}
use Rattle.cx_core.specs.State.{Instance, one_more}
use Rattle.cx_core.proofs.ListLemmas.{slice_get-append_left}
use Rattle.cx_core.proofs.Locals.{slice_get-last}
use Rattle.table_invariant.specs.declared.rule.Known.{Known}
use Rattle.table_invariant.specs.Fitting.{IsOwn}
use Rattle.table_invariant.specs.Seats.{HasCells, SeenGuard, known_local, known_of, unseen}
use Rattle.caller_cache.specs.declared.summary.CachedLocal.{CachedLocal}
use Rattle.caller_cache.specs.Copies.{Copied, HasCellWords, IsCopied}
use Rattle.caller_cache.specs.Summaries.{HasSummary, IsOwnEntry, OwnCells}

abbrev no_cell : Cell
no_cell = record { words = []; ticket = None; set = []; offer = 0 }

abbrev entry_of : ℕ → Cell → Entry
entry_of caller c = record { caller = caller; number = slice_index c.words 0; op = slice_range c.words 1 145 }

-- one cell was put, and there may be more own entries
own_put : (l : Local) (entries : List Linked) (j : ℕ) (new : Cell) → j < 16 → length l.cells ≡ 16 → ((t : ℕ) (e : Entry) → IsOwn l.own t e → IsOwn entries t e) →
    ((t : ℕ) → new.ticket ≡ Some t → IsOwnEntry entries l.number t (entry_of l.number new)) → OwnCells l → OwnCells (record l { own = entries; cells = set l.cells j new })
own_put l entries j new below count grows here was = λ k t small ticket. (
    let there : j < length l.cells = omega (arith, below, count) in
    let P : Cell → Type 0 = λ c. IsOwnEntry entries l.number t (entry_of l.number c) in
    elim (cases_eq k j) [
      | inl e ↦ (
          let at : get_or (set l.cells j new) k no_cell ≡ new = ap (λ i. get_or (set l.cells j new) i no_cell) e ∙ get_or-set_same l.cells j new no_cell there in
          subst P (sym at) (here t (sym (ap (λ (c : Cell). c.ticket) at) ∙ ticket)))
      | inr ne ↦ (
          let at : get_or (set l.cells j new) k no_cell ≡ get_or l.cells k no_cell = get_or-set_other l.cells j k new no_cell ne in
          let old = was k t small (sym (ap (λ (c : Cell). c.ticket) at) ∙ ticket) in
          subst P (sym at) (record { own = grows t (entry_in l k) old.own; caller_is = refl; small = old.small; lawful = old.lawful }))
    ])

-- the operations of the own entries are words
abbrev HaveOps : Local → Type 0
HaveOps l = (i : ℕ) (x : Linked) → slice_get l.own i ≡ Some x → Words 144 x.entry.op

-- after a step of any kind each cell with a ticket still has the own entry with that ticket in it
pub own_kept : (before : ℕ) (instance : Instance) (kind : Kind) (k : Known) (found : ℕ) → SeenGuard instance kind k.local → before ≡ slot_number k.local.number instance.base.words → before + length k.local.own ≤ k.local.front → length k.local.cells ≡ 16 → HaveOps (known_local instance kind k found) → OwnCells k.local →
    OwnCells (known_local instance kind k found)
own_kept before instance (WriteCell j i v) k found guard based few count ops was =
    own_put k.local k.local.own j (record (cell_of k.local j) { words = set (cell_of k.local j).words i v; ticket = None }) guard.0 count (λ t e mine. mine) (λ t none. absurd (none-some t none)) was
own_kept before instance (Link j) k found guard based few count ops was =
    let l = k.local in
    let new : Linked = record { ticket = l.front; entry = entry_in l j } in
    let number = guard.2 in
    let more : (t : ℕ) (e : Entry) → IsOwn l.own t e → IsOwn (l.own ++ new ∷ []) t e = λ t e mine. record { i = mine.i; at = slice_get-append_left l.own (new ∷ []) mine.i _ mine.at } in
    let here : HaveOps (linked l j) → (t : ℕ) → Some l.front ≡ Some t → IsOwnEntry (l.own ++ new ∷ []) l.number t (entry_in l j) = λ now t e. (
    let same : l.front ≡ t = same_Some l.front t e in
    subst (λ n. IsOwnEntry (l.own ++ new ∷ []) l.number n (entry_in l j)) same (record {
      own = record { i = length l.own; at = slice_get-last l.own new };
      caller_is = refl;
      small = guard.3;
      lawful = λ small. record { caller = small; some = omega (arith, number); most = omega (arith, number, based, few); op = now (length l.own) new (slice_get-last l.own new) };
    })) in
    elim (found == seen_word l.seen_slot) as (λ b. HaveOps (cond b (linked l j) (lost instance.callers l found)) → OwnCells (cond b (linked l j) (lost instance.callers l found))) [
      | true ↦ (λ now. own_put l (l.own ++ new ∷ []) j (record (cell_of l j) { ticket = Some l.front }) guard.0 count more (here now) was)
      | false ↦ (λ now. was)
    ] ops
own_kept before instance (TryExclusive r) k found guard based few count ops was =
    elim (found == 0) as (λ b. OwnCells (cond b (taken instance unseen r k.local) (refused_by instance.callers r k.local found))) [ true ↦ was | false ↦ was ]
own_kept before instance (TryShared r) k found guard based few count ops was =
    elim (nat_lt found exclusive_mark) as (λ b. OwnCells (cond b (shared_by r k.local found) (passing instance.callers r k.local found))) [ true ↦ was | false ↦ was ]
own_kept before instance (BackOff r) k found guard based few count ops was = backed (is_at r (shared_on k.local)) (is_at r k.local.passer)
  where
    backed : (a b : Bool) → OwnCells (cond a (record k.local { shared = None; steps = one_more k.local.steps }) (cond b (record k.local { passer = None; steps = one_more k.local.steps }) (record k.local { downgraded = None; steps = one_more k.local.steps })))
    backed true b = was
    backed false true = was
    backed false false = was
own_kept before instance Publish k found guard based few count ops was =
    elim (found == k.local.seen_cur) as (λ b. OwnCells (cond b (published instance.callers k.local) (outrun instance.callers k.local found))) [ true ↦ was | false ↦ was ]
own_kept before instance (WriteSet j i v) k found guard based few count ops was =
    own_put k.local k.local.own j (record (cell_of k.local j) { set = set (cell_of k.local j).set i v }) guard.0.0 count (λ t e mine. mine) (λ t named. was j t guard.0.0 named) was
own_kept before instance (Offer j) k found guard based few count ops was =
    own_put k.local k.local.own j (record (cell_of k.local j) { offer = offer_of (cell_of k.local j).ticket (cell_of k.local j).offer }) guard.0 count (λ t e mine. mine) (λ t named. was j t guard.0 named) was
own_kept before instance kind k found guard based few count ops was = was

-- the words in plain memory are those of the entry in the cell
pub read_is : (l : Local) (cells : List ℕ) (j : ℕ) → HasCells l → HasCellWords l cells → j < 16 →
    (let e : Entry = record { caller = l.number; number = slice_index cells (145 * j); op = slice_range cells (145 * j + 1) (145 * j + 145) } in e) ≡ entry_in l j
read_is l cells j shape has small =
    let words = (cell_of l j).words in
    let there : j < length l.cells = omega (arith, small, shape.count) in
    let long : length words ≡ 145 = (shape.each j (cell_of l j) (slice_get-get_or l.cells j no_cell there)).words in
    let from = 145 * j + 1 in
    let n = 145 * j + 145 - from in
    let count : n ≡ 144 = omega arith in
    let all = length-take-le n (drop from cells) (omega (arith, length-drop from cells, has.long, small)) in
    let rest = length-take-le 144 (drop 1 words) (omega (arith, length-drop 1 words, long)) in
    let ops : slice_range cells from (145 * j + 145) ≡ slice_range words 1 145 =
    ext_get_or 0 (take n (drop from cells)) (take 144 (drop 1 words)) (all ∙ count ∙ sym rest) (λ i below. (
    let less : i < 144 = omega (arith, below, all, count) in
    get_or-take n (drop from cells) i 0 (omega (arith, less, count))
    ∙ get_or-drop from cells i 0
    ∙ ap (λ k. get_or cells k 0) (let same : from + i ≡ 145 * j + (1 + i) = omega arith in same)
    ∙ has.each j (1 + i) small (omega arith)
    ∙ sym (get_or-drop 1 words i 0)
    ∙ sym (get_or-take 144 (drop 1 words) i 0 less))) in
    let first : slice_index cells (145 * j) ≡ slice_index words 0 = ap (slice_index cells) (let same : 145 * j ≡ 145 * j + 0 = omega arith in same) ∙ has.each j 0 small (omega arith) in
    λ k. record { caller = l.number; number = first k; op = ops k }

-- what a seat reads of a cell that has a ticket is the own entry with that ticket
pub own_read : (me : Me ℕ (List Known)) (summary : CachedLocal) (before : ℕ) (copy : Copied) (j ticket : ℕ) (e : Entry) → HasSummary me summary before → IsCopied (known_of me.0) copy → j < 16 → (cell_of (known_of me.0).local j).ticket ≡ Some ticket →
    e.caller ≡ summary.number → e.number ≡ slice_index copy.cells (145 * j) → e.op ≡ slice_range copy.cells (145 * j + 1) (145 * j + 145) → IsOwnEntry (known_of me.0).local.own (known_of me.0).local.number ticket e
own_read me summary before copy j ticket e has copied small at caller number op =
    let l = (known_of me.0).local in
    let mine : e.caller ≡ l.number = caller ∙ ap (λ (m : CachedLocal). m.number) has.is in
    let is : e ≡ entry_in l j = (λ k. record { caller = mine k; number = number k; op = op k }) ∙ read_is l copy.cells j has.cells copied.cells small in
    subst (IsOwnEntry l.own l.number ticket) (sym is) (has.own j ticket small at)
