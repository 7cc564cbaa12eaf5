-- The numbers that code reads follow each kind of step.
use Rattle.std.proofs.Common.{◌≡◌, ◌≢◌, ◌+◌, ◌^◌, ◌==◌, ◌<◌, ◌≤◌, ℕ, nat_lt, Bool, max, true, false, cond, List, [], ◌∷◌, ◌++◌, length, set, refl, ap, sym, subst, ◌∙◌, arith, Option, Some, None, length-append}
use Rattle.std.proofs.lemmas.List.{length-set, map-set}
use Rattle.std.specs.List.{slice_get}
use Rattle.std.specs.Option.{option_map}
use Rattle.atomic_table.specs.Seated.{TableId}
use Rattle.atomic_table.specs.Table.{Me}
use Rattle.cx_base.specs.Codes.{link_ticket_of}
use Rattle.cx_core.specs.declared.kinds.Kind.{Kind}
use Rattle.cx_core.specs.declared.kinds.Kind.TheVariants.{WriteCell, Link, Look, TryExclusive, TryShared, BackOff, LoadCur, Publish, WriteSet, Offer}
use Rattle.cx_core.specs.declared.local.Cell.{Cell}
use Rattle.cx_core.specs.declared.local.Linked.{Linked}
use Rattle.cx_core.specs.declared.local.Local.{Local}
use Rattle.cx_core.specs.LockEvents.{exclusive_mark, passing, refused_by, shared_by, taken}
use Rattle.cx_core.specs.Rights.{is_at, shared_on}
use Rattle.cx_core.specs.RootEvents.{outrun, published}
use Rattle.cx_core.specs.QueueEvents.{cell_of, entry_in, linked, lost, raised_front, seen_word}
use Rattle.cx_core.specs.State.{Instance, one_more}
use Rattle.cx_core.specs.Lawful.{LocalShape}
use Rattle.cx_core.specs.Layout.{max_word}
use Rattle.cx_core.specs.Region.{slot_number}
use Rattle.cx_core.proofs.Locals.{slice_get-last}
use Rattle.core_queue.proofs.Shapes.{cell_there, shape_linked, shape_put, shape_same, shape_written}
use Rattle.caller_cache.specs.declared.summary.CachedLocal.{CachedLocal}
use Rattle.table_invariant.specs.declared.rule.Known.{Known}
use Rattle.caller_cache.specs.Copies.{Copied, IsCopied, copied_after}
use Rattle.caller_cache.specs.Summaries.{HasSummary, summary_of}
use Rattle.caller_cache.proofs.CopyLaws.{copy_kept}
use Rattle.caller_cache.proofs.OwnEntries.{own_kept}
use Rattle.caller_cache.proofs.SetNumbers.{part_kept}
use Rattle.table_invariant.specs.Rule.{IsLawfulLocal}
use Rattle.table_invariant.specs.Running.{IsSeatOf, Running, instance_at}
use Rattle.table_invariant.specs.Seats.{IsAtLimit, IsWithinLimit, SeenGuard, Seated, known_after, known_local, known_of, shown_next, unanswered_ticket, unseen}
use Rattle.table_invariant.specs.Steps.{Steps, KnowledgeAfter}

abbrev ticket_in : Cell → Option ℕ
ticket_in c = c.ticket

abbrev offer_in : Cell → ℕ
offer_in c = c.offer

-- the numbers after a word was written into cell j
abbrev pub after_write : ℕ → CachedLocal → CachedLocal
after_write j m = record m { tickets = set m.tickets j None; fresh = false; steps = one_more m.steps }

-- after a word was written into the cell `j`, the numbers that code reads are those of the local state after the step
pub summary_written : (instance : Instance) (l : Local) (m : CachedLocal) (j i v found : ℕ) → m ≡ summary_of l → after_write j m ≡ summary_of (shown_next instance (WriteCell j i v) l found)
summary_written instance l m j i v found is =
    let offers = part_kept offer_in l.cells j (λ x. record x { words = set x.words i v; ticket = None }) (λ x. refl) in
    ap (after_write j) is
    ∙ (λ k. record (summary_of (shown_next instance (WriteCell j i v) l found)) { tickets = sym (map-set ticket_in l.cells j (record (cell_of l j) { words = set (cell_of l j).words i v; ticket = None })) k; offers = sym offers k })

-- the numbers after the entry in cell j was linked
abbrev pub after_win : ℕ → CachedLocal → CachedLocal
after_win j m = record m { front = m.front + 1; linked = m.linked + 1; unanswered = Some m.front; tickets = set m.tickets j (Some m.front); steps = one_more m.steps }

-- after the entry in the cell `j` was linked, with none unanswered before, the numbers that code reads are those of the local state with the link
pub summary_won : (l : Local) (m : CachedLocal) (j : ℕ) → m ≡ summary_of l → length l.answered ≡ length l.own → after_win j m ≡ summary_of (linked l j)
summary_won l m j is same =
    let new : Linked = record { ticket = l.front; entry = entry_in l j } in
    let last : slice_get (l.own ++ new ∷ []) (length l.answered) ≡ Some new = ap (slice_get (l.own ++ new ∷ [])) same ∙ slice_get-last l.own new in
    let ticket : unanswered_ticket (linked l j) ≡ Some l.front = ap (option_map (λ (x : Linked). x.ticket)) last in
    let cells = map-set ticket_in l.cells j (record (cell_of l j) { ticket = Some l.front }) in
    let offers = part_kept offer_in l.cells j (λ x. record x { ticket = Some l.front }) (λ x. refl) in
    let longer : length l.own + 1 ≡ length (l.own ++ new ∷ []) = sym (length-append l.own (new ∷ [])) in
    ap (after_win j) is
    ∙ (λ k. record (summary_of (linked l j)) { linked = longer k; unanswered = sym ticket k; tickets = sym cells k; offers = sym offers k })

-- own entries are at most 2^40, and with those before this service at most as many as the front
abbrev pub IsSmall : ℕ → Local → Type 0
IsSmall before l = (before + length l.own ≤ l.front) × (length l.own ≤ 2 ^ 40)

raises : (callers front found : ℕ) → front ≤ raised_front callers front found
raises callers front found =
    elim (found == 0) as (λ b. front ≤ cond b front (max front (link_ticket_of callers found + 1))) [ true ↦ omega arith | false ↦ omega arith ]

-- what a step leaves of a local state as far as numbers count on it
record GoesOn (before : ℕ) (l l' : Local) : Type 0 where
  small : IsSmall before l'
  shape : LocalShape l.number l'
  steps : l'.steps ≡ one_more l.steps
  limit : l'.limit ≡ l.limit

-- a step on no cell and no entry
quiet : (before : ℕ) (l l' : Local) → IsSmall before l → LocalShape l.number l → l'.own ≡ l.own → l'.front ≡ l.front → l'.number ≡ l.number → l'.cells ≡ l.cells → l'.steps ≡ one_more l.steps → l'.limit ≡ l.limit → GoesOn before l l'
quiet before l l' small shape own front number cells steps limit = record {
  small = (let a = small.0 in let b = small.1 in let c = ap length own in (omega (arith, a, c, front), omega (arith, b, c)));
  shape = shape_same l.number l l' shape number cells;
  steps = steps;
  limit = limit;
}

-- a step of any kind keeps the numbers small, the local state in shape and the limit as it was, and is counted
goes_on : (before : ℕ) (instance : Instance) (kind : Kind) (k : Known) (found : ℕ) → SeenGuard instance kind k.local → IsSmall before k.local → LocalShape k.local.number k.local → GoesOn before k.local (known_local instance kind k found)
goes_on before instance (WriteCell j i v) k found guard small shape =
    record { small = small; shape = shape_written k.local.number k.local _ j i v shape guard.0 guard.3 refl refl; steps = refl; limit = refl }
goes_on before instance (Link j) k found guard small shape =
    let l = k.local in
    let front = guard.3 in
    let own = small.0 in
    let up = raises instance.callers l.front found in
    elim (found == seen_word l.seen_slot) as (λ b. GoesOn before l (cond b (linked l j) (lost instance.callers l found))) [
      | true ↦ record { small = (simp length-append (omega arith), simp length-append (omega arith)); shape = shape_linked l.number l j shape guard.0; steps = refl; limit = refl }
      | false ↦ record { small = (omega arith, small.1); shape = shape_same l.number l (lost instance.callers l found) shape refl refl; steps = refl; limit = refl }
    ]
goes_on before instance (Look s) k found guard small shape =
    (let own = small.0 in let up = raises instance.callers k.local.front found in record { small = (omega arith, small.1); shape = shape_same k.local.number k.local _ shape refl refl; steps = refl; limit = refl })
goes_on before instance (TryExclusive r) k found guard small shape =
    elim (found == 0) as (λ b. GoesOn before k.local (cond b (taken instance unseen r k.local) (refused_by instance.callers r k.local found))) [
      | true ↦ quiet before k.local _ small shape refl refl refl refl refl refl
      | false ↦ quiet before k.local _ small shape refl refl refl refl refl refl
    ]
goes_on before instance (TryShared r) k found guard small shape =
    elim (nat_lt found exclusive_mark) as (λ b. GoesOn before k.local (cond b (shared_by r k.local found) (passing instance.callers r k.local found))) [
      | true ↦ quiet before k.local _ small shape refl refl refl refl refl refl
      | false ↦ quiet before k.local _ small shape refl refl refl refl refl refl
    ]
goes_on before instance (BackOff r) k found guard small shape = backed (is_at r (shared_on k.local)) (is_at r k.local.passer)
  where
    backed : (a b : Bool) → GoesOn before k.local (cond a (record k.local { shared = None; steps = one_more k.local.steps }) (cond b (record k.local { passer = None; steps = one_more k.local.steps }) (record k.local { downgraded = None; steps = one_more k.local.steps })))
    backed true b = quiet before k.local _ small shape refl refl refl refl refl refl
    backed false true = quiet before k.local _ small shape refl refl refl refl refl refl
    backed false false = quiet before k.local _ small shape refl refl refl refl refl refl
goes_on before instance LoadCur k found guard small shape = (let own = small.0 in record { small = (omega arith, small.1); shape = shape_same k.local.number k.local _ shape refl refl; steps = refl; limit = refl })
goes_on before instance Publish k found guard small shape =
    let own = small.0 in
    elim (found == k.local.seen_cur) as (λ b. GoesOn before k.local (cond b (published instance.callers k.local) (outrun instance.callers k.local found))) [
      | true ↦ record { small = (omega arith, small.1); shape = shape_same k.local.number k.local _ shape refl refl; steps = refl; limit = refl }
      | false ↦ record { small = (omega arith, small.1); shape = shape_same k.local.number k.local _ shape refl refl; steps = refl; limit = refl }
    ]
goes_on before instance (WriteSet j i v) k found guard small shape =
    let old = shape.each j (cell_of k.local j) (cell_there k.local.number k.local j shape guard.0.0) in
    record { small = small; shape = shape_put k.local.number k.local _ j _ shape guard.0.0 (record { words = old.words; fit = old.fit; set = length-set (cell_of k.local j).set i v ∙ old.set }) refl refl; steps = refl; limit = refl }
goes_on before instance (Offer j) k found guard small shape =
    let old = shape.each j (cell_of k.local j) (cell_there k.local.number k.local j shape guard.0) in
    record { small = small; shape = shape_put k.local.number k.local _ j _ shape guard.0 (record { words = old.words; fit = old.fit; set = old.set }) refl refl; steps = refl; limit = refl }
goes_on before instance kind k found guard small shape = quiet before k.local _ small shape refl refl refl refl refl refl

-- one step more within the limit
pub one_step : (l : Local) → IsWithinLimit l → ¬ IsAtLimit l → l.limit < max_word → one_more l.steps ≤ l.limit
one_step l within allowed few =
    let most = within few in
    let apart : l.steps ≢ l.limit = λ e. allowed (e, few) in
    omega arith

within_after : (before : ℕ) (l l' : Local) → GoesOn before l l' → IsWithinLimit l → ¬ IsAtLimit l → IsWithinLimit l'
within_after before l l' goes within allowed few =
    let same = goes.limit in
    let most = one_step l within allowed (omega arith) in
    let steps = goes.steps in
    omega (arith, most, steps, same)

-- a seat's numbers are its caller's after a step
summarised : (instance : Instance) (kind : Kind) (found : ℕ) (me me' : Me ℕ (List Known)) (summary summary' : CachedLocal) (before : ℕ) → HasSummary me summary before → before ≡ slot_number (known_of me.0).local.number instance.base.words → ¬ IsAtLimit (known_of me.0).local →
    SeenGuard instance kind (known_of me.0).local → KnowledgeAfter instance kind (known_of me.0) found me' → summary' ≡ summary_of (known_local instance kind (known_of me.0) found) → HasSummary me' summary' before
summarised instance kind found me me' summary summary' before old based allowed guard taught numbers =
    let l = (known_of me.0).local in
    let l' = known_local instance kind (known_of me.0) found in
    let same = old.is in
    let own : summary.linked ≡ length l.own = ap (λ (m : CachedLocal). m.linked) same in
    let front : summary.front ≡ l.front = ap (λ (m : CachedLocal). m.front) same in
    let a = old.linked in
    let b = old.few in
    let small : IsSmall before l = (omega arith, omega arith) in
    let shape : LocalShape l.number l = record { number = refl; cells = old.cells.count; each = old.cells.each } in
    let goes = goes_on before instance kind (known_of me.0) found guard small shape in
    let c = goes.small.0 in
    let d = goes.small.1 in
    let most = taught.lawful_after.to in
    let own' : summary'.linked ≡ length l'.own = ap (λ (m : CachedLocal). m.linked) numbers in
    let front' : summary'.front ≡ l'.front = ap (λ (m : CachedLocal). m.front) numbers in
    subst (λ (m : Me ℕ (List Known)). HasSummary m summary' before) (sym taught.knows) (record {
      one = refl;
      is = numbers;
      linked = omega arith;
      front = omega arith;
      few = omega arith;
      small = old.small;
      place = λ h is. (taught.lawful_after.downgraded h is).place;
      cells = record { count = goes.shape.cells; each = goes.shape.each };
      own = own_kept before instance kind (known_of me.0) found guard based small.0 old.cells.count taught.lawful_after.tickets.ops old.own;
      within = within_after before l l' goes old.within allowed;
    })

-- what contracts see of a seat with these parts
abbrev pub seated : TableId → Me ℕ (List Known) → ℕ → Copied → Seated
seated table me before copy = record { table = table; before = before; region = length copy.words; known = known_of me.0 }

abbrev pub IsSeat : Me ℕ (List Known) → CachedLocal → ℕ → Copied → Type 0
IsSeat me summary before copy = HasSummary me summary before × IsCopied (known_of me.0) copy

-- a step that was made: the seat's numbers are its caller's, and the seat is as the step says
module _ {O : Type 0} (r : Running O) (step : O → List ℕ → List ℕ → List ℕ × List ℕ) (reads : O → List ℕ → Bool) (kind : Kind) (found : ℕ) (me me' : Me ℕ (List Known)) (summary summary' : CachedLocal) (copy copy' : Copied) (table table' : TableId) (before : ℕ) where
  pub made_inside : IsSeat me summary before copy → ¬ IsAtLimit (known_of me.0).local → IsSeatOf r (seated table me before copy) → SeenGuard (instance_at r step reads) kind (known_of me.0).local →
      table' ≡ table → KnowledgeAfter (instance_at r step reads) kind (known_of me.0) found me' → summary' ≡ summary_of (known_local (instance_at r step reads) kind (known_of me.0) found) → copy' ≡ copied_after kind (known_of me.0) found copy →
      IsSeat me' summary' before copy' × Steps r step reads kind found (seated table me before copy) (seated table' me' before copy')
  made_inside old allowed of may same_table taught numbers copied =
      let instance = instance_at r step reads in
      let l = (known_of me.0).local in
      let known : known_of me'.0 ≡ known_after instance kind (known_of me.0) found = ap (λ (m : Me ℕ (List Known)). known_of m.0) taught.knows in
      let new = summarised instance kind found me me' summary summary' before old.0 of.before allowed may taught numbers in
      let kept = copy_kept instance kind (known_of me.0) found copy may old.0.cells of.region old.1 in
      let number : (known_of me'.0).local.number ≡ l.number = ap (λ (k : Known). k.local.number) known ∙ (goes_on before instance kind (known_of me.0) found may (numbers_small old.0) (record { number = refl; cells = old.0.cells.count; each = old.0.cells.each })).shape.number in
      let region : length copy'.words ≡ length copy.words = ap (λ (c : Copied). length c.words) copied ∙ kept.0 in (
        (new, subst (IsCopied (known_of me'.0)) (sym copied) (subst (λ (k : Known). IsCopied k (copied_after kind (known_of me.0) found copy)) (sym known) kept.1)),
        record {
          allowed = allowed;
          made = λ i. record { table = same_table i; before = before; region = region i; known = known i };
          lawful = taught.lawful;
          lawful_after = subst (λ (k : Known). IsLawfulLocal instance k.local) (sym known) taught.lawful_after;
          found_word = taught.found_word;
          within = new.within;
          seat = record {
            table = same_table ∙ of.table;
            caller = subst (λ n. n < r.callers) (sym number) of.caller;
            before = of.before ∙ ap (λ n. slot_number n r.base.words) (sym number);
            region = region ∙ of.region;
          };
        },
      )
    where
      numbers_small : HasSummary me summary before → IsSmall before (known_of me.0).local
      numbers_small old =
          let own : summary.linked ≡ length (known_of me.0).local.own = ap (λ (m : CachedLocal). m.linked) old.is in
          let front : summary.front ≡ (known_of me.0).local.front = ap (λ (m : CachedLocal). m.front) old.is in
          let a = old.linked in
          let b = old.few in
          (omega arith, omega arith)

  -- a step that was made, where the numbers in plain memory afterwards are those of the caller's local state
  pub step_made_at : (old : Seated) → IsSeat me summary before copy → seated table me before copy ≡ old → ((l : Local) → summary ≡ summary_of l → ¬ IsAtLimit l) → IsSeatOf r old →
      SeenGuard (instance_at r step reads) kind old.known.local → table' ≡ table → KnowledgeAfter (instance_at r step reads) kind (known_of me.0) found me' → summary' ≡ summary_of (known_local (instance_at r step reads) kind (known_of me.0) found) →
      copy' ≡ copied_after kind (known_of me.0) found copy → IsSeat me' summary' before copy' × Steps r step reads kind found old (seated table' me' before copy')
  step_made_at old is view allowed of guard same_table taught numbers copied =
      let instance = instance_at r step reads in
      let may = subst (λ (s : Seated). SeenGuard instance kind s.known.local) (sym view) guard in
      subst (λ (s : Seated). IsSeat me' summary' before copy' × Steps r step reads kind found s (seated table' me' before copy')) view
      (made_inside is (allowed (known_of me.0).local is.0.is) (subst (IsSeatOf r) (sym view) of) may same_table taught numbers copied)
