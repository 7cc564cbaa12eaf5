-- A seat follows a step by the step's kind.
use Rattle.std.proofs.Common.{◌≡◌, ◌^◌, ◌<◌, ◌≤◌, ℕ, Bool, List, length, slice_index_or, refl, ap, sym, subst, ◌∙◌, arith, Some, None}
use Rattle.std.specs.Option.{option_map}
use Rattle.atomic_table.specs.Seated.{TableId}
use Rattle.atomic_table.specs.Table.{Me}
use Rattle.cx_core.specs.declared.kinds.Kind.{Kind}
use Rattle.cx_core.specs.declared.kinds.Kind.TheVariants.{WriteCell, Link, TryExclusive, LoadWord, StoreWord, Persist, Publish, Raise, Scan, WriteSet, Offer}
use Rattle.cx_core.specs.declared.local.Cell.{Cell}
use Rattle.cx_core.specs.declared.local.HeldDowngraded.{HeldDowngraded}
use Rattle.cx_core.specs.declared.local.Local.{Local}
use Rattle.cx_core.specs.QueueEvents.{cell_of}
use Rattle.cx_core.specs.State.{Instance}
use Rattle.table_invariant.specs.declared.rule.Known.{Known}
use Rattle.table_invariant.specs.Running.{IsSeatOf, Running, instance_at}
use Rattle.table_invariant.specs.Seats.{IsAtLimit, Seated, SeenGuard, kind_found, known_of}
use Rattle.table_invariant.specs.Steps.{Steps, KnowledgeAfter}
use Rattle.caller_cache.specs.declared.summary.CachedLocal.{CachedLocal}
use Rattle.caller_cache.specs.Copies.{Copied, copied_after}
use Rattle.caller_cache.specs.Following.{CanFollow, CopiesFollow, FollowsAt, IsFollowed}
use Rattle.caller_cache.specs.Summaries.{HasSummary, summary_of}
use Rattle.caller_cache.proofs.SetNumbers.{part_at}
use Rattle.caller_cache.proofs.SummaryLaws.{IsSeat, made_inside, seated}

-- the ticket of a cell is among the numbers, and is small
pub ticket_at : (me : Me ℕ (List Known)) (summary : CachedLocal) (before j : ℕ) → HasSummary me summary before → slice_index_or summary.tickets j None ≡ (cell_of (known_of me.0).local j).ticket
ticket_at me summary before j has = ap (λ (m : CachedLocal). slice_index_or m.tickets j None) has.is ∙ part_at (λ (c : Cell). c.ticket) (known_of me.0).local.cells j

pub small_ticket : (me : Me ℕ (List Known)) (summary : CachedLocal) (before j t : ℕ) → HasSummary me summary before → j < 16 → slice_index_or summary.tickets j None ≡ Some t → t < 2 ^ 40
small_ticket me summary before j t has small is = (has.own j t small (sym (ticket_at me summary before j has) ∙ is)).small

-- a caller that may make a step may follow it
pub can_follow : (instance : Instance) (kind : Kind) (me : Me ℕ (List Known)) (summary : CachedLocal) (before : ℕ) (copy : Copied) → IsSeat me summary before copy → length copy.words ≡ length instance.base.words → instance.callers ≤ 8 →
    SeenGuard instance kind (known_of me.0).local → IsFollowed instance.callers kind (known_of me.0).local → CanFollow instance.callers kind summary copy
can_follow instance (WriteCell j i v) me summary before copy is region few guard followed =
    (let small = guard.0 in let below = guard.1 in let long = is.1.cells.long in (small, omega (arith, small, below, long)))
can_follow instance (Link j) me summary before copy is region few guard followed =
    let front : summary.front ≡ (known_of me.0).local.front = ap (λ (m : CachedLocal). m.front) is.0.is in
    let small = guard.3 in
    let linked = is.0.linked in
    (guard.0, omega (arith, front, small), omega (arith, linked))
can_follow instance (TryExclusive r) me summary before copy is region few guard followed = guard.0
can_follow instance (StoreWord r i v) me summary before copy is region few guard followed =
    (let below = guard.1 in let long = is.1.long in (omega (arith, below, region), omega (arith, below, region, long)))
can_follow instance (Persist r i) me summary before copy is region few guard followed = (let below = guard.0.1 in let long = is.1.long in omega (arith, below, region, long))
can_follow instance Publish me summary before copy is region few guard followed =
    λ h at. (let down = sym (ap (λ (m : CachedLocal). m.downgraded) is.0.is) ∙ at in (followed h.replica (ap (option_map (λ (x : HeldDowngraded). x.replica)) down), is.0.place h down))
can_follow instance (Raise code read) me summary before copy is region few guard followed = absurd followed
can_follow instance (Scan d) me summary before copy is region few guard followed = (let small = guard.0 in omega (arith, small, few))
can_follow instance (WriteSet j i v) me summary before copy is region few guard followed =
    (let small = guard.0.0 in let below = guard.1 in let long = is.1.sets.long in omega (arith, small, below, long))
can_follow instance (Offer j) me summary before copy is region few guard followed = (guard.0, λ t at. small_ticket me summary before j t is.0 guard.0 at)
can_follow instance kind me summary before copy is region few guard followed = tt

-- a mark by the word found changes neither what is seen of the guard nor the words copied
guard_found : (instance : Instance) (kind : Kind) (l : Local) (found : ℕ) → SeenGuard instance kind l → SeenGuard instance (kind_found instance kind l found) l
guard_found instance (LoadWord r i mark) l found guard = guard
guard_found instance kind l found guard = guard

-- whether a load is marked as a refusal by the word found makes no difference to the copy after the step
copied_found : (instance : Instance) (kind : Kind) (k : Known) (found : ℕ) (copy : Copied) → copied_after kind k found copy ≡ copied_after (kind_found instance kind k.local found) k found copy
copied_found instance (LoadWord r i mark) k found copy = refl
copied_found instance kind k found copy = refl

-- a step that was made and followed: the seat's numbers are its caller's, and the seat is as the step says
pub step_made : {O : Type 0} (r : Running O) (step : O → List ℕ → List ℕ → List ℕ × List ℕ) (reads : O → List ℕ → Bool) (kind : Kind) (found : ℕ) (me me' : Me ℕ (List Known)) (summary summary' : CachedLocal) (copy copy' : Copied) (table table' : TableId) (before callers : ℕ) (old : Seated) →
    IsSeat me summary before copy → seated table me before copy ≡ old → ((l : Local) → summary ≡ summary_of l → ¬ IsAtLimit l) → IsSeatOf r old → SeenGuard (instance_at r step reads) kind old.known.local →
    table' ≡ table → KnowledgeAfter (instance_at r step reads) (kind_found (instance_at r step reads) kind (known_of me.0).local found) (known_of me.0) found me' → callers ≡ r.callers →
    FollowsAt copy.place callers kind found summary summary' → CopiesFollow kind found summary copy copy' →
    IsSeat me' summary' before copy' × Steps r step reads (kind_found (instance_at r step reads) kind old.known.local found) found old (seated table' me' before copy')
step_made r step reads kind found me me' summary summary' copy copy' table table' before callers old is view allowed of guard same_table taught same numbers copied =
    let instance = instance_at r step reads in
    let k = known_of me.0 in
    let may = subst (λ (s : Seated). SeenGuard instance kind s.known.local) (sym view) guard in
    subst (λ (s : Seated). IsSeat me' summary' before copy' × Steps r step reads (kind_found instance kind s.known.local found) found s (seated table' me' before copy')) view
    (made_inside r step reads (kind_found instance kind k.local found) found me me' summary summary' copy copy' table table' before is (allowed k.local is.0.is) (subst (IsSeatOf r) (sym view) of) (guard_found instance kind k.local found may)
    same_table taught (numbers instance k (sym same) is.1.place may is.0.is) (copied k is.0.is ∙ copied_found instance kind k found copy))
