-- A seat that keeps the set of its caller's own entry, and one whose kept set was handed out.
use Rattle.std.proofs.Common.{◌≡◌, ◌⊎◌, inl, inr, ℕ, Bool, List, [], ◌∷◌, Option, Some, None, length, refl, ap, sym, subst, ◌∙◌}
use Rattle.std.proofs.lemmas.Option.{none-some, same_Some}
use Rattle.atomic_table.specs.Seated.{TableId}
use Rattle.atomic_table.specs.Table.{Me}
use Rattle.cx_core.proofs.HistoryLemmas.{ObjectLaws}
use Rattle.cx_core.proofs.Locals.{slice_get-last}
use Rattle.table_invariant.specs.declared.rule.KeptSet.{KeptSet}
use Rattle.table_invariant.specs.declared.rule.Known.{Known}
use Rattle.table_invariant.specs.Fitting.{Fitting, IsSetWithin}
use Rattle.table_invariant.specs.Offers.{TellsSet}
use Rattle.table_invariant.specs.Running.{IsTableWithinLimits, IsSeatOf, Running, instance_at}
use Rattle.table_invariant.specs.Seats.{Seated, known_kept, known_of}
use Rattle.table_invariant.specs.Steps.{KeepsSet, TeachesKept}
use Rattle.table_invariant.proofs.Fitting.{fitting}
use Rattle.caller_cache.specs.declared.summary.CachedLocal.{CachedLocal}
use Rattle.caller_cache.specs.Copies.{Copied, IsCopied, IsKeptAs}
use Rattle.caller_cache.specs.Summaries.{HasSummary}
use Rattle.caller_cache.proofs.SummaryLaws.{IsSeat, seated}

-- what is in plain memory of the replica and of the cells stays, beside a set that is kept
copy_kept : (k k' : Known) (c : Copied) (kept : Option KeptSet) → k'.local ≡ k.local → k'.accesses ≡ k.accesses → ((x : KeptSet) → kept ≡ Some x → IsKeptAs (length c.words) k' x) → IsCopied k c → IsCopied k' (record c { kept = kept })
copy_kept k k' c kept local accesses good is =
    let before : IsCopied (record k' { local = k.local; accesses = k.accesses }) (record c { kept = kept }) = record {
      long = is.long;
      place = is.place;
      marks = is.marks;
      words = is.words;
      cells = is.cells;
      sets = is.sets;
      kept = λ x there. (let g = good x there in record { known_as = g.known_as; within = g.within });
    } in
    subst (λ l. IsCopied (record k' { local = l }) (record c { kept = kept })) (sym local) (subst (λ xs. IsCopied (record k' { local = k.local; accesses = xs }) (record c { kept = kept })) (sym accesses) before)

-- the addresses of a set that whatever fits tells to be one of a ticket are those of a region's words
pub pairs_within : (lines : ℕ) (lawful : List ℕ → Type 0) (step : List ℕ → List ℕ → List ℕ × List ℕ) {O : Type 0} (r : Running O) (known : Known) (ticket : ℕ) (pairs : List ℕ) (region : ℕ) → region ≡ length r.base.words → TellsSet lines lawful r.base step known ticket pairs → IsSetWithin region pairs
pairs_within lines lawful step r known ticket pairs region is tells = subst (λ n. IsSetWithin n pairs) (sym is) (record { few = tells.few; within = tells.within })

module _ {O : Type 0} (r : Running O) (step : O → List ℕ → List ℕ → List ℕ × List ℕ) (reads : O → List ℕ → Bool) (ticket : ℕ) (pairs : List ℕ) (me me' : Me ℕ (List Known)) (summary : CachedLocal) (copy copy' : Copied) (table table' : TableId) (before : ℕ) where
  -- a set that was noted, and is in plain memory, is kept
  pub kept_made : (old : Seated) → IsSeat me summary before copy → seated table me before copy ≡ old → IsSeatOf r old → IsSetWithin old.region pairs → table' ≡ table → TeachesKept (instance_at r step reads) ticket pairs (known_of me.0) me' →
      copy' ≡ record copy { kept = Some (record { ticket = ticket; set = pairs }) } → IsSeat me' summary before copy' × KeepsSet r ticket pairs old (seated table' me' before copy')
  kept_made old is view of within same_table taught copied =
      let k = known_of me.0 in
      let k' = known_kept ticket pairs k in
      let now : Me ℕ (List Known) = (k' ∷ [], []) in
      let kept : Copied = record copy { kept = Some (record { ticket = ticket; set = pairs }) } in
      let m = is.0 in
      let summarised : HasSummary now summary before = record { one = refl; is = m.is; linked = m.linked; front = m.front; few = m.few; small = m.small; place = m.place; cells = m.cells; own = m.own; within = m.within } in
      let region : IsSetWithin (length copy.words) pairs = subst (λ (s : Seated). IsSetWithin s.region pairs) (sym view) within in
      let holds : IsCopied k' kept = copy_kept k k' copy kept.kept refl refl (λ x there. (
      let same : (let s : KeptSet = record { ticket = ticket; set = pairs } in s) ≡ x = same_Some _ _ there in
      subst (IsKeptAs (length copy.words) k') same (record { known_as = (length k.kept, slice_get-last k.kept _); within = region }))) is.1 in
      let at : IsSeatOf r (seated table me before copy) = subst (IsSeatOf r) (sym view) of in
      let stands : IsSeatOf r (seated table' now before kept) = record { table = same_table ∙ at.table; caller = at.caller; before = at.before; region = at.region } in
      let whole : seated table' now before kept ≡ record old { known = known_kept ticket pairs old.known } =
      (λ i. record { table = same_table i; before = before; region = length copy.words; known = k' }) ∙ ap (λ (s : Seated). record s { known = known_kept ticket pairs s.known }) view in
      subst (λ (c : Copied). IsSeat me' summary before c × KeepsSet r ticket pairs old (seated table' me' before c)) (sym copied)
      (subst (λ (x : Me ℕ (List Known)). IsSeat x summary before kept × KeepsSet r ticket pairs old (seated table' x before kept)) (sym taught.knows) ((summarised, holds), record { made = whole; seat = stands }))

-- what really is there fits what the caller then knows
pub kept_fits : {O : Type 0} (line_count : O → ℕ) (lawful : O → List ℕ → Type 0) (step : O → List ℕ → List ℕ → List ℕ × List ℕ) (reads : O → List ℕ → Bool) (r : Running O) (ticket : ℕ) (pairs : List ℕ) (known : Known) (me' : Me ℕ (List Known)) →
    IsTableWithinLimits line_count lawful r → ObjectLaws r.lines (lawful r.object) (step r.object) → TeachesKept (instance_at r step reads) ticket pairs known me' → Fitting r.lines (lawful r.object) r.base (step r.object) (known_of me'.0)
kept_fits line_count lawful step reads r ticket pairs known me' running laws taught =
    subst (Fitting r.lines (lawful r.object) r.base (step r.object)) (sym (ap (λ (m : Me ℕ (List Known)). known_of m.0) taught.knows))
    (fitting r.lines (lawful r.object) (instance_at r step reads) laws running.base (known_kept ticket pairs known) taught.behind)

-- a set that was handed out is in plain memory no more
pub handed_out : (k : Known) (c c' : Copied) → IsCopied k c → (c' ≡ record c { kept = None }) ⊎ (c' ≡ c) → IsCopied k c'
handed_out k c c' is left = elim left [
  | inl out ↦ subst (IsCopied k) (sym out) (copy_kept k k c None refl refl (λ x there. absurd (none-some x there)) is)
  | inr same ↦ subst (IsCopied k) (sym same) is
]
