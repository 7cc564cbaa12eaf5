-- A seat after the release of a shared right whose words were copied over the replica held exclusively.
use Rattle.std.proofs.Common.{true, false, cond, ◌≡◌, ◌<◌, ℕ, Bool, List, [], ◌∷◌, length, slice_index, refl, ap, sym, subst, ◌∙◌, arith, Option, Some, None}
use Rattle.std.proofs.lemmas.Option.{none-some}
use Rattle.std.specs.List.{Contains}
use Rattle.atomic_table.specs.Seated.{TableId}
use Rattle.atomic_table.specs.Table.{Me}
use Rattle.cx_core.specs.declared.kinds.Kind.{Kind}
use Rattle.cx_core.specs.declared.kinds.Kind.TheVariants.{BackOff}
use Rattle.cx_core.specs.declared.local.HeldExclusive.{HeldExclusive}
use Rattle.cx_core.specs.declared.local.Local.{Local}
use Rattle.cx_core.specs.LockEvents.{CanBackOff}
use Rattle.cx_core.specs.Rights.{held_dirty, is_at, shared_on}
use Rattle.cx_core.specs.State.{Instance, one_more}
use Rattle.table_invariant.specs.declared.rule.Known.{Known}
use Rattle.cx_core.proofs.HistoryLemmas.{ObjectLaws}
use Rattle.table_invariant.specs.Fitting.{Fitting, TellsWord, loads_of, loaded_of}
use Rattle.table_invariant.specs.Rule.{IsBehindNotes}
use Rattle.table_invariant.specs.Running.{IsTableWithinLimits, IsSeatOf, Running, instance_at}
use Rattle.table_invariant.specs.Seats.{IsAtLimit, Seated, known_after, known_of}
use Rattle.table_invariant.specs.Steps.{Steps, StepsCopied, KnowledgeAfterCopy, known_copied}
use Rattle.table_invariant.proofs.Copying.{noted_place, noted_tells}
use Rattle.table_invariant.proofs.Fitting.{fitting}
use Rattle.caller_cache.specs.declared.summary.CachedLocal.{CachedLocal}
use Rattle.caller_cache.specs.Copies.{Copied, CopiesDirty, IsCopied}
use Rattle.caller_cache.specs.Summaries.{Follows, HasSummary, summary_of}
use Rattle.caller_cache.proofs.FollowedSteps.{step_made}
use Rattle.caller_cache.proofs.SummaryLaws.{IsSeat, seated}

-- a right that was taken back leaves the replica held exclusively
abbrev backed : Bool → Bool → Local → Local
backed a b l = cond a (record l { shared = None; steps = one_more l.steps }) (cond b (record l { passer = None; steps = one_more l.steps }) (record l { downgraded = None; steps = one_more l.steps }))

backed_leaves : (a b : Bool) (l : Local) → (backed a b l).exclusive ≡ l.exclusive
backed_leaves true b l = refl
backed_leaves false true l = refl
backed_leaves false false l = refl

-- The words in plain memory stay those of the dirty places, since they were noted last both before and after.
copy_moved : (instance : Instance) (r found : ℕ) (k : Known) (c : Copied) → length c.words ≡ length instance.base.words → CopiesDirty (length c.words) k → IsBehindNotes instance (known_after instance (BackOff r) k found) →
    IsCopied (known_after instance (BackOff r) k found) c → IsCopied (known_copied instance (BackOff r) k found) c
copy_moved instance r found k c long copies behind is =
    let none : (w : ℕ) → None ≡ Some w → 0 ≡ w = λ w e. absurd (none-some w e) in
    let first = copies.place in
    let kept = backed_leaves (is_at r (shared_on k.local)) (is_at r k.local.passer) k.local in
    record {
      long = is.long;
      place = is.place ∙ noted_place k.accesses 0 first.0 None none first.1 ∙ sym (noted_place (loads_of (loaded_of k.local.shared)) 0 first.0 None none first.2);
      marks = is.marks;
      cells = is.cells;
      sets = is.sets;
      kept = λ x there. (let was = is.kept x there in record { known_as = was.known_as; within = was.within });
      words = λ i below there. (
          let a = copies.dirty i below (subst (λ (x : Option HeldExclusive). Contains (held_dirty x) i) kept there) in
          let n = length c.words in
          let count = behind.origin.long ∙ sym long in
          let same : a.0 ≡ slice_index c.words i =
          sym (noted_tells n k.accesses i a.0 below a.1 behind.first behind.now count behind.leads) ∙ is.words i below there behind.first behind.now count behind.leads in
          subst (TellsWord n (loads_of (loaded_of k.local.shared)) i) same (noted_tells n (loads_of (loaded_of k.local.shared)) i a.0 below a.2));
    }

module _ {O : Type 0} (r : Running O) (step : O → List ℕ → List ℕ → List ℕ × List ℕ) (reads : O → List ℕ → Bool) (replica found : ℕ) (me me' : Me ℕ (List Known)) (summary summary' : CachedLocal) (copy : Copied) (table table' : TableId) (before : ℕ) where
  pub moved_made : (callers : ℕ) (old : Seated) → IsSeat me summary before copy → seated table me before copy ≡ old → ((l : Local) → summary ≡ summary_of l → ¬ IsAtLimit l) → IsSeatOf r old →
      CanBackOff r.callers replica old.known.local → table' ≡ table → KnowledgeAfterCopy (instance_at r step reads) (BackOff replica) (known_of me.0) found me' → callers ≡ r.callers → Follows callers (BackOff replica) found summary summary' →
      CopiesDirty old.region old.known → IsSeat me' summary' before copy × StepsCopied r step reads replica found old (seated table' me' before copy)
  moved_made callers old is view allowed of guard same_table taught same follows copies =
      let instance = instance_at r step reads in
      let k = known_of me.0 in
      let left : Me ℕ (List Known) = (known_after instance (BackOff replica) k found ∷ [], []) in
      let now : Me ℕ (List Known) = (known_copied instance (BackOff replica) k found ∷ [], []) in
      let made = step_made r step reads (BackOff replica) found me left summary summary' copy copy table table' before callers old is view allowed of guard same_table taught.event same (λ i x callers_is place. follows i x callers_is) (λ x is. refl) in
      let m = made.0.0 in
      let at = made.1.seat in
      let long : length copy.words ≡ length r.base.words = ap (λ (s : Seated). s.region) view ∙ of.region in
      let summarised : HasSummary now summary' before = record { one = refl; is = m.is; linked = m.linked; front = m.front; few = m.few; small = m.small; place = m.place; cells = m.cells; own = m.own; within = m.within } in
      let copied = copy_moved instance replica found k copy long (subst (λ (s : Seated). CopiesDirty s.region s.known) (sym view) copies) taught.event.behind made.0.1 in
      let stands : IsSeatOf r (seated table' now before copy) = record { table = at.table; caller = at.caller; before = at.before; region = at.region } in
      let whole : seated table' now before copy ≡ record old { known = known_copied instance (BackOff replica) old.known found } =
      (λ i. record { table = same_table i; before = before; region = length copy.words; known = known_copied instance (BackOff replica) k found })
      ∙ ap (λ (s : Seated). record s { known = known_copied instance (BackOff replica) s.known found }) view in
      subst (λ (x : Me ℕ (List Known)). IsSeat x summary' before copy × StepsCopied r step reads replica found old (seated table' x before copy)) (sym taught.knows) (
        (summarised, copied),
        record { event = subst (λ (s : Seated). Steps r step reads (BackOff replica) found old s) made.1.made made.1; made = whole; seat = stands },
      )

-- a region has words
pub region_some : {O : Type 0} {line_count : O → ℕ} {lawful : O → List ℕ → Type 0} {r : Running O} → IsTableWithinLimits line_count lawful r → 0 < length r.base.words
region_some running = (let long = running.base.size.long in omega arith)

-- what really is there fits what was noted
pub copied_fits : {O : Type 0} (line_count : O → ℕ) (lawful : O → List ℕ → Type 0) (step : O → List ℕ → List ℕ → List ℕ × List ℕ) (reads : O → List ℕ → Bool) (r : Running O) (kind : Kind) (known : Known) (found : ℕ) (me' : Me ℕ (List Known)) →
    IsTableWithinLimits line_count lawful r → ObjectLaws r.lines (lawful r.object) (step r.object) → KnowledgeAfterCopy (instance_at r step reads) kind known found me' → Fitting r.lines (lawful r.object) r.base (step r.object) (known_of me'.0)
copied_fits line_count lawful step reads r kind known found me' running laws taught =
    subst (Fitting r.lines (lawful r.object) r.base (step r.object)) (sym (ap (λ (m : Me ℕ (List Known)). known_of m.0) taught.knows))
    (fitting r.lines (lawful r.object) (instance_at r step reads) laws running.base (known_copied (instance_at r step reads) kind known found) taught.behind)
