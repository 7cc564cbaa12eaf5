-- A seat after the release of a shared right all of whose words were loaded: they are one image more that its caller took.
use Rattle.std.proofs.Common.{◌≡◌, ℕ, Bool, List, [], ◌∷◌, length, refl, ap, sym, subst, ◌∙◌}
use Rattle.atomic_table.specs.Seated.{TableId}
use Rattle.atomic_table.specs.Table.{Me}
use Rattle.cx_core.specs.declared.kinds.Kind.{Kind}
use Rattle.cx_core.specs.declared.kinds.Kind.TheVariants.{BackOff}
use Rattle.cx_core.specs.declared.local.Local.{Local}
use Rattle.cx_core.specs.LockEvents.{CanBackOff}
use Rattle.cx_core.specs.State.{Instance}
use Rattle.cx_core.proofs.HistoryLemmas.{ObjectLaws}
use Rattle.table_invariant.specs.declared.rule.Known.{Known}
use Rattle.cx_core.specs.Base.{LawfulBase}
use Rattle.table_invariant.specs.Fitting.{Fitting, base_of}
use Rattle.table_invariant.specs.Running.{IsTableWithinLimits, IsSeatOf, Running, instance_at}
use Rattle.table_invariant.specs.Seats.{IsAtLimit, Seated, known_after, known_of}
use Rattle.table_invariant.specs.Steps.{Steps, StepsTaking, TeachesImage, known_taken}
use Rattle.table_invariant.proofs.Fitting.{fitting, image_base}
use Rattle.caller_cache.specs.declared.summary.CachedLocal.{CachedLocal}
use Rattle.caller_cache.specs.Copies.{Copied, IsCopied}
use Rattle.caller_cache.specs.Summaries.{Follows, HasSummary, summary_of}
use Rattle.caller_cache.proofs.FollowedSteps.{step_made}
use Rattle.caller_cache.proofs.SummaryLaws.{IsSeat, seated}

-- Plain memory has nothing of the images that were taken.
copy_taken : (instance : Instance) (kind : Kind) (image : List ℕ) (found : ℕ) (k : Known) (c : Copied) → IsCopied (known_after instance kind k found) c → IsCopied (known_taken instance kind image k found) c
copy_taken instance kind image found k c is = record { long = is.long; place = is.place; marks = is.marks; cells = is.cells; sets = is.sets; words = is.words; kept = λ x there. (let was = is.kept x there in record { known_as = was.known_as; within = was.within }) }

module _ {O : Type 0} (r : Running O) (step : O → List ℕ → List ℕ → List ℕ × List ℕ) (reads : O → List ℕ → Bool) (replica found : ℕ) (image : List ℕ) (me me' : Me ℕ (List Known)) (summary summary' : CachedLocal) (copy : Copied) (table table' : TableId) (before : ℕ) where
  pub taken_made : (callers : ℕ) (old : Seated) → IsSeat me summary before copy → seated table me before copy ≡ old → ((l : Local) → summary ≡ summary_of l → ¬ IsAtLimit l) → IsSeatOf r old →
      CanBackOff r.callers replica old.known.local → table' ≡ table → TeachesImage (instance_at r step reads) (BackOff replica) image (known_of me.0) found me' → callers ≡ r.callers → Follows callers (BackOff replica) found summary summary' →
      IsSeat me' summary' before copy × StepsTaking r step reads replica found image old (seated table' me' before copy)
  taken_made callers old is view allowed of guard same_table taught same follows =
      let instance = instance_at r step reads in
      let k = known_of me.0 in
      let left : Me ℕ (List Known) = (known_after instance (BackOff replica) k found ∷ [], []) in
      let now : Me ℕ (List Known) = (known_taken instance (BackOff replica) image k found ∷ [], []) in
      let made = step_made r step reads (BackOff replica) found me left summary summary' copy copy table table' before callers old is view allowed of guard same_table taught.event same (λ i x callers_is place. follows i x callers_is) (λ x is. refl) in
      let m = made.0.0 in
      let at = made.1.seat in
      let summarised : HasSummary now summary' before = record { one = refl; is = m.is; linked = m.linked; front = m.front; few = m.few; small = m.small; place = m.place; cells = m.cells; own = m.own; within = m.within } in
      let copied = copy_taken instance (BackOff replica) image found k copy made.0.1 in
      let stands : IsSeatOf r (seated table' now before copy) = record { table = at.table; caller = at.caller; before = at.before; region = at.region } in
      let whole : seated table' now before copy ≡ record old { known = known_taken instance (BackOff replica) image old.known found } =
      (λ i. record { table = same_table i; before = before; region = length copy.words; known = known_taken instance (BackOff replica) image k found })
      ∙ ap (λ (s : Seated). record s { known = known_taken instance (BackOff replica) image s.known found }) view in
      subst (λ (x : Me ℕ (List Known)). IsSeat x summary' before copy × StepsTaking r step reads replica found image old (seated table' x before copy)) (sym taught.knows) (
        (summarised, copied),
        record { event = subst (λ (s : Seated). Steps r step reads (BackOff replica) found old s) made.1.made made.1; made = whole; seat = stands },
      )

-- what really is there fits what was noted
pub taken_fits : {O : Type 0} (line_count : O → ℕ) (lawful : O → List ℕ → Type 0) (step : O → List ℕ → List ℕ → List ℕ × List ℕ) (reads : O → List ℕ → Bool) (r : Running O) (kind : Kind) (image : List ℕ) (known : Known) (found : ℕ) (me' : Me ℕ (List Known)) →
    IsTableWithinLimits line_count lawful r → ObjectLaws r.lines (lawful r.object) (step r.object) → TeachesImage (instance_at r step reads) kind image known found me' → Fitting r.lines (lawful r.object) r.base (step r.object) (known_of me'.0)
taken_fits line_count lawful step reads r kind image known found me' running laws taught =
    subst (Fitting r.lines (lawful r.object) r.base (step r.object)) (sym (ap (λ (m : Me ℕ (List Known)). known_of m.0) taught.knows))
    (fitting r.lines (lawful r.object) (instance_at r step reads) laws running.base (known_taken (instance_at r step reads) kind image known found) taught.behind)

-- the words of an image that was taken are a lawful base
pub taken_base : {O : Type 0} (line_count : O → ℕ) (lawful : O → List ℕ → Type 0) (step : O → List ℕ → List ℕ → List ℕ × List ℕ) (reads : O → List ℕ → Bool) (r : Running O) (kind : Kind) (image : List ℕ) (known : Known) (found : ℕ) (me' : Me ℕ (List Known)) →
    IsTableWithinLimits line_count lawful r → ObjectLaws r.lines (lawful r.object) (step r.object) → TeachesImage (instance_at r step reads) kind image known found me' → LawfulBase r.lines (lawful r.object) (base_of image)
taken_base line_count lawful step reads r kind image known found me' running laws taught = image_base r.lines (lawful r.object) (instance_at r step reads) laws running.base image taught.of_some
