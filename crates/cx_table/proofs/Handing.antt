-- What really is there fits what was noted, and a right is still held or may be backed off from.
use Rattle.std.proofs.Common.{◌≡◌, ◌*◌, inl, inr, ℕ, Bool, true, false, cond, List, refl, ap, sym, subst, ◌∙◌, None}
use Rattle.atomic_table.specs.Table.{Me}
use Rattle.cx_base.specs.Memory.{Words}
use Rattle.cx_core.specs.declared.kinds.Kind.{Kind}
use Rattle.cx_core.specs.declared.local.Local.{Local}
use Rattle.cx_core.specs.LockEvents.{CanBackOff, backed_off}
use Rattle.cx_core.specs.Rights.{exclusive_on, is_at, shared_on}
use Rattle.cx_core.specs.State.{one_more}
use Rattle.cx_core.proofs.HistoryLemmas.{ObjectLaws}
use Rattle.table_invariant.specs.declared.rule.Known.{Known}
use Rattle.table_invariant.specs.Fitting.{Fitting}
use Rattle.table_invariant.specs.Running.{IsTableWithinLimits, Running, instance_at}
use Rattle.table_invariant.specs.Seats.{Seated, known_after, known_of}
use Rattle.table_invariant.specs.Steps.{StepsCopied, KnowledgeAfter}
use Rattle.table_invariant.proofs.Fitting.{fitting}
use Rattle.cx_table.specs.Right.{Right}
use Rattle.cx_table.specs.declared.tokens.SharedRight.{SharedRight}
use Rattle.cx_table.specs.declared.tokens.SharedRight.TheVariants.{Hold, Passer, Downgraded as Held}
use Rattle.cx_table.specs.Tokens.{IsExclusiveOf, IsRightOf, replica_of}

-- the laws of an object that full images rest on
pub laws_at : {O : Type 0} (line_count : O → ℕ) (lawful : O → List ℕ → Type 0) (step : O → List ℕ → List ℕ → List ℕ × List ℕ) (r : Running O) → IsTableWithinLimits line_count lawful r →
    ((o : O) (image op : List ℕ) → lawful o image → Words 144 op → lawful o (step o image op).0) → ((o : O) (image : List ℕ) → lawful o image → Words (8 * line_count o) image) →
    ((o : O) (image op : List ℕ) → lawful o image → Words 144 op → Words 144 (step o image op).1) → ObjectLaws r.lines (lawful r.object) (step r.object)
laws_at line_count lawful step r running keeps shape replies =
    record { keeps = keeps r.object; shape = λ image law. subst (λ n. Words (8 * n) image) (sym running.lines) (shape r.object image law); replies = replies r.object }

-- what really is there after a step fits what was noted
pub step_fits : {O : Type 0} (line_count : O → ℕ) (lawful : O → List ℕ → Type 0) (step : O → List ℕ → List ℕ → List ℕ × List ℕ) (reads : O → List ℕ → Bool) (r : Running O) (kind : Kind) (known : Known) (found : ℕ) (me' : Me ℕ (List Known)) →
    IsTableWithinLimits line_count lawful r → ObjectLaws r.lines (lawful r.object) (step r.object) → KnowledgeAfter (instance_at r step reads) kind known found me' → Fitting r.lines (lawful r.object) r.base (step r.object) (known_of me'.0)
step_fits line_count lawful step reads r kind known found me' running laws taught =
    let after = known_after (instance_at r step reads) kind known found in
    subst (Fitting r.lines (lawful r.object) r.base (step r.object)) (sym (ap (λ (m : Me ℕ (List Known)). known_of m.0) taught.knows)) (fitting r.lines (lawful r.object) (instance_at r step reads) laws running.base after taught.behind)

-- what a right that was taken back leaves
abbrev backed : Bool → Bool → Local → Local
backed a b l = cond a (record l { shared = None; steps = one_more l.steps }) (cond b (record l { passer = None; steps = one_more l.steps }) (record l { downgraded = None; steps = one_more l.steps }))

backed_leaves : (a b : Bool) (l : Local) → ((backed a b l).number ≡ l.number) × (exclusive_on (backed a b l) ≡ exclusive_on l)
backed_leaves true b l = (refl, refl)
backed_leaves false true l = (refl, refl)
backed_leaves false false l = (refl, refl)

-- the exclusive right stays
pub still_held : {O : Type 0} (r : Running O) (step : O → List ℕ → List ℕ → List ℕ × List ℕ) (reads : O → List ℕ → Bool) (replica found : ℕ) (before after : Seated) (held : Right) → StepsCopied r step reads replica found before after →
    IsExclusiveOf r.callers before held → IsExclusiveOf r.callers after held
still_held r step reads replica found before after held steps is =
    let l = before.known.local in
    let local : after.known.local ≡ backed_off replica l = ap (λ (s : Seated). s.known.local) steps.made in
    let leaves = backed_leaves (is_at replica (shared_on l)) (is_at replica l.passer) l in
    record {
      few = is.few;
      caller = is.caller ∙ sym (ap (λ (x : Local). x.number) local ∙ leaves.0);
      holds = ap exclusive_on local ∙ leaves.1 ∙ is.holds;
    }

-- a right that a step takes back may be backed off from
pub can_back_off : (callers : ℕ) (seat : Seated) (right : SharedRight) → IsRightOf callers seat right → CanBackOff callers (replica_of right) seat.known.local
can_back_off callers seat (Hold held) is = (is.few, inl is.holds)
can_back_off callers seat (Passer mark) is = (is.few, inr (inl is.holds))
can_back_off callers seat (Held held) is = (is.few, inr (inr is.holds))
