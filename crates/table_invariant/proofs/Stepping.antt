-- No step is taken back: each is counted, and steps one behind another are.
use Rattle.std.proofs.Common.{◌≡◌, ◌==◌, ℕ, nat_lt, Bool, List, cond, refl, ap, ◌∙◌, arith, None}
use Rattle.cx_core.specs.declared.kinds.Kind.{Kind}
use Rattle.cx_core.specs.declared.kinds.Kind.TheVariants.{BackOff, Downgrade, Link, Publish, TryExclusive, TryShared}
use Rattle.cx_core.specs.declared.local.Local.{Local}
use Rattle.cx_core.specs.LockEvents.{exclusive_mark, passing, refused_by, shared_by, taken}
use Rattle.cx_core.specs.QueueEvents.{linked, lost, seen_word}
use Rattle.cx_core.specs.Rights.{is_at, shared_on}
use Rattle.cx_core.specs.RootEvents.{outrun, published}
use Rattle.cx_core.specs.State.{Instance, one_more}
use Rattle.cx_core.proofs.Putting.{either}
use Rattle.table_invariant.specs.declared.rule.Known.{Known}
use Rattle.table_invariant.specs.Running.{Running, instance_at}
use Rattle.table_invariant.specs.Seats.{Seated, StepsOn, known_local, unseen}
use Rattle.table_invariant.specs.Steps.{Steps}

abbrev Counts : Local → Local → Type 0
Counts l l' = l'.steps ≡ one_more l.steps

counts : (instance : Instance) (kind : Kind) (k : Known) (found : ℕ) → Counts k.local (known_local instance kind k found)
counts instance (Downgrade r) k found = refl
counts instance (Link j) k found = either (Counts k.local) (found == seen_word k.local.seen_slot) (linked k.local j) (lost instance.callers k.local found) refl refl
counts instance (TryExclusive r) k found = either (Counts k.local) (found == 0) (taken instance unseen r k.local) (refused_by instance.callers r k.local found) refl refl
counts instance (TryShared r) k found = either (Counts k.local) (nat_lt found exclusive_mark) (shared_by r k.local found) (passing instance.callers r k.local found) refl refl
counts instance (BackOff r) k found =
    let l = k.local in
    let a = record l { shared = None; steps = one_more l.steps } in
    let b = record l { passer = None; steps = one_more l.steps } in
    let c = record l { downgraded = None; steps = one_more l.steps } in
    either (Counts l) (is_at r (shared_on l)) a (cond (is_at r l.passer) b c) refl (either (Counts l) (is_at r l.passer) b c refl refl)
counts instance Publish k found = either (Counts k.local) (found == k.local.seen_cur) (published instance.callers k.local) (outrun instance.callers k.local found) refl refl
counts instance kind k found = refl

-- where the count of steps is equal at `s` and at `t`, no step is taken back from `s` to `t`
pub on_still : (s t : Seated) → t.known.local.steps ≡ s.known.local.steps → StepsOn s t
on_still s t same = omega (arith, same)

-- from a seat to itself no step is taken back
pub on_same : (s t : Seated) → t ≡ s → StepsOn s t
on_same s t same = on_still s t (ap (λ (x : Seated). x.known.local.steps) same)

-- where one step more is counted at `t` than at `s`, no step is taken back from `s` to `t`
pub on_one : (s t : Seated) → t.known.local.steps ≡ one_more s.known.local.steps → StepsOn s t
on_one s t is = omega (arith, is)

-- where no step is taken back from `s` to `t` nor from `t` to `u`, none is from `s` to `u`
pub on_then : (s t u : Seated) → StepsOn s t → StepsOn t u → StepsOn s u
on_then s t u one two = omega (arith, one, two)

-- where no step is taken back from `s` to `t`, and one more is counted at `u` than at `t`, none is taken back from `s` to `u`
pub on_then_one : (s t u : Seated) → StepsOn s t → u.known.local.steps ≡ one_more t.known.local.steps → StepsOn s u
on_then_one s t u was is = on_then s t u was (on_one t u is)

-- a step of the table
pub on_step : {O : Type 0} (r : Running O) (step : O → List ℕ → List ℕ → List ℕ × List ℕ) (reads : O → List ℕ → Bool) (kind : Kind) (found : ℕ) (s t : Seated) → Steps r step reads kind found s t → StepsOn s t
on_step r step reads kind found s t made = on_one s t (ap (λ (x : Seated). x.known.local.steps) made.made ∙ counts (instance_at r step reads) kind s.known found)
