-- What stands after a right was taken back.
use Rattle.std.proofs.Common.{◌≡◌, inl, inr, ℕ, Bool, true, false, cond, List, [], ◌++◌, refl, ap, sym, subst, ◌∙◌, append-nil, arith, Option, Some, None}
use Rattle.std.proofs.lemmas.Bool.{cases_Bool, false≢true}
use Rattle.std.proofs.lemmas.Option.{none-some}
use Rattle.cx_core.specs.declared.entry.Base.{Base}
use Rattle.cx_core.specs.declared.kinds.Kind.TheVariants.{BackOff}
use Rattle.cx_core.specs.declared.local.HeldShared.{HeldShared}
use Rattle.cx_core.specs.declared.local.Local.{Local}
use Rattle.cx_core.specs.Rights.{downgraded_on, is_at, is_on, shared_on}
use Rattle.cx_core.specs.State.{Instance, one_more}
use Rattle.cx_core.proofs.Sums.{on_same}
use Rattle.table_invariant.specs.declared.rule.Known.{Known}
use Rattle.cx_table.specs.Fitting.{Fitting, Has, IsNoted, has_of}
use Rattle.cx_table.specs.Running.{Running, instance_at}
use Rattle.cx_table.specs.Seats.{Seated, known_after}
use Rattle.cx_table.specs.Steps.{Steps}
use Rattle.table_invariant.proofs.HasMore.{some_same}
use Rattle.strong_trylock.specs.Ends.{except_downgraded}
use Rattle.strong_trylock.specs.Held.{all_rights, rights_in}

-- what is held shared then was held shared before
held_before : (l : Local) (is_shared is_passer : Bool) (h : HeldShared) →
    (cond is_shared (record l { shared = None; steps = one_more l.steps }) (cond is_passer (record l { passer = None; steps = one_more l.steps }) (record l { downgraded = None; steps = one_more l.steps }))).shared ≡ Some h → l.shared ≡ Some h
held_before l true is_passer h e = absurd (none-some h e)
held_before l false true h e = e
held_before l false false h e = e

-- what is had then was had before
off_has : (is_shared is_passer : Bool) (k : Known) →
    has_of (record k { local = cond is_shared (record k.local { shared = None; steps = one_more k.local.steps }) (cond is_passer (record k.local { passer = None; steps = one_more k.local.steps }) (record k.local { downgraded = None; steps = one_more k.local.steps })); noted = k.noted ++ [] }) ≡ has_of k
off_has true is_passer k = ap (λ ns. has_of (record k { noted = ns })) (append-nil k.noted)
off_has false true k = ap (λ ns. has_of (record k { noted = ns })) (append-nil k.noted)
off_has false false k = ap (λ ns. has_of (record k { noted = ns })) (append-nil k.noted)

known_fits : (lines : ℕ) (lawful : List ℕ → Type 0) (base : Base) (step : List ℕ → List ℕ → List ℕ × List ℕ) (instance : Instance) (r found : ℕ) (k : Known) → Fitting lines lawful base step k → Fitting lines lawful base step (known_after instance (BackOff r) k found)
known_fits lines lawful base step instance r found k fits =
    let has = off_has (is_at r (shared_on k.local)) (is_at r k.local.passer) k in
    record {
      exclusive = some_same lines lawful base step k (known_after instance (BackOff r) k found) has refl fits.exclusive;
      shared = λ h e. fits.shared h (held_before k.local (is_at r (shared_on k.local)) (is_at r k.local.passer) h e);
      entries = λ ticket entry from noted. fits.entries ticket entry from (subst (λ ns. IsNoted ns ticket entry) (append-nil k.noted) noted);
      sets = λ ticket pairs from had. fits.sets ticket pairs from (subst (λ (h : Has). h.set ticket pairs) has had);
    }

pub still_fits : {O : Type 0} (lawful : List ℕ → Type 0) (r : Running O) (step : O → List ℕ → List ℕ → List ℕ × List ℕ) (reads : O → List ℕ → Bool) (replica found : ℕ) (before after : Seated) →
    Steps r step reads (BackOff replica) found before after → Fitting r.lines lawful r.base (step r.object) before.known → Fitting r.lines lawful r.base (step r.object) after.known
still_fits lawful r step reads replica found before after steps fits =
    subst (λ (s : Seated). Fitting r.lines lawful r.base (step r.object) s.known) (sym steps.made) (known_fits r.lines lawful r.base (step r.object) (instance_at r step reads) replica found before.known fits)

-- a caller has no other right on the replica that it has downgraded
off : (r : ℕ) (o : Option ℕ) → is_on r o ≡ 0 → is_at r o ≡ false
off r o zero =
    elim (cases_Bool (is_at r o)) [
      | inl e ↦ (let one : is_on r o ≡ 1 = ap (λ b. cond b 1 0) e in absurd (omega (arith, one, zero)))
      | inr e ↦ e
    ]

left : (l : Local) (is_shared is_passer : Bool) → is_shared ≡ false → is_passer ≡ false →
    rights_in (cond is_shared (record l { shared = None; steps = one_more l.steps }) (cond is_passer (record l { passer = None; steps = one_more l.steps }) (record l { downgraded = None; steps = one_more l.steps })))
    ≡ record (rights_in l) { downgraded = None }
left l true b e f = absurd (false≢true (sym e))
left l false true e f = absurd (false≢true (sym f))
left l false false e f = refl

-- so that right ends, and no other
pub downgraded_ended : {O : Type 0} (r : Running O) (step : O → List ℕ → List ℕ → List ℕ × List ℕ) (reads : O → List ℕ → Bool) (replica found : ℕ) (before after : Seated) →
    Steps r step reads (BackOff replica) found before after → downgraded_on before.known.local ≡ Some replica → all_rights after ≡ record (all_rights before) { downgraded = None }
downgraded_ended r step reads replica found before after steps on =
    let l = before.known.local in
    let few = steps.lawful.few.apart replica in
    let one : is_on replica (downgraded_on l) ≡ 1 = ap (is_on replica) on ∙ on_same replica replica refl in
    ap all_rights steps.made ∙ left l (is_at replica (shared_on l)) (is_at replica l.passer) (off replica (shared_on l) (omega (arith, few, one))) (off replica l.passer (omega (arith, few, one)))

-- and nothing else is changed but the steps
ends : (before : Seated) (is_shared is_passer : Bool) → is_shared ≡ false → is_passer ≡ false →
    except_downgraded (record before {
      known = record before.known {
        local = cond is_shared (record before.known.local { shared = None; steps = one_more before.known.local.steps })
            (cond is_passer (record before.known.local { passer = None; steps = one_more before.known.local.steps }) (record before.known.local { downgraded = None; steps = one_more before.known.local.steps }));
        noted = before.known.noted ++ [];
      };
    }) ≡ except_downgraded before
ends before true b e f = absurd (false≢true (sym e))
ends before false true e f = absurd (false≢true (sym f))
ends before false false e f = ap (λ ns. (let b : Seated = record (except_downgraded before) { known = record (except_downgraded before).known { noted = ns } } in b)) (append-nil before.known.noted)

pub downgraded_alone : {O : Type 0} (r : Running O) (step : O → List ℕ → List ℕ → List ℕ × List ℕ) (reads : O → List ℕ → Bool) (replica found : ℕ) (before after : Seated) →
    Steps r step reads (BackOff replica) found before after → downgraded_on before.known.local ≡ Some replica → except_downgraded after ≡ except_downgraded before
downgraded_alone r step reads replica found before after steps on =
    let l = before.known.local in
    let few = steps.lawful.few.apart replica in
    let one : is_on replica (downgraded_on l) ≡ 1 = ap (is_on replica) on ∙ on_same replica replica refl in
    ap except_downgraded steps.made ∙ ends before (is_at replica (shared_on l)) (is_at replica l.passer) (off replica (shared_on l) (omega (arith, few, one))) (off replica l.passer (omega (arith, few, one)))
