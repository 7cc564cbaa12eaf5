-- What local states that are shown tell of those behind them.
use Rattle.std.proofs.Common.{◌≡◌, ℕ, List, [], ◌∷◌, map, sym, ap, subst, ◌∙◌, Some}
use Rattle.std.proofs.lemmas.Option.{slice_get-map}
use Rattle.std.specs.List.{Contains, slice_get}
use Rattle.cx_core.specs.declared.local.HeldExclusive.{HeldExclusive}
use Rattle.cx_core.specs.declared.local.Local.{Local}
use Rattle.cx_core.specs.Chain.{IsCodeChain, Leads}
use Rattle.cx_core.specs.Crash.{IsDirtyIn}
use Rattle.cx_core.specs.Shown.{shown}
use Rattle.cx_core.proofs.HeldLists.{mapped}
use Rattle.cx_table.specs.Remains.{IsDirty}

-- the local state behind one that is shown
pub behind : (ls : List Local) (caller : ℕ) (l : Local) → slice_get (map shown ls) caller ≡ Some l → (whole : Local) × (slice_get ls caller ≡ Some whole) × (shown whole ≡ l)
behind ls caller l at = mapped shown (slice_get ls caller) l (sym (slice_get-map shown ls caller) ∙ at)

leads_behind : (ls : List Local) (from : ℕ) (codes : List ℕ) (to : ℕ) → Leads (map shown ls) from codes to → Leads ls from codes to
leads_behind ls from [] to leads = leads
leads_behind ls from (code ∷ codes) to leads =
    let w = leads.1 in
    let b = behind ls w.caller w.local w.of_caller in
    (leads.0, record { caller = w.caller; local = b.0; of_caller = b.1; won = ap (λ (l : Local). l.won) b.2 ∙ w.won }, leads_behind ls code codes to leads.2)

-- a chain of codes by what is shown of local states is one by the local states themselves
pub chain_behind : (words : List ℕ) (ls : List Local) (codes : List ℕ) → IsCodeChain words (map shown ls) codes → IsCodeChain words ls codes
chain_behind words ls [] chain = absurd chain
chain_behind words ls (code ∷ codes) chain = (chain.0, leads_behind ls code codes _ chain.1)

-- a word that they show as dirty is dirty
pub dirty_behind : (ls : List Local) (r i : ℕ) → IsDirty (map shown ls) r i → IsDirtyIn ls r i
dirty_behind ls r i d =
    let b = behind ls d.caller d.local d.of_caller in
    let h = mapped (λ (h : HeldExclusive). record h { words = [] }) b.0.exclusive d.held (ap (λ (l : Local). l.exclusive) b.2 ∙ d.holds) in
    record {
      caller = d.caller;
      local = b.0;
      held = h.0;
      of_caller = b.1;
      has = h.1;
      replica = ap (λ (x : HeldExclusive). x.replica) h.2 ∙ d.here;
      dirty = subst (λ (x : HeldExclusive). Contains x.dirty i) (sym h.2) d.dirty;
    }
