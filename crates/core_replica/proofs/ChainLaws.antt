-- The chain: there is one and no other, it rises in place, and each of its codes names a pinned replica.
use Rattle.std.proofs.Common.{◌≡◌, ◌+◌, ◌⊎◌, ◌<◌, ◌≤◌, inl, inr, ℕ, List, [], ◌∷◌, slice_index, refl, ap, sym, subst, ◌∙◌, arith}
use Rattle.std.proofs.lemmas.Option.{same_Some}
use Rattle.std.specs.List.{Contains, slice_get}
use Rattle.cx_base.specs.Codes.{root_place_of, root_replica_of}
use Rattle.cx_core.specs.declared.entry.Entry.{Entry}
use Rattle.cx_core.specs.declared.local.Local.{Local}
use Rattle.cx_core.specs.declared.local.WonCode.{WonCode}
use Rattle.cx_core.specs.Chain.{HasWon, IsCodeChain, Leads, RiseInPlace, WinsApart}
use Rattle.cx_core.specs.Lawful.{Shape}
use Rattle.cx_core.specs.LawfulLocks.{Locks, marks, pin, total}
use Rattle.cx_core.specs.LawfulRegions.{IsReplicaImage, Regions}
use Rattle.cx_core.specs.LawfulRoot.{IsPlaced, Root}
use Rattle.cx_core.specs.Layout.{cur_at, dur_at}
use Rattle.cx_core.specs.State.{Instance, State}
use Rattle.cx_core.proofs.Claims.{unheld_none}
use Rattle.cx_core.proofs.HeldLists.{contains_cases}
use Rattle.cx_core.proofs.Sums.{on_same, total_member}
use Rattle.core_replica.specs.Chain.{IsPinned}
use Rattle.core_replica.proofs.ChainLemmas.{leads_up}
use Rattle.core_replica.proofs.Unheld.{NobodyHolds, current_unheld, won_one, won_unheld}

-- there is a chain
pub chain_stands : (instance : Instance) (s : State) (root : Root instance s.words s.locals) → IsCodeChain s.words s.locals (slice_index s.words dur_at ∷ root.above)
chain_stands instance s root = (refl, root.leads)

-- two ways from a code to a code are one
one_way : (locals : List Local) (from : ℕ) (codes others : List ℕ) (to : ℕ) → WinsApart locals → Leads locals from codes to → Leads locals from others to → codes ≡ others
one_way locals from [] [] to apart a b = refl
one_way locals from [] (y ∷ ys) to apart a b =
    let e : from ≡ to = a in let up = b.0 in let rest = leads_up locals y ys to b.2 in absurd (omega arith)
one_way locals from (x ∷ xs) [] to apart a b =
    let e : from ≡ to = b in let up = a.0 in let rest = leads_up locals x xs to a.2 in absurd (omega arith)
one_way locals from (x ∷ xs) (y ∷ ys) to apart a b =
    let p = a.1 in
    let q = b.1 in
    let callers = apart p.caller q.caller p.local q.local _ _ p.of_caller q.of_caller p.won q.won refl in
    let one : p.local ≡ q.local = same_Some p.local q.local (sym p.of_caller ∙ ap (slice_get locals) callers ∙ q.of_caller) in
    let won = sym p.won ∙ ap (λ (l : Local). l.won) one ∙ q.won in
    let e : x ≡ y = ap (λ (w : WonCode). w.code) (same_Some _ _ won) in
    let rest = one_way locals y xs ys to apart (subst (λ n. Leads locals n xs to) e a.2) b.2 in
    ap (λ n. n ∷ xs) e ∙ ap (λ zs. y ∷ zs) rest

-- two chains of codes from DUR to CUR in one state are the same chain, since no two callers won over one code
pub chain_only : (s : State) (codes others : List ℕ) → WinsApart s.locals → IsCodeChain s.words s.locals codes → IsCodeChain s.words s.locals others → codes ≡ others
chain_only s [] others apart a b = absurd a
chain_only s (x ∷ xs) [] apart a b = absurd b
chain_only s (x ∷ xs) (y ∷ ys) apart a b =
    let e : x ≡ y = sym a.0 ∙ b.0 in
    let rest = one_way s.locals y xs ys (slice_index s.words cur_at) apart (subst (λ n. Leads s.locals n xs (slice_index s.words cur_at)) e a.1) b.1 in
    ap (λ n. n ∷ xs) e ∙ ap (λ zs. y ∷ zs) rest

pub chain_one : (s : State) (codes : List ℕ) → IsCodeChain s.words s.locals codes → slice_index s.words dur_at ≡ slice_index s.words cur_at → codes ≡ slice_index s.words cur_at ∷ []
chain_one s [] chain same = absurd chain
chain_one s (first ∷ []) chain same = ap (λ n. n ∷ []) (sym chain.0 ∙ same)
chain_one s (first ∷ code ∷ codes) chain same =
    let up = chain.1.0 in
    let rest = leads_up s.locals code codes (slice_index s.words cur_at) chain.1.2 in
    absurd (omega (arith, chain.0))

-- a code of the chain is the last, or the one before a win that is not retired
won_or_last : (locals : List Local) (from : ℕ) (codes : List ℕ) (to code : ℕ) → Leads locals from codes to → Contains (from ∷ codes) code → (code ≡ to) ⊎ ((x : ℕ) × HasWon locals code x)
won_or_last locals from [] to code leads among =
    elim (contains_cases from [] code among) [ inl e ↦ inl (sym e ∙ leads) | inr a ↦ (let below : a.0 < 0 = a.1 in absurd (omega arith)) ]
won_or_last locals from (x ∷ codes) to code leads among =
    elim (contains_cases from (x ∷ codes) code among) [
      | inl e ↦ inr (x, subst (λ n. HasWon locals n x) e leads.1)
      | inr a ↦ won_or_last locals x codes to code leads.2 a
    ]

-- each code that rises from one has a place at or above that one's
among_rises : (callers from : ℕ) (codes : List ℕ) (code : ℕ) → RiseInPlace callers from codes → Contains (from ∷ codes) code → root_place_of callers from ≤ root_place_of callers code
among_rises callers from [] code rises among =
    elim (contains_cases from [] code among) [ inl e ↦ (let same = ap (root_place_of callers) e in omega arith) | inr a ↦ (let below : a.0 < 0 = a.1 in absurd (omega arith)) ]
among_rises callers from (x ∷ codes) code rises among =
    elim (contains_cases from (x ∷ codes) code among) [
      | inl e ↦ (let same = ap (root_place_of callers) e in omega arith)
      | inr a ↦ (let rest = among_rises callers x codes code rises.1 a in let up = rises.0 in omega arith)
    ]

module _ (instance : Instance) (s : State) (root : Root instance s.words s.locals) where
  leads_rise : (from : ℕ) (codes : List ℕ) (to : ℕ) → Leads s.locals from codes to → RiseInPlace instance.callers from codes
  leads_rise from [] to leads = tt
  leads_rise from (code ∷ codes) to leads =
      let has = leads.1 in (((root.each has.caller has.local has.of_caller).won _ has.won).rises, leads_rise code codes to leads.2)

  -- the chain rises in place
  pub chain_rises : (first : ℕ) (rest : List ℕ) → IsCodeChain s.words s.locals (first ∷ rest) → RiseInPlace instance.callers first rest
  chain_rises first rest chain = leads_rise first rest (slice_index s.words cur_at) chain.1

  -- each code of the chain has a place at or above DUR's
  pub chain_from_dur : (codes : List ℕ) (code : ℕ) → IsCodeChain s.words s.locals codes → Contains codes code → root_place_of instance.callers (slice_index s.words dur_at) ≤ root_place_of instance.callers code
  chain_from_dur [] code chain among = absurd chain
  chain_from_dur (first ∷ codes) code chain among =
      subst (λ n. root_place_of instance.callers n ≤ root_place_of instance.callers code) (sym chain.0) (among_rises instance.callers first codes code (chain_rises first codes chain) among)

  module _ (shape : Shape instance s.words s.locals) (locks : Locks instance.callers s.words s.locals) where
    -- what is known of the replica of a code of the chain
    record Named (code : ℕ) : Type 0 where
      nobody : NobodyHolds instance.callers s.locals (root_replica_of instance.callers code)
      placed : IsPlaced instance s.words code
      counted : 1 ≤ total (marks instance.callers (root_replica_of instance.callers code)) s.locals + pin instance.callers (root_replica_of instance.callers code) (slice_index s.words cur_at)

    last_named : Named (slice_index s.words cur_at)
    last_named =
        let r = root_replica_of instance.callers (slice_index s.words cur_at) in
        record { nobody = current_unheld instance.callers s.words s.locals shape.some locks; placed = root.current; counted = omega (arith, on_same r r refl) }

    won_named : (before code : ℕ) → HasWon s.locals before code → Named before
    won_named before code has =
        let w : WonCode = record { code = code; before = before } in
        record {
          nobody = won_unheld instance.callers s.words s.locals shape.some locks has.caller has.local w has.of_caller has.won;
          placed = ((root.each has.caller has.local has.of_caller).won w has.won).placed;
          counted = omega (arith, won_one instance.callers has.local w has.won, total_member (marks instance.callers (root_replica_of instance.callers before)) s.locals has.caller has.local has.of_caller);
        }

    chain_named : (codes : List ℕ) (code : ℕ) → IsCodeChain s.words s.locals codes → Contains codes code → Named code
    chain_named [] code chain among = absurd chain
    chain_named (first ∷ codes) code chain among =
        elim (won_or_last s.locals first codes (slice_index s.words cur_at) code chain.1 among) [
          | inl e ↦ subst Named (sym e) last_named
          | inr won ↦ won_named code won.0 won.1
        ]

    pub chain_unheld : (codes : List ℕ) (code : ℕ) → IsCodeChain s.words s.locals codes → Contains codes code → NobodyHolds instance.callers s.locals (root_replica_of instance.callers code)
    chain_unheld codes code chain among = (chain_named codes code chain among).nobody

    -- each code of the chain names a replica that has its place, that nobody holds exclusively, and that is pinned
    pub chain_pinned : (codes : List ℕ) (code : ℕ) → IsCodeChain s.words s.locals codes → Contains codes code → IsPinned instance s code
    chain_pinned codes code chain among =
        let named = chain_named codes code chain among in
        let r = root_replica_of instance.callers code in
        record {
          below = named.nobody.below;
          placed = named.placed;
          unheld = unheld_none s.locals r named.nobody.unheld;
          pinned = omega (arith, (locks.each r named.nobody.below).counted, named.counted);
        }

    -- the replica that a code of the chain names is the full image after its place
    pub chain_image : (history : List Entry) (codes : List ℕ) (code : ℕ) → Regions instance history s.words s.locals → IsCodeChain s.words s.locals codes → Contains codes code →
        IsReplicaImage instance history s.words (root_replica_of instance.callers code)
    chain_image history codes code regions chain among = let p = chain_pinned codes code chain among in regions.unheld (root_replica_of instance.callers code) p.below p.unheld
