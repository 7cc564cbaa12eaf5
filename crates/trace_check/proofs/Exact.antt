-- There is one verdict of a trace.
use Rattle.std.proofs.Common.{◌≡◌, ◌%◌, ◌<◌, ◌≤◌, inl, inr, ℕ, zero, suc, List, [], ◌∷◌, length, take, slice_index, refl, ap, sym, subst, ◌∙◌, arith, Some}
use Rattle.std.proofs.lemmas.Bool.{cases_lt}
use Rattle.std.proofs.lemmas.Option.{none-some, same_Some}
use Rattle.std.specs.List.{slice_get, slice_set}
use Rattle.cx_core.specs.declared.kinds.Event.{Event as CoreEvent}
use Rattle.cx_core.specs.declared.local.Local.{Local}
use Rattle.cx_base.specs.Codes.{root_place_of}
use Rattle.cx_core.specs.Events.{Makes, local_after, words_after}
use Rattle.cx_core.specs.Lawful.{Lawful}
use Rattle.cx_core.specs.Merge.{scene_of}
use Rattle.cx_core.specs.State.{Instance, State}
use Rattle.core_replica.proofs.ChainLaws.{chain_only}
use Rattle.core_runs.proofs.Keeps.{event_kept}
use Rattle.trace_check.specs.declared.check.Verdict.{Verdict}
use Rattle.trace_check.specs.declared.check.Verdict.TheVariants.{Yes, Guard, Place}
use Rattle.trace_text.specs.declared.trace.TraceLine.{TraceLine}
use Rattle.trace_text.specs.declared.trace.TraceWhat.{TraceWhat}
use Rattle.trace_text.specs.declared.trace.TraceWhat.TheVariants.{Event, Crash}
use Rattle.trace_check.specs.Lines.{FailsGuard, FailsPlace, Good, IsVerdict, LeavesPlace, Passes}

-- an event makes one state of a state
pub makes_one : (instance : Instance) (event : CoreEvent) (a b c : State) → Makes instance event a b → Makes instance event a c → b ≡ c
makes_one instance event a b c m k =
    let one : m.local ≡ k.local = same_Some m.local k.local (sym m.of_caller ∙ k.of_caller) in
    let words : b.words ≡ c.words = m.words ∙ ap (λ (l : Local). words_after instance event.kind l a.words) one ∙ sym k.words in
    let locals : b.locals ≡ c.locals = m.locals ∙ ap (λ (l : Local). slice_set a.locals event.caller (local_after instance (scene_of instance a) event.kind l)) one ∙ sym k.locals in
    λ i. record { words = words i; locals = locals i }

-- a line leads from a state `a` to one state only: `b` and `c` are equal
passes_one : (instance : Instance) (what : TraceWhat) (a b c : State) → Passes instance what a b → Passes instance what a c → b ≡ c
passes_one instance (Event event) a b c m k = makes_one instance event a b c m k
passes_one instance (Crash choice place) a b c m k = m.1 ∙ sym k.1

-- a line that is good in a lawful state `a` leads to a lawful state `b`
pub passes_lawful : (instance : Instance) (what : TraceWhat) (a b : State) → Lawful instance a → Passes instance what a b → Lawful instance b
passes_lawful instance (Event event) a b law m = event_kept instance event a b law m
passes_lawful instance (Crash choice place) a b law m = subst (Lawful instance) (sym m.1) law

pub good_lawful : (instance : Instance) (from : State) (xs : List TraceLine) (to : State) → Lawful instance from → Good instance from xs to → Lawful instance to
good_lawful instance from [] to law good = subst (Lawful instance) (sym good) law
good_lawful instance from (x ∷ xs) to law good = good_lawful instance good.0 xs to (passes_lawful instance x.what from good.0 law good.1) good.2

-- good lines lead from a state to one state only: `b` and `c` are equal
good_one : (instance : Instance) (from : State) (xs : List TraceLine) (b c : State) → Good instance from xs b → Good instance from xs c → b ≡ c
good_one instance from [] b c m k = m ∙ sym k
good_one instance from (x ∷ xs) b c m k =
    let same = passes_one instance x.what from m.0 k.0 m.1 k.1 in
    good_one instance k.0 xs b c (subst (λ (s : State). Good instance s xs b) same m.2) k.2

-- in good lines each passes in the state to which those in front lead
pub good_at : (instance : Instance) (from : State) (xs : List TraceLine) (to : State) (n : ℕ) (x : TraceLine) → slice_get xs n ≡ Some x → Good instance from xs to →
    (s : State) × Good instance from (take n xs) s × (t : State) × Passes instance x.what s t
good_at instance from [] to n x at good = absurd (none-some x at)
good_at instance from (y ∷ ys) to zero x at good = (from, refl, good.0, subst (λ (z : TraceLine). Passes instance z.what from good.0) (same_Some y x at) good.1)
good_at instance from (y ∷ ys) to (suc n) x at good =
    let r = good_at instance good.0 ys to n x at good.2 in
    (r.0, (good.0, good.1, r.1), r.2, r.3)

-- the item `x` at an index `n` below `m` is at that index of the first `m` items
get_take : {X : Type 0} (xs : List X) (n m : ℕ) (x : X) → n < m → slice_get xs n ≡ Some x → slice_get (take m xs) n ≡ Some x
get_take [] n m x less at = absurd (none-some x at)
get_take (y ∷ ys) n zero x less at = absurd (omega arith)
get_take (y ∷ ys) zero (suc m) x less at = at
get_take (y ∷ ys) (suc n) (suc m) x less at = get_take ys n m x (omega arith) at

take_take : {X : Type 0} (xs : List X) (n m : ℕ) → n ≤ m → take n (take m xs) ≡ take n xs
take_take [] zero zero le = refl
take_take [] zero (suc m) le = refl
take_take [] (suc n) zero le = absurd (omega arith)
take_take [] (suc n) (suc m) le = refl
take_take (y ∷ ys) zero m le = refl
take_take (y ∷ ys) (suc n) zero le = absurd (omega arith)
take_take (y ∷ ys) (suc n) (suc m) le = ap (λ zs. y ∷ zs) (take_take ys n m (omega arith))

-- where lines stop
record Stops (instance : Instance) (from : State) (xs : List TraceLine) (n : ℕ) (x : TraceLine) (s : State) : Type 0 where
  at : slice_get xs n ≡ Some x
  before : Good instance from (take n xs) s
  stuck : (t : State) → Passes instance x.what s t → ⊥

-- lines that stop at the index `n` are not all good
never_good : (instance : Instance) (from : State) (xs : List TraceLine) (n : ℕ) (x : TraceLine) (s to : State) → Stops instance from xs n x s → Good instance from xs to → ⊥
never_good instance from xs n x s to stops good =
    let r = good_at instance from xs to n x stops.at good in
    let same = good_one instance from (take n xs) r.0 s r.1 stops.before in
    stops.stuck r.2 (subst (λ (z : State). Passes instance x.what z r.2) same r.3)

-- lines that stop at the index `n` do not stop at a later index `m` too
not_later : (instance : Instance) (from : State) (xs : List TraceLine) (n m : ℕ) (x y : TraceLine) (s t : State) → Stops instance from xs n x s → Stops instance from xs m y t → n < m → ⊥
not_later instance from xs n m x y s t first second less =
    never_good instance from (take m xs) n x s t
    (record { at = get_take xs n m x less first.at; before = subst (λ zs. Good instance from zs s) (sym (take_take xs n m (omega arith))) first.before; stuck = first.stuck })
    second.before

-- lines stop at one line in one state only: `x` and `y` are equal, and so are `s` and `t`
stop_one : (instance : Instance) (from : State) (xs : List TraceLine) (n m : ℕ) (x y : TraceLine) (s t : State) → Stops instance from xs n x s → Stops instance from xs m y t → (x ≡ y) × (s ≡ t)
stop_one instance from xs n m x y s t first second =
    let same : n ≡ m = elim (cases_lt n m) [
      | inl less ↦ absurd (not_later instance from xs n m x y s t first second less)
      | inr more ↦ elim (cases_lt m n) [ inl up ↦ absurd (not_later instance from xs m n y x t s second first up) | inr down ↦ omega arith ]
    ] in (
      same_Some x y (sym first.at ∙ ap (slice_get xs) same ∙ second.at),
      good_one instance from (take m xs) s t (subst (λ k. Good instance from (take k xs) s) same first.before) second.before,
    )

-- one place is left
leaves_one : (instance : Instance) (s : State) (choice p q : ℕ) → Lawful instance s → LeavesPlace instance s choice p → LeavesPlace instance s choice q → p ≡ q
leaves_one instance s choice p q law a b =
    let one = chain_only s a.chain b.chain law.root.apart a.is_chain b.is_chain in
    sym a.is ∙ ap (λ (codes : List ℕ). root_place_of instance.callers (slice_index codes (choice % length codes))) one ∙ b.is

module _ (instance : Instance) (from : State) (xs : List TraceLine) (law : Lawful instance from) where
  guard_stops : (line : ℕ) → (f : FailsGuard instance from xs line) → Stops instance from xs f.n f.x f.state
  guard_stops line f = record {
    at = f.at;
    before = f.before;
    stuck = λ t passes. (let m = subst (λ w. Passes instance w f.state t) f.is passes in f.fails (record { local = m.local; of_caller = m.of_caller; guard = m.guard }));
  }

  place_stops : (line found : ℕ) → (f : FailsPlace instance from xs line found) → Stops instance from xs f.n f.x f.state
  place_stops line found f = record {
    at = f.at;
    before = f.before;
    stuck = λ t passes. (
        let p = subst (λ w. Passes instance w f.state t) f.is passes in
        f.other (leaves_one instance f.state f.choice found f.place (good_lawful instance from (take f.n xs) f.state law f.before) f.leaves p.0));
  }

  abbrev choice_of : TraceWhat → ℕ
  choice_of (Event event) = 0
  choice_of (Crash choice place) = choice

  abbrev is_event : TraceWhat → Type 0
  is_event (Event event) = Unit {0}
  is_event (Crash choice place) = ⊥

  apart : (line other found : ℕ) → FailsGuard instance from xs line → FailsPlace instance from xs other found → ⊥
  apart line other found f h =
      let one = stop_one instance from xs f.n h.n f.x h.x f.state h.state (guard_stops line f) (place_stops other found h) in
      subst is_event (sym f.is ∙ ap (λ (z : TraceLine). z.what) one.0 ∙ h.is) tt

  -- the crash after which another place is recovered is at one line only, and the place is one: `p` and `q` are equal
  places_one : (line other p q : ℕ) → FailsPlace instance from xs line p → FailsPlace instance from xs other q → (line ≡ other) × (p ≡ q)
  places_one line other p q f h =
      let one = stop_one instance from xs f.n h.n f.x h.x f.state h.state (place_stops line p f) (place_stops other q h) in
      let choice : f.choice ≡ h.choice = ap choice_of (sym f.is ∙ ap (λ (z : TraceLine). z.what) one.0 ∙ h.is) in
      let here = subst (λ c. LeavesPlace instance f.state c p) choice f.leaves in
      let there = subst (λ (z : State). LeavesPlace instance z h.choice p) one.1 here in
      (sym f.named ∙ ap (λ (z : TraceLine). z.line) one.0 ∙ h.named, leaves_one instance h.state h.choice p q (good_lawful instance from (take h.n xs) h.state law h.before) there h.leaves)

  -- lines have one verdict only: `v` and `w` are equal
  pub verdict_one : (v w : Verdict) → IsVerdict instance from xs v → IsVerdict instance from xs w → v ≡ w
  verdict_one (Yes e c) (Yes e' c') v w = (let ee = v.1 ∙ sym w.1 in let cc = v.2 ∙ sym w.2 in λ i. Yes (ee i) (cc i))
  verdict_one (Yes e c) (Guard line) v w = absurd (never_good instance from xs w.n w.x w.state v.0.0 (guard_stops line w) v.0.1)
  verdict_one (Yes e c) (Place line found) v w = absurd (never_good instance from xs w.n w.x w.state v.0.0 (place_stops line found w) v.0.1)
  verdict_one (Guard line) (Yes e c) v w = absurd (never_good instance from xs v.n v.x v.state w.0.0 (guard_stops line v) w.0.1)
  verdict_one (Guard line) (Guard other) v w =
      let one = stop_one instance from xs v.n w.n v.x w.x v.state w.state (guard_stops line v) (guard_stops other w) in
      ap (λ n. Guard n) (sym v.named ∙ ap (λ (z : TraceLine). z.line) one.0 ∙ w.named)
  verdict_one (Guard line) (Place other found) v w = absurd (apart line other found v w)
  verdict_one (Place line found) (Yes e c) v w = absurd (never_good instance from xs v.n v.x v.state w.0.0 (place_stops line found v) w.0.1)
  verdict_one (Place line found) (Guard other) v w = absurd (apart other line found w v)
  verdict_one (Place line found) (Place other q) v w = (let one = places_one line other found q v w in let ll = one.0 in let pp = one.1 in λ i. Place (ll i) (pp i))
