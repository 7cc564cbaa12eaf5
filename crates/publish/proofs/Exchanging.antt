-- What an exchange of CUR, and the release of a downgraded right, leave of the seat.
use Rattle.std.proofs.Common.{◌≡◌, ◌≢◌, ◌==◌, ◌+◌, ◌<◌, ◌≤◌, ◌*◌, ◌^◌, inl, inr, ℕ, Bool, true, false, cond, min, ap, sym, subst, ◌∙◌, refl, arith, eq-eqb, List, ◌++◌, [], append-nil, Option, Some, None, Result, Ok, Err}
use Rattle.std.proofs.lemmas.Bool.{cases_Bool, eqb-true}
use Rattle.std.proofs.Math.Nat.{div-lt_iff_lt-mul, le-max_left}
use Rattle.cx_base.specs.Codes.{root_place_of}
use Rattle.cx_core.specs.declared.kinds.Kind.TheVariants.{Publish}
use Rattle.cx_core.specs.declared.local.HeldDowngraded.{HeldDowngraded}
use Rattle.cx_core.specs.Layout.{max_word}
use Rattle.cx_core.specs.RootEvents.{code_in, outrun, published}
use Rattle.cx_core.specs.State.{one_more}
use Rattle.table_invariant.specs.Running.{Running}
use Rattle.table_invariant.specs.Seats.{Seated}
use Rattle.table_invariant.specs.Steps.{Steps}
use Rattle.cx_table.specs.Right.{Right, WonRight}
use Rattle.cx_table.specs.Tokens.{TriedPublish}
use Rattle.publish.specs.Publishing.{Exchanges, KeepsMet, KeepsRest, unchanged_by_publish, place_in}

-- a code that is below a place is below the first code of that place
pub below_place : (callers code place : ℕ) → 1 ≤ callers → root_place_of callers code < place → code < place * (2 * callers)
below_place callers code place some below = (div-lt_iff_lt-mul {k = 2 * callers} {x = code} {y = place} (omega (arith, some))).0 below

-- the code of what is downgraded is above a code whose place is below
code_above : (callers code : ℕ) (o : Option HeldDowngraded) → 1 ≤ callers → root_place_of callers code < place_in o → code < code_in callers o
code_above callers code None some below = absurd (omega (arith, below))
code_above callers code (Some h) some below = (let least = below_place callers code h.place some below in omega (arith, least))

-- a count that may rise does so by one at most
not_above : (n : ℕ) → (rises : Bool) → cond rises (one_more n) n ≤ n + 1
not_above n true = omega arith
not_above n false = omega arith

-- a count that may rise does not fall
not_less : (n : ℕ) → n < 2 ^ 64 → (rises : Bool) → n ≤ cond rises (one_more n) n
not_less n small true = omega arith
not_less n small false = omega arith

module _ {O : Type 0} (r : Running O) (step : O → List ℕ → List ℕ → List ℕ × List ℕ) (reads : O → List ℕ → Bool) (found : ℕ) (before after : Seated) (s : Steps r step reads Publish found before after) where
  -- the seat after the exchange, by whether it was won
  abbrev by : Bool → Seated
  by won = record before {
    known = record before.known { local = cond won (published r.callers before.known.local) (outrun r.callers before.known.local found); noted = before.known.noted ++ [] };
  }

  is_by : (won : Bool) → (found == before.known.local.seen_cur) ≡ won → after ≡ by won
  is_by won e = s.made ∙ ap by e

  rest_by : (won : Bool) → unchanged_by_publish (by won) ≡ unchanged_by_publish before
  rest_by true = ap (λ ns. (let b : Seated = record (unchanged_by_publish before) { known = record (unchanged_by_publish before).known { noted = ns } } in b)) (append-nil before.known.noted)
  rest_by false = ap (λ ns. (let b : Seated = record (unchanged_by_publish before) { known = record (unchanged_by_publish before).known { noted = ns } } in b)) (append-nil before.known.noted)

  exchange_rest : unchanged_by_publish after ≡ unchanged_by_publish before
  exchange_rest = ap unchanged_by_publish s.made ∙ rest_by (found == before.known.local.seen_cur)

  front_by : (won : Bool) → before.known.local.front ≤ (by won).known.local.front
  front_by true = le-max_left before.known.local.front _
  front_by false = le-max_left before.known.local.front _

  exchange_front : before.known.local.front ≤ after.known.local.front
  exchange_front = subst (λ (t : Seated). before.known.local.front ≤ t.known.local.front) (sym s.made) (front_by (found == before.known.local.seen_cur))

  met_by : (won : Bool) → KeepsMet before (by won)
  met_by true was = refl
  met_by false was = ap (λ b. cond b (one_more before.known.local.met) before.known.local.met) was

  exchange_met : KeepsMet before after
  exchange_met = subst (KeepsMet before) (sym s.made) (met_by (found == before.known.local.seen_cur))

  counted_by : before.known.local.met < 2 ^ 64 → (won : Bool) → before.known.local.met ≤ (by won).known.local.met
  counted_by small true = omega arith
  counted_by small false = not_less before.known.local.met small before.known.local.fresh

  -- no refusal is taken back
  exchange_counted : before.known.local.met < 2 ^ 64 → before.known.local.met ≤ after.known.local.met
  exchange_counted small = subst (λ (t : Seated). before.known.local.met ≤ t.known.local.met) (sym s.made) (counted_by small (found == before.known.local.seen_cur))

  most_by : (won : Bool) → (by won).known.local.met ≤ before.known.local.met + 1
  most_by true = omega arith
  most_by false = not_above before.known.local.met before.known.local.fresh

  -- at most one refusal is met
  exchange_most : after.known.local.met ≤ before.known.local.met + 1
  exchange_most = subst (λ (t : Seated). t.known.local.met ≤ before.known.local.met + 1) (sym s.made) (most_by (found == before.known.local.seen_cur))

  step_by : (won : Bool) → (by won).known.local.steps ≤ before.known.local.steps + 1
  step_by true = omega arith
  step_by false = omega arith

  one_step : after.known.local.steps ≤ before.known.local.steps + 1
  one_step = subst (λ (t : Seated). t.known.local.steps ≤ before.known.local.steps + 1) (sym s.made) (step_by (found == before.known.local.seen_cur))

  since_by : (won : Bool) → min before.known.local.steps max_word ≤ (by won).known.local.steps
  since_by true = omega arith
  since_by false = omega arith

  exchange_since : min before.known.local.steps max_word ≤ after.known.local.steps
  exchange_since = subst (λ (t : Seated). min before.known.local.steps max_word ≤ t.known.local.steps) (sym s.made) (since_by (found == before.known.local.seen_cur))

  -- the step found a later code, or put one there
  exchange_steps : (x : Result WonRight Right) → 1 ≤ r.callers → root_place_of r.callers before.known.local.seen_cur < place_in before.known.local.downgraded → Exchanges r.callers before after x →
      after.known.local.steps + before.known.local.seen_cur ≤ before.known.local.steps + after.known.local.seen_cur
  exchange_steps (Ok won) some below exchanged =
      let above = code_above r.callers before.known.local.seen_cur before.known.local.downgraded some below in
      let seen = exchanged.seen ∙ exchanged.code in
      omega (arith, seen, above, one_step)
  exchange_steps (Err given) some below exchanged = (let later = exchanged.later in omega (arith, later, one_step))

  pub exchange_leaves : (x : Result WonRight Right) → 1 ≤ r.callers → before.known.local.met < 2 ^ 64 → root_place_of r.callers before.known.local.seen_cur < place_in before.known.local.downgraded → Exchanges r.callers before after x → KeepsRest r 0 before after
  exchange_leaves x some small below exchanged = record {
    of = s.seat;
    front = exchange_front;
    met = exchange_met;
    counted = exchange_counted small;
    since = exchange_since;
    most = exchange_most;
    steps = (let most = exchange_steps x some below exchanged in omega (arith, most));
    rest = exchange_rest;
  }

  pub exchanged : (held : Right) (x : Result WonRight Right) → before.known.local.won ≡ None → TriedPublish r.callers before held after found x → Exchanges r.callers before after x
  exchanged held (Ok won) none tried =
      let is = is_by true (eq-eqb found before.known.local.seen_cur tried.0) in
      record {
        code = tried.2;
        token = tried.3;
        ended = ap (λ (t : Seated). t.known.local.downgraded) is;
        seen = ap (λ (t : Seated). t.known.local.seen_cur) is ∙ sym tried.2;
        stale = ap (λ (t : Seated). t.known.local.fresh) is;
      }
  exchanged held (Err given) none tried =
      let lost : (found == before.known.local.seen_cur) ≡ false =
      elim (cases_Bool (found == before.known.local.seen_cur)) [ inl e ↦ absurd (tried.0 (eqb-true found before.known.local.seen_cur e)) | inr e ↦ e ] in
      let is = is_by false lost in
      let seen : after.known.local.seen_cur ≡ found = ap (λ (t : Seated). t.known.local.seen_cur) is in
      let not_less = s.found_word in
      record {
        token = tried.2;
        held = ap (λ (t : Seated). t.known.local.downgraded) is;
        none = ap (λ (t : Seated). t.known.local.won) is ∙ none;
        later = subst (λ n. before.known.local.seen_cur < n) (sym seen) (rises found before.known.local.seen_cur not_less tried.0);
        stale = ap (λ (t : Seated). t.known.local.fresh) is;
      }
    where
      rises : (x y : ℕ) → y ≤ x → x ≢ y → y < x
      rises x y least apart = elim (cases_Bool (y == x)) [ inl e ↦ absurd (apart (sym (eqb-true y x e))) | inr e ↦ omega (arith, least, e) ]
