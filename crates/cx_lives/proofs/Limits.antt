-- The limits of a life's clients.
use Rattle.std.proofs.Common.{◌≡◌, ◌+◌, ◌<◌, ◌≤◌, ◌==◌, ◌-◌, ◌^◌, ℕ, suc, true, false, List, ◌∷◌, length, map, drop, get_or, sym, ap, ◌∙◌, arith, if◌then◌else◌}
use Rattle.std.specs.List.{range_with_len}
use Rattle.std.proofs.Math.Seq.{drop-cons}
use Rattle.std.proofs.lemmas.List.{drop_all}
use Rattle.std.specs.Prelude.{All, slice_index}
use Rattle.std.proofs.lemmas.List.FromFn.{get_or-map-range_with_len, length-map-range_with_len}
use Rattle.cx_core.specs.declared.entry.Base.{Base}
use Rattle.table_invariant.specs.Running.{Running}
use Rattle.table_invariant.specs.Seats.{Seated}
use Rattle.cx_service.specs.Starts.{Starts}
use Rattle.cx_table.specs.Remains.{opening_seat}
use Rattle.life_records.specs.Limits.{IsLifeInLimits}
use Rattle.life_records.specs.Scripts.{limit_in}
use Rattle.life_records.specs.Records.{Cut, Life, Meaning}
use Rattle.cx_lives.specs.Ends.{IsNewIn}
use Rattle.cx_lives.specs.Life.{CanRun}

-- the cuts from the i-th on are the i-th cut and those behind it
cut_next : (client i : ℕ) (cuts : List Cut) (cut : Cut) → i < length cuts → cut ≡ get_or cuts i cut → drop i cuts ≡ cut ∷ drop (i + 1) cuts
cut_next client i cuts cut within is =
    let next : suc i ≡ i + 1 = omega arith in
    drop-cons cuts i cut within ∙ ap (λ (c : Cut). c ∷ drop (suc i) cuts) (sym is) ∙ ap (λ (n : ℕ). cut ∷ drop n cuts) next

pub cut_here : (client i limit : ℕ) (cuts : List Cut) (cut : Cut) → i < length cuts → cut ≡ get_or cuts i cut → (cut.client == client) ≡ true → limit_in client (drop i cuts) ≡ limit → cut.steps ≡ limit
cut_here client i limit cuts cut within is yours so_far =
    let next : limit_in client (cut ∷ drop (i + 1) cuts) ≡ limit = ap (limit_in client) (sym (cut_next client i cuts cut within is)) ∙ so_far in
    ap (λ b. if b then cut.steps else limit_in client (drop (i + 1) cuts)) (sym yours) ∙ next

pub cut_passed : (client i limit : ℕ) (cuts : List Cut) (cut : Cut) → i < length cuts → cut ≡ get_or cuts i cut → (cut.client == client) ≡ false → limit_in client (drop i cuts) ≡ limit → limit_in client (drop (i + 1) cuts) ≡ limit
cut_passed client i limit cuts cut within is other so_far =
    let next : limit_in client (cut ∷ drop (i + 1) cuts) ≡ limit = ap (limit_in client) (sym (cut_next client i cuts cut within is)) ∙ so_far in
    ap (λ b. if b then cut.steps else limit_in client (drop (i + 1) cuts)) (sym other) ∙ next

pub cuts_over : (client i limit : ℕ) (cuts : List Cut) → length cuts ≤ i → limit_in client (drop i cuts) ≡ limit → 2 ^ 64 - 1 ≡ limit
cuts_over client i limit cuts over so_far = ap (limit_in client) (sym (drop_all i cuts over)) ∙ so_far

-- a service that was started with the limits of a life's clients can run it
module _ {O Op Reply Store : Type 0} where
  pub can_run : (m : Meaning Op Reply Store) (life : Life Op) (limits : List ℕ) (base : Base) (object : O) (lines : ℕ) (service : Running O) (seats : List Seated) → limits ≡ map (λ client. limit_in client life.cuts) (range_with_len 0 life.clients)
      → Starts object lines life.clients limits base service seats → IsLifeInLimits m.is_op 8 life → base.place + length life.commands ≤ 2 ^ 40 → CanRun m life service seats
  can_run m life limits base object lines service seats limits_are starts within tickets =
      let seat : ℕ → Seated = opening_seat service limits in
      let long : length seats ≡ life.clients = ap length starts.opened ∙ length-map-range_with_len seat 0 life.clients in
      let new : All (IsNewIn life service) seats = λ k d less. (
      let below : k < life.clients = omega (arith, less, long) in
      let here : 0 + k ≡ k = omega arith in
      let same : get_or seats k d ≡ seat k = ap (λ (xs : List Seated). get_or xs k d) starts.opened ∙ get_or-map-range_with_len seat 0 life.clients k k d below here in
      let limit : slice_index limits k ≡ limit_in k life.cuts = ap (λ (xs : List ℕ). slice_index xs k) limits_are ∙ get_or-map-range_with_len (λ client. limit_in client life.cuts) 0 life.clients k k 0 below here in
      record {
        caller = starts.each k d less;
        own = ap (λ (s : Seated). s.known.local.own) same;
        answered = ap (λ (s : Seated). s.known.local.answered) same;
        reads = ap (λ (s : Seated). s.known.local.seen_reads) same;
        limit = ap (λ (s : Seated). s.known.local.limit) same ∙ limit ∙ ap (λ (s : Seated). limit_in s.known.local.number life.cuts) (sym same);
      }) in
      let place : service.base.place ≡ base.place = ap (λ (r : Running O). r.base.place) starts.is in
      record {
        seats = starts.all;
        new = new;
        clients = long;
        limits = within;
        tickets = omega (arith, place, tickets);
      }
