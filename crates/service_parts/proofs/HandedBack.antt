-- Callers that are handed back one by one are the service's.
use Rattle.std.proofs.Common.{◌≡◌, ◌<◌, ℕ, suc, List, [], ◌∷◌, length, get_or, map, refl, ap₂, ◌∙◌, arith, All}
use Rattle.std.proofs.lemmas.List.Elements.{All-cons, All-nil}
use Rattle.table_invariant.specs.Running.{IsSeatOf, Running}
use Rattle.table_invariant.specs.Seats.{Seated}
use Rattle.cx_table.specs.Remains.{AreSeats}
use Rattle.cx_service.specs.declared.close.Handed.{Handed}
use Rattle.cx_service.specs.Closes.{seat_of, seats_of}
use Rattle.service_parts.specs.Callers.{IsHandedBy, TellsEach}

module _ {O W : Type 0} (r : Running O) (handed : W → Handed) where
  abbrev number : Seated → ℕ
  number s = s.known.local.number

  -- the seats of those that are handed back
  abbrev after : List W → List Seated
  after news = seats_of (map handed news)

  -- each is handed back
  abbrev pub AllBack : List Seated → List W → Type 0
  AllBack olds news = (k : ℕ) (d : Seated) (e : W) → k < length olds → IsHandedBy r (get_or olds k d) (handed (get_or news k e))

  both : (olds : List Seated) (news : List W) → length news ≡ length olds → AllBack olds news → All (IsSeatOf r) (after news) × (map number (after news) ≡ map number olds)
  both [] [] long each = (All-nil (IsSeatOf r), refl)
  both [] (x ∷ news) long each = absurd (omega (arith, long))
  both (s ∷ olds) [] long each = absurd (omega (arith, long))
  both (s ∷ olds) (x ∷ news) long each =
      let head = each 0 s x (omega arith) in
      let rest = both olds news (omega (arith, long)) (λ k d e below. each (suc k) d e (omega (arith, below))) in
      (All-cons (IsSeatOf r) (seat_of (handed x)) (after news) head.same.of rest.0, ap₂ (λ (n : ℕ) (ns : List ℕ). n ∷ ns) head.same.number rest.1)

  pub seats_after : (olds : List Seated) (news : List W) → length news ≡ length olds → AllBack olds news → AreSeats r olds → AreSeats r (after news)
  seats_after olds news long each all = (let b = both olds news long each in record { of = b.0; numbers = b.1 ∙ all.numbers })

-- what is said of the output of each is so of its caller
pub tells_each : {W T : Type 0} (tells : Seated → Seated → T → Type 0) (handed : W → Handed) (output : W → T) (olds : List Seated) (news : List W) → length news ≡ length olds
    → ((k : ℕ) (d : Seated) (e : W) → k < length olds → tells (get_or olds k d) (seat_of (handed (get_or news k e))) (output (get_or news k e))) → TellsEach tells olds (seats_of (map handed news)) (map output news)
tells_each tells handed output [] [] long each = tt
tells_each tells handed output [] (x ∷ news) long each = absurd (omega (arith, long))
tells_each tells handed output (s ∷ olds) [] long each = absurd (omega (arith, long))
tells_each tells handed output (s ∷ olds) (x ∷ news) long each =
    (each 0 s x (omega arith), tells_each tells handed output olds news (omega (arith, long)) (λ k d e below. each (suc k) d e (omega (arith, below))))
