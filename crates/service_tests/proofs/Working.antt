-- Callers that are handed back one by one are the service's.
use Rattle.std.proofs.Common.{◌≡◌, ◌<◌, ℕ, suc, List, [], ◌∷◌, length, get_or, map, refl, ap₂, ◌∙◌, arith, All}
use Rattle.std.proofs.lemmas.List.Elements.{All-cons, All-nil}
use Rattle.table_invariant.specs.Running.{IsSeatOf, Running}
use Rattle.table_invariant.specs.Seats.{Seated}
use Rattle.cx_table.specs.Remains.{AreSeats}
use Rattle.cx_service.specs.declared.close.Handed.{Handed}
use Rattle.cx_service.specs.Closes.{seat_of}
use Rattle.service_tests.specs.Tests.{IsHandedBack}

module _ {O R : Type 0} (r : Running O) (handed : R → Handed) where
  abbrev number : Seated → ℕ
  number s = s.known.local.number

  abbrev after : R → Seated
  after x = seat_of (handed x)

  -- each is handed back
  abbrev pub AllBack : List Seated → List R → Type 0
  AllBack olds news = (k : ℕ) (d : Seated) (e : R) → k < length olds → IsHandedBack r (get_or olds k d) (handed (get_or news k e))

  both : (olds : List Seated) (news : List R) → length news ≡ length olds → AllBack olds news → All (IsSeatOf r) (map after news) × (map number (map after news) ≡ map number olds)
  both [] [] long each = (All-nil (IsSeatOf r), refl)
  both [] (x ∷ news) long each = absurd (omega (arith, long))
  both (s ∷ olds) [] long each = absurd (omega (arith, long))
  both (s ∷ olds) (x ∷ news) long each =
      let head = each 0 s x (omega arith) in
      let rest = both olds news (omega (arith, long)) (λ k d e below. each (suc k) d e (omega (arith, below))) in
      (All-cons (IsSeatOf r) (after x) (map after news) head.of.seat rest.0, ap₂ (λ (n : ℕ) (ns : List ℕ). n ∷ ns) head.number rest.1)

  pub seats_after : (olds : List Seated) (news : List R) → length news ≡ length olds → AllBack olds news → AreSeats r olds → AreSeats r (map after news)
  seats_after olds news long each all = (let b = both olds news long each in record { of = b.0; numbers = b.1 ∙ all.numbers })
