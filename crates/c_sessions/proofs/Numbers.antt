-- A caller goes into a session, and the callers stay in order.
use Rattle.std.proofs.Common.{◌≡◌, ◌++◌, ◌∷◌, ℕ, List, [], Option, Some, map, length, ap, sym, ◌∙◌}
use Rattle.std.specs.Option.{option_map_or}
use Rattle.std.proofs.lemmas.List.{append-nil, append_assoc, length-map, map-append}
use Rattle.table_invariant.specs.Seats.{Seated}
use Rattle.cx_service.specs.Closes.{seat_of}
use Rattle.cx_service.specs.declared.close.Handed.{Handed}
use Rattle.cx_service.specs.declared.close.Handed.TheVariants.{Idle}
use Rattle.c_sessions.specs.declared.session.Session.{Session}
use Rattle.c_sessions.specs.Sessions.{caller_number_in}

-- the number of a caller
abbrev pub number_of : Seated → ℕ
number_of x = x.known.local.number

-- Where a caller goes from those left into a session that is made of it, the numbers of the sessions' callers and then of those left stay the same.
pub moved : {O : Type 0} (made now : List (Session O)) (session : Session O) (caller : Seated) (rest left : List Seated) (numbers : List ℕ)
    → now ≡ made ++ session ∷ [] → left ≡ caller ∷ rest → session.handed ≡ Some (Idle caller) → map caller_number_in made ++ map number_of left ≡ numbers
    → map caller_number_in now ++ map number_of rest ≡ numbers
moved made now session caller rest left numbers pushed taken handed before =
    let number : caller_number_in session ≡ number_of caller = ap (λ (h : Option Handed). option_map_or (λ x. (seat_of x).known.local.number) h 0) handed in
    ap (λ ss. map caller_number_in ss ++ map number_of rest) pushed
    ∙ ap (λ ns. ns ++ map number_of rest) (map-append caller_number_in made (session ∷ []))
    ∙ append_assoc (map caller_number_in made) (caller_number_in session ∷ []) (map number_of rest)
    ∙ ap (λ n. map caller_number_in made ++ n ∷ map number_of rest) number
    ∙ ap (λ xs. map caller_number_in made ++ map number_of xs) (sym taken)
    ∙ before

-- where no callers are left, the numbers are those of the sessions' callers
pub ended : {O : Type 0} (made : List (Session O)) (rest : List Seated) (numbers : List ℕ) → length rest ≡ 0 → map caller_number_in made ++ map number_of rest ≡ numbers → map caller_number_in made ≡ numbers
ended made [] numbers none before = sym (append-nil (map caller_number_in made)) ∙ before
ended made (caller ∷ rest) numbers none before = absurd cc

-- there are as many sessions as `numbers`, where these are the numbers of their callers
pub as_many : {O : Type 0} (sessions : List (Session O)) (numbers : List ℕ) → map caller_number_in sessions ≡ numbers → length sessions ≡ length numbers
as_many sessions numbers same = sym (length-map sessions caller_number_in) ∙ ap length same
