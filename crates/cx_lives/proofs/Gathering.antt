-- One client's work more among all.
use Rattle.std.proofs.Common.{◌≡◌, ℕ, zero, suc, ◌+◌, Bool, true, false, ◌||◌, List, [], ◌∷◌, ◌++◌, length, get_or, drop, map, slice_get, Option, None, Some, sym, ap, subst, ◌∙◌, refl, inl, inr, arith}
use Rattle.std.specs.Prelude.{MatchBool, Result, IfOk, Ok}
use Rattle.std.specs.List.{range_with_len}
use Rattle.std.specs.Option.{option_to_list}
use Rattle.std.specs.declared.alloc.AllocError.{AllocError}
use Rattle.std.proofs.lemmas.List.{length-map, map-append, length-append}
use Rattle.std.proofs.lemmas.List.FromFn.{length-range_with_len}
use Rattle.std.proofs.lemmas.List.Elements.{All-push}
use Rattle.cx_core.proofs.Locals.{slice_get-last, slice_get-push}
use Rattle.cx_core.proofs.ListLemmas.{slice_get-append_left}
use Rattle.cx_core.specs.declared.local.Local.{Local}
use Rattle.table_invariant.specs.Running.{IsSeatOf, Running}
use Rattle.table_invariant.specs.Seats.{Seated}
use Rattle.cx_service.specs.Closes.{seat_of, seats_of}
use Rattle.cx_service.specs.declared.close.Handed.{Handed}
use Rattle.cx_table.specs.Remains.{AreSeats, locals_of}
use Rattle.life_records.specs.Works.{AreWorks, IsWork}
use Rattle.life_records.specs.Records.{FullLine, JournalLine, Life, Meaning, ReadLine, StopLine}
use Rattle.cx_lives.specs.declared.progress.End.{End}
use Rattle.cx_lives.specs.declared.progress.End.TheVariants.{Whole, Stopped, Full, Impossible}
use Rattle.cx_lives.specs.declared.progress.Work.{Work}
use Rattle.cx_lives.specs.declared.gather.GatheredWork.{GatheredWork}
use Rattle.cx_lives.specs.Ends.{CannotBe, IsEndOf, IsWorkOf, full_in, stop_in}
use Rattle.cx_lives.specs.Works.{AreResultsFrom, AreResultsOf}
use Rattle.cx_lives.specs.Gathering.{AddsWork, AreGathered, HasImpossibleEnd, IsLocalIn, is_impossible}

abbrev number : Seated → ℕ
number s = s.known.local.number

range_more : (a n : ℕ) → range_with_len a (suc n) ≡ range_with_len a n ++ (a + n) ∷ []
range_more a zero = (let same : a ≡ a + 0 = omega arith in ap (λ k. k ∷ []) same)
range_more a (suc n) =
    let same : a + 1 + n ≡ a + suc n = omega arith in
    ap (λ ks. a ∷ ks) (range_more (a + 1) n ∙ ap (λ k. range_with_len (a + 1) n ++ k ∷ []) same)

-- the numbers of the first ones in order, and of one more
pub numbers_more : {X : Type 0} (number_of : X → ℕ) (xs : List X) (x : X) (ys : List X) (n : ℕ) → ys ≡ xs ++ x ∷ [] → map number_of xs ≡ range_with_len 0 n → number_of x ≡ n → map number_of ys ≡ range_with_len 0 (suc n)
numbers_more number_of xs x ys n are numbers last =
    let here : number_of x ≡ 0 + n = omega arith in
    ap (map number_of) are ∙ map-append number_of xs (x ∷ []) ∙ ap (λ ks. ks ++ number_of x ∷ []) numbers ∙ ap (λ k. range_with_len 0 n ++ k ∷ []) here ∙ sym (range_more 0 n)

-- the local states of callers as they were handed in
abbrev pub locals_in : List Handed → List Local
locals_in handed = locals_of (seats_of handed)

locals_more : (xs : List Handed) (h : Handed) → locals_in (xs ++ h ∷ []) ≡ locals_in xs ++ (seat_of h).known.local ∷ []
locals_more [] h = refl
locals_more (x ∷ xs) h = ap (λ ls. (seat_of x).known.local ∷ ls) (locals_more xs h)

pub locals_long : (xs : List Handed) → length (locals_in xs) ≡ length xs
locals_long [] = refl
locals_long (x ∷ xs) = ap suc (locals_long xs)

module _ {Op Reply Store : Type 0} (m : Meaning Op Reply Store) (life : Life Op) (ls : List Local) (l : Local) where
  impossible_stays : HasImpossibleEnd m life ls → HasImpossibleEnd m life (ls ++ l ∷ [])
  impossible_stays h = record { client = h.client; local = h.local; of_client = slice_get-append_left ls (l ∷ []) h.client h.local h.of_client; is = h.is }

  impossible_now : CannotBe m life (length ls) l → HasImpossibleEnd m life (ls ++ l ∷ [])
  impossible_now is = record { client = length ls; local = l; of_client = slice_get-last ls l; is = is }

  module _ (es es' : List (JournalLine Reply)) (rs rs' : List (ReadLine Reply)) (ss : List StopLine) (fs : List FullLine)
      (go_on : (stop : Option StopLine) (full : Option FullLine) → AreWorks m.encoding life ls es rs ss fs → IsWork m.encoding life (length ls) l es' rs' stop full
      → AreWorks m.encoding life (ls ++ l ∷ []) (es ++ es') (rs ++ rs') (ss ++ option_to_list stop) (fs ++ option_to_list full)) where
    works_more : (b : Bool) (end_ : End) → MatchBool b (HasImpossibleEnd m life ls) (AreWorks m.encoding life ls es rs ss fs) → IsEndOf m life (length ls) l es' rs' end_
        → MatchBool (b || is_impossible end_) (HasImpossibleEnd m life (ls ++ l ∷ [])) (AreWorks m.encoding life (ls ++ l ∷ []) (es ++ es') (rs ++ rs') (ss ++ stop_in end_) (fs ++ full_in end_))
    works_more true end_ w e = impossible_stays w
    works_more false Whole w e = go_on None None w e
    works_more false (Stopped line) w e = go_on (Some line) None w e
    works_more false (Full line) w e = go_on None (Some line) w e
    works_more false Impossible w e = impossible_now e

-- what the laws of lines say of one client more
module _ {Op Reply Store : Type 0} where
  abbrev pub GoesOn : (m : Meaning Op Reply Store) → Life Op → Type 0
  GoesOn m life =
      (locals : List Local) (l : Local) (entries es : List (JournalLine Reply)) (reads rs : List (ReadLine Reply)) (stops : List StopLine) (stop : Option StopLine) (fulls : List FullLine) (full : Option FullLine) →
      AreWorks m.encoding life locals entries reads stops fulls → IsWork m.encoding life (length locals) l es rs stop full →
      AreWorks m.encoding life (locals ++ l ∷ []) (entries ++ es) (reads ++ rs) (stops ++ option_to_list stop) (fulls ++ option_to_list full)

pub gathered_more : {O Op Reply Store : Type 0} (m : Meaning Op Reply Store) (life : Life Op) (r : Running O) (before after : GatheredWork Reply) (work : Work Reply) → GoesOn m life → AreGathered m life r before → AddsWork before after work → IsWorkOf m life r (length before.handed.items) work
    → AreGathered m life r after
gathered_more m life r before after work go_on g adds w =
    let hs = before.handed.items in
    let ls = locals_in hs in
    let s = seat_of work.handed in
    let l = s.known.local in
    let n = length hs in
    let seats : seats_of after.handed.items ≡ seats_of hs ++ s ∷ [] = ap seats_of adds.handed ∙ map-append seat_of hs (work.handed ∷ []) in
    let locals : locals_in after.handed.items ≡ ls ++ l ∷ [] = ap locals_in adds.handed ∙ locals_more hs work.handed in
    let long : length ls ≡ n = locals_long hs in
    let longer : length after.handed.items ≡ suc n = omega (arith, ap length adds.handed, length-append hs (work.handed ∷ [])) in
    let own : IsLocalIn life n l = record { limit = w.caller.limit; few = w.caller.few } in
    let at_long = subst (λ k. IsEndOf m life k l work.lines.entries.items work.lines.reads.items work.end) (sym long) w.ends in
    let more = works_more m life ls l before.lines.entries.items work.lines.entries.items before.lines.reads.items work.lines.reads.items before.ends.stops.items before.ends.fulls.items
    (λ stop full. go_on ls l before.lines.entries.items work.lines.entries.items before.lines.reads.items work.lines.reads.items before.ends.stops.items stop before.ends.fulls.items full) before.ends.impossible work.end g.works at_long in
    record {
      of = rw seats (All-push (IsSeatOf r) (seats_of hs) s g.of w.caller.of);
      numbers = numbers_more number (seats_of hs) s (seats_of after.handed.items) n seats g.numbers w.caller.by ∙ ap (range_with_len 0) (sym longer);
      each = λ i x at. elim (slice_get-push ls l i x (ap (λ xs. slice_get xs i) (sym locals) ∙ at)) [
        | inl there ↦ g.each i x there
        | inr new ↦ subst (IsLocalIn life i) new.1 (subst (λ k. IsLocalIn life k l) (sym (new.0 ∙ long)) own)
      ];
      works = rw (locals, adds.entries, adds.reads, adds.stops, adds.fulls, adds.impossible) more;
    }

-- the results of workers whose numbers go on from `k`, by these numbers
pub numbered : {Worker Done : Type 0} (IsOf : ℕ → Done → Type 0) (number_of : Worker → ℕ) (k : ℕ) (workers : List Worker) (works : List (Result Done AllocError)) → length works ≡ length workers → map number_of workers ≡ range_with_len k (length workers)
    → AreResultsOf (λ (w : Worker). IsOf (number_of w)) workers works → AreResultsFrom IsOf k works
numbered IsOf number_of k [] [] long numbers each = tt
numbered IsOf number_of k (w ∷ ws) (d ∷ ds) long numbers each =
    let first : number_of w ≡ k = ap (λ (xs : List ℕ). get_or xs 0 0) numbers in (
      subst (λ i. IfOk d (IsOf i)) first (each 0 d w (omega arith)),
      numbered IsOf number_of (k + 1) ws ds (omega (arith, long)) (ap (λ (xs : List ℕ). drop 1 xs) numbers) (λ i d e within. each (suc i) d e (omega (arith, within))),
    )
numbered IsOf number_of k _ _ long numbers each = absurd (omega (arith, long))

-- the result of the first of some workers, where it found memory, is one of that worker's client, and the results of the others are of the
-- clients after it
pub first_result : {Done : Type 0} (IsOf : ℕ → Done → Type 0) (k : ℕ) (works left : List (Result Done AllocError)) (first : Result Done AllocError) (done : Done) → works ≡ first ∷ left → first ≡ Ok done → AreResultsFrom IsOf k works → IsOf k done × AreResultsFrom IsOf (k + 1) left
first_result {Done} IsOf k works left first done is was all = subst (AreResultsFrom IsOf k) (is ∙ ap (λ (w : Result Done AllocError). w ∷ left) was) all

-- as many seats as callers
pub seats_long : {O : Type 0} (r : Running O) (seats : List Seated) → AreSeats r seats → length seats ≡ r.callers
seats_long r seats are = omega (arith, ap length are.numbers, length-map seats number, length-range_with_len 0 r.callers)

-- what is put together of all callers has all seats
pub gathered_seats : {O Op Reply Store : Type 0} (m : Meaning Op Reply Store) (life : Life Op) (r : Running O) (callers : List Seated) (g : GatheredWork Reply) → AreSeats r callers → length g.handed.items ≡ length callers → AreGathered m life r g → AreSeats r (seats_of g.handed.items)
gathered_seats m life r callers g are long gathered =
    let few = seats_long r callers are in
    let all : length g.handed.items ≡ r.callers = omega (arith, long, few) in
    record { of = gathered.of; numbers = gathered.numbers ∙ ap (range_with_len 0) all }
