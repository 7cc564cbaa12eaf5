-- The stop lines of the works that are left.
use Rattle.std.proofs.Common.{◌≡◌, ◌+◌, ◌<◌, ◌≤◌, ◌||◌, ◌==◌, ℕ, suc, Bool, true, false, List, [], ◌∷◌, ◌++◌, length, drop, get_or, Result, sym, ap, ◌∙◌, refl, arith}
use Rattle.std.specs.Prelude.{All}
use Rattle.std.specs.declared.alloc.AllocError.{AllocError}
use Rattle.std.proofs.Math.Seq.{drop-cons}
use Rattle.std.proofs.lemmas.List.{drop_all}
use Rattle.std.proofs.lemmas.List.Elements.{All-append, All-weaker}
use Rattle.life_records.specs.Lives.{is_stopped}
use Rattle.life_records.specs.Records.{FullLine, StopLine}
use Rattle.cx_lives.specs.Works.{stop_of_worker, stops_left}
use Rattle.cx_lives.specs.declared.work.WorkerOutcome.{WorkerOutcome}

-- a client is stopped in two lists of lines where it is in one of them
pub stopped_both : (client : ℕ) (xs ys : List StopLine) → is_stopped client (xs ++ ys) ≡ is_stopped client xs || is_stopped client ys
stopped_both client [] ys = refl
stopped_both client (x ∷ xs) ys = ap (λ b. (x.client == client) || b) (stopped_both client xs ys) ∙ sym (or_assoc (x.client == client) (is_stopped client xs) (is_stopped client ys))
  where
    or_assoc : (a b c : Bool) → (a || b) || c ≡ a || (b || c)
    or_assoc true b c = refl
    or_assoc false b c = refl

module _ {Reply : Type 0} (client i : ℕ) (works : List (Result (WorkerOutcome Reply) AllocError)) (work : Result (WorkerOutcome Reply) AllocError) (within : i < length works) (is : work ≡ get_or works i work) where
  next_left : drop i works ≡ work ∷ drop (i + 1) works
  next_left =
      let next : suc i ≡ i + 1 = omega arith in
      drop-cons works i work within ∙ ap (λ (w : Result (WorkerOutcome Reply) AllocError). w ∷ drop (suc i) works) (sym is) ∙ ap (λ (n : ℕ). work ∷ drop n works) next

  parts : is_stopped client (stops_left (drop i works)) ≡ is_stopped client (stop_of_worker work) || is_stopped client (stops_left (drop (i + 1) works))
  parts = ap (λ ws. is_stopped client (stops_left ws)) next_left ∙ stopped_both client (stop_of_worker work) (stops_left (drop (i + 1) works))

  -- where the worker looked at next has the client's stop line, the answer is that the client was stopped
  pub stopped_here : (b : Bool) → is_stopped client (stop_of_worker work) ≡ true → b ≡ is_stopped client (stops_left (drop i works)) → b ≡ true
  stopped_here b here so_far = so_far ∙ parts ∙ ap (λ t. t || is_stopped client (stops_left (drop (i + 1) works))) here

  -- where the worker looked at next does not have the client's stop line, the answer is that of the workers behind it
  pub stopped_later : (b : Bool) → is_stopped client (stop_of_worker work) ≡ false → b ≡ is_stopped client (stops_left (drop i works)) → b ≡ is_stopped client (stops_left (drop (i + 1) works))
  stopped_later b here so_far = so_far ∙ parts ∙ ap (λ t. t || is_stopped client (stops_left (drop (i + 1) works))) here

-- where all workers were looked at, and none has the client's stop line, the answer is that the client was not stopped
pub stopped_never : {Reply : Type 0} → (client i : ℕ) (works : List (Result (WorkerOutcome Reply) AllocError)) (b : Bool) → length works ≤ i → b ≡ is_stopped client (stops_left (drop i works)) → b ≡ false
stopped_never client i works b over so_far = so_far ∙ ap (λ ws. is_stopped client (stops_left ws)) (drop_all i works over)

or_more : (a t s r : Bool) → (t ≡ true → s ≡ true) → a || (t || r) ≡ true → (a || s) || r ≡ true
or_more true t s r f e = refl
or_more false true s r f e = rw (f refl) refl
or_more false false true r f e = refl
or_more false false false r f e = e

-- a client that was stopped stays so where one client's work is put to the others
stopped_more : (client : ℕ) (before own now left : List StopLine) → (is_stopped client own ≡ true → is_stopped client now ≡ true) → is_stopped client (before ++ (own ++ left)) ≡ true → is_stopped client ((before ++ now) ++ left) ≡ true
stopped_more client before own now left f e =
    let a = is_stopped client before in
    let t = is_stopped client own in
    let s = is_stopped client now in
    let k = is_stopped client left in
    let was : a || (t || k) ≡ true = sym (stopped_both client before (own ++ left) ∙ ap (λ b. a || b) (stopped_both client own left)) ∙ e in
    stopped_both client (before ++ now) left ∙ ap (λ b. b || k) (stopped_both client before now) ∙ or_more a t s k f was

-- the holders of all full lines were stopped, as these stop lines say
abbrev pub HoldersStopped : List StopLine → List FullLine → Type 0
HoldersStopped stops fulls = All (λ (line : FullLine). is_stopped line.note.holder stops ≡ true) fulls

-- the holders of all full lines were stopped, also with one client's work more, where the holders of that client's own full lines were
pub holders_more : (before now own left : List StopLine) (fulls more : List FullLine) → ((client : ℕ) → is_stopped client own ≡ true → is_stopped client now ≡ true) → HoldersStopped (before ++ (own ++ left)) fulls
    → HoldersStopped (before ++ left) more → HoldersStopped ((before ++ now) ++ left) (fulls ++ more)
holders_more before now own left fulls more f was new =
    All-append (λ (line : FullLine). is_stopped line.note.holder ((before ++ now) ++ left) ≡ true) fulls more
    (All-weaker (λ (line : FullLine). is_stopped line.note.holder (before ++ (own ++ left)) ≡ true) (λ (line : FullLine). is_stopped line.note.holder ((before ++ now) ++ left) ≡ true)
    (λ line e. stopped_more line.note.holder before own now left (f line.note.holder) e) fulls was)
    (All-weaker (λ (line : FullLine). is_stopped line.note.holder (before ++ left) ≡ true) (λ (line : FullLine). is_stopped line.note.holder ((before ++ now) ++ left) ≡ true)
    (λ line e. stopped_more line.note.holder before [] now left (λ none. cc) e) more new)
