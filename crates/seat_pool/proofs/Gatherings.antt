-- Callers that are gathered.
use Rattle.std.proofs.Common.{◌≡◌, ◌<◌, ◌≤◌, ◌+◌, List, [], ◌∷◌, ◌++◌, length, sym, refl, ap, ◌∙◌, subst, arith}
use Rattle.std.specs.Prelude.{Option, Some, None}
use Rattle.std.proofs.lemmas.List.{append-nil, length-append}
use Rattle.std.proofs.lemmas.List.Elements.{All-append, All-nil, All-pop, All-push}
use Rattle.table_invariant.specs.Running.{Running}
use Rattle.table_invariant.specs.Seats.{Seated}
use Rattle.cx_service.specs.Callers.{IsCallerOf}
use Rattle.cx_service.specs.declared.close.Handed.{Handed}
use Rattle.cx_service.specs.declared.close.Handed.TheVariants.{Idle}
use Rattle.crossbeam_queue.specs.Fifo.{Held}
use Rattle.crossbeam_queue.specs.Passes.{view}
use Rattle.atomic_table.specs.Seated.{TableId}
use Rattle.std.specs.Option.{option_to_list}
use Rattle.seat_pool.specs.declared.lent.Lent.{Lent}
use Rattle.seat_pool.specs.Gathering.{Gathers, IsGathering, IsHandedOf, IsLentOf, IsTakingIn, handed_calls, handed_reads, if_stopped, kept_list, lent_kept, lent_reads, lent_calls, handed_number}
use Rattle.seat_pool.specs.Pooling.{IsPassWhole, TellsRoom, all_parts, both, calls_of, total_weight, with_taken}
use Rattle.seat_pool.specs.declared.hand.LenderPass.{LenderPass}
use Rattle.seat_pool.specs.declared.hand.AnsweredCall.{AnsweredCall}
use Rattle.seat_pool.proofs.Poolings.{total_both, units}

module _ {O : Type 0} (r : Running O) where
  -- as many are gathered as are held
  pub as_many : (held : List Seated) (xs : List Handed) → Gathers r held xs → length xs ≡ length held
  as_many held xs g = omega (arith, units Handed xs, units Seated held, g.numbers (λ _. 1))

  -- where `xs` gathers the callers held in `a`, and `ys` those in `b`, both lists one after the other gather the callers of both
  pub gathers_both : (a b : List Seated) (xs ys : List Handed) → Gathers r a xs → Gathers r b ys → Gathers r (a ++ b) (xs ++ ys)
  gathers_both a b xs ys g k = record {
    of = All-append (IsHandedOf r) xs ys g.of k.of;
    numbers = λ h. omega (arith, g.numbers h, k.numbers h, total_both (λ (x : Handed). h (handed_number x)) xs ys, total_both (λ (x : Seated). h x.known.local.number) a b);
    untold = g.untold ++ k.untold;
    calls = λ h. omega (arith, g.calls h, k.calls h, total_both (handed_calls h) xs ys, total_both (λ (x : Seated). total_weight h (calls_of x)) a b, total_both h g.untold k.untold);
    few = λ h. omega (arith, g.few h, k.few h, total_both (if_stopped h) xs ys, total_both (λ (t : AnsweredCall). h t.caller) g.untold k.untold);
    reads = λ h. omega (arith, g.reads h, k.reads h, total_both (handed_reads h) xs ys, total_both (λ (x : Seated). total_weight h x.known.local.seen_reads) a b);
  }

  -- a caller comes out of the queue
  pub gathers_taken : (v : LenderPass) (xs : List Handed) (x : Seated) → Gathers r v.held xs → IsCallerOf r x → Gathers r (with_taken v x).held (xs ++ Idle x ∷ [])
  gathers_taken v xs x g is = record {
    of = All-push (IsHandedOf r) xs (Idle x) g.of is;
    numbers = λ h. omega (arith, g.numbers h, total_both (λ (y : Handed). h (handed_number y)) xs (Idle x ∷ []));
    untold = g.untold;
    calls = λ h. omega (arith, g.calls h, total_both (handed_calls h) xs (Idle x ∷ []));
    few = λ h. omega (arith, g.few h, total_both (if_stopped h) xs (Idle x ∷ []));
    reads = λ h. omega (arith, g.reads h, total_both (handed_reads h) xs (Idle x ∷ []));
  }

  -- to take in a client that keeps no caller adds what its pass holds, and no further caller
  pub gathers_no_more : (v w : LenderPass) (xs : List Handed) (kept : Option Handed) → kept ≡ None → Gathers r v.held xs → Gathers r w.held (kept_list kept) → Gathers r (both v w).held xs
  gathers_no_more v w xs kept none g k =
      let l = subst (λ (o : Option Handed). Gathers r w.held (kept_list o)) none k in
      subst (λ ys. Gathers r (v.held ++ w.held) ys) (append_none xs) (gathers_both v.held w.held xs [] g l)
    where
      append_none : (ys : List Handed) → ys ++ [] ≡ ys
      append_none [] = refl
      append_none (y ∷ ys) = ap (λ zs. y ∷ zs) (append_none ys)

  -- to take in a client that keeps a caller adds what its pass holds, and that caller
  pub gathers_kept : (v w : LenderPass) (xs : List Handed) (kept : Option Handed) (x : Handed) → kept ≡ Some x → Gathers r v.held xs → Gathers r w.held (kept_list kept) → Gathers r (both v w).held (xs ++ x ∷ [])
  gathers_kept v w xs kept x some g k = gathers_both v.held w.held xs (x ∷ []) g (subst (λ (o : Option Handed). Gathers r w.held (kept_list o)) some k)

  -- there is room among the callers gathered for the one that a client keeps
  pub kept_fits : (v w : LenderPass) (xs : List Handed) (kept : Option Handed) (x : Handed) → kept ≡ Some x → Gathers r v.held xs → Gathers r w.held (kept_list kept) → length (both v w).held ≤ r.callers → length xs < r.callers
  kept_fits v w xs kept x some g k most =
      let l = subst (λ (o : Option Handed). Gathers r w.held (kept_list o)) some k in
      omega (arith, as_many v.held xs g, as_many w.held (x ∷ []) l, length-append v.held w.held, most)

  -- a pass that gathers callers still does where it takes the idle caller `x` out of the queue, which is gathered as one more
  pub still_gathering : (before v w : LenderPass) (xs : List Handed) (x : Seated) → IsGathering r before v xs → IsCallerOf r x → w ≡ with_taken v x → IsGathering r before w (xs ++ Idle x ∷ [])
  still_gathering before v w xs x g is taken = subst (λ (u : LenderPass). IsGathering r before u (xs ++ Idle x ∷ [])) (sym taken) (record {
    home = g.home;
    parts = g.parts;
    placed = g.placed;
    told_calls = g.told_calls;
    shown = g.shown;
    gathers = gathers_taken v xs x g.gathers is;
  })

-- where the queue is empty, the pass with every part knows that it holds all
pub drained : (v w : LenderPass) → v.parts ≡ all_parts → w ≡ v → Held 0 (TellsRoom v) → IsPassWhole w []
drained v w parts same ([], long, tells) = subst (λ (u : LenderPass). IsPassWhole u []) (sym same) (tells.whole parts)
drained v w parts same (x ∷ items, long, tells) = absurd (omega (arith, long))

-- what is gathered for a pass is gathered for an equal one
pub as_held : {O : Type 0} (r : Running O) (v w : LenderPass) (xs ys : List Handed) → w ≡ v → ys ≡ xs → Gathers r v.held xs → Gathers r w.held ys
as_held r v w xs ys same list g = subst (λ (u : LenderPass). Gathers r u.held ys) (sym same) (subst (λ zs. Gathers r v.held zs) (sym list) g)

module _ {O : Type 0} (r : Running O) (table : TableId) where
  pub gathers_none : (held : List Seated) (xs : List Handed) → held ≡ [] → xs ≡ [] → Gathers r held xs
  gathers_none held xs none empty = subst (λ l. Gathers r l xs) (sym none) (subst (λ l. Gathers r [] l) (sym empty) (record {
    of = All-nil (IsHandedOf r);
    numbers = λ h. refl;
    untold = [];
    calls = λ h. refl;
    few = λ h. omega arith;
    reads = λ h. omega arith;
  }))

  -- the last one that is left
  pub last_of : (all : List Lent) (v : LenderPass) (rest after : List Lent) (found : Option Lent) (x : Lent) (xs : List Handed) → IsTakingIn r table all v rest xs → rest ≡ after ++ option_to_list found → found ≡ Some x → IsLentOf r table x
  last_of all v rest after found x xs k popped some = (All-pop (IsLentOf r table) rest after (Some x) (popped ∙ ap (λ (o : Option Lent). after ++ option_to_list o) some) k.lents).1

  -- one more of what was lent, `x`, is taken in: its pass is joined to `v`, and the caller that its client kept is gathered
  pub takes_more : (all : List Lent) (v w : LenderPass) (rest after : List Lent) (found : Option Lent) (x : Lent) (xs ys : List Handed) → IsTakingIn r table all v rest xs → rest ≡ after ++ option_to_list found → found ≡ Some x
      → w ≡ both v (view x.pass) → Gathers r w.held ys → ys ≡ xs ++ kept_list x.kept → IsTakingIn r table all w after ys
  takes_more all v w rest after found x xs ys k popped some same gathers more =
      let is = last_of all v rest after found x xs k popped some in
      let u = both v (view x.pass) in
      let left : rest ≡ after ++ x ∷ [] = popped ∙ ap (λ (o : Option Lent). after ++ option_to_list o) some in
      let long : length rest ≡ length after + 1 = ap length left ∙ length-append after (x ∷ []) in
      subst (λ (t : LenderPass). IsTakingIn r table all t after ys) (sym same) (record {
        home = k.home;
        some = (let some_ = k.some in omega (arith, some_));
        parts = omega (arith, k.parts, is.parts, long);
        placed = ap (λ l. v.placed ++ l) is.placed ∙ append-nil v.placed ∙ k.placed;
        told_calls = λ h. (
            let was : total_weight (lent_calls h) rest ≡ total_weight (lent_calls h) (after ++ x ∷ []) = ap (total_weight (lent_calls h)) left in
            omega (arith, was, k.told_calls h, total_both (lent_calls h) after (x ∷ []), total_both h v.told_calls (view x.pass).told_calls));
        shown = λ h. (
            let was : total_weight (lent_reads h) rest ≡ total_weight (lent_reads h) (after ++ x ∷ []) = ap (total_weight (lent_reads h)) left in
            omega (arith, was, k.shown h, total_both (lent_reads h) after (x ∷ []), total_both h v.shown (view x.pass).shown));
        kept = λ f. (
            let was : total_weight (lent_kept f) rest ≡ total_weight (lent_kept f) (after ++ x ∷ []) = ap (total_weight (lent_kept f)) left in
            let grown : total_weight f ys ≡ total_weight f (xs ++ kept_list x.kept) = ap (total_weight f) more in
            omega (arith, was, grown, k.kept f, total_both (lent_kept f) after (x ∷ []), total_both f xs (kept_list x.kept)));
        lents = (All-pop (IsLentOf r table) rest after (Some x) left k.lents).0;
        gathers = subst (λ (t : LenderPass). Gathers r t.held ys) same gathers;
      })
