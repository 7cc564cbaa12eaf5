-- What the last session needs, and what it makes of it.
use Rattle.std.proofs.Common.{◌≡◌, ◌<◌, ◌≤◌, ◌+◌, ℕ, Bool, List, [], ◌∷◌, ◌++◌, All, arith, length, refl, sym, ap, ◌∙◌, subst}
use Rattle.std.proofs.lemmas.List.{append-nil}
use Rattle.std.proofs.lemmas.List.Elements.{All-nil, All-push}
use Rattle.std.proofs.lemmas.List.FromFn.{length-range_with_len}
use Rattle.std.specs.Prelude.{MatchOption, Option, Some, None}
use Rattle.std.specs.Arc.{arc_value}
use Rattle.std.specs.declared.sync.Arc.{Arc}
use Rattle.std.specs.Global.{Global}
use Rattle.std.specs.List.{range_with_len}
use Rattle.crossbeam_queue.specs.Passes.{Pass, view, IsPassOf}
use Rattle.table_invariant.specs.Running.{Running}
use Rattle.cx_service.specs.declared.close.Handed.{Handed}
use Rattle.seat_pool.specs.Gathering.{AreSame, IsHandedOf, handed_number, kept_list}
use Rattle.seat_pool.specs.Pooling.{total_weight}
use Rattle.seat_pool.proofs.Poolings.{total_both, units}
use Rattle.c_sessions.specs.Closings.{AreAccounted, Closes, ClosesTo}
use Rattle.c_sessions.specs.Handing.{HasTaken, IsExitOf, IsPassIn, IsSessionRestOf}
use Rattle.c_sessions.specs.declared.exit.Account.{Account}
use Rattle.c_sessions.specs.declared.exit.ClosingState.{ClosingState}
use Rattle.c_sessions.specs.Rule.{IsHandedInAt, TellsAll, by_number, callers_known, knows, pass_weighs, pass_with_given, pass_with_taken}
use Rattle.c_sessions.specs.declared.close.Closing.{Closing}
use Rattle.c_sessions.specs.declared.close.Closing.TheVariants.{Others, Again, Closed, Kept, Missing, Shared}
use Rattle.c_sessions.specs.declared.handover.ReturnQueue.{ReturnQueue}
use Rattle.c_sessions.specs.declared.rule.HandedIn.{HandedIn}
use Rattle.c_sessions.specs.declared.rule.Knows.{Knows}
use Rattle.c_sessions.specs.declared.session.Session.{Session}

module _ {O : Type 0} (r : Running O) where
  -- a pass that handed in its caller has taken none out
  pub has_none : (handover : ReturnQueue O) (before after : Pass (HandedIn O) (Knows O)) (number : ℕ) (x : HandedIn O) (gathered : List Handed) → IsPassOf handover.line after → view before ≡ knows (Some r) (number ∷ []) [] [] → view after ≡ pass_with_given (view before) x
      → gathered ≡ [] → HasTaken r (kept_list x.handed) handover after None gathered
  has_none handover before after number x gathered of was is none = record {
    of = of;
    taken = [];
    is = is ∙ ap (λ (v : Knows O). pass_with_given v x) was ∙ ap (λ (gs : List Handed). knows (Some r) [] gs []) (append-nil (kept_list x.handed));
    same = λ f. ap (total_weight f) none;
    each = subst (All (IsHandedOf r)) (sym none) (All-nil (IsHandedOf r));
    share_is = none;
  }

  -- a pass that took one caller more out has it among those that it took out
  pub has_more : (given : List Handed) (handover : ReturnQueue O) (before after : Pass (HandedIn O) (Knows O)) (share : Option (Arc (Running O) Global)) (gathered more : List Handed) (x : HandedIn O) (caller : Handed) → x.handed ≡ Some caller → HasTaken r given handover before share gathered → IsPassOf handover.line after
      → IsHandedInAt (view before).home x → view after ≡ pass_with_taken (view before) x → more ≡ gathered ++ caller ∷ [] → HasTaken r given handover after (Some x.service) more
  has_more given handover before after share gathered more x caller it has of is taken pushed =
      let home : Some (arc_value x.service) ≡ Some r = sym is.share ∙ ap (λ (v : Knows O). v.home) has.is in
      let same : arc_value x.service ≡ r = one_service (arc_value x.service) r home in record {
        of = of;
        taken = caller ∷ has.taken;
        is = taken ∙ ap (λ v. pass_with_taken v x) has.is ∙ ap (λ (o : Option Handed). knows (Some r) [] given (kept_list o ++ has.taken)) it;
        same = λ f. (
            let all : total_weight f more ≡ total_weight f (gathered ++ caller ∷ []) = ap (total_weight f) pushed in
            omega (arith, all, total_both f gathered (caller ∷ []), has.same f));
        each = subst (All (IsHandedOf r)) (sym pushed) (All-push (IsHandedOf r) gathered caller has.each (subst (λ (g : Handed). IsHandedOf r g) (one_caller is.caller caller (sym is.is ∙ it)) (subst (λ (s : Running O). IsHandedOf s is.caller) same is.handed)));
        share_is = same;
      }
    where
      one_service : (one two : Running O) → Some one ≡ Some two → one ≡ two
      one_service one two e = cc

      one_caller : (one two : Handed) → Some one ≡ Some two → one ≡ two
      one_caller one two e = cc

  -- where none was taken out, the pass has what it had
  pub has_same : (given : List Handed) (handover : ReturnQueue O) (before after : Pass (HandedIn O) (Knows O)) (share : Option (Arc (Running O) Global)) (gathered : List Handed) → HasTaken r given handover before share gathered → IsPassOf handover.line after → view after ≡ view before
      → HasTaken r given handover after share gathered
  has_same given handover before after share gathered has of same = record { of = of; taken = has.taken; is = same ∙ has.is; same = has.same; each = has.each; share_is = has.share_is }

  -- a list of length 0 is empty
  none_elsewhere : {X : Type 0} (xs : List X) → length xs ≡ 0 → xs ≡ []
  none_elsewhere [] none = refl
  none_elsewhere (x ∷ xs) none = absurd (omega (arith, none))

  module _ (given : List Handed) (handover : ReturnQueue O) (pass : Pass (HandedIn O) (Knows O)) (share : Option (Arc (Running O) Global)) (gathered : List Handed) (has : HasTaken r given handover pass share gathered) (many : r.callers ≤ length gathered) (tells : TellsAll (view pass)) where
    -- the callers that the pass took out, those that others are to hand in and those left elsewhere are all callers of the service, each once
    counted : (h : ℕ → ℕ) → total_weight (by_number h) has.taken + (total_weight h tells.due + total_weight (by_number h) tells.left) ≡ total_weight h (range_with_len 0 r.callers)
    counted h =
        let held : pass_weighs h (view pass) ≡ 0 + total_weight (by_number h) has.taken = ap (pass_weighs h) has.is in
        let range : total_weight h (range_with_len 0 (callers_known (view pass).home)) ≡ total_weight h (range_with_len 0 r.callers) = ap (λ (v : Knows O). total_weight h (range_with_len 0 (callers_known v.home))) has.is in
        omega (arith, held, range, tells.callers h)

    -- where as many were gathered as the service has callers, none is elsewhere
    few : (length tells.due ≡ 0) × (length tells.left ≡ 0)
    few =
        -- each caller weighs 1, so that weights are lengths
        let all = counted (λ _. 1) in let same = has.same (λ _. 1) in
        let long = units Handed gathered in let took = units Handed has.taken in let due = units ℕ tells.due in let left = units Handed tells.left in let range = units ℕ (range_with_len 0 r.callers) in let callers = length-range_with_len 0 r.callers in
        (omega (arith, many, all, same, long, took, due, left, range, callers), omega (arith, many, all, same, long, took, due, left, range, callers))

    -- as many as the service has callers are all of them, each once
    pub has_all : (h : ℕ → ℕ) → total_weight (λ (g : Handed). h (handed_number g)) gathered ≡ total_weight h (range_with_len 0 r.callers)
    has_all h =
        let due : total_weight h tells.due ≡ 0 = ap (total_weight h) (none_elsewhere tells.due few.0) in
        let left : total_weight (by_number h) tells.left ≡ 0 = ap (total_weight (by_number h)) (none_elsewhere tells.left few.1) in
        omega (arith, due, left, counted h, has.same (by_number h))

    -- where all callers were taken out, these are accounted for by the pass
    pub are_accounted : (account : Account O) (handed : List Handed) → account.pass ≡ pass → AreSame handed gathered → AreAccounted handover given account handed
    are_accounted account handed is order =
        let of = subst (λ (p : Pass (HandedIn O) (Knows O)). IsPassOf handover.line p) (sym is) has.of in
        let seen : view account.pass ≡ knows (Some r) [] given has.taken = ap view is ∙ has.is in
        record {
          of = of;
          taken = λ f. (let same : total_weight f (view account.pass).taken ≡ total_weight f has.taken = ap (λ (v : Knows O). total_weight f v.taken) seen in omega (arith, same, order f, has.same f));
          own = ap (λ (v : Knows O). v.given) seen;
          among = λ f. (
              let left : total_weight f tells.left ≡ 0 = ap (total_weight f) (none_elsewhere tells.left few.1) in
              let gave : total_weight f (view pass).given ≡ total_weight f given = ap (λ (v : Knows O). total_weight f v.given) has.is in
              let took : total_weight f (view pass).taken ≡ total_weight f has.taken = ap (λ (v : Knows O). total_weight f v.taken) has.is in
              omega (arith, left, gave, took, order f, has.same f, tells.accounts f));
        }

  -- where as many were gathered as the service has callers, there is a share of the service
  pub no_share : (share : Option (Arc (Running O) Global)) (gathered : List Handed) → MatchOption share (gathered ≡ []) (λ s. arc_value s ≡ r) → share ≡ None → 0 < r.callers → r.callers ≤ length gathered → ⊥
  no_share None gathered is none some_callers many = (let few : length gathered ≡ 0 = ap length is in absurd (omega (arith, few, some_callers, many)))
  no_share (Some s) gathered is none some_callers many = absurd cc

  -- the share is one of the service
  pub its_share : (share : Option (Arc (Running O) Global)) (s : Arc (Running O) Global) (gathered : List Handed) → MatchOption share (gathered ≡ []) (λ t. arc_value t ≡ r) → share ≡ Some s → arc_value s ≡ r
  its_share None s gathered is same = absurd cc
  its_share (Some t) s gathered is same = ap arc_value (one_share s t same) ∙ is
    where
      one_share : (one two : Arc (Running O) Global) → Some two ≡ Some one → one ≡ two
      one_share one two e = cc

  -- the last session begins with no caller
  pub rest_begins : (exit : ClosingState O) (number : ℕ) (x : HandedIn O) (handover : ReturnQueue O) (pass : Pass (HandedIn O) (Knows O)) → IsExitOf r (number ∷ []) exit → handover ≡ arc_value exit.handover → IsPassOf handover.line pass → view pass ≡ pass_with_given (view exit.pass) x
      → IsSessionRestOf r (kept_list x.handed) (record { service = None; exit = record { handover = exit.handover; pass = pass; gathered = exit.gathered; out = exit.out } })
  rest_begins exit number x handover pass is same of given = record {
    some = is.some;
    count = is.count;
    has = has_none (arc_value exit.handover) exit.pass pass number x exit.gathered.items (subst (λ (h : ReturnQueue O). IsPassOf h.line pass) same of) is.pass_of.is given is.gathered.none;
    gathered = is.gathered.enough;
    out = is.out;
  }

  -- a pass of the callers that it is to hand in
  pub own_due : (due : List ℕ) (handover : ReturnQueue O) (pass : Pass (HandedIn O) (Knows O)) → IsPassIn r due handover pass → IsPassIn r (view pass).due handover pass
  own_due due handover pass is = subst (λ (ns : List ℕ). IsPassIn r ns handover pass) (sym (ap (λ (v : Knows O). v.due) is.is)) is

module _ {O : Type 0} (line_count : O → ℕ) (lawful : O → List ℕ → Type 0) (step : O → List ℕ → List ℕ → List ℕ × List ℕ) (reads : O → List ℕ → Bool) where
  -- what closing the last session has as its result is the result of closing the session `s`
  pub closes : (s : Session O) (closing : Closing O) → ClosesTo line_count lawful step reads (arc_value s.service) (arc_value s.exit.handover) (kept_list s.handed) closing → Closes line_count lawful step reads s closing
  closes s Others to = to
  closes s (Again session) to = absurd to
  closes s (Closed remains account) to = to
  closes s (Kept kept account) to = to
  closes s (Missing rest) to = to
  closes s (Shared rest) to = to
