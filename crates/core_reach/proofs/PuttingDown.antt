-- A caller puts down what it holds: a shared right, a passer's mark, a downgraded right and a win. An exclusive right stays.
use Rattle.std.proofs.Common.{◌≡◌, ◌∙◌, ◌*◌, ◌<◌, ◌≤◌, ◌⊎◌, inl, inr, ℕ, Bool, max, cond, List, Option, None, Some, ap, refl, sym, subst, arith, option_map}
use Rattle.std.proofs.lemmas.Bool.{eq-eqb}
use Rattle.std.proofs.lemmas.List.{append-nil}
use Rattle.core_reach.proofs.Steps.{Here, Reached, andthen, made, stay, step, stepped}
use Rattle.core_replica.proofs.Unheld.{downgraded_one}
use Rattle.cx_core.proofs.Claims.{shared_one}
use Rattle.cx_core.proofs.Sums.{on_same}
use Rattle.cx_core.specs.Events.{Guard}
use Rattle.cx_core.specs.LockEvents.{backed_off}
use Rattle.cx_core.specs.Merge.{scene_of}
use Rattle.cx_core.specs.Rights.{is_at, is_on, rights_on}
use Rattle.cx_core.specs.RootEvents.{CanRetire, IsWonCode, raised_by}
use Rattle.cx_core.specs.State.{Instance, State, one_more}
use Rattle.cx_core.specs.declared.entry.Entry.{Entry}
use Rattle.cx_core.specs.declared.kinds.Kind.{Kind}
use Rattle.cx_core.specs.declared.kinds.Kind.TheVariants.{BackOff, Raise, Retire}
use Rattle.cx_core.specs.declared.local.HeldDowngraded.{HeldDowngraded}
use Rattle.cx_core.specs.declared.local.HeldShared.{HeldShared}
use Rattle.cx_core.specs.declared.local.Local.{Local}

-- `l'` has the entries, the cells and the acknowledged reads of `l`
pub record Same (l l' : Local) : Type 0 where
  pub own : l'.own ≡ l.own
  pub cells : l'.cells ≡ l.cells
  pub reads : l'.seen_reads ≡ l.seen_reads

-- of four things `l'` has put down the first `n`: 1 the shared right, 2 the passer's mark, 3 the downgraded right, 4 the win. Its entries, cells and
-- reads are those of `l`.
pub record PutDown (n : ℕ) (l l' : Local) : Type 0 where
  pub same : Same l l'
  pub shared : 0 < n → l'.shared ≡ None
  pub passer : 1 < n → l'.passer ≡ None
  pub downgraded : 2 < n → l'.downgraded ≡ None
  pub won : 3 < n → l'.won ≡ None

-- an option is `None`, or `Some x` for some `x`
pub option_cases : {X : Type 0} (o : Option X) → (o ≡ None) ⊎ ((x : X) × (o ≡ Some x))
option_cases None = inl refl
option_cases (Some x) = inr (x, refl)

-- the local state after the caller backs off from the replica that it holds shared
abbrev unshared : Local → Local
unshared l = record l { shared = None; steps = one_more l.steps }

-- the local state after the caller takes its passer's mark back
abbrev unpassed : Local → Local
unpassed l = record l { passer = None; steps = one_more l.steps }

-- the local state after the caller backs off from the replica that it has downgraded
abbrev ungiven : Local → Local
ungiven l = record l { downgraded = None; steps = one_more l.steps }

-- whether a shared right, if there is one, is on the replica `r`
abbrev shared_at : ℕ → Option HeldShared → Bool
shared_at r o = is_at r (option_map (λ (h : HeldShared). h.replica) o)

-- where `l` has no shared right and no passer's mark, backing off ends its downgraded right
pub backed_off_given : (l : Local) (r : ℕ) → l.shared ≡ None → l.passer ≡ None → backed_off r l ≡ record l { downgraded = None; steps = one_more l.steps }
backed_off_given l r shared passer =
    ap (λ (o : Option HeldShared). cond (shared_at r o) (unshared l) (cond (is_at r l.passer) (unpassed l) (ungiven l))) shared
    ∙ ap (λ (o : Option ℕ). cond (is_at r o) (unpassed l) (ungiven l)) passer

-- `l0` is the caller's local state before it put anything down, `l` the one in the state `s`
module _ (instance : Instance) (caller : ℕ) (history : List Entry) (l0 : Local) (s : State) (l : Local) (here : Here instance caller history s l) where
  -- a caller's right is on a replica that there is
  below : (r : ℕ) → 0 < rights_on instance.callers r l → r < 2 * instance.callers
  below r some = (here.law.locks.few caller l here.at).below r some

  -- where backing off from the replica `r` is allowed (`can`) and leads to `l'` (`is`), in which the first `n` things are put down (`down`), some run
  -- leads there
  back_off : (r : ℕ) (n : ℕ) (l' : Local) → Guard instance (scene_of instance s) (BackOff r) l → backed_off r l ≡ l' → l'.own ≡ l.own → PutDown n l0 l' →
      Reached instance caller history s (λ _ l'. PutDown n l0 l')
  back_off r n l' can is own down =
      step instance caller s l (BackOff r) history history here can (stay instance caller _ l' history (stepped instance caller s l l' (BackOff r) history here can is own) down)

  -- from any local state since `l0` (`PutDown 0`) some run puts down the first of the four things, the shared right (`PutDown 1`). `then_`: in any
  -- local state without a shared right it is put down.
  put_shared : PutDown 0 l0 l → Reached instance caller history s (λ _ l'. PutDown 1 l0 l')
  put_shared down =
      let then_ = λ (l' : Local) (same : Same l0 l') (none : l'.shared ≡ None). (let d : PutDown 1 l0 l' = record {
        same = same;
        shared = λ _. none;
        passer = λ less. absurd (omega arith);
        downgraded = λ less. absurd (omega arith);
        won = λ less. absurd (omega arith);
      } in d) in
      elim (option_cases l.shared) [
        -- it has no shared right: no step is made
        | inl none ↦ stay instance caller s l history here (then_ l down.same none)
        -- it holds the replica `r` shared, and backs off
        | inr held ↦ (
            let r = held.0.replica in
            let one = shared_one l held.0 held.1 in
            let rest = cond (is_at r l.passer) (unpassed l) (ungiven l) in
            back_off r 1 (unshared l) (below r (omega arith), inl (ap (option_map (λ (h : HeldShared). h.replica)) held.1))
            (ap (λ (o : Option HeldShared). cond (shared_at r o) (unshared l) rest) held.1 ∙ ap (λ b. cond b (unshared l) rest) (eq-eqb r r refl)) refl
            (then_ (unshared l) (record { own = down.same.own; cells = down.same.cells; reads = down.same.reads }) refl))
      ]

  -- where the first of the four things was put down since the local state `l0` (`PutDown 1`), some run puts down the second, the passer's mark
  -- (`PutDown 2`). `none`: there is no shared right.
  put_passer : PutDown 1 l0 l → Reached instance caller history s (λ _ l'. PutDown 2 l0 l')
  put_passer down =
      let none = down.shared (omega arith) in
      let then_ = λ (l' : Local) (same : Same l0 l') (shared : l'.shared ≡ None) (passer : l'.passer ≡ None). (let d : PutDown 2 l0 l' = record {
        same = same;
        shared = λ _. shared;
        passer = λ _. passer;
        downgraded = λ less. absurd (omega arith);
        won = λ less. absurd (omega arith);
      } in d) in
      elim (option_cases l.passer) [
        -- it has no passer's mark: no step is made
        | inl passer ↦ stay instance caller s l history here (then_ l down.same none passer)
        -- it left a mark on the replica `r`, and takes it back
        | inr held ↦ (
            let r = held.0 in
            let one : is_on r l.passer ≡ 1 = ap (is_on r) held.1 ∙ on_same r r refl in
            back_off r 2 (unpassed l) (below r (omega arith), inr (inl held.1))
            (ap (λ (o : Option HeldShared). cond (shared_at r o) (unshared l) (cond (is_at r l.passer) (unpassed l) (ungiven l))) none
            ∙ ap (λ (o : Option ℕ). cond (is_at r o) (unpassed l) (ungiven l)) held.1
            ∙ ap (λ b. cond b (unpassed l) (ungiven l)) (eq-eqb r r refl)) refl
            (then_ (unpassed l) (record { own = down.same.own; cells = down.same.cells; reads = down.same.reads }) none refl))
      ]

  -- where the first two of the four things were put down since the local state `l0` (`PutDown 2`), some run puts down the third, the downgraded right
  -- (`PutDown 3`)
  put_downgraded : PutDown 2 l0 l → Reached instance caller history s (λ _ l'. PutDown 3 l0 l')
  put_downgraded down =
      let shared = down.shared (omega arith) in
      let passer = down.passer (omega arith) in
      let then_ = λ (l' : Local) (same : Same l0 l') (none : l'.shared ≡ None) (no_mark : l'.passer ≡ None) (downgraded : l'.downgraded ≡ None). (let d : PutDown 3 l0 l' = record {
        same = same;
        shared = λ _. none;
        passer = λ _. no_mark;
        downgraded = λ _. downgraded;
        won = λ less. absurd (omega arith);
      } in d) in
      elim (option_cases l.downgraded) [
        -- it has no downgraded right: no step is made
        | inl downgraded ↦ stay instance caller s l history here (then_ l down.same shared passer downgraded)
        -- it has the replica `r` downgraded, and backs off
        | inr held ↦ (
            let r = held.0.replica in
            let one = downgraded_one l held.0 held.1 in
            back_off r 3 (ungiven l) (below r (omega arith), inr (inr (ap (option_map (λ (h : HeldDowngraded). h.replica)) held.1)))
            (backed_off_given l r shared passer) refl
            (then_ (ungiven l) (record { own = down.same.own; cells = down.same.cells; reads = down.same.reads }) shared passer refl))
      ]

  -- where the first three of the four things were put down since the local state `l0` (`PutDown 3`), some run puts down the fourth, the win (`PutDown
  -- 4`): DUR is raised by the code that won, and the win retired. `l1` is the local state after the raise, `l2` the one after the retirement.
  put_won : PutDown 3 l0 l → Reached instance caller history s (λ _ l'. PutDown 4 l0 l')
  put_won down =
      let shared = down.shared (omega arith) in
      let passer = down.passer (omega arith) in
      let downgraded = down.downgraded (omega arith) in
      elim (option_cases l.won) [
        -- it has no win: no step is made
        | inl none ↦ stay instance caller s l history here (record { same = down.same; shared = λ _. shared; passer = λ _. passer; downgraded = λ _. downgraded; won = λ _. none })
        -- its win has the code `code`, by which it raises DUR
        | inr held ↦ (
            let code = held.0.code in
            let raise : Kind = Raise code None in
            let can_raise : Guard instance (scene_of instance s) raise l = (inr (subst (IsWonCode code) (sym held.1) refl), tt) in
            let l1 : Local = raised_by instance (scene_of instance s) code None l in
            let l2 : Local = record l1 { won = None; steps = one_more l1.steps } in
            let s1 = made instance caller s l raise in
            let here1 : Here instance caller history s1 l1 = stepped instance caller s l l1 raise history here can_raise refl refl in
            let can_retire : Guard instance (scene_of instance s1) Retire l1 = subst (CanRetire (max l.raised code)) (sym held.1) (let most : code ≤ max l.raised code = omega arith in most) in
            let here2 : Here instance caller history (made instance caller s1 l1 Retire) l2 = stepped instance caller s1 l1 l2 Retire history here1 can_retire refl refl in
            let put : PutDown 4 l0 l2 = record {
              same = record { own = down.same.own; cells = down.same.cells; reads = append-nil l.seen_reads ∙ down.same.reads };
              shared = λ _. shared;
              passer = λ _. passer;
              downgraded = λ _. downgraded;
              won = λ _. refl;
            } in
            step instance caller s l raise history history here can_raise (step instance caller s1 l1 Retire history history here1 can_retire (stay instance caller _ l2 history here2 put)))
      ]

-- whatever a caller holds, some run puts down its shared right, passer's mark, downgraded right and win. It begins with the first 0 of the four put
-- down (`none`).
pub puts_down : (instance : Instance) (caller : ℕ) (history : List Entry) (s : State) (l : Local) → Here instance caller history s l → Reached instance caller history s (λ _ l'. PutDown 4 l l')
puts_down instance caller history s l here =
    let none : PutDown 0 l l = record {
      same = record { own = refl; cells = refl; reads = refl };
      shared = λ less. absurd (omega arith);
      passer = λ less. absurd (omega arith);
      downgraded = λ less. absurd (omega arith);
      won = λ less. absurd (omega arith);
    } in
    andthen instance caller s history history (put_shared instance caller history l s l here none) (λ s1 l1 here1 down1.
    andthen instance caller s1 history history (put_passer instance caller history l s1 l1 here1 down1) (λ s2 l2 here2 down2.
    andthen instance caller s2 history history (put_downgraded instance caller history l s2 l2 here2 down2) (λ s3 l3 here3 down3.
    put_won instance caller history l s3 l3 here3 down3)))
