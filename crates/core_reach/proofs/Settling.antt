-- A caller publishes a replica at the history's end, or finds one published, and raises DUR by its code: then each of its entries is answered. It
-- holds no replica then.
use Rattle.std.proofs.Common.{◌≡◌, ◌∙◌, ◌+◌, ◌-◌, ◌<◌, ◌≤◌, inl, inr, IsNone, ℕ, max, false, cond, List, [], ◌∷◌, ◌++◌, Option, None, Some, length, map, slice_index, ap, refl, sym, subst, arith, option_map}
use Rattle.std.proofs.lemmas.Bool.{cases_lt, eq-eqb, lt-ltb}
use Rattle.std.proofs.lemmas.List.{append-nil, get_or-set_same, length-append, length-map, length-take, same_lists}
use Rattle.std.proofs.lemmas.Option.{get_or_from_slice_get, same_Some, slice_get-map, slice_get_cases, slice_get_within}
use Rattle.std.specs.List.{slice_get}
use Rattle.core_reach.proofs.PuttingDown.{Same, backed_off_given}
use Rattle.core_reach.proofs.Steps.{Here, Reached, andthen, history_same, made, stay, step, stepped}
use Rattle.core_reach.proofs.Storing.{Downgraded, gives_replica}
use Rattle.core_reach.specs.Reaching.{answer_to}
use Rattle.core_replica.proofs.OwnLaws.{answered_own, own_linked, own_reply}
use Rattle.cx_base.specs.Codes.{root_code_of, root_place_of}
use Rattle.cx_core.proofs.ListLemmas.{item_below}
use Rattle.cx_core.proofs.RootCodes.{code_place}
use Rattle.cx_core.specs.Events.{Guard}
use Rattle.cx_core.specs.Free.{HoldsNone}
use Rattle.cx_core.specs.History.{reply_at}
use Rattle.cx_core.specs.Layout.{cur_at}
use Rattle.cx_core.specs.Merge.{scene_of}
use Rattle.cx_core.specs.Region.{object_part}
use Rattle.cx_core.specs.RootEvents.{IsAbove, answers_below, code_in, loaded_cur, outrun, published, raised_by, reply_after}
use Rattle.cx_core.specs.State.{Instance, Scene, State, one_more}
use Rattle.cx_core.specs.declared.entry.Entry.{Entry}
use Rattle.cx_core.specs.declared.kinds.Kind.{Kind}
use Rattle.cx_core.specs.declared.kinds.Kind.TheVariants.{BackOff, LoadCur, Publish, Raise, Retire}
use Rattle.cx_core.specs.declared.local.Answer.{Answer}
use Rattle.cx_core.specs.declared.local.HeldDowngraded.{HeldDowngraded}
use Rattle.cx_core.specs.declared.local.Linked.{Linked}
use Rattle.cx_core.specs.declared.local.Local.{Local}

-- `l'` has the entries, cells and reads of `l`. Each entry is answered, it holds no replica, and the code last seen in CUR has `place` or a later
-- place.
pub record Settled (instance : Instance) (place : ℕ) (l l' : Local) : Type 0 where
  pub same : Same l l'
  pub rests : HoldsNone l'
  pub all : length l'.answered ≡ length l'.own
  pub seen : place ≤ root_place_of instance.callers l'.seen_cur

-- a raise to the history's end answers whatever waits
module _ (instance : Instance) (caller : ℕ) (history : List Entry) (s : State) (l : Local) (here : Here instance caller history s l) where
  -- no more entries are answered than the caller has
  few_answers : length l.answered ≤ length l.own
  few_answers =
      let same = ap length (here.law.tickets.each caller l here.at).answered in
      omega (arith, same, length-map l.answered (λ (x : Answer). x.ticket), length-map l.own (λ (x : Linked). x.ticket), length-take (length l.answered) (map (λ (x : Linked). x.ticket) l.own))

  -- after a raise of DUR by a code with a place at the history's end or above, as many entries are answered as the caller has
  raise_answers : (scene : Scene) (code : ℕ) → instance.base.place + length history ≤ root_place_of instance.callers code →
      length (raised_by instance scene code None l).answered ≡ length l.own
  raise_answers scene code past =
      let place = root_place_of instance.callers code in
      let few = few_answers in
      let one = (here.law.tickets.each caller l here.at).one in
      let count = λ (o : Option Linked). length (l.answered ++ answers_below instance scene.history place o) in
      elim (slice_get_cases l.own (length l.answered)).1 [
        -- its last entry `x` waits: its ticket is below the code's place, so the raise answers it
        | inl waits ↦ (
            let x = waits.0 in
            let linked = own_linked instance here.law.history s.locals caller l here.law.tickets here.at (length l.answered) x waits.2 in
            let within = slice_get_within here.law.history (x.ticket - instance.base.place) x.entry linked.1 in
            let below : x.ticket < place = omega (arith, linked.0, within, ap length (history_same instance caller history s l here), past) in
            ap count waits.2
            ∙ ap (λ b. length (l.answered ++ cond b (answer_to instance scene.history x ∷ []) [])) (lt-ltb x.ticket place below)
            ∙ length-append l.answered (answer_to instance scene.history x ∷ [])
            ∙ omega (arith, waits.1, few, one))
        -- no entry waits, and the raise answers none
        | inr none ↦ ap count none.1 ∙ length-append l.answered [] ∙ omega (arith, none.0, few)
      ]

-- `l0` is the caller's local state before it is settled
module _ (instance : Instance) (caller : ℕ) (history : List Entry) (l0 : Local) where
  -- the number of callers
  abbrev callers : ℕ
  callers = instance.callers

  -- the history's end: the place after its last entry
  abbrev end_ : ℕ
  end_ = instance.base.place + length history

  -- the caller, which has a replica downgraded at the history's end, loads CUR
  module _ (s : State) (l : Local) (here : Here instance caller history s l) (given : Downgraded callers l0 end_ l) where
    -- the code in CUR
    abbrev cur : ℕ
    cur = slice_index s.words cur_at

    -- the caller's local state after the load of CUR
    abbrev seen : Local
    seen = loaded_cur callers l cur

    -- the state after the load of CUR
    abbrev seen_state : State
    seen_state = made instance caller s l LoadCur

    -- the state after the load of CUR is lawful and has the same history; the caller's local state there is `seen`
    here_seen : Here instance caller history seen_state seen
    here_seen = stepped instance caller s l seen LoadCur history here tt refl refl

    -- after the load CUR has the same code
    still_cur : slice_index seen_state.words cur_at ≡ cur
    still_cur = get_or-set_same s.words cur_at cur 0 (omega (arith, here.law.shape.long))

    -- the code of CUR has a place at the history's end or above: DUR is raised by that code, and the caller backs off
    module _ (past : end_ ≤ root_place_of callers cur) where
      -- the caller's local state after DUR is raised by the code of CUR
      abbrev raised : Local
      raised = raised_by instance (scene_of instance seen_state) cur None seen

      -- the step that raises DUR by the code of CUR, and answers no read
      abbrev raise : Kind
      raise = Raise cur None

      -- the state after DUR is raised by the code of CUR
      abbrev raised_state : State
      raised_state = made instance caller seen_state seen raise

      -- the state after the raise is lawful and has the same history; the caller's local state there is `raised`
      here_raised : Here instance caller history raised_state raised
      here_raised = stepped instance caller seen_state seen raised raise history here_seen (inl refl, tt) refl refl

      -- the caller's local state after it backs off from the replica that it had downgraded
      abbrev back : Local
      back = record raised { downgraded = None; steps = one_more raised.steps }

      -- the step by which the caller backs off from the replica that it has downgraded
      abbrev back_off : Kind
      back_off = BackOff given.replica

      -- the caller may back off from the replica, since it has it downgraded
      can_back_off : Guard instance (scene_of instance raised_state) back_off raised
      can_back_off = (given.small, inr (inr (ap (λ (o : Option HeldDowngraded). option_map (λ (h : HeldDowngraded). h.replica) o) given.downgraded)))

      -- the state after the caller backs off is lawful and has the same history; the caller's local state there is `back`
      here_back : Here instance caller history (made instance caller raised_state raised back_off) back
      here_back = stepped instance caller raised_state raised back back_off history here_raised can_back_off (backed_off_given raised given.replica given.shared given.passer) refl

      -- some run of three steps, the load of CUR, the raise and the backing off, leads to a state in which each of the caller's entries is answered,
      -- and it holds no replica (`Settled`)
      found_past : Reached instance caller history s (λ _ l'. Settled instance end_ l0 l')
      found_past =
          step instance caller s l LoadCur history history here tt
          (step instance caller seen_state seen raise history history here_seen (inl refl, tt)
          (step instance caller raised_state raised back_off history history here_raised can_back_off
          (stay instance caller _ back history here_back (record {
            same = record { own = given.same.own; cells = given.same.cells; reads = append-nil l.seen_reads ∙ given.same.reads };
            rests = record { exclusive = given.exclusive; shared = given.shared; passer = given.passer; downgraded = refl; won = given.won };
            all = raise_answers instance caller history seen_state seen here_seen (scene_of instance seen_state) cur past;
            seen = past;
          }))))

    -- the code of CUR has a place below the history's end: the replica is published, DUR raised by its code, and the win retired
    module _ (not_past : root_place_of callers cur < end_) where
      -- the root code of the caller's replica at the history's end
      abbrev code : ℕ
      code = root_code_of callers end_ given.replica

      -- the caller's local state after it published its replica, where the code published is `c`
      abbrev won_with : ℕ → Local
      won_with c = record seen {
        downgraded = None;
        won = Some (record { code = c; before = seen.seen_cur });
        seen_cur = c;
        front = max seen.front (root_place_of callers c);
        fresh = false;
        steps = one_more seen.steps;
      }

      -- the caller's local state after it published its replica at the history's end
      abbrev won : Local
      won = won_with code

      -- the state after the publication
      abbrev won_state : State
      won_state = made instance caller seen_state seen Publish

      -- the publication is allowed: the replica's place is above that of CUR, and the caller has no win
      can_publish : Guard instance (scene_of instance seen_state) Publish seen
      can_publish = (subst (IsAbove callers cur) (sym given.downgraded) not_past, subst IsNone (sym given.won) refl)

      -- the state after the publication is lawful and has the same history; the caller's local state there is `won`
      here_won : Here instance caller history won_state won
      here_won = stepped instance caller seen_state seen won Publish history here_seen can_publish
          (ap (λ b. cond b (published callers seen) (outrun callers seen (slice_index seen_state.words cur_at))) (eq-eqb (slice_index seen_state.words cur_at) cur still_cur)
          ∙ ap (λ (o : Option HeldDowngraded). won_with (code_in callers o)) given.downgraded) refl

      -- the caller's local state after DUR is raised by the code published
      abbrev acked : Local
      acked = raised_by instance (scene_of instance won_state) code None won

      -- the step that raises DUR by the code published, and answers no read
      abbrev ack : Kind
      ack = Raise code None

      -- the state after DUR is raised by the code published
      abbrev acked_state : State
      acked_state = made instance caller won_state won ack

      -- the state after the raise is lawful and has the same history; the caller's local state there is `acked`
      here_acked : Here instance caller history acked_state acked
      here_acked = stepped instance caller won_state won acked ack history here_won (inl refl, tt) refl refl

      -- the caller's local state after its win is retired
      abbrev retired : Local
      retired = record acked { won = None; steps = one_more acked.steps }

      -- the win may be retired, since DUR was raised by its code
      can_retire : Guard instance (scene_of instance acked_state) Retire acked
      can_retire = (let most : code ≤ max won.raised code = omega arith in most)

      -- the state after the win is retired is lawful and has the same history; the caller's local state there is `retired`
      here_retired : Here instance caller history (made instance caller acked_state acked Retire) retired
      here_retired = stepped instance caller acked_state acked retired Retire history here_acked can_retire refl refl

      -- the code published has a place at the history's end or above
      past_code : end_ ≤ root_place_of callers code
      past_code = omega (arith, code_place callers end_ given.replica given.small)

      -- some run of four steps, the load of CUR, the publication, the raise and the retirement, leads to a state in which each of the caller's
      -- entries is answered, and it holds no replica (`Settled`)
      published_past : Reached instance caller history s (λ _ l'. Settled instance end_ l0 l')
      published_past =
          step instance caller s l LoadCur history history here tt
          (step instance caller seen_state seen Publish history history here_seen can_publish
          (step instance caller won_state won ack history history here_won (inl refl, tt)
          (step instance caller acked_state acked Retire history history here_acked can_retire
          (stay instance caller _ retired history here_retired (record {
            same = record { own = given.same.own; cells = given.same.cells; reads = append-nil l.seen_reads ∙ given.same.reads };
            rests = record { exclusive = given.exclusive; shared = given.shared; passer = given.passer; downgraded = refl; won = refl };
            all = raise_answers instance caller history won_state won here_won (scene_of instance won_state) code past_code;
            seen = past_code;
          })))))

    -- whatever the place of CUR, some run of a caller that has a replica downgraded at the history's end leads to a state in which each of the
    -- caller's entries is answered, and it holds no replica (`Settled`)
    settled_then : Reached instance caller history s (λ _ l'. Settled instance end_ l0 l')
    settled_then = elim (cases_lt (root_place_of callers cur) end_) [ inl not_past ↦ published_past not_past | inr past ↦ found_past past ]

-- whatever a caller holds and waits for, some run settles it: then each of its entries is answered, and it holds no replica
pub settles : (instance : Instance) (caller : ℕ) (history : List Entry) (s : State) (l : Local) → Here instance caller history s l → 0 < length instance.base.words →
    Reached instance caller history s (λ _ l'. Settled instance (instance.base.place + length history) l l')
settles instance caller history s l here some =
    andthen instance caller s history history (gives_replica instance caller history s l here some) (λ s1 l1 here1 given. settled_then instance caller history l s1 l1 here1 given)

-- in a lawful state in which as many entries are answered as there are, each has the answer that the history gives. `each`: what the caller has as
-- answer `i`, `x`, is the history's answer to its entry `i`, `y`.
pub answered_all : (instance : Instance) (caller : ℕ) (history : List Entry) (s : State) (l : Local) → Here instance caller history s l → length l.answered ≡ length l.own →
    l.answered ≡ map (answer_to instance history) l.own
answered_all instance caller history s l here all =
    let law = here.law in
    let same = history_same instance caller history s l here in
    let answer = answer_to instance law.history in
    let each : (i : ℕ) (x : Answer) → slice_get l.answered i ≡ Some x → slice_get (map answer l.own) i ≡ Some x = λ i x item.
    (let own = answered_own instance law.history s.locals caller l law.tickets here.at i x item in
    let y = own.0 in
    let mine = own_reply instance law.history s.locals caller l law.tickets here.at i y own.1 in
    let reply : x.reply ≡ reply_after instance law.history y.ticket y.entry.op =
    same_Some _ _ (sym ((law.answers.each caller l here.at).entries i x item).reply ∙ ap (reply_at instance.step instance.base.place (object_part instance.base.words) law.history) (sym own.2) ∙ mine) in
    let answer_is : answer y ≡ x =
    ap (λ (t : ℕ). record { ticket = t; reply = reply_after instance law.history y.ticket y.entry.op }) own.2 ∙ ap (λ (r : List ℕ). record { ticket = x.ticket; reply = r }) (sym reply) in
    slice_get-map answer l.own i ∙ ap (option_map answer) own.1 ∙ ap Some answer_is) in
    same_lists l.answered (map answer l.own) (all ∙ sym (length-map l.own answer)) (λ k d within.
    (let item = item_below l.answered k within in
    get_or_from_slice_get l.answered k item.0 d item.1 ∙ sym (get_or_from_slice_get (map answer l.own) k item.0 d (each k item.0 item.1))))
    ∙ ap (λ (h : List Entry). map (answer_to instance h) l.own) same
