-- A caller at rest writes an entry into an idle cell and links it at the end of the history.
use Rattle.std.proofs.Common.{◌≡◌, ◌≢◌, ◌∙◌, ◌+◌, ◌-◌, ◌*◌, ◌/◌, ◌%◌, ◌^◌, ◌<◌, ◌≤◌, ◌⊎◌, inl, inr, ℕ, max, false, cond, List, [], ◌∷◌, ◌++◌, Option, None, Some, length, set, slice_index, slice_range, ap, refl, sym, subst, arith}
use Rattle.std.proofs.lemmas.Bool.{cases_eq, cases_lt, eq-eqb, ne_eqb}
use Rattle.std.proofs.lemmas.List.{ext_get_or, get_or-set_other, get_or-set_same, take_all}
use Rattle.std.proofs.lemmas.Nat.{div-add-mod', mod-mul-add, mod_below, mul-le}
use Rattle.core_queue.proofs.LinkLaws.{code_ticket, raised_within}
use Rattle.core_queue.proofs.LiveCells.{linked_callers}
use Rattle.core_queue.proofs.QueueFrames.{queue_of}
use Rattle.core_queue.proofs.Shapes.{cell_there}
use Rattle.core_queue.proofs.TicketLaws.{tickets_linked}
use Rattle.core_reach.proofs.Steps.{Here, Reached, each_of, history_same, keeps, made, makes, stay, step, stepped, there}
use Rattle.cx_base.proofs.WordLemmas.{Words-at}
use Rattle.cx_base.specs.Codes.{link_ticket_of}
use Rattle.cx_base.specs.Memory.{Words}
use Rattle.cx_core.proofs.Locals.{linked_below, linked_within}
use Rattle.cx_core.proofs.MergeLemmas.{history_is}
use Rattle.cx_core.specs.Events.{Guard, local_after}
use Rattle.cx_core.specs.Lawful.{LinkWord}
use Rattle.cx_core.specs.Lawful.LinkWord.{Names, Never}
use Rattle.cx_core.specs.Layout.{cell_count, link_at}
use Rattle.cx_core.specs.Merge.{IsLinked, history_of, scene_of}
use Rattle.cx_core.specs.QueueEvents.{IsIdle, IsIdleAt, ShowsOpen, cell_of, entry_in, linked, lost, next_number, raised_front, seen_word, written}
use Rattle.cx_core.specs.State.{Instance, State, one_more}
use Rattle.cx_core.specs.declared.entry.Entry.{Entry}
use Rattle.cx_core.specs.declared.kinds.Kind.{Kind}
use Rattle.cx_core.specs.declared.kinds.Kind.TheVariants.{Link, Look, WriteCell}
use Rattle.cx_core.specs.declared.local.Cell.{Cell}
use Rattle.cx_core.specs.declared.local.Linked.{Linked}
use Rattle.cx_core.specs.declared.local.Local.{Local}

-- `l` has the entries and answers of `l0`; its cell `j` may be written, and has the first `i` words of `ws`
pub record Writing (l0 : Local) (j : ℕ) (ws : List ℕ) (i : ℕ) (l : Local) : Type 0 where
  pub own : l.own ≡ l0.own
  pub answered : l.answered ≡ l0.answered
  pub idle : IsIdle l j
  pub written : (k : ℕ) → k < i → slice_index (cell_of l j).words k ≡ slice_index ws k

-- a cell that may be written where FREE is `a` may be written where FREE is `b`, which is not below `a`; `o` is the cell's ticket, if any
pub idle_up : (a b : ℕ) (o : Option ℕ) → a ≤ b → IsIdleAt a o → IsIdleAt b o
idle_up a b None up idle = tt
idle_up a b (Some t) up idle = omega arith

-- word `i` of the entry `ws` is written into the caller's cell `j`, which has the words before it
module _ (instance : Instance) (caller : ℕ) (history : List Entry) (l0 : Local) (j : ℕ) (small : j < 16) (ws : List ℕ) (fit : Words 145 ws) (i : ℕ) (s : State) (l : Local) (below : i < 145)
    (here : Here instance caller history s l) (writing : Writing l0 j ws i l) where
  -- word i of the entry is written into cell j
  abbrev put : Kind
  put = WriteCell j i (slice_index ws i)

  -- the caller's local state after word i is written
  abbrev put_local : Local
  put_local = record l { cells = written l j i (slice_index ws i); fresh = false; steps = one_more l.steps }

  -- cell j after word i is written: it has no ticket
  abbrev put_cell : Cell
  put_cell = record (cell_of l j) { words = set (cell_of l j).words i (slice_index ws i); ticket = None }

  -- the word may be written: the cell is idle
  can_put : Guard instance (scene_of instance s) put l
  can_put = (small, below, writing.idle, Words-at 145 ws i fit)

  -- the state after word `i` is written is lawful and has the same history; the caller's local state there is `put_local`
  here_put : Here instance caller history (made instance caller s l put) put_local
  here_put = stepped instance caller s l put_local put history here can_put refl refl

  -- the caller's cell `j` after word `i` is written is `put_cell`
  is_put : cell_of put_local j ≡ put_cell
  is_put = get_or-set_same l.cells j put_cell _ (omega (arith, small, (here.law.shape.each caller l here.at).cells))

  -- after word `i` is written, the first `i + 1` words of cell `j` are those of the entry
  word_put : (k : ℕ) → k < i + 1 → slice_index (cell_of put_local j).words k ≡ slice_index ws k
  word_put k less =
      let shape = here.law.shape.each caller l here.at in
      let long = (shape.each j (cell_of l j) (cell_there caller l j shape small)).words in
      ap (λ (c : Cell). slice_index c.words k) is_put
      ∙ elim (cases_eq k i) as (λ _. slice_index (set (cell_of l j).words i (slice_index ws i)) k ≡ slice_index ws k) [
        | inl e ↦ subst (λ n. slice_index (set (cell_of l j).words i (slice_index ws i)) n ≡ slice_index ws n) (sym e) (get_or-set_same (cell_of l j).words i (slice_index ws i) 0 (omega (arith, below, long)))
        | inr ne ↦ get_or-set_other (cell_of l j).words i k (slice_index ws i) 0 ne ∙ writing.written k (omega arith)
      ]

  -- some run of one step writes word `i` of the entry into cell `j`
  word_written : Reached instance caller history s (λ _ l'. Writing l0 j ws (i + 1) l')
  word_written = step instance caller s l put history history here can_put (stay instance caller _ put_local history here_put (record {
    own = writing.own;
    answered = writing.answered;
    idle = subst (λ (c : Cell). IsIdleAt l.seen_free c.ticket) (sym is_put) tt;
    written = word_put;
  }))

-- all words of an entry are written into an idle cell
pub cell_written : (instance : Instance) (caller : ℕ) (history : List Entry) (s : State) (l : Local) → Here instance caller history s l → (j : ℕ) → j < 16 → IsIdle l j →
    (ws : List ℕ) → Words 145 ws → Reached instance caller history s (λ _ l'. Writing l j ws 145 l')
cell_written instance caller history s l here j small idle ws fit =
    each_of instance caller (λ i _ l'. Writing l j ws i l') history 145 (word_written instance caller history l j small ws fit) 145 0 refl s l here
    (record { own = refl; answered = refl; idle = idle; written = λ k below. absurd (omega arith) })

-- where `t` and `u` have the same remainder by `w`, and `t` is below `u`, they are at least `w` apart. For tickets, with `w` slots: those of one slot
-- are a round apart. `a` and `b` give `t` and `u` by quotient and remainder, `rows` compares the quotients times `w`.
round_apart : (t u w : ℕ) → 0 < w → t % w ≡ u % w → t < u → t + w ≤ u
round_apart t u w some same less =
    let a = div-add-mod' t w in
    let b = div-add-mod' u w in
    elim (cases_lt (t / w) (u / w)) [
      -- the quotient of `t` is below that of `u`
      | inl up ↦ (
          let rows = mul-le (t / w + 1) w (u / w) w (omega arith) (omega arith) in
          let one : (t / w + 1) * w ≡ t / w * w + w = omega arith in
          omega (arith, a, b, rows, one, same))
      -- the quotient of `t` is not below that of `u`: then `t` is not below `u`
      | inr down ↦ (
          let rows = mul-le (u / w) w (t / w) w down (omega arith) in
          absurd (omega (arith, a, b, rows, same)))
    ]

-- `u - w` has the same remainder by `w` as `u`. For tickets, with `w` slots: the one a round before has the same slot. `one`: the quotient of `u` is
-- above 0; `is`: `u - w` has a quotient less by 1 and the same remainder.
round_before : (u w : ℕ) → 0 < w → w ≤ u → (u - w) % w ≡ u % w
round_before u w some enough =
    let a = div-add-mod' u w in
    let r = mod_below u w some in
    let one : 1 ≤ u / w = elim (cases_lt 0 (u / w)) [ inl up ↦ up | inr none ↦ (let zero : u / w * w ≡ 0 = ap (λ n. n * w) (let e : u / w ≡ 0 = omega arith in e) ∙ omega arith in absurd (omega arith)) ] in
    let split : (u / w - 1) * w + w ≡ u / w * w = (let e : (u / w - 1 + 1) * w ≡ (u / w - 1) * w + w = omega arith in sym e ∙ ap (λ n. n * w) (let f : u / w - 1 + 1 ≡ u / w = omega arith in f)) in
    let is : u - w ≡ (u / w - 1) * w + u % w = omega arith in
    ap (λ n. n % w) is ∙ mod-mul-add (u / w - 1) w (u % w) r

-- what the words of link slots say of the end of the history, where each linked entry is of one of the callers (`callers_of`)
module _ (instance : Instance) (history : List Entry) (callers_of : (ticket : ℕ) (entry : Entry) → IsLinked instance.base.place history ticket entry → entry.caller < instance.callers) (some : 1 ≤ instance.callers) where
  -- the number of link slots
  abbrev q : ℕ
  q = cell_count instance.callers

  -- the end of the history: the ticket after its last one
  abbrev end_ : ℕ
  end_ = instance.base.place + length history

  -- a caller that finds the link word of the last ticket's slot has its front at the end then, where it was not above the end before. `Never`: no
  -- linked ticket has that slot, so the front was at the end already. `Names`: the word names the last ticket.
  front_to_end : (front word : ℕ) → instance.base.place ≤ front → front ≤ end_ → LinkWord instance history ((end_ - 1) % q) word → raised_front instance.callers front word ≡ end_
  front_to_end front word from to (Never none zero) =
      elim (cases_lt front end_) [
        | inl early ↦ (
            let last = linked_below instance.base.place history (end_ - 1) (omega arith) (omega arith) in
            absurd (none (end_ - 1) last.0 last.1 refl))
        | inr past ↦ ap (raised_front instance.callers front) zero ∙ omega arith
      ]
  front_to_end front word from to (Names ticket entry j greatest below is) =
      let within = linked_within instance.base.place history ticket entry greatest.linked in
      let first = greatest.linked.from in
      let last = linked_below instance.base.place history (end_ - 1) (omega arith) (omega arith) in
      let most = greatest.greatest (end_ - 1) last.0 last.1 refl in
      let by = callers_of ticket entry greatest.linked in
      let is_ticket : link_ticket_of instance.callers word ≡ ticket = ap (link_ticket_of instance.callers) is ∙ code_ticket instance.callers ticket (16 * entry.caller + j) (omega arith) in
      let not_zero : word ≢ 0 = λ e. (let nothing : ticket * (16 * instance.callers) + (16 * entry.caller + j) + 1 ≡ 0 = sym is ∙ e in omega arith) in
      ap (λ b. cond b front (max front (link_ticket_of instance.callers word + 1))) (ne_eqb word 0 not_zero) ∙ omega (arith, is_ticket, within, most)

  -- the link word of the end's slot shows that the next ticket can be linked there: it is 0, or names the ticket a round before the end. `round`: the
  -- ticket named is a round or more before the end; `most`: the ticket a round before the end is not above the one named.
  shows_open : (word : ℕ) → LinkWord instance history (end_ % q) word → (word ≡ 0) ⊎ ((0 < word) × (link_ticket_of instance.callers word + q ≡ end_))
  shows_open word (Never none zero) = inl zero
  shows_open word (Names ticket entry j greatest below is) =
      let within = linked_within instance.base.place history ticket entry greatest.linked in
      let first = greatest.linked.from in
      let round = round_apart ticket end_ q (omega arith) greatest.at within in
      let before = linked_below instance.base.place history (end_ - q) (omega arith) (omega arith) in
      let most = greatest.greatest (end_ - q) before.0 before.1 (round_before end_ q (omega arith) (omega arith)) in
      let by = callers_of ticket entry greatest.linked in
      let is_ticket : link_ticket_of instance.callers word ≡ ticket = ap (link_ticket_of instance.callers) is ∙ code_ticket instance.callers ticket (16 * entry.caller + j) (omega arith) in
      inr (omega (arith, is), omega (arith, is_ticket))

-- `l` has the entries and answers of `l0`; its cell `j` may be written and has the words `ws`; its front is the history's end; and the link slot it
-- last looked at is that of the end, was seen open, and still has the word that was seen
pub record AtEnd (instance : Instance) (l0 : Local) (j : ℕ) (ws : List ℕ) (end_ : ℕ) (s : State) (l : Local) : Type 0 where
  pub own : l.own ≡ l0.own
  pub answered : l.answered ≡ l0.answered
  pub idle : IsIdle l j
  pub words : (cell_of l j).words ≡ ws
  pub front : l.front ≡ end_
  pub open_ : ShowsOpen instance.callers l.seen_slot l.front
  pub found : slice_index s.words (link_at instance.callers (l.front % cell_count instance.callers)) ≡ seen_word l.seen_slot

-- the caller looks at the link slot of the ticket before the history's end, and then at that of the ticket there, which is linked next
module _ (instance : Instance) (caller : ℕ) (history : List Entry) (l0 : Local) (j : ℕ) (small : j < 16) (ws : List ℕ) (fit : Words 145 ws) (s : State) (l : Local)
    (here : Here instance caller history s l) (writing : Writing l0 j ws 145 l) where
  -- the local state that a look at this link slot makes of `l'` in the state `s'`
  abbrev after_look : State → Local → ℕ → Local
  after_look s' l' slot =
      let found = slice_index s'.words (link_at instance.callers slot) in
      record l' { seen_slot = Some (record { slot = slot; word = found }); front = raised_front instance.callers l'.front found; steps = one_more l'.steps }

  -- the end of the history: the ticket that is linked next
  abbrev last_end : ℕ
  last_end = instance.base.place + length history

  -- the number of link slots
  abbrev round : ℕ
  round = cell_count instance.callers

  -- there is a link slot
  many : 0 < round
  many = omega (arith, here.law.shape.some)

  -- the link slot of the ticket before the history's end
  abbrev last_slot : ℕ
  last_slot = (last_end - 1) % round

  -- the link slot of the ticket that is linked next
  abbrev next_slot : ℕ
  next_slot = last_end % round

  -- the caller's local state after the look at the last ticket's slot
  abbrev looked : Local
  looked = after_look s l last_slot

  -- the state after the look at the last ticket's slot
  abbrev looked_state : State
  looked_state = made instance caller s l (Look last_slot)

  -- the look at the last ticket's slot is allowed: there is that slot
  can_look : Guard instance (scene_of instance s) (Look last_slot) l
  can_look = mod_below (last_end - 1) round many

  -- the state after the look at the last ticket's slot is lawful and has the same history; the caller's local state there is `looked`
  here_looked : Here instance caller history looked_state looked
  here_looked = stepped instance caller s l looked (Look last_slot) history here can_look refl refl

  -- the caller's local state after the look at the next ticket's slot
  abbrev ready : Local
  ready = after_look looked_state looked next_slot

  -- the state after the look at the next ticket's slot
  abbrev ready_state : State
  ready_state = made instance caller looked_state looked (Look next_slot)

  -- the look at the next ticket's slot is allowed: there is that slot
  can_look_next : Guard instance (scene_of instance looked_state) (Look next_slot) looked
  can_look_next = mod_below last_end round many

  -- the state after the look at the next ticket's slot is lawful and has the same history; the caller's local state there is `ready`
  here_ready : Here instance caller history ready_state ready
  here_ready = stepped instance caller looked_state looked ready (Look next_slot) history here_looked can_look_next refl refl

  -- the words of cell `j` are those of the entry
  same_words : (cell_of l j).words ≡ ws
  same_words =
      let shape = here.law.shape.each caller l here.at in
      let long = (shape.each j (cell_of l j) (cell_there caller l j shape small)).words in
      ext_get_or 0 (cell_of l j).words ws (long ∙ sym fit.long) (λ k below. writing.written k (omega arith))

  -- after both looks the caller's front is the end, and the slot there was seen open. `first`: the first look raises the front to the end. `second`:
  -- the second look leaves it there. `kept`: the slot has the word that the second look saw. `same`: the invariant's history is this one.
  made_ready : AtEnd instance l0 j ws last_end ready_state ready
  made_ready =
      let same = λ (s' : State) (l' : Local) (h : Here instance caller history s' l'). (let e : h.law.history ≡ history = history_same instance caller history s' l' h in e) in
      let some = here.law.shape.some in
      let callers_of = subst (λ (h : List Entry). (ticket : ℕ) (entry : Entry) → IsLinked instance.base.place h ticket entry → entry.caller < instance.callers) (same s l here)
      (linked_callers instance here.law.history s.words s.locals (queue_of here.law)) in
      let behind = here.law.fronts.each caller l here.at in
      let to : l.front ≤ last_end = subst (λ (h : List Entry). l.front ≤ instance.base.place + length h) (same s l here) behind.to in
      let word = subst (λ (h : List Entry). LinkWord instance h last_slot (slice_index s.words (link_at instance.callers last_slot))) (same s l here) (here.law.links.each last_slot can_look) in
      let next_word = subst (λ (h : List Entry). LinkWord instance h next_slot (slice_index looked_state.words (link_at instance.callers next_slot))) (same looked_state looked here_looked)
      (here_looked.law.links.each next_slot can_look_next) in
      let first : looked.front ≡ last_end = front_to_end instance history callers_of some l.front _ behind.from to word in
      let second = raised_within instance history looked.front next_slot _ callers_of (omega arith) next_word in
      let front : ready.front ≡ last_end = omega (arith, second.0, second.1) in
      let kept = get_or-set_same looked_state.words (link_at instance.callers next_slot) (slice_index looked_state.words (link_at instance.callers next_slot)) 0
      (omega (arith, here_looked.law.shape.long, can_look_next)) in
      record {
        own = writing.own;
        answered = writing.answered;
        idle = writing.idle;
        words = same_words;
        front = front;
        open_ = subst (λ t. ShowsOpen instance.callers ready.seen_slot t) (sym front) (refl, shows_open instance history callers_of some _ next_word);
        found = subst (λ t. slice_index ready_state.words (link_at instance.callers (t % round)) ≡ seen_word ready.seen_slot) (sym front) kept;
      }

  -- some run of two looks leads to a state in which the caller's front is the history's end, and the slot there was seen open
  pub looks : Reached instance caller history s (AtEnd instance l0 j ws last_end)
  looks =
      step instance caller s l (Look last_slot) history history here can_look
      (step instance caller looked_state looked (Look next_slot) history history here_looked can_look_next
      (stay instance caller _ ready history here_ready made_ready))

-- the caller links the entry in its cell `j`, which has its next number, at the end of the history; each of its entries is answered (`all`)
module _ (instance : Instance) (caller : ℕ) (history : List Entry) (l0 : Local) (j : ℕ) (small : j < 16) (number : ℕ) (op : List ℕ) (op_long : length op ≡ 144) (s : State) (l : Local)
    (here : Here instance caller history s l) (ended : AtEnd instance l0 j (number ∷ op) (instance.base.place + length history) s l)
    (numbered : number ≡ next_number instance.base l) (further : instance.base.place + length history < 2 ^ 40) (all : length l.answered ≡ length l.own) where
  -- the entry that is linked
  abbrev entry : Entry
  entry = record { caller = caller; number = number; op = op }

  -- the step that links the entry in cell j
  abbrev link : Kind
  link = Link j

  -- the link is allowed: the cell is idle, has the caller's next number, and its slot was seen open
  can_link : Guard instance (scene_of instance s) link l
  can_link = (small, ended.idle, ap (λ ws. slice_index ws 0) ended.words ∙ numbered, subst (λ t. t < 2 ^ 40) (sym ended.front) further, ended.open_, all)

  -- the link wins, since the slot still has the word that was seen
  is_linked : local_after instance (scene_of instance s) link l ≡ linked l j
  is_linked =
      let word = slice_index s.words (link_at instance.callers (l.front % cell_count instance.callers)) in
      ap (λ b. cond b (linked l j) (lost instance.callers l word)) (eq-eqb word (seen_word l.seen_slot) ended.found)

  -- what stands in cell `j` is the entry `entry`
  is_entry : entry_in l j ≡ entry
  is_entry =
      let enough : length op ≤ 144 = omega arith in
      ap (λ n. record { caller = n; number = slice_index (cell_of l j).words 0; op = slice_range (cell_of l j).words 1 145 }) (here.law.shape.each caller l here.at).number
      ∙ ap (λ ws. record { caller = caller; number = slice_index ws 0; op = slice_range ws 1 145 }) ended.words
      ∙ ap (λ o. record { caller = caller; number = number; op = o }) (take_all 144 op enough)

  -- after the link the history has the entry at its end. `end`: the caller's front is the end; `tickets`: the own entries after the link are those of
  -- the history with the entry.
  linked_history : history_of instance.base.place (made instance caller s l link).locals ≡ history ++ entry ∷ []
  linked_history =
      let place = instance.base.place in
      let law = here.law in
      let shape = law.shape.each caller l here.at in
      let same = history_same instance caller history s l here in
      let cell = shape.each j (cell_of l j) (cell_there caller l j shape small) in
      let end : l.front ≡ place + length law.history = ended.front ∙ ap (λ (h : List Entry). place + length h) (sym same) in
      let tickets = tickets_linked instance law.history s.locals caller l j law.tickets here.at shape.number cell can_link end in
      ap (λ (l' : Local). history_of place (set s.locals caller l')) is_linked
      ∙ history_is place (law.history ++ entry_in l j ∷ []) (set s.locals caller (linked l j)) tickets.merged
      ∙ ap (λ (h : List Entry). h ++ entry_in l j ∷ []) same
      ∙ ap (λ (e : Entry). history ++ e ∷ []) is_entry

  -- the state after the link is lawful and has the history with the entry at its end; the caller's local state has the entry linked
  here_linked : Here instance caller (history ++ entry ∷ []) (made instance caller s l link) (linked l j)
  here_linked = record {
    law = keeps instance caller s l link here.law (makes instance caller s l link here.at can_link);
    at = there instance caller s l link here.at ∙ ap Some is_linked;
    of_history = linked_history;
  }

  -- the entry with the ticket at which it is linked, the history's end
  abbrev at_end : Linked
  at_end = record { ticket = instance.base.place + length history; entry = entry }

  -- some run of one step, the link, leads to a history with the entry at its end; the caller's own entries then end with it
  pub links : Reached instance caller (history ++ entry ∷ []) s (λ _ l'. l'.own ≡ l0.own ++ at_end ∷ [])
  links = step instance caller s l link (history ++ entry ∷ []) history here can_link (stay instance caller _ (linked l j) (history ++ entry ∷ []) here_linked (
      ap (λ t. l.own ++ record { ticket = t; entry = entry_in l j } ∷ []) ended.front
      ∙ ap (λ (e : Entry). l.own ++ record { ticket = instance.base.place + length history; entry = e } ∷ []) is_entry
      ∙ ap (λ (xs : List Linked). xs ++ at_end ∷ []) ended.own))
