-- The part on cells, where a caller links the entry in one of its idle cells.
use Rattle.std.proofs.Common.{◌≡◌, ◌≢◌, ◌+◌, ◌*◌, ◌%◌, ◌<◌, ◌≤◌, ◌⊎◌, inl, inr, ℕ, List, [], ◌∷◌, ◌++◌, length, set, slice_index, slice_range, refl, ap, sym, subst, ◌∙◌, arith, Some}
use Rattle.std.proofs.lemmas.Bool.{cases_eq, cases_lt}
use Rattle.std.proofs.lemmas.List.{get_or-set_other, get_or-set_same, take_all}
use Rattle.std.proofs.lemmas.Nat.{mod_below}
use Rattle.std.proofs.lemmas.Option.{same_Some, slice_get_within}
use Rattle.std.specs.List.{slice_get}
use Rattle.cx_base.specs.Codes.{link_code_of, link_ticket_of}
use Rattle.cx_core.specs.declared.entry.Entry.{Entry}
use Rattle.cx_core.specs.declared.local.Cell.{Cell}
use Rattle.cx_core.specs.declared.local.Local.{Local}
use Rattle.cx_core.specs.declared.local.SeenSlot.{SeenSlot}
use Rattle.cx_core.specs.QueueEvents.{IsIdle, ShowsOpen, cell_of, entry_in, linked, seen_word}
use Rattle.cx_core.specs.History.{full_image}
use Rattle.cx_core.specs.Layout.{cell_count, free_at, link_at, cell_at}
use Rattle.cx_core.specs.Lawful.{Cells, IsLive, Links, NamesCell, SeenStands, Shape}
use Rattle.cx_core.specs.Lawful.LinkWord.{Never, Names}
use Rattle.cx_core.specs.Merge.{IsLinked}
use Rattle.cx_core.specs.State.{Instance}
use Rattle.cx_core.specs.WriteSet.{IsWriteSet, IsWriteSetOf}
use Rattle.cx_core.proofs.HistoryLemmas.{full_stays, linked_grows}
use Rattle.cx_core.proofs.ListLemmas.{slice_get-set_same}
use Rattle.cx_core.specs.Frames.{IsOff}
use Rattle.core_queue.proofs.CellLaws.{cell_within, held_still, shown_off, slot_still}
use Rattle.core_queue.proofs.CellNames.{idle_is_dead}
use Rattle.core_queue.proofs.CellPuts.{Puts, cells_put, keeps_put}
use Rattle.core_queue.proofs.LinkLaws.{code_ticket, shown_open, word_within}
use Rattle.cx_core.proofs.Locals.{linked_below, linked_then, linked_within}
use Rattle.core_queue.proofs.Pigeonhole.{pigeonhole}
use Rattle.core_queue.proofs.Shapes.{cell_there}

write_set_still : (instance : Instance) (history : List Entry) (more : Entry) (ticket : ℕ) (sets : List ℕ) → ticket < instance.base.place + length history →
    IsWriteSetOf instance history ticket sets → IsWriteSetOf instance (history ++ more ∷ []) ticket sets
write_set_still instance history more ticket sets below old =
    let one = full_stays instance history (more ∷ []) ticket (omega arith) in
    let two = full_stays instance history (more ∷ []) (ticket + 1) (omega arith) in
    subst (λ image. IsWriteSet sets image (full_image instance.step instance.base (history ++ more ∷ []) (ticket + 1))) (sym one)
    (subst (λ image. IsWriteSet sets (full_image instance.step instance.base history ticket) image) (sym two) old)

-- a cell that some ticket is named for
pub record Taken (locals : List Local) (ticket k : ℕ) : Type 0 where
  pub d : ℕ
  pub j : ℕ
  pub cell : Cell
  pub names : NamesCell locals d j ticket cell
  pub is : k ≡ 16 * d + j

pub names_small : (instance : Instance) (words : List ℕ) (locals : List Local) (d j ticket : ℕ) (cell : Cell) → Shape instance words locals → NamesCell locals d j ticket cell → j < 16
names_small instance words locals d j ticket cell shape names =
    let within = slice_get_within names.local.cells j cell names.at in
    omega (arith, within, (shape.each d names.local names.of_caller).cells)

-- cells at one number are one
pub one_cell : (instance : Instance) (words : List ℕ) (locals : List Local) (t u d e j k : ℕ) (a b : Cell) → Shape instance words locals → NamesCell locals d j t a → NamesCell locals e k u b →
    16 * d + j ≡ 16 * e + k → a ≡ b
one_cell instance words locals t u d e j k a b shape one other both =
    let a_small = names_small instance words locals d j t a shape one in
    let b_small = names_small instance words locals e k u b shape other in
    let d_same : d ≡ e = omega arith in
    let j_same : j ≡ k = omega arith in
    let local : one.local ≡ other.local = same_Some one.local other.local (sym one.of_caller ∙ ap (slice_get locals) d_same ∙ other.of_caller) in
    same_Some a b (sym one.at ∙ ap (λ (x : Local). slice_get x.cells j) local ∙ ap (slice_get other.local.cells) j_same ∙ other.at)

-- a cell is named with one ticket
pub named_once : (instance : Instance) (words : List ℕ) (locals : List Local) (t u k : ℕ) → Shape instance words locals → Taken locals t k → Taken locals u k → t ≡ u
named_once instance words locals t u k shape a b =
    let cell : a.cell ≡ b.cell = one_cell instance words locals t u a.d b.d a.j b.j a.cell b.cell shape a.names b.names (sym a.is ∙ b.is) in
    same_Some t u (sym a.names.named ∙ ap (λ (x : Cell). x.ticket) cell ∙ b.names.named)

-- an idle cell is not taken by a live ticket
pub idle_not_taken : (instance : Instance) (words : List ℕ) (locals : List Local) (caller : ℕ) (l : Local) (j free ticket : ℕ) → Shape instance words locals →
    slice_get locals caller ≡ Some l → j < 16 → IsIdle l j → l.seen_free ≤ free → free ≤ ticket → Taken locals ticket (16 * caller + j) → ⊥
idle_not_taken instance words locals caller l j free ticket shape at small idle behind live a =
    let a_small = names_small instance words locals a.d a.j ticket a.cell shape a.names in
    let both : 16 * caller + j ≡ 16 * a.d + a.j = a.is in
    let d_same : a.d ≡ caller = omega arith in
    let j_same : a.j ≡ j = omega arith in
    let local : a.names.local ≡ l = same_Some a.names.local l (sym a.names.of_caller ∙ ap (slice_get locals) d_same ∙ at) in
    let there = cell_there caller l j (shape.each caller l at) small in
    let cell : cell_of l j ≡ a.cell = same_Some (cell_of l j) a.cell (sym there ∙ ap (slice_get l.cells) (sym j_same) ∙ ap (λ (x : Local). slice_get x.cells a.j) (sym local) ∙ a.names.at) in
    idle_is_dead l.seen_free free ticket (cell_of l j).ticket behind live idle (ap (λ (x : Cell). x.ticket) cell ∙ a.names.named)

-- what is known where a link of an idle cell has won, at the end of the history
pub record Wins (instance : Instance) (history : List Entry) (words : List ℕ) (locals : List Local) (caller : ℕ) (l : Local) (j : ℕ) : Type 0 where
  pub shape : Shape instance words locals
  pub links : Links instance history words
  pub cells : Cells instance history words locals
  pub callers : (ticket : ℕ) (entry : Entry) → IsLinked instance.base.place history ticket entry → entry.caller < instance.callers
  pub at : slice_get locals caller ≡ Some l
  pub small : j < 16
  pub idle : IsIdle l j
  pub behind : l.seen_free ≤ slice_index words free_at
  pub end : l.front ≡ instance.base.place + length history
  pub open_ : ShowsOpen instance.callers l.seen_slot l.front
  pub found : slice_index words (link_at instance.callers (l.front % cell_count instance.callers)) ≡ seen_word l.seen_slot

-- All cells would be taken by live tickets, if a live ticket had the slot of the front: it would be the one a whole round
-- before, and each ticket from there on is live and has a cell of its own. But the caller's cell is idle.
round_not_live : (instance : Instance) (history : List Entry) (words : List ℕ) (locals : List Local) (caller : ℕ) (l : Local) (j ticket : ℕ) → Wins instance history words locals caller l j →
    instance.base.place ≤ ticket → slice_index words free_at ≤ ticket → ticket + cell_count instance.callers ≡ l.front → ⊥
round_not_live instance history words locals caller l j ticket w from live round =
    let q = cell_count instance.callers in
    let caller_below : caller < instance.callers = (let within = slice_get_within locals caller l w.at in omega (arith, within, w.shape.count)) in
    let small = w.small in
    let end = w.end in
    pigeonhole q (λ i k. ((i < q) × Taken locals (ticket + i) k) ⊎ ((i ≡ q) × (k ≡ 16 * caller + j)))
    (λ i le. elim (cases_lt i q) [
      | inl below ↦ (
          let there = linked_below instance.base.place history (ticket + i) (omega arith) (omega arith) in
          let held = w.cells.live (ticket + i) there.0 there.1 (omega arith) in
          let j_small = names_small instance words locals there.0.caller held.j (ticket + i) held.cell w.shape held.names in
          let by = w.callers (ticket + i) there.0 there.1 in
          (16 * there.0.caller + held.j, inl (below, record { d = there.0.caller; j = held.j; cell = held.cell; names = held.names; is = refl {a = 16 * there.0.caller + held.j} }), omega (arith, j_small, by)))
      | inr past ↦ (let last : i ≡ q = omega arith in (16 * caller + j, inr (last, refl), omega arith))
    ])
    (λ i m k ile mle a b. elim a [
      | inl x ↦ elim b [
        | inl y ↦ (let same = named_once instance words locals (ticket + i) (ticket + m) k w.shape x.1 y.1 in omega (arith, same))
        | inr y ↦ absurd (idle_not_taken instance words locals caller l j (slice_index words free_at) (ticket + i) w.shape w.at w.small w.idle w.behind (omega arith) (subst (Taken locals (ticket + i)) y.1 x.1))
      ]
      | inr x ↦ elim b [
        | inl y ↦ absurd (idle_not_taken instance words locals caller l j (slice_index words free_at) (ticket + m) w.shape w.at w.small w.idle w.behind (omega arith) (subst (Taken locals (ticket + m)) x.1 y.1))
        | inr y ↦ (let one = x.0 in let two = y.0 in omega (arith, one, two))
      ]
    ])

-- no live ticket has the slot of the front
pub slot_free : (instance : Instance) (history : List Entry) (words : List ℕ) (locals : List Local) (caller : ℕ) (l : Local) (j ticket : ℕ) (entry : Entry) → Wins instance history words locals caller l j →
    IsLinked instance.base.place history ticket entry → slice_index words free_at ≤ ticket → ticket % cell_count instance.callers ≡ l.front % cell_count instance.callers → ⊥
slot_free instance history words locals caller l j ticket entry w linked live slot =
    let held = w.cells.live ticket entry linked live in
    let small = names_small instance words locals entry.caller held.j ticket held.cell w.shape held.names in
    let by = w.callers ticket entry linked in
    let k = 16 * entry.caller + held.j in
    let k_within : k < 16 * instance.callers = omega (arith, small, by) in
    let is : link_code_of instance.callers ticket k ≡ seen_word l.seen_slot = sym held.link ∙ ap (λ s. slice_index words (link_at instance.callers s)) slot ∙ w.found in
    elim (shown_open instance.callers l.seen_slot l.front w.open_) [
      | inl zero ↦ (let nothing : ticket * (16 * instance.callers) + k + 1 ≡ 0 = is ∙ zero in omega arith)
      | inr older ↦ (
          let is_ticket : link_ticket_of instance.callers (seen_word l.seen_slot) ≡ ticket = ap (link_ticket_of instance.callers) (sym is) ∙ code_ticket instance.callers ticket k k_within in
          let before : link_ticket_of instance.callers (seen_word l.seen_slot) + cell_count instance.callers ≡ l.front = older.1 in
          round_not_live instance history words locals caller l j ticket w linked.from live (omega arith))
    ]

-- the words of a cell are its entry's
entry_words : (ws : List ℕ) → length ws ≡ 145 → ws ≡ slice_index ws 0 ∷ slice_range ws 1 145
entry_words [] long = absurd (omega arith)
entry_words (x ∷ xs) long = let enough : length xs ≤ 144 = omega arith in ap (λ ys. x ∷ ys) (sym (take_all 144 xs enough))

-- no live ticket was seen in the slot of the front
seen_elsewhere : (instance : Instance) (history : List Entry) (words : List ℕ) (locals : List Local) (caller : ℕ) (l : Local) (j : ℕ) → Wins instance history words locals caller l j →
    (seen : SeenSlot) → 0 < seen.word → slice_index words free_at ≤ link_ticket_of instance.callers seen.word →
    slice_index words (link_at instance.callers seen.slot) ≡ seen.word → seen.slot ≡ l.front % cell_count instance.callers → ⊥
seen_elsewhere instance history words locals caller l j w seen some_word live still same =
    let some = w.shape.some in
    let slot_small : l.front % cell_count instance.callers < cell_count instance.callers = mod_below l.front (cell_count instance.callers) (omega arith) in
    elim (w.links.each seen.slot (subst (λ s. s < cell_count instance.callers) (sym same) slot_small)) [
      | Never none zero ↦ (let nothing : seen.word ≡ 0 = sym still ∙ zero in omega arith)
      | Names ticket entry i greatest small is ↦ (
          let by = w.callers ticket entry greatest.linked in
          let k_within : 16 * entry.caller + i < 16 * instance.callers = omega (arith, by) in
          let is_ticket : link_ticket_of instance.callers seen.word ≡ ticket = ap (link_ticket_of instance.callers) (sym still ∙ is) ∙ code_ticket instance.callers ticket _ k_within in
          slot_free instance history words locals caller l j ticket entry w greatest.linked (subst (λ t. slice_index words free_at ≤ t) is_ticket live) (greatest.at ∙ same))
    ]

-- what was seen in the slot of the front has a ticket before it
seen_before : (instance : Instance) (history : List Entry) (words : List ℕ) (locals : List Local) (caller : ℕ) (l : Local) (j : ℕ) → Wins instance history words locals caller l j →
    (seen : SeenSlot) → SeenStands instance words seen → 0 < seen.word → link_ticket_of instance.callers seen.word < l.front
seen_before instance history words locals caller l j w seen stands some =
    let word = slice_index words (link_at instance.callers seen.slot) in
    let within = word_within instance history seen.slot word w.callers (w.links.each seen.slot stands.slot) in
    let end = w.end in
    elim (stands.later some) [
      | inl same ↦ (let here = within (omega arith) in let ticket = ap (link_ticket_of instance.callers) same in omega arith)
      | inr after ↦ (let here = within after.0 in omega (arith, after.1))
    ]

-- the part on cells after the link
pub cells_linked : (instance : Instance) (history : List Entry) (words : List ℕ) (locals : List Local) (caller : ℕ) (l : Local) (j : ℕ) → Wins instance history words locals caller l j →
    Cells instance (history ++ entry_in l j ∷ [])
    (set words (link_at instance.callers (l.front % cell_count instance.callers)) (link_code_of instance.callers l.front (16 * l.number + j)))
    (set locals caller (linked l j))
cells_linked instance history words locals caller l j w =
    let q = cell_count instance.callers in
    let some = w.shape.some in
    let entry = entry_in l j in
    let old = cell_of l j in
    let local_shape = w.shape.each caller l w.at in
    let there = cell_there caller l j local_shape w.small in
    let slot = l.front % q in
    let place = link_at instance.callers slot in
    let code = link_code_of instance.callers l.front (16 * l.number + j) in
    let words' = set words place code in
    let locals' = set locals caller (linked l j) in
    let slot_small : slot < q = mod_below l.front q (omega arith) in
    let inside : place < length words = omega (arith, w.shape.long) in
    let free_apart : 3 ≢ place = omega arith in
    let mine : 16 * l.number + j < 16 * instance.callers = subst (λ n. 16 * n + j < 16 * instance.callers) (sym local_shape.number) (cell_within instance words locals caller l j old w.shape w.at there) in
    let p : Puts instance words words' locals caller l (linked l j) j old (record old { ticket = Some l.front }) = record {
      at = w.at;
      there = there;
      idle = w.idle;
      behind = w.behind;
      put = refl;
      offer = refl;
      seen_slot = refl;
      seen_offer = refl;
      free = get_or-set_other words place 3 code 0 free_apart;
    } in
    let keeps = keeps_put instance words words' locals caller l (linked l j) j old _ p in
    let link : (s : ℕ) → s ≢ slot → slice_index words' (link_at instance.callers s) ≡ slice_index words (link_at instance.callers s) = λ s ne. (
    let apart : link_at instance.callers s ≢ place = λ same. ne (omega arith) in
    get_or-set_other words place (link_at instance.callers s) code 0 apart) in
    let off : IsOff (cell_at instance.callers 0 0) (4 + 10563 * instance.callers) place = inl (omega arith) in
    let shown = w.cells.shown caller l w.at j old there in
    let here = shown_off instance.callers words place code (16 * caller + j) old (cell_within instance words locals caller l j old w.shape w.at there) off shown in
    cells_put instance history (history ++ entry ∷ []) words words' locals caller l (linked l j) j old _ p w.shape w.cells
    (linked_grows instance.base.place history (entry ∷ []))
    (λ ticket e is_linked live. elim (linked_then instance.base.place history entry ticket e is_linked) [
      | inl before ↦ (
          let below = linked_within instance.base.place history ticket e before in
          let other : ticket % q ≢ slot = λ same. slot_free instance history words locals caller l j ticket e w before live same in
          held_still instance history (history ++ entry ∷ []) words words' locals locals' (slice_index words free_at) ticket e keeps live (link (ticket % q) other)
          (λ sets old_set. write_set_still instance history entry ticket sets below old_set) (w.cells.live ticket e before live))
      | inr new ↦ subst (λ x. IsLive instance (history ++ entry ∷ []) words' locals' ticket x) new.1 (
          let at_front : ticket ≡ l.front = new.0 ∙ sym w.end in
          subst (λ t. IsLive instance (history ++ entry ∷ []) words' locals' t entry) (sym at_front) (record {
            j = j;
            cell = record old { ticket = Some l.front };
            names = record {
              local = linked l j;
              of_caller = subst (λ n. slice_get locals' n ≡ Some (linked l j)) (sym local_shape.number) (slice_get-set_same locals caller (linked l j) (slice_get_within locals caller l w.at));
              at = slice_get-set_same l.cells j _ (slice_get_within l.cells j old there);
              named = refl;
            };
            link = get_or-set_same words place code 0 inside;
            holds = entry_words old.words (local_shape.each j old there).words;
            offered = λ offer. (
                let o = w.cells.offers caller l w.at j old there (let one_more : old.offer ≡ l.front + 1 = offer in omega arith) in
                let earlier = linked_within instance.base.place history o.0 o.1 o.2 in
                let is : old.offer ≡ o.0 + 1 = o.3 in
                let one_more : old.offer ≡ l.front + 1 = offer in
                let end = w.end in
                absurd (omega arith));
          }))
    ])
    (λ m cell ne within s. shown_off instance.callers words place code m cell within off s)
    (record { entry = here.entry; pairs = here.pairs; offer = here.offer })
    (λ seen stands. elim (cases_eq seen.slot slot) [
      | inl same ↦ (
          let put : slice_index words' (link_at instance.callers seen.slot) ≡ code = ap (λ s. slice_index words' (link_at instance.callers s)) same ∙ get_or-set_same words place code 0 inside in
          record {
            slot = stands.slot;
            later = λ some_word. inr (subst (λ c. (0 < c) × (link_ticket_of instance.callers seen.word < link_ticket_of instance.callers c)) (sym put) (
                let ticket = code_ticket instance.callers l.front (16 * l.number + j) (omega (arith, mine)) in
                (omega arith, omega (arith, ticket, seen_before instance history words locals caller l j w seen stands some_word))));
            stands = λ some_word live. (
                let before : slice_index words free_at ≤ link_ticket_of instance.callers seen.word = subst (λ f. f ≤ link_ticket_of instance.callers seen.word) p.free live in
                absurd (seen_elsewhere instance history words locals caller l j w seen some_word before (stands.stands some_word before) same));
          })
      | inr ne ↦ (let free = p.free in slot_still instance words words' seen (link seen.slot ne) (omega arith) stands)
    ])
