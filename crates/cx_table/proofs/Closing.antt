-- What a table that was closed leaves.
use Rattle.std.proofs.Common.{◌≡◌, ◌+◌, ◌*◌, ◌<◌, ◌≤◌, ℕ, zero, suc, List, [], ◌∷◌, ◌++◌, length, map, take, slice_index, refl, sym, ap, subst, ◌∙◌, arith, Some, All, get_or, zero-add}
use Rattle.std.proofs.lemmas.List.{append-nil, length-map, get_or-map, map-append, take_more}
use Rattle.std.proofs.lemmas.List.Elements.{All-map}
use Rattle.std.proofs.lemmas.List.FromFn.{length-range_with_len, get_or-range_with_len}
use Rattle.std.proofs.lemmas.Option.{same_Some, none-some, slice_get_within, slice_get-get_or, get_or_from_slice_get}
use Rattle.std.proofs.lemmas.Simd.{map-map}
use Rattle.std.specs.List.{range_with_len, slice_get, slice_range}
use mathlib.Core.Option.{some, some-injective, some-ne-none}
use lib.ListN.{get_elem?}
use Rattle.atomic_table.specs.Table.{State}
use Rattle.cx_core.specs.declared.entry.Base.{Base}
use Rattle.cx_core.specs.declared.entry.Entry.{Entry}
use Rattle.cx_core.specs.declared.local.Local.{Local}
use Rattle.std.specs.Option.{option_map, option_to_list}
use Rattle.cx_core.specs.declared.local.Linked.{Linked}
use Rattle.cx_core.specs.Merge.{IsHistory, all_own, history_of, in_order}
use Rattle.cx_core.specs.Shown.{shown}
use Rattle.cx_core.specs.State.{Instance}
use Rattle.table_invariant.specs.declared.rule.Known.{Known}
use Rattle.cx_core.specs.Layout.{vol_at, per_at}
use Rattle.cx_table.specs.declared.remains.Remains.{Remains}
use Rattle.cx_core.specs.Chain.{IsCodeChain, Leads}
use Rattle.cx_core.specs.LawfulRoot.{Root}
use Rattle.caller_cache.specs.Wins.{IsWayBy, wins_of}
use Rattle.caller_cache.proofs.Chaining.{leads_shown, way_up, wins_append, wins_shown}
use Rattle.cx_table.specs.Remains.{AreSeats, ClosingWitness, MarksDirty, known_by, locals_of, opening_seat}
use Rattle.table_invariant.specs.Rule.{AreImages, RuleHolds, NotesHold, opening_limited}
use Rattle.table_invariant.specs.Running.{IsSeatOf, Running}
use Rattle.table_invariant.specs.Seats.{Seated}
use Rattle.table_invariant.specs.Timing.{AreTimes}
use Rattle.cx_core.proofs.MergeLemmas.{history_is}
use Rattle.table_invariant.proofs.Moves.{same_items}

map-id : {A : Type 0} (xs : List A) → map (λ (x : A). x) xs ≡ xs
map-id [] = refl
map-id (x ∷ xs) = ap (λ ys. x ∷ ys) (map-id xs)

-- the seats that are made are the table's, one of each caller
pub all_seated : {O : Type 0} (t : Running O) (limits : List ℕ) (seats : List Seated) → seats ≡ map (opening_seat t limits) (range_with_len 0 t.callers) → AreSeats t seats
all_seated t limits seats is =
    let f = opening_seat t limits in
    let range = range_with_len 0 t.callers in
    subst (AreSeats t) (sym is) (record {
      of = All-map (IsSeatOf t) f range (λ k d below. (
          let within : k < t.callers = omega (arith, length-range_with_len 0 t.callers) in
          let at : get_or range k d ≡ k = get_or-range_with_len 0 t.callers k d within ∙ zero-add k in
          record { table = refl; caller = subst (λ c. c < t.callers) (sym at) within; before = refl; region = refl }));
      numbers = map-map (λ (s : Seated). s.known.local.number) f range ∙ map-id range;
    })

-- an item of a list that was made from another
map_at : {A B : Type 0} (f : A → B) (xs : List A) (i : ℕ) (y : B) → slice_get (map f xs) i ≡ Some y → (x : A) × (slice_get xs i ≡ Some x) × (f x ≡ y)
map_at f [] i y at = absurd (none-some y at)
map_at f (x ∷ xs) zero y at = (x, refl, same_Some (f x) y at)
map_at f (x ∷ xs) (suc i) y at = map_at f xs i y at

-- the seats' callers have the numbers from 0 on
numbered : (callers : ℕ) (seats : List Seated) → map (λ (s : Seated). s.known.local.number) seats ≡ range_with_len 0 callers → (i : ℕ) (k : Known) → slice_get (known_by seats) i ≡ Some k → k.local.number ≡ i
numbered callers seats numbers i k at =
    let s = map_at (λ (s : Seated). s.known) seats i k at in
    let f = λ (s : Seated). s.known.local.number in
    let within : i < length seats = slice_get_within seats i s.0 s.1 in
    let below : i < callers = omega (arith, length-map seats f, ap length numbers, length-range_with_len 0 callers) in
    ap (λ (x : Known). x.local.number) (sym s.2)
    ∙ ap f (sym (get_or_from_slice_get seats i s.0 s.0 s.1))
    ∙ sym (get_or-map f seats i s.0 0 within)
    ∙ ap (λ (ns : List ℕ). get_or ns i 0) numbers
    ∙ get_or-range_with_len 0 callers i 0 below ∙ zero-add i

-- a table has a seat for each caller
pub seats_count : {O : Type 0} (t : Running O) (seats : List Seated) → AreSeats t seats → length seats ≡ t.callers
seats_count t seats are = sym (length-map seats (λ (s : Seated). s.known.local.number)) ∙ ap length are.numbers ∙ length-range_with_len 0 t.callers

-- the local states that the rule knows are shown by the seats
pub locals_are : {O : Type 0} (t : Running O) (instance : Instance) (seats : List Seated) (s : State ℕ (List Known)) (id : ℕ) → instance.callers ≡ t.callers → AreSeats t seats →
    (held : RuleHolds instance s) → get_elem? s.views id ≡ some (known_by seats) → map shown held.locals ≡ locals_of seats
locals_are t instance seats s id callers are held me =
    let count : length (locals_of seats) ≡ t.callers = length-map (known_by seats) (λ (k : Known). k.local) ∙ length-map seats (λ (x : Seated). x.known) ∙ seats_count t seats are in
    same_items (map shown held.locals) (locals_of seats) (length-map held.locals shown ∙ held.law.shape.count ∙ callers ∙ sym count) (λ i l at. (
    let k = map_at (λ (k : Known). k.local) (known_by seats) i l at in
    let is = held.each id i (known_by seats) k.0 me k.1 in
    let n = numbered t.callers seats are.numbers i k.0 k.1 in
    map_there shown held.locals i is.local (subst (λ (m : ℕ). slice_get held.locals m ≡ Some is.local) n is.of_caller) ∙ ap Some (sym is.shows ∙ k.2)))
  where
    map_there : {A B : Type 0} (f : A → B) (xs : List A) (i : ℕ) (x : A) → slice_get xs i ≡ Some x → slice_get (map f xs) i ≡ Some (f x)
    map_there f [] i x at = absurd (none-some x at)
    map_there f (y ∷ xs) zero x at = ap (λ o. option_map f o) at
    map_there f (y ∷ xs) (suc i) x at = map_there f xs i x at

-- the entries of local states, and so their history, are those that are shown
all_own_shown : (ls : List Local) → all_own (map shown ls) ≡ all_own ls
all_own_shown [] = refl
all_own_shown (l ∷ ls) = ap (λ xs. l.own ++ xs) (all_own_shown ls)

-- the history of local states is that of what seats show of them
history_shown : (place : ℕ) (ls : List Local) → history_of place (map shown ls) ≡ history_of place ls
unfolding history_of
history_shown place ls = ap (λ (xs : List Linked). in_order (length xs) place xs) (all_own_shown ls)

merged_shown : (place : ℕ) (history : List Entry) (ls : List Local) → IsHistory place history ls → IsHistory place history (map shown ls)
merged_shown place history ls merged = record {
  own = λ c l at. (let x = map_at shown ls c l at in ap (λ (y : Local). y.own) (sym x.2) ∙ merged.own c x.0 x.1);
  of_callers = λ i entry at. subst (λ n. entry.caller < n) (sym (length-map ls shown)) (merged.of_callers i entry at);
}

-- what is so of what a view knows is so of each of its seats
known_are : (seats : List Seated) (P : Known → Type 0) → ((i : ℕ) (k : Known) → slice_get (known_by seats) i ≡ Some k → P k) → All (λ (x : Seated). P x.known) seats
known_are seats P are i d below =
    let seat = get_or seats i d in
    are i seat.known (slice_get-get_or (known_by seats) i seat.known (omega (arith, length-map seats (λ (x : Seated). x.known))) ∙ ap Some (get_or-map (λ (x : Seated). x.known) seats i d seat.known below))

-- what the seats noted is the history's
pub notes_are : (instance : Instance) (seats : List Seated) (s : State ℕ (List Known)) (id : ℕ) (history : List Entry) → (held : RuleHolds instance s) → get_elem? s.views id ≡ some (known_by seats) →
    held.law.history ≡ history → All (λ (x : Seated). NotesHold instance history x.known.noted) seats
notes_are instance seats s id history held me same =
    known_are seats (λ (k : Known). NotesHold instance history k.noted) (λ i k at. subst (λ h. NotesHold instance h k.noted) same (held.each id i (known_by seats) k me at).notes)

-- the words of a list that is read
read_is : (xs : List ℕ) (i x : ℕ) → get_elem? xs i ≡ some x → slice_index xs i ≡ x
read_is [] i x at = absurd (some-ne-none x (sym at))
read_is (y ∷ ys) zero x at = some-injective y x at
read_is (y ∷ ys) (suc i) x at = read_is ys i x at

-- the wins of one seat more
pub wins_more : (seats : List Seated) (k : ℕ) (seat : Seated) → k < length seats → seat ≡ get_or seats k seat →
    wins_of (locals_of (take (k + 1) seats)) ≡ wins_of (locals_of (take k seats)) ++ option_to_list seat.known.local.won
wins_more seats k seat below is =
    let first = take k seats in
    ap (λ (ss : List Seated). wins_of (locals_of ss)) (take_more seats k seat below ∙ ap (λ (s : Seated). first ++ s ∷ []) (sym is))
    ∙ ap wins_of (ap (map (λ (x : Known). x.local)) (map-append (λ (s : Seated). s.known) first (seat ∷ [])) ∙ map-append (λ (x : Known). x.local) (known_by first) (seat.known ∷ []))
    ∙ wins_append (locals_of first) (seat.known.local ∷ [])
    ∙ ap (λ ws. wins_of (locals_of first) ++ ws) (append-nil (option_to_list seat.known.local.won))

-- the chain that was read off the wins is the one from DUR to CUR
pub chain_read : (instance : Instance) (words : List ℕ) (whole locals : List Local) (dur : ℕ) (codes : List ℕ) → 1 ≤ instance.callers → Root instance words whole → map shown whole ≡ locals → get_elem? words 1 ≡ some dur →
    ((above : List ℕ) (to : ℕ) → IsWayBy (wins_of locals) dur above to → codes ≡ dur ∷ above) → IsCodeChain words locals codes
chain_read instance words whole locals dur codes least root shows at read =
    let here : slice_index words 1 ≡ dur = read_is words 1 dur at in
    let above = root.above in
    let cur = slice_index words 0 in
    let same : wins_of whole ≡ wins_of locals = sym (wins_shown whole) ∙ ap wins_of shows in
    let way = subst (λ (n : ℕ). IsWayBy (wins_of locals) n above cur) here (subst (λ ws. IsWayBy ws (slice_index words 1) above cur) same (way_up instance words whole least root)) in
    let leads = subst (λ (n : ℕ). Leads locals n above cur) here (subst (λ ls. Leads ls (slice_index words 1) above cur) shows (leads_shown whole (slice_index words 1) above cur root.leads)) in
    subst (IsCodeChain words locals) (sym (read above cur way)) (here, leads)

-- a part of the words that were handed out, at the same places
pub same_part : (words ws : List ℕ) (a b c d : ℕ) → words ≡ ws → a ≡ c → b ≡ d → slice_range ws a b ≡ slice_range words c d
same_part words ws a b c d same from to =
    ap (λ (xs : List ℕ). slice_range xs a b) (sym same) ∙ ap (λ k. slice_range words k b) from ∙ ap (λ k. slice_range words c k) to

-- what is handed out of a table at its end
pub record Handed {O : Type 0} (t : Running O) (seats : List Seated) (words : List ℕ) (r : Remains) : Type 0 where
  pub callers : r.callers ≡ t.callers
  pub lines : r.lines ≡ t.lines
  pub first : r.first ≡ t.base.place
  pub published : r.published.items ≡ r.trail.chain
  pub dur : ℕ
  pub read : get_elem? words 1 ≡ some dur
  pub chain : (above : List ℕ) (to : ℕ) → IsWayBy (wins_of (locals_of seats)) dur above to → r.trail.chain ≡ dur ∷ above
  pub of : r.trail.table ≡ t.table
  pub base : r.trail.base ≡ t.base
  pub locals : r.trail.locals ≡ locals_of seats
  pub history : r.trail.history ≡ history_of t.base.place (locals_of seats)
  pub volatile : r.volatile.items ≡ slice_range words (vol_at t.callers (length t.base.words) 0 0) (vol_at t.callers (length t.base.words) (2 * t.callers) 0)
  pub durable : r.durable.items ≡ slice_range words (per_at t.callers (length t.base.words) 0 0) (per_at t.callers (length t.base.words) (2 * t.callers) 0)
  pub dirty : MarksDirty (locals_of seats) (2 * t.callers) (length t.base.words) r.dirty.items

pub leaves : {O : Type 0} (t : Running O) (instance : Instance) (seats : List Seated) (r : Remains) (s : State ℕ (List Known)) (id : ℕ) → instance.callers ≡ t.callers → instance.base ≡ t.base →
    AreSeats t seats → RuleHolds instance s → get_elem? s.views id ≡ some (known_by seats) → Handed t seats s.words r → ClosingWitness t instance seats r
leaves t instance seats r s id callers base are held me h =
    let locals = locals_are t instance seats s id callers are held me in
    let law = held.law in
    let place : instance.base.place ≡ t.base.place = ap (λ (b : Base). b.place) base in
    let history : r.trail.history ≡ history_of instance.base.place held.locals =
    h.history ∙ ap (λ p. history_of p (locals_of seats)) (sym place) ∙ ap (history_of instance.base.place) (sym locals) ∙ history_shown instance.base.place held.locals in
    let is : law.history ≡ r.trail.history = sym (history_is instance.base.place law.history held.locals law.tickets.merged) ∙ sym history in
    record {
      callers = h.callers;
      lines = h.lines;
      first = h.first;
      published = h.published;
      of = h.of;
      base = h.base;
      locals = h.locals;
      words = s.words;
      whole = held.locals;
      shows = locals;
      state = law;
      reached = held.reached;
      history = is;
      merged = subst (λ (p : ℕ). IsHistory p r.trail.history (locals_of seats)) place (subst (λ (es : List Entry). IsHistory instance.base.place es (locals_of seats)) is
          (subst (IsHistory instance.base.place law.history) locals (merged_shown instance.base.place law.history held.locals law.tickets.merged)));
      chain = chain_read instance s.words held.locals (locals_of seats) h.dur r.trail.chain law.shape.some law.root locals h.read h.chain;
      volatile = h.volatile;
      durable = h.durable;
      dirty = h.dirty;
      notes = notes_are instance seats s id r.trail.history held me is;
      times = known_are seats (λ (k : Known). AreTimes instance (opening_limited instance held.reached.limits) held.reached.events k.local.number k.local k.times) (λ i k at. held.times id i (known_by seats) k me at);
      images = known_are seats (λ (k : Known). AreImages instance r.trail.history k.images) (λ i k at. subst (λ h. AreImages instance h k.images) is (held.images id i (known_by seats) k me at));
    }
