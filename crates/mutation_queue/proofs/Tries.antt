-- One try to link.
use Rattle.std.proofs.Common.{◌≡◌, ◌≢◌, ◌+◌, ◌-◌, ◌%◌, ◌^◌, ◌<◌, ◌≤◌, ◌⊎◌, ℕ, max, Bool, true, false, cond, List, [], ◌∷◌, ◌++◌, length, slice_index, set, refl, sym, ap, subst, ◌∙◌, inl, inr, arith, Some, None}
use Rattle.std.proofs.lemmas.Bool.{cases_eq, cases_lt, eq-eqb, ne_eqb}
use Rattle.std.proofs.lemmas.List.{append-nil}
use Rattle.std.proofs.Math.Nat.{add-mod_right}
use Rattle.atomic_table.proofs.Lists.{one_turn}
use Rattle.cx_base.specs.Codes.{link_ticket_of, root_place_of}
use Rattle.cx_core.specs.declared.kinds.Kind.TheVariants.{Link, Look}
use Rattle.cx_core.specs.declared.local.Local.{Local}
use Rattle.cx_core.specs.Events.{Guard}
use Rattle.cx_core.specs.QueueEvents.{IsIdle, ShowsOpen, cell_of, entry_in, linked, lost, next_number, raised_front, seen_word}
use Rattle.cx_core.specs.Layout.{cell_count}
use Rattle.cx_core.specs.State.{Instance}
use Rattle.table_invariant.specs.declared.rule.Noted.{Noted}
use Rattle.table_invariant.specs.declared.rule.Times.{Times}
use Rattle.cx_table.specs.Running.{IsSeatOf, Running, instance_at}
use Rattle.cx_table.specs.Seats.{IsAtLimit, Seated, shown_next, stepped, unseen}
use Rattle.cx_table.specs.Steps.{Steps}
use Rattle.cx_table.specs.FoundWords.{KnownOfLink, KnownOfLook}
use Rattle.mutation_queue.specs.Leaves.{KeepsSeatPart, seat_number}
use Rattle.mutation_queue.specs.Links.{FindsLink, FindsOpen, LinksAt, LinksNone, LinksPast, MayLink, WinsTry, except_front, except_linked, with_front, with_loss, with_win}

-- the front stays after a link word of 0 was found
raised_zero : (callers front found : ℕ) → found ≡ 0 → raised_front callers front found ≡ front
raised_zero callers front found zero = ap (λ b. cond b front (max front (link_ticket_of callers found + 1))) (eq-eqb found 0 zero)

-- the front after a link word other than 0 was found: the ticket behind the one that it names, where that is further
raised_some : (callers front found : ℕ) → 0 < found → raised_front callers front found ≡ max front (link_ticket_of callers found + 1)
raised_some callers front found some = ap (λ b. cond b front (max front (link_ticket_of callers found + 1))) (ne_eqb found 0 (λ e. omega arith))

-- a word found never takes the front back
raised_least : (callers front found : ℕ) → front ≤ raised_front callers front found
raised_least callers front found =
    elim (cases_eq found 0) [
      | inl e ↦ omega (arith, raised_zero callers front found e)
      | inr ne ↦ (let some : 0 < found = omega arith in omega (arith, raised_some callers front found some))
    ]

-- two tickets of one slot, the lower one by less than a round
same_slot : (a b q : ℕ) → a % q ≡ b % q → b < a + q → a < b → ⊥
same_slot a b q mods near below = let e = one_turn a b q (omega arith) near mods in omega arith

-- the ticket a round before has the same slot
round_before : (t q : ℕ) → q ≤ t → (t - q) % q ≡ t % q
round_before t q within = sym (add-mod_right (t - q) q) ∙ ap (λ n. n % q) (let e : t - q + q ≡ t = omega arith in e)

-- a look at the front's slot
module _ (instance : Instance) (l : Local) (found : ℕ) (some : 1 ≤ instance.callers) (known : KnownOfLook instance (l.front % cell_count instance.callers) l found) where
  module _ (open_ : 0 < found → link_ticket_of instance.callers found < l.front) where
    -- the ticket a round before, where it is one of this table, stands in the slot
    before_stands : instance.base.place + cell_count instance.callers ≤ l.front → (0 < found) × (link_ticket_of instance.callers found + cell_count instance.callers ≡ l.front)
    before_stands within =
        let q = cell_count instance.callers in
        let t = link_ticket_of instance.callers found in
        let there = known.greatest (l.front - q) (omega arith) (omega arith) (round_before l.front q (omega arith)) in
        let below = open_ there.0 in
        let least = there.1 in
        let mods = (known.names there.0).slot in
        (there.0, elim (cases_lt l.front (t + q)) [ inl near ↦ absurd (same_slot t l.front q mods near below) | inr far ↦ omega arith ])

    -- the slot was never used in this table, or has the ticket a round before
    pub opens : ((found ≡ 0) × (l.front < instance.base.place + cell_count instance.callers)) ⊎ ((0 < found) × (link_ticket_of instance.callers found + cell_count instance.callers ≡ l.front))
    opens =
        elim (cases_lt l.front (instance.base.place + cell_count instance.callers)) [
          | inl near ↦ elim (cases_eq found 0) [
            | inl zero ↦ inl (zero, near)
            | inr ne ↦ (
                let used : 0 < found = omega arith in
                let of = known.names used in
                let from = of.from in
                let below = open_ used in
                absurd (same_slot (link_ticket_of instance.callers found) l.front (cell_count instance.callers) of.slot (omega arith) below))
          ]
          | inr far ↦ inr (before_stands far)
        ]

    pub front_stays : raised_front instance.callers l.front found ≡ l.front
    front_stays =
        elim (cases_eq found 0) [
          | inl e ↦ raised_zero instance.callers l.front found e
          | inr ne ↦ (let used : 0 < found = omega arith in let below = open_ used in raised_some instance.callers l.front found used ∙ omega arith)
        ]

    -- the front is shown open then
    pub shows_open : ShowsOpen instance.callers (Some (record { slot = l.front % cell_count instance.callers; word = found })) (raised_front instance.callers l.front found)
    shows_open =
        let shows = λ (f : ℕ). ((l.front % cell_count instance.callers ≡ f % cell_count instance.callers) × ((found ≡ 0) ⊎ ((0 < found) × (link_ticket_of instance.callers found + cell_count instance.callers ≡ f)))) in
        let now : shows l.front = (refl, elim opens [ inl a ↦ inl a.0 | inr b ↦ inr b ]) in
        subst shows (sym front_stays) now

    -- the entry may be tried
    pub may_link : (cell : ℕ) → cell < 16 → IsIdle l cell → slice_index (cell_of l cell).words 0 ≡ next_number instance.base l → l.front < 2 ^ 40 → length l.answered ≡ length l.own →
        Guard instance unseen (Link cell) (shown_next instance (Look (l.front % cell_count instance.callers)) l found)
    may_link cell small idle announced below answered =
        let here = front_stays in (small, idle, announced, omega arith, shows_open, answered)

    -- a link that was lost found a ticket from the front on
    pub past_front : (found2 : ℕ) → KnownOfLink instance (shown_next instance (Look (l.front % cell_count instance.callers)) l found) found2 → found2 ≢ found → (0 < found2) × (l.front ≤ link_ticket_of instance.callers found2)
    past_front found2 lost ne =
        let t = link_ticket_of instance.callers found2 in
        let some2 : 0 < found2 = elim opens [
          | inl a ↦ (let zero = a.0 in omega arith)
          | inr b ↦ (lost.later b.0 ne).0
        ] in
        let of = lost.names some2 in
        let from = of.from in
        let mods : t % cell_count instance.callers ≡ l.front % cell_count instance.callers = of.slot ∙ ap (λ f. f % cell_count instance.callers) front_stays in
        let near : l.front < t + cell_count instance.callers = elim opens [
          | inl a ↦ (let b = a.1 in omega arith)
          | inr b ↦ (let p = (lost.later b.0 ne).1 in let e = b.1 in omega arith)
        ] in
        (some2, elim (cases_lt t l.front) [ inl below ↦ absurd (same_slot t l.front (cell_count instance.callers) mods near below) | inr from_on ↦ from_on ])

-- one look at the front's slot, where the number of callers, the front and the number of slots were read before it
pub looked_at : {O : Type 0} {callers front slots : ℕ} (r : Running O) (step : O → List ℕ → List ℕ → List ℕ × List ℕ) (reads : O → List ℕ → Bool) (s t : Seated) (seen : ℕ) → callers ≡ r.callers → front ≡ s.known.local.front → slots ≡ cell_count callers →
    Steps r step reads (Look (front % slots)) seen s t → Steps r step reads (Look (s.known.local.front % cell_count r.callers)) seen s t
looked_at {slots = slots} r step reads s t seen number at count made =
    subst (λ n. Steps r step reads (Look n) seen s t) (ap (λ f. f % slots) at ∙ ap (λ n. s.known.local.front % n) (count ∙ ap cell_count number)) made

-- a look at the front's slot was made that found no link from the front on
pub record SeesOpen (instance : Instance) (s t : Seated) (seen : ℕ) : Type 0 where
  pub some : 1 ≤ instance.callers
  pub allowed : ¬ IsAtLimit s.known.local
  pub found_word : KnownOfLook instance (s.known.local.front % cell_count instance.callers) s.known.local seen
  pub looked : t ≡ stepped instance (Look (s.known.local.front % cell_count instance.callers)) s seen
  pub below : 0 < seen → link_ticket_of instance.callers seen < s.known.local.front

pub sees_open : {O : Type 0} {callers front slots : ℕ} (r : Running O) (step : O → List ℕ → List ℕ → List ℕ × List ℕ) (reads : O → List ℕ → Bool) (s t : Seated) (seen : ℕ) → 1 ≤ callers → callers ≡ r.callers → front ≡ s.known.local.front → slots ≡ cell_count callers →
    Steps r step reads (Look (front % slots)) seen s t → (0 < seen → link_ticket_of callers seen < front) → SeesOpen (instance_at r step reads) s t seen
sees_open {callers = callers} r step reads s t seen some number at count made open_ =
    let look = looked_at r step reads s t seen number at count made in
    record {
      some = omega (arith, some, number);
      allowed = look.allowed;
      found_word = look.found_word;
      looked = look.made;
      below = subst (λ n. 0 < seen → link_ticket_of n seen < s.known.local.front) number (subst (λ f. 0 < seen → link_ticket_of callers seen < f) at open_);
    }

-- the seat after a compare-exchange behind such a look
pub linked_seen : (instance : Instance) (s t u : Seated) (seen found j cell : ℕ) → SeesOpen instance s t seen → j ≡ cell → u ≡ stepped instance (Link j) t found →
    u ≡ stepped instance (Link cell) (stepped instance (Look (s.known.local.front % cell_count instance.callers)) s seen) found
linked_seen instance s t u seen found j cell is same linked =
    linked
    ∙ ap (λ (x : Seated). stepped instance (Link j) x found) is.looked
    ∙ ap (λ n. stepped instance (Link n) (stepped instance (Look (s.known.local.front % cell_count instance.callers)) s seen) found) same

-- the slot of the front was taken
pub taken : (instance : Instance) (s : Seated) (found : ℕ) → let slot = s.known.local.front % cell_count instance.callers in root_place_of instance.callers s.known.local.seen_cur ≤ s.known.local.front → 0 < found → s.known.local.front ≤ link_ticket_of instance.callers found →
    LinksPast instance.callers s (stepped instance (Look slot) s found)
taken instance s found cur used from =
    let l = s.known.local in
    record {
      none = record {
        same = ap (λ n. record s { known = record s.known { local = record l { front = 0; seen_slot = None; steps = 0 }; noted = n } }) (append-nil s.known.noted);
        front = raised_least instance.callers l.front found;
        since = omega arith;
      };
      front = omega (arith, raised_some instance.callers l.front found used);
      cur = cur;
    }

-- a seat with another local state, other times and other notes
abbrev seat_with : Seated → Local → Times → List Noted → Seated
seat_with s l times notes = record s { known = record s.known { local = l; times = times; noted = notes } }

-- the times behind a link, by whether it was won
abbrev link_times : Seated → Bool → Times
link_times s won = record s.known.times { linked = s.known.times.linked ++ cond won (s.known.local.steps ∷ []) [] }

-- what a look at the front's slot, a link that was lost, and one that was won make of the seat
look_is : (instance : Instance) (s : Seated) (found : ℕ) → stepped instance (Look (s.known.local.front % cell_count instance.callers)) s found ≡ with_front instance.callers found s
look_is instance s found = ap (seat_with s (with_front instance.callers found s).known.local s.known.times) (append-nil s.known.noted)

loss_is : (instance : Instance) (s : Seated) (j found : ℕ) → found ≢ seen_word s.known.local.seen_slot → stepped instance (Link j) s found ≡ with_loss instance.callers found s
loss_is instance s j found ne =
    let l = s.known.local in
    ap (λ b. seat_with s (cond b (linked l j) (lost instance.callers l found)) (link_times s b) (s.known.noted ++ [])) (ne_eqb found (seen_word l.seen_slot) ne)
    ∙ ap (seat_with s (lost instance.callers l found) (link_times s false)) (append-nil s.known.noted)
    ∙ ap (λ ts. seat_with s (lost instance.callers l found) (record s.known.times { linked = ts }) s.known.noted) (append-nil s.known.times.linked)

-- a link step that found the word seen in the slot wins: the entry in the cell `j` is linked
win_is : (instance : Instance) (s : Seated) (j found : ℕ) → found ≡ seen_word s.known.local.seen_slot → stepped instance (Link j) s found ≡ with_win j s
win_is instance s j found e =
    let l = s.known.local in
    ap (λ b. seat_with s (cond b (linked l j) (lost instance.callers l found)) (link_times s b) (s.known.noted ++ [])) (eq-eqb found (seen_word l.seen_slot) e)
    ∙ ap (seat_with s (linked l j) (link_times s true)) (append-nil s.known.noted)

-- the slot of the front was found taken, or open
pub finds_link : (instance : Instance) (s t : Seated) (found : ℕ) → ¬ IsAtLimit s.known.local → t ≡ stepped instance (Look (s.known.local.front % cell_count instance.callers)) s found → 0 < found → s.known.local.front ≤ link_ticket_of instance.callers found →
    FindsLink instance.callers (with_front instance.callers) s t
finds_link instance s t found allowed is some past = record { allowed = allowed; found = found; seat = is ∙ look_is instance s found; some = some; past = past }

finds_open : (instance : Instance) (s t : Seated) (found : ℕ) → ¬ IsAtLimit s.known.local → t ≡ stepped instance (Look (s.known.local.front % cell_count instance.callers)) s found →
    ShowsOpen instance.callers (Some (record { slot = s.known.local.front % cell_count instance.callers; word = found })) (raised_front instance.callers s.known.local.front found) → FindsOpen instance.callers s t
finds_open instance s t found allowed is shows = record {
  allowed = allowed;
  found = found;
  seat = is ∙ look_is instance s found;
  shows = subst (λ (x : Seated). ShowsOpen instance.callers x.known.local.seen_slot x.known.local.front) (sym is) shows;
}

-- a look that found no link from the front on found the front's slot open
pub open_seen : (instance : Instance) (s t : Seated) (seen : ℕ) → SeesOpen instance s t seen → FindsOpen instance.callers s t
open_seen instance s t seen is = finds_open instance s t seen is.allowed is.looked (shows_open instance s.known.local seen is.some is.found_word is.below)

-- a look alone links nothing
pub none_open : (callers : ℕ) (s t : Seated) → FindsOpen callers s t → LinksNone s t
none_open callers s t finds = subst (LinksNone s) (sym finds.seat) (record { same = refl; front = raised_least callers s.known.local.front finds.found; since = omega arith })

-- the compare-exchange from the word that was seen was lost, or won
pub finds_loss : (instance : Instance) (s t : Seated) (j seen found : ℕ) → seen_word s.known.local.seen_slot ≡ seen → ¬ IsAtLimit s.known.local → t ≡ stepped instance (Link j) s found → found ≢ seen → 0 < found → s.known.local.front ≤ link_ticket_of instance.callers found →
    FindsLink instance.callers (with_loss instance.callers) s t
finds_loss instance s t j seen found word allowed is ne some past =
    record { allowed = allowed; found = found; seat = is ∙ loss_is instance s j found (λ e. ne (e ∙ word)); some = some; past = past }

-- a try is won where its look found the slot open, and its compare-exchange found the word that was seen there
pub wins : (instance : Instance) (s t u : Seated) (cell j seen found : ℕ) → FindsOpen instance.callers s t → seen_word t.known.local.seen_slot ≡ seen → ¬ IsAtLimit t.known.local → u ≡ stepped instance (Link j) t found → found ≡ seen → j ≡ cell → WinsTry instance.callers cell s u
wins instance s t u cell j seen found finds word allowed is e same = record {
  mid = t;
  finds = finds;
  allowed = allowed;
  seat = is ∙ win_is instance t j found (e ∙ sym word) ∙ ap (λ n. with_win n t) same;
}

-- the link was lost
pub lost_to : (instance : Instance) (s : Seated) (found found2 cell : ℕ) → let l = s.known.local in let slot = l.front % cell_count instance.callers in let s1 = stepped instance (Look slot) s found in
    root_place_of instance.callers l.seen_cur ≤ l.front → raised_front instance.callers l.front found ≡ l.front → found2 ≢ found → 0 < found2 → l.front ≤ link_ticket_of instance.callers found2 →
    LinksPast instance.callers s (stepped instance (Link cell) s1 found2)
lost_to instance s found found2 cell cur stays ne used from =
    let l = s.known.local in
    let s1 = stepped instance (Look (l.front % cell_count instance.callers)) s found in
    let l1 = s1.known.local in
    let is : stepped instance (Link cell) s1 found2 ≡ seat_with s1 (lost instance.callers l1 found2) s1.known.times s.known.noted =
    loss_is instance s1 cell found2 ne ∙ ap (seat_with s1 (lost instance.callers l1 found2) s1.known.times) (append-nil s.known.noted) in
    let rises : raised_front instance.callers l1.front found2 ≡ max l1.front (link_ticket_of instance.callers found2 + 1) = raised_some instance.callers l1.front found2 used in
    subst (LinksPast instance.callers s) (sym is) (record {
      none = record { same = refl; front = omega (arith, rises); since = omega arith };
      front = omega (arith, rises);
      cur = cur;
    })

-- the link was won
pub won_at : (instance : Instance) (s : Seated) (found found2 cell : ℕ) → let l = s.known.local in let slot = l.front % cell_count instance.callers in let s1 = stepped instance (Look slot) s found in
    raised_front instance.callers l.front found ≡ l.front → found2 ≡ found → LinksAt cell l.front s (stepped instance (Link cell) s1 found2)
won_at instance s found found2 cell stays e =
    let l = s.known.local in
    let s1 = stepped instance (Look (l.front % cell_count instance.callers)) s found in
    let l1 = s1.known.local in
    let is : stepped instance (Link cell) s1 found2 ≡ seat_with s1 (linked l1 cell) (link_times s1 true) s.known.noted =
    win_is instance s1 cell found2 e ∙ ap (seat_with s1 (linked l1 cell) (link_times s1 true)) (append-nil s.known.noted) in
    subst (LinksAt cell l.front s) (sym is) (record {
      same = refl;
      own = ap (λ t. l.own ++ record { ticket = t; entry = entry_in l cell } ∷ []) stays;
      cells = ap (λ t. set l.cells cell (record (cell_of l cell) { ticket = Some t })) stays;
      front = ap (λ t. t + 1) stays;
      from = omega arith;
      linked = record { at = l1.steps; from = omega arith; is = refl };
    })

-- what a seat shows but for its front, slot, steps, linked entries and cells tells whose it is
pub leaves_linked : {O : Type 0} (r : Running O) (n : ℕ) (s t : Seated) → IsSeatOf r s → t.known.local.steps ≤ s.known.local.steps + n → except_linked t ≡ except_linked s → KeepsSeatPart r seat_number n s t
leaves_linked r n s t of most same =
    let now : IsSeatOf r (except_linked t) = subst (IsSeatOf r) (sym same) (record { table = of.table; caller = of.caller; before = of.before; region = of.region }) in
    record { of = record { table = now.table; caller = now.caller; before = now.before; region = now.region }; rest = ap seat_number same; steps = most }

-- where at most `n` steps linked nothing, the seat is still one of the table and of the same caller
pub leaves_none : {O : Type 0} (r : Running O) (n : ℕ) (s t : Seated) → IsSeatOf r s → t.known.local.steps ≤ s.known.local.steps + n → LinksNone s t → KeepsSeatPart r seat_number n s t
leaves_none r n s t of most none = leaves_linked r n s t of most (ap except_linked none.same)

-- an entry that may be linked still may, where a try linked nothing
pub still_may : {O : Type 0} (r : Running O) (cell : ℕ) (s t : Seated) → LinksNone s t → MayLink r cell s → MayLink r cell t
still_may r cell s t none may =
    let of : IsSeatOf r s = may.of in
    let answered = may.answered in
    let idle = may.announced.idle in
    let number = may.announced.number in
    let before : MayLink r cell (except_front s) = record { of = record { table = of.table; caller = of.caller; before = of.before; region = of.region }; few = may.few; announced = record { idle = idle; number = number }; answered = answered } in
    let now : MayLink r cell (except_front t) = subst (MayLink r cell) (sym none.same) before in
    let of' = now.of in
    record { of = record { table = of'.table; caller = of'.caller; before = of'.before; region = of'.region }; few = now.few; announced = record { idle = now.announced.idle; number = now.announced.number }; answered = now.answered }

-- where a seat stays as it is, nothing is linked
pub none_here : (s : Seated) → LinksNone s s
none_here s = record { same = refl; front = omega arith; since = omega arith }

-- where nothing was linked from `s` to `t` nor from `t` to `u`, nothing was from `s` to `u`
pub none_then : (s t u : Seated) → LinksNone s t → LinksNone t u → LinksNone s u
none_then s t u a b = record { same = b.same ∙ a.same; front = omega (arith, a.front, b.front); since = omega (arith, a.since, b.since) }

-- where nothing was linked from `s` to `t`, and then the entry in the cell with this ticket, that entry and no other was linked from `s` to `u`
pub none_at : (cell ticket : ℕ) (s t u : Seated) → LinksNone s t → LinksAt cell ticket t u → LinksAt cell ticket s u
none_at cell ticket s t u none at = record {
  same = at.same ∙ ap except_linked none.same;
  own = at.own ∙ ap (λ (x : Seated). x.known.local.own ++ record { ticket = ticket; entry = entry_in x.known.local cell } ∷ []) none.same;
  cells = at.cells ∙ ap (λ (x : Seated). set x.known.local.cells cell (record (cell_of x.known.local cell) { ticket = Some ticket })) none.same;
  front = at.front;
  from = omega (arith, none.front, at.from);
  linked = record {
    at = at.linked.at;
    from = omega (arith, none.since, at.linked.from);
    is = at.linked.is ∙ ap (λ (x : Seated). x.known.times.linked ++ at.linked.at ∷ []) none.same;
  };
}
