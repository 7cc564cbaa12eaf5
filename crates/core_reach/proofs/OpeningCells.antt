-- Cells are opened: each caller takes its protection back, and one that saw CUR at a place closes the tickets below it, scans what the callers need,
-- which is nothing, and raises FREE to it.
use Rattle.std.proofs.Common.{◌≡◌, ◌∙◌, ◌+◌, ◌-◌, ◌<◌, ◌≤◌, ◌⊎◌, inl, inr, IsNone, ℕ, List, Option, None, Some, set, slice_index, ap, refl, sym, subst, arith}
use Rattle.std.proofs.lemmas.Bool.{cases_eq}
use Rattle.std.proofs.lemmas.List.{get_or-set_other, get_or-set_same, set-get_or}
use Rattle.std.proofs.lemmas.Option.{same_Some}
use Rattle.std.specs.List.{slice_get}
use Rattle.core_reach.proofs.PuttingDown.{option_cases}
use Rattle.core_reach.proofs.Steps.{Here, Reached, andthen, each_of, made, stay, step, step_by, stepped}
use Rattle.cx_base.specs.Codes.{root_place_of}
use Rattle.cx_core.proofs.ListLemmas.{item_below, slice_get-set_other}
use Rattle.cx_core.specs.Events.{Guard, local_after}
use Rattle.cx_core.specs.Layout.{free_at, low_at, max_word, need_at}
use Rattle.cx_core.specs.Merge.{scene_of}
use Rattle.cx_core.specs.RingEvents.{IsNext, IsProtected, bound_in, closing, need_word, opened, scan_after, scanned_on}
use Rattle.cx_core.specs.State.{Instance, State, one_more}
use Rattle.cx_core.specs.declared.entry.Entry.{Entry}
use Rattle.cx_core.specs.declared.kinds.Kind.{Kind}
use Rattle.cx_core.specs.declared.kinds.Kind.TheVariants.{CloseLow, OpenFree, Unprotect}
use Rattle.cx_core.specs.declared.kinds.Kind.TheVariants as kinds
use Rattle.cx_core.specs.declared.local.Local.{Local}
use Rattle.cx_core.specs.declared.local.Protection.{Protection}
use Rattle.cx_core.specs.declared.local.Protection.TheVariants.{Confirmed, Stated, Unprotected}
use Rattle.cx_core.specs.declared.local.Scan.{Scan}

-- `l'` has the entries, answers and cells of `l`, and the same code last seen in CUR
pub record Quiet (l l' : Local) : Type 0 where
  pub own : l'.own ≡ l.own
  pub answered : l'.answered ≡ l.answered
  pub cells : l'.cells ≡ l.cells
  pub seen : l'.seen_cur ≡ l.seen_cur

-- the first `i` callers need no cell: the word NEED of each is the one of a caller without a protection
abbrev pub NeedNone : ℕ → List ℕ → Type 0
NeedNone i words = (d : ℕ) → d < i → slice_index words (need_at d) ≡ max_word

-- where the first `i` callers need no cell, they need none after a store below address 4, where no word is a caller's NEED
need_none_still : (i at v : ℕ) (words : List ℕ) → at < 4 → NeedNone i words → NeedNone i (set words at v)
need_none_still i at v words low none d below = get_or-set_other words at (need_at d) v 0 (λ e. omega arith) ∙ none d below

-- where the first `i` callers need no cell, they need none after a step that leaves the word at `at` as it found it
need_none_found : (i at : ℕ) (words : List ℕ) → NeedNone i words → NeedNone i (set words at (slice_index words at))
need_none_found i at words none = subst (NeedNone i) (sym (set-get_or words at 0)) none

-- a protection is none, or it stands, stated or confirmed
protection_cases : (p : Protection) → (p ≡ Unprotected) ⊎ IsProtected p
protection_cases Unprotected = inl refl
protection_cases (Stated p) = inr tt
protection_cases (Confirmed p) = inr tt

-- the first `i` callers need no cell, and `l` has the entries, answers, cells and code last seen in CUR of `l0`
pub record Unneeded (l0 : Local) (i : ℕ) (s : State) (l : Local) : Type 0 where
  pub quiet : Quiet l0 l
  pub none : NeedNone i s.words

-- the caller opens cells; `l0` is its local state before that
module _ (instance : Instance) (caller : ℕ) (history : List Entry) (l0 : Local) where
  -- caller `i` takes its protection back, after each caller before it did
  module _ (i : ℕ) (s : State) (l : Local) (below : i < instance.callers) (here : Here instance caller history s l) (unneeded : Unneeded l0 i s l) where
    -- the local state of caller `i`, with the proof that it is
    abbrev other : (m : Local) × (slice_get s.locals i ≡ Some m)
    other = item_below s.locals i (omega (arith, below, here.law.shape.count))

    -- the local state of caller `i`
    abbrev m : Local
    m = other.0

    -- the local state of caller `i` after it took its protection back
    abbrev freed : Local
    freed = record m { protection = Unprotected; steps = one_more m.steps }

    -- the state after caller `i` took its protection back
    abbrev freed_state : State
    freed_state = made instance i s m Unprotect

    -- the state `s` is lawful and has this history, and caller `i` has the local state `m`
    here_other : Here instance i history s m
    here_other = record { law = here.law; at = other.1; of_history = here.of_history }

    -- the local state of caller `i` has the number `i`
    is_i : m.number ≡ i
    is_i = (here.law.shape.each i m other.1).number

    -- after caller `i` took its protection back, the first `i + 1` callers need no cell
    none_freed : NeedNone (i + 1) freed_state.words
    none_freed d less =
        elim (cases_eq d i) [
          | inl e ↦ ap (λ n. slice_index freed_state.words (need_at n)) (e ∙ sym is_i)
              ∙ get_or-set_same s.words (need_at m.number) max_word 0 (omega (arith, is_i, below, here.law.shape.long))
          | inr ne ↦ get_or-set_other s.words (need_at m.number) (need_at d) max_word 0 (λ e. ne (omega (arith, e, is_i))) ∙ unneeded.none d (omega arith)
        ]

    -- where caller `i` has a protection
    module _ (protected : IsProtected m.protection) where
      -- the state after caller `i` took its protection back is lawful and has the same history; the local state of caller `i` is `freed`
      here_freed : Here instance i history freed_state freed
      here_freed = stepped instance i s m freed Unprotect history here_other protected refl refl

      -- after caller `i` took its protection back, the caller, which may be caller `i` itself, has a local state with the entries, answers, cells and
      -- code last seen in CUR of `l0`
      caller_then : (l' : Local) × Here instance caller history freed_state l' × Quiet l0 l'
      caller_then =
          elim (cases_eq caller i) [
            -- the caller is caller `i` itself
            | inl e ↦ (
                let same : l ≡ m = same_Some l m (sym here.at ∙ ap (slice_get s.locals) e ∙ other.1) in
                let quiet = subst (Quiet l0) same unneeded.quiet in (
                  freed,
                  record { law = here_freed.law; at = ap (slice_get freed_state.locals) e ∙ here_freed.at; of_history = here_freed.of_history },
                  record { own = quiet.own; answered = quiet.answered; cells = quiet.cells; seen = quiet.seen },
                ))
            -- the caller is another one, and its local state is as before
            | inr ne ↦ (
              l,
              record {
                law = here_freed.law;
                at = slice_get-set_other s.locals i caller (local_after instance (scene_of instance s) Unprotect m) ne ∙ here.at;
                of_history = here_freed.of_history;
              },
              unneeded.quiet,
            )
          ]

      -- where caller `i` has a protection, some run of one step takes it back, and the first `i + 1` callers need no cell then
      takes_back : Reached instance caller history s (Unneeded l0 (i + 1))
      takes_back =
          let then_ = caller_then in
          step_by instance caller i s m Unprotect history history here_other protected
          (stay instance caller freed_state then_.0 history then_.1 (record { quiet = then_.2; none = none_freed }))

    -- where the first `i` callers need no cell, some run leads to a state in which the first `i + 1` need none
    one_unprotected : Reached instance caller history s (Unneeded l0 (i + 1))
    one_unprotected =
        elim (protection_cases m.protection) [
          -- caller `i` has no protection, and its word NEED says so (`need`): no step is made
          | inl e ↦ (
              let need : slice_index s.words (need_at i) ≡ max_word = (here.law.ring.each i m other.1).need ∙ ap need_word e in
              stay instance caller s l history here (record {
                quiet = unneeded.quiet;
                none = λ d less. elim (cases_eq d i) [
                  | inl same ↦ ap (λ n. slice_index s.words (need_at n)) same ∙ need
                  | inr ne ↦ unneeded.none d (omega arith)
                ];
              }))
          -- caller `i` has a protection, and takes it back
          | inr protected ↦ takes_back protected
        ]

  -- some run leads to a state in which no caller needs a cell: each takes its protection back
  all_unprotected : (s : State) (l : Local) → Here instance caller history s l → Unneeded l0 0 s l → Reached instance caller history s (Unneeded l0 instance.callers)
  all_unprotected s l here unneeded = each_of instance caller (Unneeded l0) history instance.callers one_unprotected instance.callers 0 (omega arith) s l here unneeded

-- no caller needs a cell, and the caller scans: caller `i` is the next to scan, and the scan's bound is `lower` or above. The caller has the entries,
-- answers, cells and code last seen in CUR of `l0`.
pub record Scanning (callers : ℕ) (l0 : Local) (lower i : ℕ) (s : State) (l : Local) : Type 0 where
  pub quiet : Quiet l0 l
  pub none : NeedNone callers s.words
  pub scan : Scan
  pub is : l.scan ≡ Some scan
  pub next : scan.next ≡ i
  pub bound : lower ≤ scan.bound

-- no caller needs a cell, the caller scans nothing, and has seen FREE at `lower` or above. It has the entries, answers, cells and code last seen in
-- CUR of `l0`.
pub record Swept (callers : ℕ) (l0 : Local) (lower : ℕ) (s : State) (l : Local) : Type 0 where
  pub quiet : Quiet l0 l
  pub none : NeedNone callers s.words
  pub scan : l.scan ≡ None
  pub free : lower ≤ l.seen_free

-- a scan with a bound of `lower` or above goes on to its end
module _ (instance : Instance) (caller : ℕ) (history : List Entry) (l0 : Local) (lower : ℕ) (word : lower ≤ max_word) where
  -- the number of callers
  abbrev callers : ℕ
  callers = instance.callers

  -- the scan loads the need of caller `i`
  module _ (i : ℕ) (s : State) (l : Local) (below : i < callers) (here : Here instance caller history s l) (scanning : Scanning callers l0 lower i s l) where
    -- the need of caller `i` as its word NEED says it
    abbrev found : ℕ
    found = slice_index s.words (need_at i)

    -- the caller's local state after the need of caller `i` is loaded
    abbrev scanned_local : Local
    scanned_local = record l { scan = Some (scanned_on i found scanning.scan); steps = one_more l.steps }

    -- the step that loads the need of caller `i`
    abbrev load : Kind
    load = kinds.Scan i

    -- the load is allowed: caller `i` is the next one of the scan
    can_scan : Guard instance (scene_of instance s) load l
    can_scan = (below, subst (IsNext i) (sym scanning.is) scanning.next)

    -- the state after the load is lawful and has the same history; the caller's local state there is `scanned_local`
    here_scanned : Here instance caller history (made instance caller s l load) scanned_local
    here_scanned = stepped instance caller s l scanned_local load history here can_scan
        (ap (λ (o : Option Scan). record l { scan = scan_after i found o; steps = one_more l.steps }) scanning.is) refl

    -- some run of one step, the load, leads to a scan that has caller `i + 1` next. Its bound is still `lower` or above, since caller `i` needs no
    -- cell.
    one_scanned : Reached instance caller history s (Scanning callers l0 lower (i + 1))
    one_scanned = step instance caller s l load history history here can_scan (stay instance caller _ scanned_local history here_scanned (record {
      quiet = record { own = scanning.quiet.own; answered = scanning.quiet.answered; cells = scanning.quiet.cells; seen = scanning.quiet.seen };
      none = need_none_found callers (need_at i) s.words scanning.none;
      scan = scanned_on i found scanning.scan;
      is = refl;
      next = refl;
      bound = omega (arith, scanning.bound, scanning.none i below, word);
    }))

  -- from a state in which the scan has passed all callers, some run of one step raises FREE to the scan's bound, and ends the scan
  opened_free : (s : State) (l : Local) → Here instance caller history s l → Scanning callers l0 lower callers s l → Reached instance caller history s (Swept callers l0 lower)
  opened_free s l here scanning =
      let free = slice_index s.words free_at in
      let l1 : Local = opened l free in
      let can : Guard instance (scene_of instance s) OpenFree l = subst (IsNext callers) (sym scanning.is) scanning.next in
      let here1 : Here instance caller history (made instance caller s l OpenFree) l1 = stepped instance caller s l l1 OpenFree history here can refl refl in
      let bound : lower ≤ bound_in l.scan = subst (λ (o : Option Scan). lower ≤ bound_in o) (sym scanning.is) scanning.bound in
      step instance caller s l OpenFree history history here can (stay instance caller _ l1 history here1 (record {
        quiet = record { own = scanning.quiet.own; answered = scanning.quiet.answered; cells = scanning.quiet.cells; seen = scanning.quiet.seen };
        none = need_none_still callers free_at _ s.words (omega arith) scanning.none;
        scan = refl;
        free = omega arith;
      }))

  -- a scan that has caller `i` next, with `n` callers to go, goes on to its end, and FREE is raised to its bound
  pub swept : (n i : ℕ) → i + n ≡ callers → (s : State) (l : Local) → Here instance caller history s l → Scanning callers l0 lower i s l → Reached instance caller history s (Swept callers l0 lower)
  swept n i all s l here scanning =
      andthen instance caller s history history (each_of instance caller (Scanning callers l0 lower) history callers one_scanned n i all s l here scanning) opened_free

module _ (instance : Instance) (caller : ℕ) (history : List Entry) (l0 : Local) where
  -- where no caller needs a cell, some run ends the scan that the caller is in, if there is one
  scan_ended : (s : State) (l : Local) → Here instance caller history s l → Unneeded l0 instance.callers s l → Reached instance caller history s (Swept instance.callers l0 0)
  scan_ended s l here unneeded =
      elim (option_cases l.scan) [
        -- it scans nothing: no step is made
        | inl none ↦ stay instance caller s l history here (record { quiet = unneeded.quiet; none = unneeded.none; scan = none; free = omega arith })
        -- its scan `sc` goes on to its end
        | inr stands ↦ (
            let sc = stands.0 in
            let within = ((here.law.ring.each caller l here.at).scan sc stands.1).next in
            swept instance caller history l0 0 (omega arith) (instance.callers - sc.next) sc.next (omega arith) s l here
            (record { quiet = unneeded.quiet; none = unneeded.none; scan = sc; is = stands.1; next = refl; bound = omega arith }))
      ]

  -- a new scan opens the tickets below `place`, where the code last seen in CUR has `place` or a later place
  module _ (place : ℕ) (seen : place ≤ root_place_of instance.callers l0.seen_cur) (word : place ≤ max_word) where
    -- from a state in which the caller scans nothing, some run raises LOW to `place`, begins a scan (`l1`), and ends it with FREE at `place` or above
    new_scan : (s : State) (l : Local) → Here instance caller history s l → Swept instance.callers l0 0 s l → Reached instance caller history s (Swept instance.callers l0 place)
    new_scan s l here ended =
        let l1 : Local = closing place l in
        let can : Guard instance (scene_of instance s) (CloseLow place) l =
        (subst (λ c. place ≤ root_place_of instance.callers c) (sym ended.quiet.seen) seen, subst IsNone (sym ended.scan) refl) in
        let here1 : Here instance caller history (made instance caller s l (CloseLow place)) l1 = stepped instance caller s l l1 (CloseLow place) history here can refl refl in
        step instance caller s l (CloseLow place) history history here can
        (swept instance caller history l0 place word instance.callers 0 (omega arith) _ l1 here1 (record {
          quiet = record { own = ended.quiet.own; answered = ended.quiet.answered; cells = ended.quiet.cells; seen = ended.quiet.seen };
          none = need_none_still instance.callers low_at _ s.words (omega arith) ended.none;
          scan = record { target = place; bound = place; next = 0; least = None };
          is = refl;
          next = refl;
          bound = omega arith;
        }))

-- from a lawful state (`Here`) in which the code that the caller last saw in CUR has `place` or a later place, some run leads to a state in which the
-- caller has seen FREE at `place` or above (`Swept`): the tickets below `place` are open
pub opens : (instance : Instance) (caller : ℕ) (history : List Entry) (s : State) (l : Local) (place : ℕ) → Here instance caller history s l → place ≤ root_place_of instance.callers l.seen_cur → place ≤ max_word →
    Reached instance caller history s (Swept instance.callers l place)
opens instance caller history s l place here seen word =
    let start : Unneeded l 0 s l = record { quiet = record { own = refl; answered = refl; cells = refl; seen = refl }; none = λ d below. absurd (omega arith) } in
    andthen instance caller s history history (all_unprotected instance caller history l s l here start) (λ s1 l1 here1 unneeded.
    andthen instance caller s1 history history (scan_ended instance caller history l s1 l1 here1 unneeded) (λ s2 l2 here2 ended.
    new_scan instance caller history l place seen word s2 l2 here2 ended))
