-- A replica is taken exclusively, the full image after the whole history is stored to it word by word, each word is persisted, and the right is
-- downgraded.
use Rattle.std.proofs.Common.{◌≡◌, ◌∙◌, ◌+◌, ◌*◌, ◌<◌, ◌≤◌, ◌==◌, inl, inr, IsNone, All, ℕ, true, false, cond, get_or, List, [], ◌∷◌, Option, None, Some, length, filter, set, slice_index, ap, refl, sym, subst, arith, option_map}
use Rattle.std.proofs.lemmas.Bool.{cases_eq, eq-eqb}
use Rattle.std.proofs.lemmas.List.{ext_get_or, get_or-set_other, get_or-set_same}
use Rattle.std.proofs.lemmas.List.Elements.{All-filter, filter_passes}
use Rattle.core_reach.proofs.Images.{full_long, last_full, last_placed}
use Rattle.core_reach.proofs.PuttingDown.{PutDown, Same, option_cases, puts_down}
use Rattle.core_reach.proofs.Steps.{Here, Reached, andthen, each_of, history_same, made, stay, step, stepped}
use Rattle.core_replica.proofs.FreeLaws.{some_free}
use Rattle.cx_core.proofs.Claims.{holds_one}
use Rattle.cx_core.proofs.HeldLists.{All-with, Contains-with}
use Rattle.cx_core.specs.Events.{Guard}
use Rattle.cx_core.specs.Free.{HoldsNone, SomeFree}
use Rattle.cx_core.specs.History.{IsFull, full_image}
use Rattle.cx_core.specs.Layout.{lock_at}
use Rattle.cx_core.specs.LockEvents.{CanTryExclusive, refused_by, taken, with_number}
use Rattle.cx_core.specs.Merge.{scene_of}
use Rattle.cx_core.specs.Region.{place_of}
use Rattle.cx_core.specs.RegionEvents.{stored_into}
use Rattle.cx_core.specs.Rights.{held_dirty, held_words}
use Rattle.cx_core.specs.State.{Instance, State, one_more}
use Rattle.cx_core.specs.declared.entry.Entry.{Entry}
use Rattle.cx_core.specs.declared.kinds.Kind.{Kind}
use Rattle.cx_core.specs.declared.kinds.Kind.TheVariants.{Downgrade, Persist, StoreWord, TryExclusive}
use Rattle.cx_core.specs.declared.local.HeldExclusive.{HeldExclusive}
use Rattle.cx_core.specs.declared.local.Local.{Local}

-- `l'` has a replica exclusively, and no other right. The first `i` words there are those of `image`, and not dirty. Entries, cells and reads are
-- those of `l`.
pub record Storing (callers : ℕ) (l : Local) (image : List ℕ) (i : ℕ) (l' : Local) : Type 0 where
  pub same : Same l l'
  pub replica : ℕ
  pub small : replica < 2 * callers
  pub words : List ℕ
  pub dirty : List ℕ
  pub exclusive : l'.exclusive ≡ Some (record { replica = replica; words = words; dirty = dirty })
  pub shared : l'.shared ≡ None
  pub passer : l'.passer ≡ None
  pub downgraded : l'.downgraded ≡ None
  pub won : l'.won ≡ None
  pub stored : (k : ℕ) → k < i → slice_index words k ≡ slice_index image k
  pub clean : All (λ k. i ≤ k) dirty

-- `l'` has a replica downgraded at `place`, and no other right. Entries, cells and reads are those of `l`.
pub record Downgraded (callers : ℕ) (l : Local) (place : ℕ) (l' : Local) : Type 0 where
  pub same : Same l l'
  pub replica : ℕ
  pub small : replica < 2 * callers
  pub exclusive : l'.exclusive ≡ None
  pub shared : l'.shared ≡ None
  pub passer : l'.passer ≡ None
  pub downgraded : l'.downgraded ≡ Some (record { replica = replica; place = place })
  pub won : l'.won ≡ None

-- the replica that is held exclusively, if there is one
abbrev held_on : Option HeldExclusive → Option ℕ
held_on o = option_map (λ (h : HeldExclusive). h.replica) o

-- a caller without any right may try to take any of the `2 * callers` replicas exclusively
can_take : (callers r : ℕ) (l : Local) → HoldsNone l → r < 2 * callers → CanTryExclusive callers r l
can_take callers r l none below = rw (none.exclusive, none.shared, none.passer, none.downgraded, none.won) (below, cc, omega arith, refl)

-- the dirty addresses that are left after word `i` was stored and persisted, where `dirty` were before
abbrev left : ℕ → List ℕ → List ℕ
left i dirty = filter (λ x. cond (x == i) false true) (with_number dirty i)

-- where all dirty addresses are `i` or above, those left after word `i` was stored and persisted are `i + 1` or above
left_above : (i : ℕ) (dirty : List ℕ) → All (λ k. i ≤ k) dirty → All (λ k. i + 1 ≤ k) (left i dirty)
left_above i dirty above k d within =
    let kept = All-filter (λ x. cond (x == i) false true) (λ x. i ≤ x) (with_number dirty i) (All-with (λ x. i ≤ x) dirty i above (omega arith)) k d within in
    let passes = filter_passes (λ x. cond (x == i) false true) (with_number dirty i) k d within in
    apart (get_or (left i dirty) k d) kept passes
  where
    -- a number from `i` on that the filter keeps is above `i`
    apart : (x : ℕ) → i ≤ x → cond (x == i) false true ≡ true → i + 1 ≤ x
    apart x from passes = elim (cases_eq x i) [
      | inl e ↦ (let bad : false ≡ true = ap (λ b. cond b false true) (sym (eq-eqb x i e)) ∙ passes in cc)
      | inr ne ↦ omega arith
    ]

-- a list is empty where each of its numbers is `n` or above, and each is below `n`
none_between : (n : ℕ) (xs : List ℕ) → All (λ x. n ≤ x) xs → All (λ x. x < n) xs → xs ≡ []
none_between n [] above below = refl
none_between n (x ∷ xs) above below = (let a : n ≤ x = above 0 x (omega arith) in let b : x < n = below 0 x (omega arith) in absurd (omega arith))

-- the caller stores `image` to a replica; `l0` is its local state before that
module _ (instance : Instance) (caller : ℕ) (history : List Entry) (l0 : Local) (image : List ℕ) where
  -- the number of callers
  abbrev callers : ℕ
  callers = instance.callers

  -- the first `i` words of the image are stored and persisted; word `i` is next
  module _ (i : ℕ) (s : State) (l : Local) (below : i < length instance.base.words) (here : Here instance caller history s l) (storing : Storing callers l0 image i l) where
    -- the replica that the caller holds exclusively, to which it stores
    abbrev r : ℕ
    r = storing.replica

    -- the words of the replica after word `i` of the image is stored
    abbrev words' : List ℕ
    words' = set storing.words i (slice_index image i)

    -- the caller's local state after word `i` is stored: address `i` is dirty
    abbrev stored_local : Local
    stored_local = record l { exclusive = Some (record { replica = r; words = words'; dirty = with_number storing.dirty i }); steps = one_more l.steps }

    -- the caller's local state after word `i` is persisted: address `i` is not dirty
    abbrev persisted_local : Local
    persisted_local = record stored_local { exclusive = Some (record { replica = r; words = words'; dirty = left i storing.dirty }); steps = one_more stored_local.steps }

    -- the step that stores word `i` of the image to the replica
    abbrev store : Kind
    store = StoreWord r i (slice_index image i)

    -- the state after word `i` is stored
    abbrev stored_state : State
    stored_state = made instance caller s l store

    -- the store is allowed: the caller holds the replica exclusively
    can_store : Guard instance (scene_of instance s) store l
    can_store = (storing.small, below, ap held_on storing.exclusive)

    -- the state after the store is lawful and has the same history; the caller's local state there is `stored_local`
    here_stored : Here instance caller history stored_state stored_local
    here_stored = stepped instance caller s l stored_local store history here can_store
        (ap (λ (o : Option HeldExclusive). record l { exclusive = option_map (stored_into i (slice_index image i)) o; steps = one_more l.steps }) storing.exclusive) refl

    -- word `i` may be persisted: it is dirty after the store
    can_persist : Guard instance (scene_of instance stored_state) (Persist r i) stored_local
    can_persist = ((storing.small, below, refl), Contains-with storing.dirty i)

    -- the state after word `i` is persisted is lawful and has the same history; the caller's local state there is `persisted_local`
    here_persisted : Here instance caller history (made instance caller stored_state stored_local (Persist r i)) persisted_local
    here_persisted = stepped instance caller stored_state stored_local persisted_local (Persist r i) history here_stored can_persist refl refl

    -- after the store the first `i + 1` words of the replica are those of the image
    one_more_stored : (k : ℕ) → k < i + 1 → slice_index words' k ≡ slice_index image k
    one_more_stored k less =
        let long = (here.law.regions.held caller l here.at _ storing.exclusive).long in
        elim (cases_eq k i) [
          | inl e ↦ subst (λ n. slice_index words' n ≡ slice_index image n) (sym e) (get_or-set_same storing.words i (slice_index image i) 0 (omega (arith, below, long)))
          | inr ne ↦ get_or-set_other storing.words i k (slice_index image i) 0 ne ∙ storing.stored k (omega arith)
        ]

    -- after word `i` is stored and persisted, the first `i + 1` words of the replica are those of the image, and not dirty
    stored_once : Storing callers l0 image (i + 1) persisted_local
    stored_once = record {
      same = record { own = storing.same.own; cells = storing.same.cells; reads = storing.same.reads };
      replica = r;
      small = storing.small;
      words = words';
      dirty = left i storing.dirty;
      exclusive = refl;
      shared = storing.shared;
      passer = storing.passer;
      downgraded = storing.downgraded;
      won = storing.won;
      stored = one_more_stored;
      clean = left_above i storing.dirty storing.clean;
    }

    -- some run of two steps stores word `i` of the image and persists it
    word_stored : Reached instance caller history s (λ _ l'. Storing callers l0 image (i + 1) l')
    word_stored =
        step instance caller s l store history history here can_store
        (step instance caller stored_state stored_local (Persist r i) history history here_stored can_persist
        (stay instance caller _ persisted_local history here_persisted stored_once))

  -- the number of words of a replica
  abbrev region : ℕ
  region = length instance.base.words

  -- from a state in which a replica is held exclusively, some run stores and persists all words of the image there
  all_stored : (s : State) (l : Local) → Here instance caller history s l → Storing callers l0 image 0 l → Reached instance caller history s (λ _ l'. Storing callers l0 image region l')
  all_stored = each_of instance caller (λ i _ l. Storing callers l0 image i l) history region word_stored region 0 (omega arith)

  -- all words of the image are stored and persisted; the image is the full image after `place`, and as long as a replica
  module _ (place : ℕ) (full : IsFull instance history image) (placed : place_of image ≡ place) (long : length image ≡ region)
      (s : State) (l : Local) (here : Here instance caller history s l) (storing : Storing callers l0 image region l) where
    -- the caller's local state after the downgrade: its exclusive right is a downgraded one at `place`
    abbrev given_local : Local
    given_local = record l { exclusive = None; downgraded = Some (record { replica = storing.replica; place = place }); steps = one_more l.steps }

    -- the step that downgrades the replica
    abbrev give : Kind
    give = Downgrade storing.replica

    -- the replica has the words of the image
    is_image : storing.words ≡ image
    is_image =
        let size = (here.law.regions.held caller l here.at _ storing.exclusive).long in
        ext_get_or 0 storing.words image (size ∙ sym long) (λ k within. storing.stored k (omega arith))

    -- no word of the replica is dirty
    all_clean : storing.dirty ≡ []
    all_clean = none_between region storing.dirty storing.clean (here.law.regions.held caller l here.at _ storing.exclusive).dirty

    -- the downgrade is allowed: no word is dirty, and the words are the full image after their place
    can_give_up : Guard instance (scene_of instance s) give l
    can_give_up = (
      (storing.small, ap held_on storing.exclusive, subst IsNone (sym storing.downgraded) refl, ap held_dirty storing.exclusive ∙ all_clean),
      subst (λ h. IsFull instance h (held_words l.exclusive)) (sym here.of_history) (subst (IsFull instance history) (sym (ap held_words storing.exclusive ∙ is_image)) full),
    )

    -- the state after the downgrade is lawful and has the same history; the caller's local state there is `given_local`
    here_given : Here instance caller history (made instance caller s l give) given_local
    here_given = stepped instance caller s l given_local give history here can_give_up
        (ap (λ (p : ℕ). record l { exclusive = None; downgraded = Some (record { replica = storing.replica; place = p }); steps = one_more l.steps })
        (ap (λ (o : Option HeldExclusive). place_of (held_words o)) storing.exclusive ∙ ap place_of is_image ∙ placed)) refl

    -- some run of one step, the downgrade, leads to a state in which the caller has the replica downgraded at `place`
    given_up : Reached instance caller history s (λ _ l'. Downgraded callers l0 place l')
    given_up = step instance caller s l give history history here can_give_up (stay instance caller _ given_local history here_given (record {
      same = record { own = storing.same.own; cells = storing.same.cells; reads = storing.same.reads };
      replica = storing.replica;
      small = storing.small;
      exclusive = refl;
      shared = storing.shared;
      passer = storing.passer;
      downgraded = refl;
      won = storing.won;
    }))

  -- the caller, which has no right but perhaps an exclusive one (`down`), stores to the replica that it holds, or takes a free one
  module _ (s : State) (l : Local) (here : Here instance caller history s l) (down : PutDown 4 l0 l) where
    -- a caller that holds a replica exclusively may begin to store there: no step is made
    keeps_one : (h : HeldExclusive) → l.exclusive ≡ Some h → Reached instance caller history s (λ _ l'. Storing callers l0 image 0 l')
    keeps_one h held =
        let one = holds_one l h held in
        stay instance caller s l history here (record {
          same = down.same;
          replica = h.replica;
          small = (here.law.locks.few caller l here.at).below h.replica (omega arith);
          words = h.words;
          dirty = h.dirty;
          exclusive = held;
          shared = down.shared (omega arith);
          passer = down.passer (omega arith);
          downgraded = down.downgraded (omega arith);
          won = down.won (omega arith);
          stored = λ k below. absurd (omega arith);
          clean = λ k d below. omega arith;
        })

    -- some run of one step gives a caller without any right a replica exclusively: `q`, whose lock word is 0, so that the try succeeds
    takes_one : HoldsNone l → Reached instance caller history s (λ _ l'. Storing callers l0 image 0 l')
    takes_one none =
        let free : SomeFree callers s.words = some_free instance s.words s.locals caller l here.law.shape here.law.locks here.at none in
        let q = free.replica in
        let word = slice_index s.words (lock_at callers q) in
        let l1 : Local = taken instance (scene_of instance s) q l in
        let can : Guard instance (scene_of instance s) (TryExclusive q) l = can_take callers q l none free.below in
        let here1 : Here instance caller history (made instance caller s l (TryExclusive q)) l1 = stepped instance caller s l l1 (TryExclusive q) history here can
        (ap (λ b. cond b (taken instance (scene_of instance s) q l) (refused_by callers q l word)) (eq-eqb word 0 free.free)) refl in
        let storing : Storing callers l0 image 0 l1 = record {
          same = record { own = down.same.own; cells = down.same.cells; reads = down.same.reads };
          replica = q;
          small = free.below;
          words = _;
          dirty = [];
          exclusive = refl;
          shared = none.shared;
          passer = none.passer;
          downgraded = none.downgraded;
          won = none.won;
          stored = λ k below. absurd (omega arith);
          clean = λ k d below. absurd (omega arith);
        } in
        step instance caller s l (TryExclusive q) history history here can (stay instance caller _ l1 history here1 storing)

    -- some run leads to a state in which the caller has a replica exclusively, and no other right; none of its words has to be the image's yet
    has_one : Reached instance caller history s (λ _ l'. Storing callers l0 image 0 l')
    has_one = elim (option_cases l.exclusive) [
      -- it holds none: it takes a free one
      | inl none ↦ takes_one (record { exclusive = none; shared = down.shared (omega arith); passer = down.passer (omega arith); downgraded = down.downgraded (omega arith); won = down.won (omega arith) })
      -- it holds one, and keeps it
      | inr held ↦ keeps_one held.0 held.1
    ]

-- Some run gives a caller a replica at the history's end, downgraded, and no other. What it stores there is `image`, the full image after the whole
-- history (`full`), which has the end as its place (`placed`) and is as long as a replica (`long`).
pub gives_replica : (instance : Instance) (caller : ℕ) (history : List Entry) (s : State) (l : Local) → Here instance caller history s l → 0 < length instance.base.words →
    Reached instance caller history s (λ _ l'. Downgraded instance.callers l (instance.base.place + length history) l')
gives_replica instance caller history s l here some =
    let law = here.law in
    let same = history_same instance caller history s l here in
    let at_end : List Entry → ℕ = λ h. instance.base.place + length h in
    let image_of : List Entry → List ℕ = λ h. full_image instance.step instance.base h (at_end h) in
    let image = image_of history in
    let full = subst (λ h. IsFull instance h (image_of h)) same (last_full instance s law some) in
    let placed = subst (λ h. place_of (image_of h) ≡ at_end h) same (last_placed instance s law some) in
    let long = subst (λ h. length (image_of h) ≡ length instance.base.words) same (full_long instance s law some (at_end law.history)) in
    andthen instance caller s history history (puts_down instance caller history s l here) (λ s1 l1 here1 down.
    andthen instance caller s1 history history (has_one instance caller history l image s1 l1 here1 down) (λ s2 l2 here2 storing.
    andthen instance caller s2 history history (all_stored instance caller history l image s2 l2 here2 storing) (λ s3 l3 here3 stored.
    given_up instance caller history l image (at_end history) full placed long s3 l3 here3 stored)))
