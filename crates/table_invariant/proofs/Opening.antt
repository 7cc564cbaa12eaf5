-- The rule holds of the table as it is opened.
use Rattle.std.proofs.Common.{◌≡◌, ◌≢◌, ◌^◌, ◌<◌, ◌≤◌, inl, inr, ℕ, zero, suc, List, [], ◌∷◌, length, map, set, slice_index, refl, ap, sym, subst, ◌∙◌, arith, Some}
use Rattle.std.proofs.lemmas.List.{length-map}
use Rattle.std.proofs.lemmas.List.FromFn.{length-map-range_with_len, get_or-map-range_with_len}
use Rattle.std.proofs.lemmas.Bool.{cases_eq, false≢true}
use Rattle.std.proofs.lemmas.Option.{same_Some, slice_get_within, slice_get-get_or, get_or_from_slice_get, none-some}
use Rattle.std.specs.List.{range_with_len, slice_get}
use mathlib.Core.Option.{some, some-injective, some-ne-none}
use lib.ListN.{get_elem?}
use Rattle.atomic_table.specs.Table as atomic
use Rattle.cx_core.specs.declared.entry.Entry.{Entry}
use Rattle.cx_core.specs.declared.local.Cell.{Cell}
use Rattle.cx_core.specs.declared.local.Local.{Local}
use Rattle.cx_core.specs.History.{full_image}
use Rattle.cx_core.specs.Lawful.{Lawful}
use Rattle.cx_core.specs.Region.{place_of}
use Rattle.cx_core.specs.State.{Instance, State, opening_local, opening_locals, opening_words}
use Rattle.cx_core.proofs.HistoryLemmas.{begins}
use Rattle.cx_core.proofs.ListLemmas.{slice_get-set_same, slice_get-set_other}
use Rattle.core_queue.proofs.Opening.{cell_blank}
use Rattle.table_invariant.specs.declared.rule.Known.{Known}
use Rattle.table_invariant.specs.Rule.{AreImages, RuleHolds, IsKnown, IsOrigin, opening_limited, SetsHold}
use Rattle.table_invariant.specs.Seats.{opening_known, opening_view}
use Rattle.table_invariant.specs.Timing.{AreTimes}
use Rattle.core_runs.proofs.Keeps.{lawful_local, opening_lawful}
use Rattle.table_invariant.proofs.Moves.{same_items}

-- an item of a list made item by item
pub mapped_at : {X : Type 0} (f : ℕ → X) (n i : ℕ) (x : X) → slice_get (map f (range_with_len 0 n)) i ≡ Some x → (i < n) × (x ≡ f i)
mapped_at f n i x at =
    let within : i < n = omega (arith, slice_get_within (map f (range_with_len 0 n)) i x at, length-map-range_with_len f 0 n) in
    (within, sym (get_or_from_slice_get (map f (range_with_len 0 n)) i x x at) ∙ get_or-map-range_with_len f 0 n i i x within (omega arith))

-- a list that is made item by item, of `n` items, has `f i` at each index `i` below `n`
pub mapped_there : {X : Type 0} (f : ℕ → X) (n i : ℕ) → i < n → slice_get (map f (range_with_len 0 n)) i ≡ Some (f i)
mapped_there f n i within =
    let long : i < length (map f (range_with_len 0 n)) = omega (arith, length-map-range_with_len f 0 n) in
    slice_get-get_or (map f (range_with_len 0 n)) i (f i) long ∙ ap Some (get_or-map-range_with_len f 0 n i i (f i) within (omega arith))

-- an item of a list that was made from another
map_at : {A B : Type 0} (f : A → B) (xs : List A) (i : ℕ) (y : B) → slice_get (map f xs) i ≡ Some y → (x : A) × (slice_get xs i ≡ Some x) × (f x ≡ y)
map_at f [] i y at = absurd (none-some y at)
map_at f (x ∷ xs) zero y at = (x, refl, same_Some (f x) y at)
map_at f (x ∷ xs) (suc i) y at = map_at f xs i y at

-- a limit of steps is in no part of the lawful state
limit_kept : (instance : Instance) (words : List ℕ) (locals : List Local) (caller : ℕ) (l : Local) (limit : ℕ) → Lawful instance (record { words = words; locals = locals }) → slice_get locals caller ≡ Some l →
    Lawful instance (record { words = words; locals = set locals caller (record l { limit = limit }) })
limit_kept instance words locals caller l limit law at = lawful_local instance (record { words = words; locals = locals }) caller l (record l { limit = limit }) law at (record {
  queue = record {
    number = refl;
    tickets = record { own = refl; answered = refl };
    cells = record { cells = refl; seen_slot = refl; seen_offer = refl };
    front = record { front = refl; floor = refl; seen_cur = refl; seen_free = refl; seen_low = refl; raised = refl; won = refl };
    ring = record { protection = refl; scan = refl };
  };
  rights = record { exclusive = refl; shared = refl; passer = refl; downgraded = refl; won = refl };
  held = record { exclusive = refl; shared = refl };
  root = record { seen_cur = refl; won = refl; downgraded = λ h has. has };
  answers = record { own = refl; answered = refl; seen_reads = refl; floor = refl };
})

-- the first n callers have their limits
record Limited (instance : Instance) (limits : List ℕ) (n : ℕ) : Type 0 where
  locals : List Local
  law : Lawful instance (record { words = opening_words instance.callers instance.base; locals = locals })
  done : (c : ℕ) → c < n → slice_get locals c ≡ Some (opening_known instance.callers instance.base.place limits c).local
  rest : (c : ℕ) → n ≤ c → c < instance.callers → slice_get locals c ≡ Some (opening_local instance.callers instance.base.place c)

limited : (instance : Instance) (limits : List ℕ) (n : ℕ) → 1 ≤ instance.callers → instance.callers ≤ 8 → instance.base.place ≤ 2 ^ 40 → place_of instance.base.words ≡ instance.base.place → n ≤ instance.callers → Limited instance limits n
limited instance limits zero one few place at_place within = record {
  locals = opening_locals instance.callers instance.base.place;
  law = opening_lawful instance one few place at_place;
  done = λ c below. absurd (omega arith);
  rest = λ c _ below. mapped_there (opening_local instance.callers instance.base.place) instance.callers c below;
}
limited instance limits (suc n) one few place at_place within =
    let before = limited instance limits n one few place at_place (omega arith) in
    let l = opening_local instance.callers instance.base.place n in
    let l' = (opening_known instance.callers instance.base.place limits n).local in
    let at = before.rest n (omega arith) (omega arith) in
    record {
      locals = set before.locals n l';
      law = limit_kept instance (opening_words instance.callers instance.base) before.locals n l (slice_index limits n) before.law at;
      done = λ c below. elim (cases_eq c n) [
        | inl e ↦ subst (λ k. slice_get (set before.locals n l') k ≡ Some (opening_known instance.callers instance.base.place limits k).local) (sym e) (slice_get-set_same before.locals n l' (slice_get_within before.locals n l at))
        | inr ne ↦ slice_get-set_other before.locals n c l' ne ∙ before.done c (omega (arith, ne))
      ];
      rest = λ c from below. (let ne : c ≢ n = λ e. omega arith in slice_get-set_other before.locals n c l' ne ∙ before.rest c (omega arith) below);
    }

-- the local states of callers that have their limits are those with which the table opens, and they are lawful
limited_are : (instance : Instance) (limits : List ℕ) (all : Limited instance limits instance.callers) → all.locals ≡ map (λ (k : Known). k.local) (opening_view instance.callers instance.base.place limits)
limited_are instance limits all =
    let f = opening_known instance.callers instance.base.place limits in
    let view = opening_view instance.callers instance.base.place limits in
    let long : length (map (λ (k : Known). k.local) view) ≡ instance.callers = length-map view (λ (k : Known). k.local) ∙ length-map-range_with_len f 0 instance.callers in
    same_items all.locals (map (λ (k : Known). k.local) view) (all.law.shape.count ∙ sym long) (λ i l at. (
    let k = map_at (λ (k : Known). k.local) view i l at in
    let is = mapped_at f instance.callers i k.0 k.1 in
    all.done i is.0 ∙ ap (λ (x : Known). Some x.local) (sym is.1) ∙ ap Some k.2))

pub limited_lawful : (instance : Instance) (limits : List ℕ) → 1 ≤ instance.callers → instance.callers ≤ 8 → instance.base.place ≤ 2 ^ 40 → place_of instance.base.words ≡ instance.base.place → Lawful instance (opening_limited instance limits)
limited_lawful instance limits one few place at_place =
    let all = limited instance limits instance.callers one few place at_place (omega arith) in
    subst (λ (ls : List Local). Lawful instance (record { words = opening_words instance.callers instance.base; locals = ls })) (limited_are instance limits all) all.law

only_view : (v w : List Known) (seat : ℕ) → get_elem? (v ∷ []) seat ≡ some w → (seat ≡ 0) × (v ≡ w)
only_view v w zero at = (refl, some-injective v w at)
only_view v w (suc seat) at = absurd (some-ne-none w (sym at))

-- the base's words are the full image after its place
base_origin : (instance : Instance) (history : List Entry) → place_of instance.base.words ≡ instance.base.place → IsOrigin instance history instance.base.words
base_origin instance history at = record {
  from = omega arith;
  to = omega arith;
  long = refl;
  words = λ i below. ap (λ ws. slice_index ws i) (sym (begins instance.step instance.base history)) ∙ ap (λ p. slice_index (full_image instance.step instance.base history p) i) (sym at);
}

-- the rule holds at the opening, where the first seat knows all callers
pub opening_held : (instance : Instance) (limits : List ℕ) → 1 ≤ instance.callers → instance.callers ≤ 8 → instance.base.place ≤ 2 ^ 40 → place_of instance.base.words ≡ instance.base.place → 0 < length instance.base.words →
    RuleHolds instance (atomic.opening (opening_words instance.callers instance.base) [] (opening_view instance.callers instance.base.place limits))
opening_held instance limits one few place at_place full =
    let all = limited instance limits instance.callers one few place at_place (omega arith) in
    let view = opening_view instance.callers instance.base.place limits in
    let f = opening_known instance.callers instance.base.place limits in
    record {
      locals = all.locals;
      place_of = λ c. (0, c);
      law = all.law;
      reached = record { limits = limits; events = []; ran = ap (λ (ls : List Local). (let s : State = record { words = opening_words instance.callers instance.base; locals = ls } in s)) (limited_are instance limits all) };
      each = λ seat i v known view_at item. (
          let first = only_view view v seat view_at in
          let at = mapped_at f instance.callers i known (ap (λ (w : List Known). slice_get w i) first.1 ∙ item) in
          let here : IsKnown instance all.law.history all.locals (λ c. (0, c)) 0 i (f i) = record {
            local = (f i).local;
            of_caller = all.done i at.0;
            shows = refl;
            only = refl;
            notes = λ n noted there. absurd (none-some noted there);
            traced = record { first = instance.base.words; now = instance.base.words; origin = base_origin instance all.law.history at_place; leads = refl; held = λ h has. absurd (none-some h has) };
          } in
          subst (IsKnown instance all.law.history all.locals (λ c. (0, c)) seat i) (sym at.1) (subst (λ n. IsKnown instance all.law.history all.locals (λ c. (0, c)) n i (f i)) (sym first.0) here));
      times = λ seat i v known view_at item. (
          let first = only_view view v seat view_at in
          let at = mapped_at f instance.callers i known (ap (λ (w : List Known). slice_get w i) first.1 ∙ item) in
          subst (λ (x : Known). AreTimes instance (opening_limited instance limits) [] x.local.number x.local x.times) (sym at.1) (record {
            all_linked = refl;
            linked = λ k n there. absurd (none-some n there);
            all_answered = refl;
            answered = λ k n there. absurd (none-some n there);
            loaded = λ fresh. absurd (false≢true fresh);
            all_reads = refl;
            begun = λ k x there. absurd (none-some x there);
            read = λ k x there. absurd (none-some x there);
            seen = λ fresh. absurd (false≢true fresh);
            current = λ seen. absurd (false≢true seen);
            images = λ k x there. absurd (none-some x there);
          }));
      images = λ seat i v known view_at item. (
          let first = only_view view v seat view_at in
          let at = mapped_at f instance.callers i known (ap (λ (w : List Known). slice_get w i) first.1 ∙ item) in
          subst (λ (x : Known). AreImages instance all.law.history x.images) (sym at.1) (λ k words there. absurd (none-some words there)));
      own = λ c x there_c j cell t there named offer. (
          let within = slice_get_within all.locals c x there_c in
          let mine : (f c).local ≡ x = same_Some (f c).local x (sym (all.done c (omega (arith, within, all.law.shape.count))) ∙ there_c) in
          let blank = cell_blank j cell (ap (λ (y : Local). slice_get y.cells j) mine ∙ there) in
          absurd (none-some t (sym (ap (λ (y : Cell). y.ticket) blank.1) ∙ named)));
      sets = λ seat i v known view_at item. (
          let first = only_view view v seat view_at in
          let at = mapped_at f instance.callers i known (ap (λ (w : List Known). slice_get w i) first.1 ∙ item) in
          subst (SetsHold instance (record { words = opening_words instance.callers instance.base; locals = all.locals }) all.law.history) (sym at.1)
          (record {
            noted = record { stand = λ n note there. absurd (none-some note there); whole = λ t set read. (let p = read.each 0 (omega arith) in absurd (none-some _ p.1)) };
            kept = λ t set has. absurd (none-some _ has.1);
          }));
      some = full;
    }
