-- Steps made by one call: the words so far, and the seat that they lead to.
use Rattle.std.proofs.Common.{true, false, cond, inl, inr, ◌==◌, ◌≡◌, ◌+◌, ◌-◌, ◌*◌, ◌^◌, ◌<◌, ◌≤◌, ℕ, zero, suc, Bool, List, [], ◌∷◌, ◌++◌, ◌⊎◌, length, take, set, refl, ap, sym, subst, ◌∙◌, arith, add-one, length-append, Option, Some, None}
use Rattle.std.specs.Option.{option_map}
use Rattle.std.proofs.lemmas.Bool.{cases_Bool, eqb-true}
use Rattle.std.proofs.lemmas.List.{length-set, length-take-le}
use Rattle.std.proofs.lemmas.Nat.{mod_below}
use Rattle.atomic_table.specs.Seated.{TableId}
use Rattle.atomic_table.specs.Table.{Me}
use Rattle.cx_core.specs.declared.kinds.Kind.{Kind}
use Rattle.cx_core.specs.declared.kinds.Kind.TheVariants.{LoadWord}
use Rattle.cx_core.specs.declared.local.HeldShared.{HeldShared}
use Rattle.cx_core.specs.declared.local.Local.{Local}
use Rattle.cx_core.specs.declared.local.SeenSlot.{SeenSlot}
use Rattle.cx_core.specs.Layout.{cell_at, set_at, word_count}
use Rattle.cx_core.specs.QueueEvents.{ShowsTicket}
use Rattle.cx_core.specs.RegionEvents.{CanLoad, loaded_into}
use Rattle.cx_core.specs.Rights.{exclusive_on, is_at}
use Rattle.cx_core.specs.State.{Instance, one_more}
use Rattle.cx_core.proofs.HistoryLemmas.{ObjectLaws}
use Rattle.table_invariant.specs.declared.rule.Known.{Known}
use Rattle.table_invariant.specs.Running.{IsTableWithinLimits, IsSeatOf, Running, instance_at}
use Rattle.table_invariant.specs.Seats.{IsAtLimit, SeenGuard, Seated, known_after, known_local, known_of}
use Rattle.table_invariant.specs.Steps.{KnowledgeAfter}
use Rattle.caller_cache.specs.declared.summary.CachedLocal.{CachedLocal}
use Rattle.caller_cache.specs.Copies.{Copied, copied_after}
use Rattle.caller_cache.specs.Summaries.{summary_of}
use Rattle.caller_cache.proofs.SummaryLaws.{IsSeat, seated, step_made_at}
use Rattle.cx_table.specs.Runs.{AreLoaded, Runs, TeachesRun, loads_from, no_step, one_more_step, taught_more, taught_none}
use Rattle.cx_table.proofs.Handing.{step_fits}

-- one more of the words is in its place
take_set_at : (ws : List ℕ) (i v : ℕ) → i < length ws → take (suc i) (set ws i v) ≡ take i ws ++ v ∷ []
take_set_at [] i v below = absurd (omega arith)
take_set_at (w ∷ ws) zero v below = refl
take_set_at (w ∷ ws) (suc i) v below = ap (λ xs. w ∷ xs) (take_set_at ws i v (omega arith))

pub take_set : (ws : List ℕ) (i v : ℕ) → i < length ws → take (i + 1) (set ws i v) ≡ take i ws ++ v ∷ []
take_set ws i v below = ap (λ k. take k (set ws i v)) (add-one i) ∙ take_set_at ws i v below

-- a cell that is shown with a ticket is one of the cells
pub shown_cell : (callers : ℕ) (seen : Option SeenSlot) (ticket cell : ℕ) → 1 ≤ callers → ShowsTicket callers seen ticket cell → cell < 16 * callers
shown_cell callers None ticket cell some shows = absurd shows
shown_cell callers (Some seen) ticket cell some shows = subst (λ n. n < 16 * callers) shows.3 (mod_below (seen.word - 1) (16 * callers) (omega arith))

-- the words of a cell that is shown with a ticket lie within the table
pub shown_within : (callers region i : ℕ) (seen : Option SeenSlot) (ticket cell : ℕ) → 1 ≤ callers → i < 145 → ShowsTicket callers seen ticket cell → cell_at callers cell i < word_count callers region
shown_within callers region i None ticket cell some below shows = absurd shows
shown_within callers region i (Some seen) ticket cell some below shows =
    let k = shown_cell callers (Some seen) ticket cell some shows in
    omega arith

-- the words of a cell's write set lie within the table
pub set_within : (callers region cell i : ℕ) → i < 513 → cell < 16 * callers → set_at callers cell i < word_count callers region
set_within callers region cell i below small = omega arith

-- nothing was made yet
pub taught_nothing : (instance : Instance) (kinds : ℕ → Kind) (words : List ℕ) (me : Me ℕ (List Known)) → TeachesRun instance kinds (take 0 words) me me
taught_nothing instance kinds words me = taught_none _ _ _ refl refl

-- one step more was made
pub taught_on : (instance : Instance) (kinds : ℕ → Kind) (words : List ℕ) (i v : ℕ) (me mid after : Me ℕ (List Known)) → i < length words → TeachesRun instance kinds (take i words) me mid → KnowledgeAfter instance (kinds i) (known_of mid.0) v after →
    TeachesRun instance kinds (take (i + 1) (set words i v)) me after
taught_on instance kinds words i v me mid after below run taught =
    taught_more _ _ _ (take i words) v mid (take_set words i v below) run (subst (λ k. KnowledgeAfter instance (kinds k) (known_of mid.0) v after) (sym (length-take-le i words (omega arith))) taught)

-- which replica is held shared does not change when a word of one is loaded
shared_loaded : (r i found : ℕ) (o : Option HeldShared) → option_map (λ (h : HeldShared). h.replica) (option_map (loaded_into r i found) o) ≡ option_map (λ (h : HeldShared). h.replica) o
shared_loaded r i found None = refl
shared_loaded r i found (Some h) = refl

-- a word that may be loaded may be so after another
pub may_still : (instance : Instance) (callers region r i q j v : ℕ) (k : Known) → CanLoad callers region r i k.local → CanLoad callers region r i (known_after instance (LoadWord q j false) k v).local
may_still instance callers region r i q j v k can =
    (can.0, can.1, subst (λ o. (exclusive_on k.local ≡ Some r) ⊎ (o ≡ Some r)) (sym (shared_loaded q j v k.local.shared)) can.2)

pub numbers_loaded : (instance : Instance) (q j v : ℕ) (k : Known) → summary_of (known_local instance (LoadWord q j false) k v) ≡ record (summary_of k.local) { steps = one_more k.local.steps }
numbers_loaded instance q j v k i = record (summary_of k.local) { shared = shared_loaded q j v k.local.shared i; steps = one_more k.local.steps }

-- a load of a word behind the place changes nothing that is kept of words
pub kept_loading : (r i v : ℕ) (k : Known) (c : Copied) → 0 < i → copied_after (LoadWord r i false) k v c ≡ c
kept_loading r i v k c behind =
    elim (is_at r (exclusive_on k.local)) as (λ b. cond b (record c { place = cond (i == 0) v c.place }) c ≡ c) [
      | true ↦ (elim (cases_Bool (i == 0)) [
        | inl is ↦ absurd (let none : i ≡ 0 = eqb-true i 0 is in omega (arith, none))
        | inr not ↦ λ j. record c { place = cond (not j) v c.place }
      ])
      | false ↦ refl
    ]

-- one word more was loaded, and the others may be still
pub loaded_on : (instance : Instance) (replica from i n v : ℕ) (begun : Me ℕ (List Known)) (words : List ℕ) (mid after : Me ℕ (List Known)) → n ≡ i + 1 → i < length words → AreLoaded instance replica from begun i words mid →
    KnowledgeAfter instance (LoadWord replica (from + i) false) (known_of mid.0) v after → AreLoaded instance replica from begun n (set words i v) after
loaded_on instance replica from i n v begun words mid after more below was taught =
    let known = ap (λ (m : Me ℕ (List Known)). known_of m.0) taught.knows in
    record {
      one = taught.knows ∙ ap (λ k. (k ∷ [], [])) (sym known);
      may = λ j least. subst (λ (k : Known). CanLoad instance.callers (length instance.base.words) replica (from + j) k.local) (sym known)
          (may_still instance instance.callers (length instance.base.words) replica (from + j) replica (from + i) v (known_of mid.0) (was.may j (subst (λ m. j < m) (length-set words i v) least)));
      taught = subst (λ m. TeachesRun instance (loads_from replica from) (take m (set words i v)) begun after) (sym more) (taught_on instance (loads_from replica from) words i v begun mid after below was.taught taught);
    }

-- Steps of kinds that stay allowed, that change no number but the steps, and nothing that is kept of words.
module _ {O : Type 0} (line_count : O → ℕ) (lawful : O → List ℕ → Type 0) (step : O → List ℕ → List ℕ → List ℕ × List ℕ) (reads : O → List ℕ → Bool) (r : Running O) (running : IsTableWithinLimits line_count lawful r)
    (laws : ObjectLaws r.lines (lawful r.object) (step r.object)) (kinds : ℕ → Kind) (n : ℕ) (May : Known → Type 0) (guard : (k : Known) (i : ℕ) → i < n → May k → SeenGuard (instance_at r step reads) (kinds i) k.local)
    (stays : (k : Known) (i v : ℕ) → May k → May (known_after (instance_at r step reads) (kinds i) k v))
    (numbers : (k : Known) (i v : ℕ) → summary_of (known_local (instance_at r step reads) (kinds i) k v) ≡ record (summary_of k.local) { steps = one_more k.local.steps })
    (kept : (k : Known) (i v : ℕ) (c : Copied) → copied_after (kinds i) k v c ≡ c) (me : Me ℕ (List Known)) (summary : CachedLocal) (copy : Copied) (table : TableId) (before : ℕ) where
  -- the numbers after i further steps
  abbrev pub counted : ℕ → CachedLocal
  counted i = record summary { steps = summary.steps + i }

  pub record Led (words : List ℕ) (me' : Me ℕ (List Known)) : Type 0 where
    pub seat : IsSeat me' (counted (length words)) before copy
    pub may : May (known_of me'.0)
    pub runs : Runs r step reads (lawful r.object) kinds words (seated table me before copy) (seated table me' before copy)
    pub of : IsSeatOf r (seated table me' before copy)

  pub led : (words : List ℕ) (me' : Me ℕ (List Known)) → length words ≤ n → summary.steps + length words ≤ summary.limit → summary.steps + length words < 2 ^ 64 → IsSeat me summary before copy → May (known_of me.0) → IsSeatOf r (seated table me before copy) →
      TeachesRun (instance_at r step reads) kinds words me me' → Led words me'
  led words me' few within small old may of (taught_none _ _ _ nothing same) =
      let steps : summary.steps ≡ summary.steps + length words = omega (arith, ap length nothing) in
      let seat : IsSeat me (counted (length words)) before copy = subst (λ k. IsSeat me (record summary { steps = k }) before copy) steps old in
      subst (Led words) (sym same) (record { seat = seat; may = may; runs = no_step words _ _ nothing refl; of = of })
  led words me' few within small old may of (taught_more _ _ _ first found mid longer run taught) =
      let instance = instance_at r step reads in
      let long : length words ≡ length first + 1 = ap length longer ∙ length-append first (found ∷ []) in
      let was = led first mid (omega (arith, long, few)) (omega (arith, long, within)) (omega (arith, long, small)) old may of run in
      let i = length first in
      let one : one_more (summary.steps + i) ≡ summary.steps + length words = omega (arith, long, small) in
      let at : counted i ≡ summary_of (known_of mid.0).local = was.seat.0.is in
      let now : counted (length words) ≡ summary_of (known_local instance (kinds i) (known_of mid.0) found) = (λ j. record summary { steps = sym one j }) ∙ ap (λ (m : CachedLocal). record m { steps = one_more m.steps }) at ∙ sym (numbers (known_of mid.0) i found) in
      let may_it = guard (known_of mid.0) i (omega (arith, long, few)) was.may in
      let allowed : (l : Local) → counted i ≡ summary_of l → ¬ IsAtLimit l = λ l is end. (
      let a : summary.steps + i ≡ l.steps = ap (λ (m : CachedLocal). m.steps) is in
      let b : summary.limit ≡ l.limit = ap (λ (m : CachedLocal). m.limit) is in
      let c = end.0 in omega (arith, a, b, c, within, long)) in
      let made = step_made_at r step reads (kinds i) found mid me' (counted i) (counted (length words)) copy copy table table before (seated table mid before copy) was.seat refl allowed was.of may_it refl taught now (sym (kept (known_of mid.0) i found copy)) in
      record {
        seat = made.0;
        may = subst May (sym (ap (λ (m : Me ℕ (List Known)). known_of m.0) taught.knows)) (stays (known_of mid.0) i found was.may);
        runs = one_more_step words _ _ first found (seated table mid before copy) longer was.runs made.1 (step_fits line_count lawful step reads r (kinds i) (known_of mid.0) found me' running laws taught);
        of = made.1.seat;
      }

  -- a run of steps, from what contracts see of the seat, where its numbers in plain memory were counted on at once
  pub led_to : (old : Seated) (words : List ℕ) (me' : Me ℕ (List Known)) (table' : TableId) (summary' : CachedLocal) → seated table me before copy ≡ old → summary' ≡ counted (length words) → table' ≡ table → length words ≤ n → summary.steps + length words ≤ summary.limit →
      summary.steps + length words < 2 ^ 64 → IsSeat me summary before copy → May old.known → IsSeatOf r old → TeachesRun (instance_at r step reads) kinds words me me' →
      IsSeat me' summary' before copy × Runs r step reads (lawful r.object) kinds words old (seated table' me' before copy) × IsSeatOf r (seated table' me' before copy)
  led_to old words me' table' summary' view numbered same few within small is may of run =
      let l = led words me' few within small is (subst (λ (s : Seated). May s.known) (sym view) may) (subst (IsSeatOf r) (sym view) of) run in (
        subst (λ m. IsSeat me' m before copy) (sym numbered) l.seat,
        subst (λ t. Runs r step reads (lawful r.object) kinds words old (seated t me' before copy)) (sym same) (subst (λ s. Runs r step reads (lawful r.object) kinds words s (seated table me' before copy)) view l.runs),
        subst (λ t. IsSeatOf r (seated t me' before copy)) (sym same) l.of,
      )
