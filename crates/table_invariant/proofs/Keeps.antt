-- Each event of the core keeps the rule of the table.
use Rattle.std.proofs.Common.{length, length-append, arith, ◌≡◌, ◌≢◌, ◌<◌, inl, ⊎_elim, ℕ, Bool, zero, suc, List, [], ◌∷◌, ◌++◌, set, slice_index, refl, ap, sym, subst, ◌∙◌, Some}
use Rattle.std.proofs.lemmas.Option.{same_Some, none-some, slice_get_within}
use Rattle.std.specs.List.{slice_get}
use mathlib.Core.Option.{some, some-ne-none}
use lib.ListN.{get_elem?}
use Rattle.atomic_table.specs.Seated.{TableId}
use Rattle.atomic_table.specs.Table as atomic
use Rattle.atomic_table.proofs.Lists.{at_set, set_here}
use Rattle.cx_core.specs.declared.entry.Base.{Base}
use Rattle.cx_core.specs.declared.entry.Entry.{Entry}
use Rattle.cx_core.specs.declared.kinds.Event.{Event}
use Rattle.cx_core.specs.declared.kinds.Kind.{Kind}
use Rattle.cx_core.specs.declared.kinds.Kind.TheVariants.{Raise, ReadSet}
use Rattle.cx_core.specs.declared.local.Local.{Local}
use Rattle.cx_core.specs.Events.{Guard, Makes, found_by, local_after, new_word, next, step_word, words_after}
use Rattle.cx_core.specs.Gaps.{Gap, IsGap}
use Rattle.core_replica.proofs.GapLaws.{gap_stays}
use Rattle.cx_core.specs.Lawful.{Lawful, LocalShape, OwnTickets}
use Rattle.cx_core.specs.Merge.{scene_of}
use Rattle.cx_core.specs.Shown.{shown}
use Rattle.cx_core.specs.State.{EachLocal, Instance, Scene, State}
use Rattle.cx_core.proofs.ListLemmas.{slice_get-set_same, slice_get-set_other}
use Rattle.cx_core.proofs.MergeLemmas.{goes_on, still_linked}
use Rattle.core_queue.specs.NotedSets.{OwnSetsHold, SetNotesHold}
use Rattle.core_queue.proofs.OwnSets.{own_event}
use Rattle.core_queue.proofs.QueueFrames.{queue_of}
use Rattle.core_queue.proofs.SetNotes.{notes_event, notes_read, set_grows}
use Rattle.table_invariant.specs.declared.rule.Known.{Known}
use Rattle.table_invariant.specs.Learns.{Learns, LearnsInAnyState, LearnsBy}
use Rattle.table_invariant.specs.Rule.{RuleHolds, AreImages, IsBehindNotes, IsImageOfSome, IsKnown, IsLawfulLocal, IsTraced, KeptHolds, NotesHold, SetsHold, opening_limited}
use Rattle.table_invariant.specs.Running.{Running, instance_at}
use Rattle.table_invariant.specs.Seats.{IsByShown, WordFits, accesses_after, known_after, known_local, known_of, noted_by, sets_after, times_by, unseen}
use Rattle.core_runs.proofs.Keeps.{bounds_of, kind_kept}
use Rattle.table_invariant.proofs.ShownLaws.{guard_shown, known_shown, lawful_shown, put_shown, load_shown, word_shown}
use Rattle.table_invariant.proofs.Notes.{noted_hold, notes-append, notes_still}
use Rattle.table_invariant.specs.Steps.{MayReleaseKnowing, IsEventOn, IsImageLearned, Puts, KnowledgeAfter, KnowledgeAfterCopy, TeachesImage, known_copied, known_taken}
use Rattle.table_invariant.specs.Timing.{AddTimes, AreTimes}
use Rattle.table_invariant.specs.FoundWords.{KnownOfLoad}
use Rattle.table_invariant.proofs.Telling.{load_known}
use Rattle.table_invariant.proofs.Behind.{behind_notes}
use Rattle.table_invariant.proofs.Current.{moves_on}
use Rattle.table_invariant.proofs.Entries.{entries_from}
use Rattle.cx_core.proofs.Locals.{slice_get-last}
use Rattle.table_invariant.proofs.Reached.{run_push}
use Rattle.table_invariant.proofs.Timing.{IsTimed, times_added, times_longer, times_next}
use Rattle.table_invariant.proofs.Traced.{images_added, images_longer, traced_longer, traced_next}
use Rattle.table_invariant.proofs.Traced.{goes_on as goes_further}

-- an event is allowed, puts that word, and its caller's seat then shows the local state after it
pub record Sees (instance : Instance) (scene : Scene) (kind : Kind) (known : Known) (l : Local) (new found : ℕ) : Type 0 where
  pub guard : Guard instance scene kind l
  pub new_is : new ≡ new_word instance kind l found
  pub shows : known_local instance kind known found ≡ shown (next instance scene kind l found)
  pub timed : IsTimed kind

-- the only item of a view of one
pub only_item : (x : Known) (i : ℕ) (y : Known) → slice_get (x ∷ []) i ≡ Some y → (i ≡ 0) × (x ≡ y)
only_item x zero y at = (refl, same_Some x y at)
only_item x (suc i) y at = absurd (none-some y at)

-- the sets that a caller kept are those of a longer history
kept_longer : (instance : Instance) (history more : List Entry) (k : Known) → KeptHolds instance history k.kept → KeptHolds instance (history ++ more) k.kept
kept_longer instance history more k hold ticket pairs has =
    let is = hold ticket pairs has in
    let below = is.0 in
    let longer = length-append history more in
    (omega (arith, below, longer), set_grows instance history more ticket pairs below is.1)

-- an event of a caller, made by its seat, keeps the rule, and stands then at the end of the list of steps
pub event_recorded : (instance : Instance) (kind : Kind) (s : atomic.State ℕ (List Known)) (id : ℕ) (known after : Known) (word new : ℕ) (held : RuleHolds instance s) → get_elem? s.views id ≡ some (known ∷ []) →
    LearnsInAnyState instance s.words kind known word new after →
    (then_ : RuleHolds instance (atomic.stepped s word new id [] (after ∷ []) atomic.keeps)) × (then_.reached.events ≡ held.reached.events ++ record { caller = known.local.number; kind = kind } ∷ [])
event_recorded instance kind s id known after word new held at learns =
    let mine = held.each id 0 (known ∷ []) known at refl in
    let l = mine.local in
    let caller = known.local.number in
    let state : State = record { words = s.words; locals = held.locals } in
    let law = held.law in
    let learnt = learns held.locals law l mine.of_caller mine.shows mine.notes mine.traced (held.sets id 0 (known ∷ []) known at refl) (held.own caller l mine.of_caller) held.some in
    let l' = local_after instance (scene_of instance state) kind l in
    let locals' = set held.locals caller l' in
    let put : words_after instance kind l s.words ≡ set s.words word new =
    ap (λ (w : ℕ). set s.words w (new_word instance kind l (slice_index s.words w))) (sym learnt.word_is) ∙ ap (set s.words word) (sym learnt.new_is) in
    let law' : Lawful instance (record { words = set s.words word new; locals = locals' }) =
    subst (λ (ws : List ℕ). Lawful instance (record { words = ws; locals = locals' })) put (kind_kept instance state caller l kind law mine.of_caller learnt.guard) in
    let within = slice_get_within held.locals caller l mine.of_caller in
    let there : slice_get locals' caller ≡ Some l' = slice_get-set_same held.locals caller l' within in
    let number : after.local.number ≡ caller = ap (λ (x : Local). x.number) learnt.shows ∙ (law'.shape.each caller l' there).number in
    let small : l.number < instance.callers = subst (λ n. n < instance.callers) (ap (λ (x : Local). x.number) mine.shows) (subst (λ n. caller < n) law.shape.count within) in
    let grows = still_linked instance instance.base.place law.history law'.history held.locals caller l l' law.tickets.merged law'.tickets.merged mine.of_caller (goes_on instance (scene_of instance state) kind l (found_by instance kind l s.words)) in
    let state' : State = record { words = set s.words word new; locals = locals' } in
    let more = goes_further instance.base.place law.history law'.history grows in
    let stays : (g : Gap) → IsGap instance law.history g → IsGap instance law'.history g = λ g. gap_stays instance law.history law'.history g (record { more = more.0; is = more.1 }) in
    let event : Event = record { caller = caller; kind = kind } in
    let makes : Makes instance event state state' = record { local = l; of_caller = mine.of_caller; guard = learnt.guard; words = sym put; locals = refl } in
    let opening = opening_limited instance held.reached.limits in
    let events = held.reached.events in
    let ran = run_push instance opening events event state state' held.reached.ran makes in
    let moved : (k : Known) → SetsHold instance state law.history k → SetsHold instance state' law'.history k = λ k hold.
    subst (λ h. SetsHold instance state' h k) (sym more.1) (record {
      noted = notes_event instance law.history more.0 state state' event k.sets (queue_of law) makes hold.noted;
      kept = kept_longer instance law.history more.0 k hold.kept;
    }) in (
      record {
        locals = locals';
        place_of = held.place_of;
        law = law';
        reached = record { limits = held.reached.limits; events = events ++ event ∷ []; ran = ran };
        each = λ seat i view k view_at item. ⊎_elim
            (λ (e : (seat ≡ id) × (after ∷ [] ≡ view)). (
            let only = only_item after i k (ap (λ v. slice_get v i) e.1 ∙ item) in
            let here : IsKnown instance law'.history locals' held.place_of id 0 after = record {
              local = l';
              of_caller = subst (λ n. slice_get locals' n ≡ Some l') (sym number) there;
              shows = learnt.shows;
              only = ap held.place_of number ∙ mine.only;
              notes = notes_still instance law.history law'.history after.noted grows stays learnt.notes;
              traced = traced_longer instance law.history law'.history after.accesses l' grows learnt.traced;
            } in
            subst (λ n. IsKnown instance law'.history locals' held.place_of seat n k) (sym only.0)
            (subst (λ n. IsKnown instance law'.history locals' held.place_of n 0 k) (sym e.0)
            (subst (IsKnown instance law'.history locals' held.place_of id 0) only.1 here))))
            (λ (e : (seat ≢ id) × (get_elem? s.views seat ≡ some view)). (
            let was = held.each seat i view k e.1 item in
            let apart : k.local.number ≢ caller = λ same. e.0 (ap (λ (p : ℕ × ℕ). p.0) (sym was.only ∙ ap held.place_of same ∙ mine.only)) in
            record {
              local = was.local;
              of_caller = slice_get-set_other held.locals caller k.local.number l' apart ∙ was.of_caller;
              shows = was.shows;
              only = was.only;
              notes = notes_still instance law.history law'.history k.noted grows stays was.notes;
              traced = traced_longer instance law.history law'.history k.accesses was.local grows was.traced;
            }))
            (at_set s.views id seat (after ∷ []) view view_at);
        times = λ seat i view k view_at item. ⊎_elim
            (λ (e : (seat ≡ id) × (after ∷ [] ≡ view)). (
            let only = only_item after i k (ap (λ v. slice_get v i) e.1 ∙ item) in
            let was = subst (λ (x : Local). AreTimes instance opening events caller x known.times) mine.shows (held.times id 0 (known ∷ []) known at refl) in
            let now = times_added instance opening events event state state' caller l l' held.reached.ran ran mine.of_caller there refl (moves_on instance event state state' caller l l' law mine.of_caller there refl makes refl refl) known.times after.times was learnt.timed in
            subst (λ (x : Known). AreTimes instance opening (events ++ event ∷ []) x.local.number x.local x.times) only.1
            (subst (λ n. AreTimes instance opening (events ++ event ∷ []) n after.local after.times) (sym number) (subst (λ (x : Local). AreTimes instance opening (events ++ event ∷ []) caller x after.times) (sym learnt.shows) now))))
            (λ (e : (seat ≢ id) × (get_elem? s.views seat ≡ some view)). times_longer instance opening events (event ∷ []) k.local.number k.local k.times (held.times seat i view k e.1 item))
            (at_set s.views id seat (after ∷ []) view view_at);
        images = λ seat i view k view_at item. ⊎_elim
            (λ (e : (seat ≡ id) × (after ∷ [] ≡ view)). (
            let only = only_item after i k (ap (λ v. slice_get v i) e.1 ∙ item) in
            let was = images_longer instance law.history law'.history known.images grows (held.images id 0 (known ∷ []) known at refl) in
            subst (λ (x : Known). AreImages instance law'.history x.images) only.1 (images_added instance law.history law'.history known.images after.images grows was learnt.imaged)))
            (λ (e : (seat ≢ id) × (get_elem? s.views seat ≡ some view)). images_longer instance law.history law'.history k.images grows (held.images seat i view k e.1 item))
            (at_set s.views id seat (after ∷ []) view view_at);
        own = subst (λ h. EachLocal locals' (λ _ x. OwnSetsHold instance h x.cells)) (sym more.1) (own_event instance law.history more.0 state state' event (queue_of law) makes held.own);
        sets = λ seat i view k view_at item. ⊎_elim
            (λ (e : (seat ≡ id) × (after ∷ [] ≡ view)). (
            let only = only_item after i k (ap (λ v. slice_get v i) e.1 ∙ item) in
            subst (SetsHold instance state' law'.history) only.1 (moved after learnt.sets)))
            (λ (e : (seat ≢ id) × (get_elem? s.views seat ≡ some view)). moved k (held.sets seat i view k e.1 item))
            (at_set s.views id seat (after ∷ []) view view_at);
        some = held.some;
      },
      refl,
    )

-- an event keeps the rule where it teaches its caller's seat what the seat then knows
pub event_held : (instance : Instance) (kind : Kind) (s : atomic.State ℕ (List Known)) (id : ℕ) (known after : Known) (word new : ℕ) → RuleHolds instance s → get_elem? s.views id ≡ some (known ∷ []) →
    LearnsInAnyState instance s.words kind known word new after → RuleHolds instance (atomic.stepped s word new id [] (after ∷ []) atomic.keeps)
event_held instance kind s id known after word new held at learns = (event_recorded instance kind s id known after word new held at learns).0

-- what a caller noted of sets, with what its own step notes
sets_next : (instance : Instance) (s : State) (law : Lawful instance s) (caller : ℕ) (l : Local) → slice_get s.locals caller ≡ Some l → (known : Known) (kind : Kind) → Guard instance (scene_of instance s) kind l → SetNotesHold instance s law.history known.sets →
    SetNotesHold instance s law.history (sets_after kind known (found_by instance kind l s.words))
sets_next instance s law caller l at known (ReadSet k t i) guard hold = notes_read instance s law.history (queue_of law) caller l at k t i known.sets guard hold
sets_next instance s law caller l at known kind guard hold = hold

-- an event whose guard and whose word put are known in a state teaches its seat so there
pub learns_there : (instance : Instance) (kind : Kind) (known : Known) (words : List ℕ) (word new : ℕ) → WordFits kind → word ≡ step_word instance kind known.local →
    (locals : List Local) (law : Lawful instance (record { words = words; locals = locals })) (l : Local) → slice_get locals known.local.number ≡ Some l → known.local ≡ shown l → NotesHold instance law.history known.noted →
    IsTraced instance law.history known.accesses l → SetsHold instance (record { words = words; locals = locals }) law.history known → 0 < length instance.base.words →
    Sees instance (scene_of instance (record { words = words; locals = locals })) kind known l new (slice_index words word) →
    Learns instance (record { words = words; locals = locals }) law.history kind l known word new (known_after instance kind known (slice_index words word))
learns_there instance kind known words word new fits at locals law l of_caller shows noted traced sets full seen =
    let state : State = record { words = words; locals = locals } in
    let scene = scene_of instance state in
    let caller = known.local.number in
    let here : word ≡ step_word instance kind l = at ∙ ap (step_word instance kind) shows ∙ word_shown instance kind l in
    let found = slice_index words word in
    let same : found_by instance kind l words ≡ found = ap (slice_index words) (sym here) in
    record {
      guard = seen.guard;
      word_is = here;
      new_is = seen.new_is;
      shows = seen.shows ∙ ap (λ (n : ℕ). shown (next instance scene kind l n)) (sym same);
      notes = notes-append instance law.history known.noted (noted_by kind found) noted
          (subst (λ (n : ℕ). NotesHold instance law.history (noted_by kind n)) same (noted_hold instance kind state law caller l of_caller seen.guard));
      traced = subst (λ (n : ℕ). IsTraced instance law.history (accesses_after kind known n) (local_after instance scene kind l)) same
          (traced_next instance state law caller l of_caller known shows traced full kind seen.guard fits);
      sets = record {
        noted = subst (λ (n : ℕ). SetNotesHold instance state law.history (sets_after kind known n)) same (sets_next instance state law caller l of_caller known kind seen.guard sets.noted);
        kept = sets.kept;
      };
      timed = subst (λ (x : Local). AddTimes instance.callers l (local_after instance scene kind l) known.times (times_by kind x known.times found)) (sym shows)
          (subst (λ (n : ℕ). AddTimes instance.callers l (local_after instance scene kind l) known.times (times_by kind (shown l) known.times n)) same (times_next instance scene kind l (found_by instance kind l words) known.times seen.timed));
      imaged = inl refl;
      fits = fits;
    }

-- a kind whose guard looks at no word of a region is no raise
timed_shown : (kind : Kind) → IsByShown kind → IsTimed kind
timed_shown (Raise code read) by = by
timed_shown kind by = tt

-- where what a step needs is seen in each lawful state that its caller's seat may stand before, the step teaches what the caller then knows in each
pub learns_of : (instance : Instance) (kind : Kind) (known : Known) (words : List ℕ) (word new : ℕ) → WordFits kind → word ≡ step_word instance kind known.local →
    ((locals : List Local) (law : Lawful instance (record { words = words; locals = locals })) (l : Local) → slice_get locals known.local.number ≡ Some l → known.local ≡ shown l → NotesHold instance law.history known.noted →
    IsTraced instance law.history known.accesses l → Sees instance (scene_of instance (record { words = words; locals = locals })) kind known l new (slice_index words word)) →
    LearnsInAnyState instance words kind known word new (known_after instance kind known (slice_index words word))
learns_of instance kind known words word new fits at sees locals law l of_caller shows noted traced sets own full =
    learns_there instance kind known words word new fits at locals law l of_caller shows noted traced sets full (sees locals law l of_caller shows noted traced)

-- a step whose guard and word the seat's shown local state tells teaches it so, whatever else is not shown
pub learns_shown : (instance : Instance) (kind : Kind) (known : Known) (words : List ℕ) (word new : ℕ) → IsByShown kind → WordFits kind → Guard instance unseen kind known.local → word ≡ step_word instance kind known.local →
    new ≡ new_word instance kind known.local (slice_index words word) → LearnsInAnyState instance words kind known word new (known_after instance kind known (slice_index words word))
learns_shown instance kind known words word new by fits may at puts =
    learns_of instance kind known words word new fits at (λ locals law l of_caller shows noted traced. (
    let scene = scene_of instance (record { words = words; locals = locals }) in
    let found = slice_index words word in
    record {
      guard = guard_shown instance scene kind l by (subst (Guard instance unseen kind) shows may);
      new_is = puts ∙ ap (λ (x : Local). new_word instance kind x found) shows ∙ put_shown instance kind l found by;
      shows = known_shown instance scene kind known l found by shows;
      timed = timed_shown kind by;
    }))

-- what the lawful state says of a caller's local state by itself
own_lawful : (instance : Instance) (words : List ℕ) (locals : List Local) (caller : ℕ) (l : Local) → Lawful instance (record { words = words; locals = locals }) → slice_get locals caller ≡ Some l → IsLawfulLocal instance l
own_lawful instance words locals caller l law at =
    let state : State = record { words = words; locals = locals } in
    let fronts = law.fronts.each caller l at in
    let shape = law.shape.each caller l at in
    let root = (bounds_of instance state law).each caller l at in
    let answers = law.answers.each caller l at in
    let to = fronts.to in
    let below = law.tickets.below in
    let number = sym shape.number in
    record {
      shape = subst (λ (c : ℕ). LocalShape c l) number shape;
      tickets = subst (λ (c : ℕ). OwnTickets instance c l) number (law.tickets.each caller l at);
      from = fronts.from;
      to = omega arith;
      floor = fronts.floor;
      cur = fronts.cur;
      floor_cur = fronts.floor_cur;
      few = law.locks.few caller l at;
      downgraded = λ h has. record { replica = root.replica h has; place = (let within = root.place h has in omega (arith, within, below)) };
      answered = λ i x there. (answers.entries i x there).below_floor;
      reads = λ i x there. (answers.reads i x there).up_to_floor;
    }

view_within : (views : List (List Known)) (id : ℕ) (v : List Known) → get_elem? views id ≡ some v → id < length views
view_within [] id v at = absurd (some-ne-none v (sym at))
view_within (w ∷ views) zero v at = omega arith
view_within (w ∷ views) (suc id) v at = (let rest = view_within views id v at in omega arith)

-- what the rule says of a seat's caller by its local state
pub seat_lawful : (instance : Instance) (s : atomic.State ℕ (List Known)) (id : ℕ) (known : Known) → RuleHolds instance s → get_elem? s.views id ≡ some (known ∷ []) → IsLawfulLocal instance known.local
seat_lawful instance s id known held view =
    let mine = held.each id 0 (known ∷ []) known view refl in
    subst (IsLawfulLocal instance) (sym mine.shows) (lawful_shown instance mine.local (own_lawful instance s.words held.locals known.local.number mine.local held.law mine.of_caller))

-- what an event of a seat leaves behind its notes, which then knows this
pub event_leaves : (instance : Instance) (kind : Kind) (s : atomic.State ℕ (List Known)) (id : ℕ) (known after : Known) (word new : ℕ) → RuleHolds instance s → get_elem? s.views id ≡ some (known ∷ []) →
    LearnsInAnyState instance s.words kind known word new after → IsLawfulLocal instance after.local × IsBehindNotes instance after
event_leaves instance kind s id known after word new held view learns =
    let then = event_held instance kind s id known after word new held view learns in
    let there : get_elem? (set s.views id (after ∷ [])) id ≡ some (after ∷ []) = set_here s.views id (after ∷ []) (view_within s.views id (known ∷ []) view) in
    let mine = then.each id 0 (after ∷ []) after there refl in (
      subst (IsLawfulLocal instance) (sym mine.shows) (lawful_shown instance mine.local (own_lawful instance _ then.locals after.local.number mine.local then.law mine.of_caller)),
      behind_notes instance _ then.law then.some mine.local after mine.of_caller mine.shows mine.notes mine.traced (then.sets id 0 (after ∷ []) after there refl) (then.own after.local.number mine.local mine.of_caller),
    )

-- an image that an event adds to those that its caller took is one of a history
event_image : (instance : Instance) (kind : Kind) (s : atomic.State ℕ (List Known)) (id : ℕ) (known after : Known) (word new : ℕ) → RuleHolds instance s → get_elem? s.views id ≡ some (known ∷ []) → LearnsInAnyState instance s.words kind known word new after →
    (image : List ℕ) → after.images ≡ known.images ++ image ∷ [] → IsImageOfSome instance image
event_image instance kind s id known after word new held view learns image adds =
    let then = event_held instance kind s id known after word new held view learns in
    let there : get_elem? (set s.views id (after ∷ [])) id ≡ some (after ∷ []) = set_here s.views id (after ∷ []) (view_within s.views id (known ∷ []) view) in
    let last : slice_get after.images (length known.images) ≡ Some image = ap (λ xs. slice_get xs (length known.images)) adds ∙ slice_get-last known.images image in
    record { history = then.law.history; small = then.law.tickets.below; entries = entries_from instance _ then.law; origin = then.images id 0 (after ∷ []) after there refl (length known.images) image last }

-- what an event that is learned teaches its caller's seat
pub event_teaches : (instance : Instance) (kind : Kind) (s : atomic.State ℕ (List Known)) (id : ℕ) (known : Known) (word new : ℕ) → RuleHolds instance s → get_elem? s.views id ≡ some (known ∷ []) →
    LearnsInAnyState instance s.words kind known word new (known_after instance kind known (slice_index s.words word)) →
    KnowledgeAfter instance kind known (slice_index s.words word) (known_after instance kind known (slice_index s.words word) ∷ [], [])
event_teaches instance kind s id known word new held view learns =
    let found = slice_index s.words word in
    let mine = held.each id 0 (known ∷ []) known view refl in
    let l = mine.local in
    let leaves = event_leaves instance kind s id known (known_after instance kind known found) word new held view learns in
    let state : State = record { words = s.words; locals = held.locals } in
    let learnt = learns held.locals held.law l mine.of_caller mine.shows mine.notes mine.traced (held.sets id 0 (known ∷ []) known view refl) (held.own known.local.number l mine.of_caller) held.some in
    let known_here = load_known instance kind state held.law known.local.number l mine.of_caller learnt.guard in
    let here : step_word instance kind l ≡ word = sym learnt.word_is in
    record {
      knows = refl;
      lawful = seat_lawful instance s id known held view;
      lawful_after = leaves.0;
      found_word = subst (λ (x : Local). KnownOfLoad instance kind x found) (sym mine.shows) (load_shown instance kind l found (subst (λ (w : ℕ). KnownOfLoad instance kind l (slice_index s.words w)) here known_here));
      behind = leaves.1;
    }

-- what the table asks of a step, from the core's law: the word is the event's, it becomes what the event puts, and the seat
-- then knows what the event teaches
pub allows : (instance : Instance) (kind : ℕ → Kind) (known : Known) (slots id word : ℕ) (me : atomic.Me ℕ (List Known)) (f : ℕ → ℕ) (then : ℕ → atomic.Me ℕ (List Known) → Type 0) →
    me ≡ (known ∷ [], []) → LearnsBy instance kind known word f →
    ((found : ℕ) → KnowledgeAfter instance (kind found) known found (known_after instance (kind found) known found ∷ [], []) → then found (known_after instance (kind found) known found ∷ [], [])) →
    atomic.Allows (RuleHolds instance) slots id me word f then
allows instance kinds known slots id word me f then one learn tells =
    subst (λ m. atomic.Allows (RuleHolds instance) slots id m word f then) (sym one) (λ s held homes view fits.
    (let found = slice_index s.words word in
    let kind = kinds found in
    let known' = known_after instance kind known found in
    let learns = learn s.words fits in (
      known' ∷ [],
      atomic.keeps,
      tt,
      event_held instance kind s id known known' word (f found) held view learns,
      tells found (event_teaches instance kind s id known word (f found) held view learns),
    )))

-- what the table asks of the release of a shared right whose words were copied, and what it teaches
pub allows_copied : (instance : Instance) (kind : Kind) (known : Known) (slots id word : ℕ) (me : atomic.Me ℕ (List Known)) (f : ℕ → ℕ) → me ≡ (known ∷ [], []) → LearnsBy instance (λ _. kind) known word f → MayReleaseKnowing instance kind known word f →
    atomic.Allows (RuleHolds instance) slots id me word f (KnowledgeAfterCopy instance kind known)
allows_copied instance kind known slots id word me f one learn copied =
    subst (λ m. atomic.Allows (RuleHolds instance) slots id m word f (KnowledgeAfterCopy instance kind known)) (sym one) (λ s held homes view fits.
    (let found = slice_index s.words word in
    let known' = known_copied instance kind known found in
    let learns = copied s.words fits in (
      known' ∷ [],
      atomic.keeps,
      tt,
      event_held instance kind s id known known' word (f found) held view learns,
      record {
        knows = refl;
        event = event_teaches instance kind s id known word (f found) held view (learn s.words fits);
        behind = (event_leaves instance kind s id known known' word (f found) held view learns).1;
      },
    )))

-- what the table asks of the release of a shared right all of whose words were loaded, and what it teaches
pub allows_taking : (instance : Instance) (kind : Kind) (image : List ℕ) (known : Known) (slots id word : ℕ) (me : atomic.Me ℕ (List Known)) (f : ℕ → ℕ) → me ≡ (known ∷ [], []) → LearnsBy instance (λ _. kind) known word f →
    IsImageLearned instance kind image known word f → atomic.Allows (RuleHolds instance) slots id me word f (TeachesImage instance kind image known)
allows_taking instance kind image known slots id word me f one learn taking =
    subst (λ m. atomic.Allows (RuleHolds instance) slots id m word f (TeachesImage instance kind image known)) (sym one) (λ s held homes view fits.
    (let found = slice_index s.words word in
    let known' = known_taken instance kind image known found in
    let learns = taking s.words fits in (
      known' ∷ [],
      atomic.keeps,
      tt,
      event_held instance kind s id known known' word (f found) held view learns,
      record {
        knows = refl;
        event = event_teaches instance kind s id known word (f found) held view (learn s.words fits);
        behind = (event_leaves instance kind s id known known' word (f found) held view learns).1;
        of_some = event_image instance kind s id known known' word (f found) held view learns image refl;
      },
    )))

-- what a step teaches that does not look at the word found
pub blind_teaches : (instance : Instance) (kind : Kind) (known : Known) (found : ℕ) → ((x y : ℕ) → known_after instance kind known x ≡ known_after instance kind known y) → KnownOfLoad instance kind known.local 0 →
    KnowledgeAfter instance kind known found (known_after instance kind known found ∷ [], []) → KnowledgeAfter instance kind known 0 (known_after instance kind known found ∷ [], [])
blind_teaches instance kind known found blind silent taught = record {
  knows = ap (λ (k : Known). the_me k) (blind found 0);
  lawful = taught.lawful;
  lawful_after = subst (λ (k : Known). IsLawfulLocal instance k.local) (blind found 0) taught.lawful_after;
  found_word = silent;
  behind = subst (IsBehindNotes instance) (blind found 0) taught.behind;
}
  where
    the_me : Known → atomic.Me ℕ (List Known)
    the_me k = (k ∷ [], [])

-- what a step learns that the seat's shown local state tells
pub event_learns : {O : Type 0} (r : Running O) (step : O → List ℕ → List ℕ → List ℕ × List ℕ) (reads : O → List ℕ → Bool) (kind : Kind) (word : ℕ) (table : TableId) (me : atomic.Me ℕ (List Known)) (f : ℕ → ℕ) →
    IsEventOn r step reads kind word table me → Puts (instance_at r step reads) kind (known_of me.0).local f → LearnsBy (instance_at r step reads) (λ _. kind) (known_of me.0) word f
event_learns r step reads kind word table me f event puts words within =
    learns_shown (instance_at r step reads) kind (known_of me.0) words word (f (slice_index words word)) event.by_shown event.fits event.guard event.place (sym (puts (slice_index words word)))

-- what the table asks of a step, from what the seat's shown local state tells, and what the step teaches by the word that it found
pub allows_found : {O : Type 0} (r : Running O) (step : O → List ℕ → List ℕ → List ℕ × List ℕ) (reads : O → List ℕ → Bool) (kind : Kind) (slots id word : ℕ) (table : TableId) (me : atomic.Me ℕ (List Known)) (f : ℕ → ℕ) →
    IsEventOn r step reads kind word table me → Puts (instance_at r step reads) kind (known_of me.0).local f → atomic.Allows (RuleHolds (instance_at r step reads)) slots id me word f (KnowledgeAfter (instance_at r step reads) kind (known_of me.0))
allows_found r step reads kind slots id word table me f event puts =
    let instance = instance_at r step reads in
    let known = known_of me.0 in
    allows instance (λ _. kind) known slots id word me f (KnowledgeAfter instance kind known) event.one (event_learns r step reads kind word table me f event puts) (λ found taught. taught)

abbrev pub Same : Instance → Instance → Type 0
Same a b = a ≡ b

-- the instance that a table's key tells is the one that contracts see
pub key_instance : {O : Type 0} (step : O → List ℕ → List ℕ → List ℕ × List ℕ) (reads : O → List ℕ → Bool) (now inside : Running O) (callers : ℕ) (base : Base) (object : O) →
    inside ≡ now → callers ≡ inside.callers → base ≡ inside.base → object ≡ inside.object →
    Same (instance_at now step reads) (record { callers = callers; base = base; step = step object; reads = reads object })
key_instance step reads now inside callers base object view same_callers same_base same_object =
    sym (ap (λ (r : Running _). instance_at r step reads) view)
    ∙ (λ i. record { callers = sym same_callers i; base = sym same_base i; step = step (sym same_object i); reads = reads (sym same_object i) })

-- what a table asks of a step, from what is said of the table that contracts see
pub allows_of_same : (seen other : Instance) (slots slots' id word : ℕ) (me : atomic.Me ℕ (List Known)) (f : ℕ → ℕ) (tells : ℕ → atomic.Me ℕ (List Known) → Type 0) → Same seen other → slots ≡ slots' →
    atomic.Allows (RuleHolds seen) slots id me word f tells → atomic.Allows (RuleHolds other) slots' id me word f tells
allows_of_same seen other slots slots' id word me f tells same count asked =
    subst (λ (n : ℕ). atomic.Allows (RuleHolds other) n id me word f tells) count (subst (λ (i : Instance). atomic.Allows (RuleHolds i) slots id me word f tells) same asked)
