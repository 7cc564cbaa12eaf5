-- A raise of DUR answers what its caller knows by what it noted: the reply in its slot of an image above its entry's ticket, and
-- the reply to a read on the image that it holds shared.
use Rattle.std.proofs.Common.{◌≡◌, ◌+◌, ◌<◌, ◌⊎◌, inl, inr, ℕ, max, nat_lt, Bool, true, false, cond, List, [], ◌∷◌, ◌++◌, length, map, slice_index, refl, ap, sym, subst, ◌∙◌, Option, Some, None}
use Rattle.std.proofs.lemmas.Bool.{false≢true, le-ltb, lt-ltb}
use Rattle.std.proofs.lemmas.List.{append-nil, append_cancel_left, length-append}
use Rattle.std.proofs.lemmas.List.Elements.{All-cons, All-contains, All-nil}
use Rattle.std.specs.List.{All, slice_get}
use Rattle.atomic_table.specs.Table as atomic
use Rattle.cx_base.specs.Codes.{root_place_of}
use Rattle.cx_base.specs.Noted.{Note, NotesLead}
use Rattle.cx_core.specs.declared.entry.Base.{Base}
use Rattle.cx_core.specs.declared.entry.Entry.{Entry}
use Rattle.cx_core.specs.declared.kinds.Kind.TheVariants.{Raise}
use Rattle.cx_core.specs.declared.local.Answer.{Answer}
use Rattle.cx_core.specs.declared.local.HeldShared.{HeldShared}
use Rattle.cx_core.specs.declared.local.Linked.{Linked}
use Rattle.cx_core.specs.declared.local.Local.{Local}
use Rattle.cx_core.specs.declared.local.SeenRead.{SeenRead}
use Rattle.cx_core.specs.Base.{LawfulBase}
use Rattle.cx_core.specs.History.{AreLawful}
use Rattle.cx_core.specs.Lawful.{Lawful}
use Rattle.cx_core.specs.Layout.{dur_at}
use Rattle.cx_core.specs.Merge.{scene_of}
use Rattle.cx_core.specs.Region.{object_part, place_of, slot_reply}
use Rattle.cx_core.specs.RootEvents.{CanRaise, ShowsPlace, answers_below, raised_by, reads_at, reply_after, unanswered}
use Rattle.cx_core.specs.Shown.{shown}
use Rattle.cx_core.specs.State.{Instance, Scene, State, one_more}
use Rattle.cx_core.proofs.HistoryLemmas.{ObjectLaws}
use Rattle.cx_core.proofs.MergeLemmas.{history_is}
use Rattle.core_queue.specs.NotedSets.{OwnSetsHold}
use Rattle.table_invariant.specs.declared.rule.Known.{Known}
use Rattle.table_invariant.specs.Fitting.{FitsKnown, FitsOn, Has, ReadFits, ReplayedTo, has_of, loaded_of, loads_of}
use Rattle.table_invariant.specs.Raises.{AnswersOf, IsRaiseLearned, TeachesRaised, TellsAnswers, TellsReads, TellsReply, answered_local, known_answered, read_op_in, read_at, times_raised}
use Rattle.table_invariant.specs.Rule.{IsTraced, NotesHold, RuleHolds, SetsHold}
use Rattle.table_invariant.specs.Seats.{place_noted}
use Rattle.table_invariant.specs.Timing.{AddTimes}
use Rattle.table_invariant.proofs.Behind.{shared_there}
use Rattle.table_invariant.proofs.Entries.{entries_from}
use Rattle.table_invariant.proofs.Fitting.{chain_full, entries_lawful, origin_full, traced_fits}
use Rattle.table_invariant.proofs.Having.{has_of_history, there_on}
use Rattle.table_invariant.proofs.Keeps.{event_held, event_leaves, seat_lawful}
use Rattle.table_invariant.proofs.Replies.{reply_of_full, slot_of_full, unanswered_last}

-- a word that was loaded is there
loads_there : (loaded : List (ℕ × ℕ)) (first now : List ℕ) → NotesLead (loads_of loaded) first now → All (λ (x : ℕ × ℕ). slice_index first x.0 ≡ x.1) loaded
loads_there [] first now leads = All-nil (λ (x : ℕ × ℕ). slice_index first x.0 ≡ x.1)
loads_there (x ∷ xs) first now leads = All-cons (λ (y : ℕ × ℕ). slice_index first y.0 ≡ y.1) x xs leads.0 (loads_there xs first now leads.1)

-- a raise that is seen to be allowed is allowed
can_raise : (instance : Instance) (code : ℕ) (read : Option (List ℕ)) (l : Local) → CanRaise instance code read (shown l) → CanRaise instance code read l
can_raise instance code None l can = can
can_raise instance code (Some op) l can = can

-- what a raise answers of an entry is one answer or none
answers_are : (instance : Instance) (history : List Entry) (place : ℕ) (o : Option Linked) → (answers_below instance history place o ≡ []) ⊎ ((a : Answer) × (answers_below instance history place o ≡ a ∷ []))
answers_are instance history place None = inl refl
answers_are instance history place (Some x) = one_or_none (record { ticket = x.ticket; reply = reply_after instance history x.ticket x.entry.op }) (nat_lt x.ticket place)
  where
    one_or_none : (a : Answer) (b : Bool) → (cond b (a ∷ []) [] ≡ []) ⊎ ((y : Answer) × (cond b (a ∷ []) [] ≡ y ∷ []))
    one_or_none a true = inr (a, refl)
    one_or_none a false = inl refl

answered_adds : (olds news answers : List Answer) (ts : List ℕ) (n m : ℕ) → n ≡ m → answers ≡ news → (news ≡ []) ⊎ ((a : Answer) × (news ≡ a ∷ [])) →
    ((length (olds ++ news) ≡ length olds) × (ts ++ map (λ (_ : Answer). n) answers ≡ ts)) ⊎ ((length (olds ++ news) ≡ length olds + 1) × (ts ++ map (λ (_ : Answer). n) answers ≡ ts ++ m ∷ []))
answered_adds olds news answers ts n m same given (inl none) =
    inl (ap (λ (xs : List Answer). length (olds ++ xs)) none ∙ ap length (append-nil olds), ap (λ (xs : List Answer). ts ++ map (λ (_ : Answer). n) xs) (given ∙ none) ∙ append-nil ts)
answered_adds olds news answers ts n m same given (inr one) =
    inr (ap (λ (xs : List Answer). length (olds ++ xs)) one.1 ∙ length-append olds (one.0 ∷ []), ap (λ (xs : List Answer). ts ++ map (λ (_ : Answer). n) xs) (given ∙ one.1) ∙ ap (λ k. ts ++ k ∷ []) same)

-- a raise adds the time of the answer to an entry, and that of a read that it answers, to the caller's times
raise_adds : (instance : Instance) (scene : Scene) (code : ℕ) (known : Known) (l : Local) → known.local ≡ shown l → (answers : List Answer) → answers ≡ answers_below instance scene.history (root_place_of instance.callers code) (unanswered l) →
    (count : ℕ) (read : Option (List ℕ × List ℕ)) → CanRaise instance code (read_op_in read) known.local →
    AddTimes instance.callers l (raised_by instance scene code (read_op_in read) l) known.times (times_raised answers (read_at (root_place_of instance.callers code) count read) known)
raise_adds instance scene code known l shows answers given count read can = record {
  linked = inl (refl, refl);
  answered = answered_adds l.answered _ answers known.times.answered (one_more known.local.steps) (one_more l.steps) steps given (answers_are instance scene.history (root_place_of instance.callers code) (unanswered l));
  loaded = λ is. absurd (false≢true is);
  reads = by read can;
  current = inl (refl, refl, λ is. absurd (false≢true is));
  images = inl refl;
}
  where
    steps : one_more known.local.steps ≡ one_more l.steps
    steps = ap (λ (x : Local). one_more x.steps) shows

    by : (r : Option (List ℕ × List ℕ)) → CanRaise instance code (read_op_in r) known.local →
        ((length (raised_by instance scene code (read_op_in r) l).seen_reads ≡ length l.seen_reads) × ((times_raised answers (read_at (root_place_of instance.callers code) count r) known).reads ≡ known.times.reads))
        ⊎ ((l.fresh ≡ true) × (length (raised_by instance scene code (read_op_in r) l).seen_reads ≡ length l.seen_reads + 1)
        × ((times_raised answers (read_at (root_place_of instance.callers code) count r) known).reads ≡ known.times.reads ++ (known.times.loaded, one_more l.steps) ∷ []))
    by None can = inl (ap length (append-nil l.seen_reads), append-nil known.times.reads)
    by (Some op) can = inr (ap (λ (x : Local). x.fresh) (sym shows) ∙ can.1.2, length-append l.seen_reads _, ap (λ n. known.times.reads ++ (known.times.loaded, n) ∷ []) steps)

module _ (lines : ℕ) (lawful : List ℕ → Type 0) (instance : Instance) (laws : ObjectLaws lines lawful instance.step) (base : LawfulBase lines lawful instance.base) where
  module _ (words : List ℕ) (locals : List Local) (law : Lawful instance (record { words = words; locals = locals })) (known : Known) (l : Local) (of_caller : slice_get locals known.local.number ≡ Some l) (shows : known.local ≡ shown l)
      (noted : NotesHold instance law.history known.noted) (traced : IsTraced instance law.history known.accesses l)
      (sets : SetsHold instance (record { words = words; locals = locals }) law.history known) (own : OwnSetsHold instance law.history l.cells) where
    abbrev state : State
    state = record { words = words; locals = locals }

    entries_there : AreLawful instance.base.place law.history
    entries_there = entries_lawful lines lawful instance law.history base (entries_from instance state law)

    -- the reply that whatever fits tells of the unanswered entry is the history's
    reply_known : (x : Linked) (reply : List ℕ) → unanswered l ≡ Some x → TellsReply lines lawful instance.base instance.step known x.ticket reply → reply ≡ reply_after instance law.history x.ticket x.entry.op
    reply_known x reply is tells =
        let entries = entries_from instance state law in
        let fits = there_on instance state law known l of_caller shows noted sets own lines lawful laws base traced in
        let place = place_noted 0 known.accesses in
        let full = chain_full lines lawful instance laws base law.history law.tickets.below entries (has_of known) (has_of_history instance state law known l of_caller shows noted sets own) traced.first traced.origin place traced.now (tells.replayed traced.first traced.now fits) in
        let last = unanswered_last instance law.history locals known.local.number l law.tickets of_caller x is in
        let above : x.ticket < place_of traced.now = subst (λ p. x.ticket < p) (sym full.1) tells.above in
        sym (tells.slot traced.first traced.now fits)
        ∙ ap (slot_reply known.local.number) full.0.full
        ∙ slot_of_full lines lawful instance laws base law.history law.tickets.below entries_there known.local.number x last (place_of traced.now) above full.0.to

    answers_of : (place : ℕ) (o : Option Linked) → unanswered l ≡ o → (answers : List Answer) → AnswersOf lines lawful instance.base instance.step known place o answers → answers ≡ answers_below instance law.history place o
    answers_of place None is answers none = none
    answers_of place (Some x) is answers tells =
        let answer : Answer = record { ticket = x.ticket; reply = reply_after instance law.history x.ticket x.entry.op } in
        elim tells [
          | inl past ↦ past.1 ∙ sym (ap (λ (b : Bool). cond b (answer ∷ []) []) (le-ltb x.ticket place past.0))
          | inr one ↦ one.are
              ∙ ap (λ (reply : List ℕ). record { ticket = x.ticket; reply = reply } ∷ []) (reply_known x one.reply is one.tells)
              ∙ sym (ap (λ (b : Bool). cond b (answer ∷ []) []) (lt-ltb x.ticket place one.below))
        ]

    -- the answers that whatever fits tells are the history's below the place
    answers_known : (place : ℕ) (answers : List Answer) → TellsAnswers lines lawful instance.base instance.step known place answers → answers ≡ answers_below instance law.history place (unanswered l)
    answers_known place answers tells =
        let same : unanswered known.local ≡ unanswered l = ap unanswered shows in
        answers_of place (unanswered known.local) (sym same) answers tells ∙ ap (answers_below instance law.history place) same

    -- the replica that is held shared at the place of a code is the full image after it
    read_known : 0 < length instance.base.words → (code : ℕ) (op reply : List ℕ) (o : Option HeldShared) → l.shared ≡ o → ShowsPlace instance.callers code o →
        ((first now : List ℕ) → ReadFits lines lawful instance.base (loaded_of o) first now → (instance.step (object_part now) op).1 ≡ reply) → reply ≡ reply_after instance law.history (root_place_of instance.callers code) op
    read_known some code op reply None is shown_at tells = absurd shown_at
    read_known some code op reply (Some h) is shown_at tells =
        let entries = entries_from instance state law in
        let there = shared_there instance state law some known.local.number l of_caller h is in
        let region = there.0 in
        let place : place_of region ≡ root_place_of instance.callers code =
        All-contains (λ (x : ℕ × ℕ). slice_index region x.0 ≡ x.1) h.loaded (0, root_place_of instance.callers code) (loads_there h.loaded region region there.2) shown_at.1 in
        let full = origin_full lines lawful instance laws base law.history law.tickets.below entries region there.1 in
        sym (tells region region (record { fits = traced_fits lines lawful instance laws base law.history law.tickets.below entries (loads_of h.loaded) region region there.1 there.2; same = refl }))
        ∙ ap (λ (ws : List ℕ). (instance.step (object_part ws) op).1) full.full
        ∙ reply_of_full lines lawful instance laws base law.history law.tickets.below entries_there (place_of region) op full.from full.to
        ∙ ap (λ p. reply_after instance law.history p op) place

    -- the reply that whatever fits tells of a read is the history's at the code's place
    reads_known : 0 < length instance.base.words → (code count : ℕ) (read : Option (List ℕ × List ℕ)) → CanRaise instance code (read_op_in read) known.local → TellsReads lines lawful instance.base instance.step known read →
        read_at (root_place_of instance.callers code) count read ≡ reads_at instance law.history (root_place_of instance.callers code) count (read_op_in read)
    reads_known some code count None can tells = refl
    reads_known some code count (Some read) can tells =
        let place = root_place_of instance.callers code in
        ap (λ (reply : List ℕ). record { place = place; op = read.0; reply = reply; before = count } ∷ [])
        (read_known some code read.0 read.1 known.local.shared (sym (ap (λ (x : Local). x.shared) shows)) can.1.3 tells)

  -- A raise is learned by what its caller noted.
  pub learns_raise : (code : ℕ) (answers : List Answer) (read : Option (List ℕ × List ℕ)) (known : Known) (word : ℕ) → CanRaise instance code (read_op_in read) known.local → word ≡ dur_at →
      TellsAnswers lines lawful instance.base instance.step known (root_place_of instance.callers code) answers → TellsReads lines lawful instance.base instance.step known read → IsRaiseLearned instance code answers read known word
  learns_raise code answers read known word can at tells reads words locals law l of_caller shows noted traced sets own some =
      let scene = scene_of instance (record { words = words; locals = locals }) in
      let place = root_place_of instance.callers code in
      let same : scene.history ≡ law.history = history_is instance.base.place law.history locals law.tickets.merged in
      let count = length l.answered + length answers in
      let count_is : length known.local.answered + length answers ≡ count = ap (λ (x : Local). length x.answered + length answers) shows in
      let given : answers ≡ answers_below instance scene.history place (unanswered l) =
      answers_known words locals law known l of_caller shows noted traced sets own place answers tells ∙ ap (λ (h : List Entry). answers_below instance h place (unanswered l)) (sym same) in
      let given_reads : read_at place (length known.local.answered + length answers) read ≡ reads_at instance scene.history place count (read_op_in read) =
      reads_known words locals law known l of_caller shows noted traced sets own some code (length known.local.answered + length answers) read can reads
      ∙ ap (λ (n : ℕ). reads_at instance law.history place n (read_op_in read)) count_is
      ∙ ap (λ (h : List Entry). reads_at instance h place count (read_op_in read)) (sym same) in
      record {
        guard = can_raise instance code (read_op_in read) l (subst (CanRaise instance code (read_op_in read)) shows can);
        word_is = at;
        new_is = refl;
        shows = ap (answered_local instance code answers (read_at place (length known.local.answered + length answers) read)) shows
            ∙ ap (λ (rs : List SeenRead). answered_local instance code answers rs (shown l)) given_reads
            ∙ ap (λ (below : List Answer). answered_local instance code below (reads_at instance scene.history place (length l.answered + length below) (read_op_in read)) (shown l)) given;
        notes = noted;
        traced = record { first = traced.first; now = traced.now; origin = traced.origin; leads = traced.leads; held = λ h has. traced.held h has };
        sets = record { noted = sets.noted; kept = sets.kept };
        imaged = inl refl;
        timed = raise_adds instance scene code known l shows answers given (length known.local.answered + length answers) read can;
        fits = tt;
      }

-- what is known of a raise where no entry is unanswered, where the unanswered one is not below the place, and where it is
module _ (lines : ℕ) (lawful : List ℕ → Type 0) (base : Base) (step : List ℕ → List ℕ → List ℕ × List ℕ) (known : Known) (place : ℕ) where
  pub tells_one : (x : Linked) (reply : List ℕ) → unanswered known.local ≡ Some x → x.ticket < place → TellsReply lines lawful base step known x.ticket reply →
      TellsAnswers lines lawful base step known place (record { ticket = x.ticket; reply = reply } ∷ [])
  tells_one x reply is below tells =
      subst (λ (o : Option Linked). AnswersOf lines lawful base step known place o (record { ticket = x.ticket; reply = reply } ∷ [])) (sym is) (inr (record { below = below; reply = reply; tells = tells; are = refl }))

-- what whatever fits tells of a reply, it tells as long as what the seat has, and what is noted, stay
pub reply_still : (lines : ℕ) (lawful : List ℕ → Type 0) (base : Base) (step : List ℕ → List ℕ → List ℕ × List ℕ) (known known' : Known) (ticket : ℕ) (reply : List ℕ) → has_of known' ≡ has_of known → known'.accesses ≡ known.accesses →
    known'.local.number ≡ known.local.number → TellsReply lines lawful base step known ticket reply → TellsReply lines lawful base step known' ticket reply
reply_still lines lawful base step known known' ticket reply has accesses number tells =
    let turn : (first now : List ℕ) → FitsKnown lines lawful base step known' first now → FitsKnown lines lawful base step known first now =
    λ first now fits. subst (λ (h : Has). FitsOn lines lawful base step h known.accesses first now) has (subst (λ (ns : List Note). FitsOn lines lawful base step (has_of known') ns first now) accesses fits) in
    record {
      replayed = λ first now fits. subst (λ (h : Has). ReplayedTo step h first (place_noted 0 known'.accesses) now) (sym has)
          (subst (λ (ns : List Note). ReplayedTo step (has_of known) first (place_noted 0 ns) now) (sym accesses) (tells.replayed first now (turn first now fits)));
      above = subst (λ (ns : List Note). ticket < place_noted 0 ns) (sym accesses) tells.above;
      slot = λ first now fits. ap (λ n. slot_reply n now) number ∙ tells.slot first now (turn first now fits);
    }

-- What the table asks of a raise that is learned, and what it teaches, whatever answers are learned: they are the same.
pub allows_raised : (instance : Instance) (code : ℕ) (answers : List Answer) (read : Option (List ℕ × List ℕ)) (known : Known) (slots id word : ℕ) (me : atomic.Me ℕ (List Known)) → me ≡ (known ∷ [], []) → IsRaiseLearned instance code answers read known word →
    atomic.Allows (RuleHolds instance) slots id me word (λ x. max x code) (λ _ after. (learned : List Answer) → IsRaiseLearned instance code learned read known word → TeachesRaised instance code learned read known after)
allows_raised instance code answers read known slots id word me one learn =
    let tells : ℕ → atomic.Me ℕ (List Known) → Type 0 = λ _ after. (learned : List Answer) → IsRaiseLearned instance code learned read known word → TeachesRaised instance code learned read known after in
    subst (λ m. atomic.Allows (RuleHolds instance) slots id m word (λ x. max x code) tells) (sym one) (λ s held homes view fits.
    (let kind = Raise code (read_op_in read) in
    let put = max (slice_index s.words word) code in
    let known' = known_answered instance code answers read known in (
      known' ∷ [],
      atomic.keeps,
      tt,
      event_held instance kind s id known known' word put held view (learn s.words),
      λ learned learnt. (
          let then = known_answered instance code learned read known in
          let mine = held.each id 0 (known ∷ []) known view refl in
          let is : known'.local ≡ then.local =
          (learn s.words held.locals held.law mine.local mine.of_caller mine.shows mine.notes mine.traced (held.sets id 0 (known ∷ []) known view refl) (held.own known.local.number mine.local mine.of_caller) held.some).shows
          ∙ sym (learnt s.words held.locals held.law mine.local mine.of_caller mine.shows mine.notes mine.traced (held.sets id 0 (known ∷ []) known view refl) (held.own known.local.number mine.local mine.of_caller) held.some).shows in
          let leaves = event_leaves instance kind s id known then word put held view (learnt s.words) in
          record {
            knows = ap (λ (xs : List Answer). the_me (known_answered instance code xs read known)) (append_cancel_left known.local.answered answers learned (ap (λ (x : Local). x.answered) is));
            lawful = seat_lawful instance s id known held view;
            lawful_after = leaves.0;
            behind = leaves.1;
          }),
    )))
  where
    the_me : Known → atomic.Me ℕ (List Known)
    the_me k = (k ∷ [], [])
