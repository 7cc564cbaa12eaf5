-- A seat after a raise of DUR.
use Rattle.std.proofs.Common.{◌≡◌, ◌+◌, ◌<◌, ◌≤◌, ◌||◌, inl, inr, ℕ, max, Bool, true, false, cond, List, [], ◌∷◌, ◌++◌, length, refl, ap, sym, subst, ◌∙◌, arith, Option, Some, None, is_some, length-append}
use Rattle.std.proofs.lemmas.Bool.{le-ltb, lt-ltb}
use Rattle.std.proofs.lemmas.List.{append-nil}
use Rattle.std.proofs.lemmas.Option.{slice_get_past}
use Rattle.std.specs.List.{slice_get}
use Rattle.std.specs.Option.{option_map}
use Rattle.atomic_table.specs.Seated.{TableId}
use Rattle.atomic_table.specs.Table.{Me}
use Rattle.cx_base.specs.Codes.{root_place_of}
use Rattle.cx_core.specs.declared.entry.Base.{Base}
use Rattle.cx_core.specs.declared.local.Answer.{Answer}
use Rattle.cx_core.specs.declared.local.Linked.{Linked}
use Rattle.cx_core.specs.declared.local.Local.{Local}
use Rattle.cx_core.specs.Layout.{dur_at}
use Rattle.cx_core.specs.RootEvents.{CanRaise, raised_floor, unanswered}
use Rattle.cx_core.specs.State.{Instance}
use Rattle.cx_core.proofs.HistoryLemmas.{ObjectLaws}
use Rattle.table_invariant.specs.declared.rule.Known.{Known}
use Rattle.table_invariant.specs.Fitting.{Fitting}
use Rattle.table_invariant.specs.Raises.{AnswersOf, IsRaiseLearned, Raises, TeachesRaised, TellsAnswers, TellsReads, answered_local, known_answered, read_op_in, read_at}
use Rattle.table_invariant.specs.Running.{IsTableWithinLimits, IsSeatOf, Running, instance_at}
use Rattle.table_invariant.specs.Seats.{IsAtLimit, Seated, known_of, unanswered_ticket}
use Rattle.table_invariant.proofs.Fitting.{fitting}
use Rattle.table_invariant.proofs.Raising.{learns_raise}
use Rattle.caller_cache.specs.declared.summary.CachedLocal.{CachedLocal}
use Rattle.caller_cache.specs.Copies.{Copied, IsCopied}
use Rattle.caller_cache.specs.Summaries.{HasSummary, summary_of}
use Rattle.caller_cache.specs.Raised.{is_below, raised_summary}
use Rattle.caller_cache.proofs.SummaryLaws.{IsSeat, one_step, seated}

-- one answer where the unanswered entry's ticket is below the place, else none
abbrev Counts : Bool → List Answer → Type 0
Counts true answers = (x : Answer) × (answers ≡ x ∷ [])
Counts false answers = answers ≡ []

counts_of : (lines : ℕ) (lawful : List ℕ → Type 0) (base : Base) (step : List ℕ → List ℕ → List ℕ × List ℕ) (known : Known) (place : ℕ) (o : Option Linked) (answers : List Answer) → AnswersOf lines lawful base step known place o answers →
    Counts (is_below place (option_map (λ (x : Linked). x.ticket) o)) answers
counts_of lines lawful base step known place None answers none = none
counts_of lines lawful base step known place (Some x) answers tells =
    elim tells [
      | inl past ↦ subst (λ b. Counts b answers) (sym (le-ltb x.ticket place past.0)) past.1
      | inr one ↦ subst (λ b. Counts b answers) (sym (lt-ltb x.ticket place one.below)) (record { ticket = x.ticket; reply = one.reply }, one.are)
    ]

-- the unanswered ticket after these answers
ticket_after : (l : Local) (b : Bool) (answers : List Answer) → length l.own ≤ length l.answered + 1 → Counts b answers → (cond b None (unanswered_ticket l)) ≡ option_map (λ (x : Linked). x.ticket) (slice_get l.own (length (l.answered ++ answers)))
ticket_after l true answers one counts =
    let more : length (l.answered ++ answers) ≡ length l.answered + 1 = length-append l.answered answers ∙ ap (λ (xs : List Answer). length l.answered + length xs) counts.1 in
    sym (ap (option_map (λ (x : Linked). x.ticket)) (slice_get_past l.own (length (l.answered ++ answers)) (omega (arith, one, more))))
ticket_after l false answers one counts =
    sym (ap (λ (xs : List Answer). option_map (λ (x : Linked). x.ticket) (slice_get l.own (length (l.answered ++ xs)))) counts
    ∙ ap (λ (xs : List Answer). option_map (λ (x : Linked). x.ticket) (slice_get l.own (length xs))) (append-nil l.answered))

-- the floor after these answers and a read or none
floor_after : (floor place count : ℕ) (b : Bool) (answers : List Answer) (read : Option (List ℕ × List ℕ)) → Counts b answers →
    cond (b || is_some read) (max floor place) floor ≡ raised_floor floor place answers (read_at place count read)
floor_after floor place count true answers read counts = ap (λ (xs : List Answer). raised_floor floor place xs (read_at place count read)) (sym counts.1)
floor_after floor place count false answers None counts = ap (λ (xs : List Answer). raised_floor floor place xs []) (sym counts)
floor_after floor place count false answers (Some read) counts = ap (λ (xs : List Answer). raised_floor floor place xs (read_at place count (Some read))) (sym counts)

-- the numbers follow a raise
summary_raised : (instance : Instance) (code : ℕ) (answers : List Answer) (read : Option (List ℕ × List ℕ)) (l : Local) (m : CachedLocal) → m ≡ summary_of l → length l.own ≤ length l.answered + 1 →
    Counts (is_below (root_place_of instance.callers code) (unanswered_ticket l)) answers →
    raised_summary instance.callers code (is_some read) m ≡ summary_of (answered_local instance code answers (read_at (root_place_of instance.callers code) (length l.answered + length answers) read) l)
summary_raised instance code answers read l m is one counts =
    let place = root_place_of instance.callers code in
    let count = length l.answered + length answers in
    let b = is_below place (unanswered_ticket l) in
    let tickets = ticket_after l b answers one counts in
    let floor = floor_after l.floor place count b answers read counts in
    ap (raised_summary instance.callers code (is_some read)) is
    ∙ (λ i. record (summary_of (answered_local instance code answers (read_at place count read) l)) { unanswered = tickets i; floor = floor i })

module _ {O : Type 0} (r : Running O) (step : O → List ℕ → List ℕ → List ℕ × List ℕ) (reads : O → List ℕ → Bool) (lines : ℕ) (lawful : List ℕ → Type 0) (code : ℕ) (read : Option (List ℕ × List ℕ)) (me me' : Me ℕ (List Known)) (summary summary' : CachedLocal) (copy : Copied)
    (table table' : TableId) (before : ℕ) (answers : List Answer) where
  abbrev instance : Instance
  instance = instance_at r step reads

  raised_inside : IsSeat me summary before copy → ¬ IsAtLimit (known_of me.0).local → IsSeatOf r (seated table me before copy) → CanRaise instance code (read_op_in read) (known_of me.0).local →
      table' ≡ table → TellsAnswers lines lawful r.base (step r.object) (known_of me.0) (root_place_of r.callers code) answers → TeachesRaised instance code answers read (known_of me.0) me' → summary' ≡ raised_summary r.callers code (is_some read) summary →
      IsSeat me' summary' before copy × Raises r step reads code answers read (seated table me before copy) (seated table' me' before copy)
  raised_inside old allowed of guard same_table tells taught numbers =
      let k = known_of me.0 in
      let l = k.local in
      let k' = known_answered instance code answers read k in
      let now : Me ℕ (List Known) = (k' ∷ [], []) in
      let counts = counts_of lines lawful r.base (step r.object) k (root_place_of r.callers code) (unanswered l) answers tells in
      let is : summary' ≡ summary_of k'.local = numbers ∙ summary_raised instance code answers read l summary old.0.is taught.lawful.tickets.one counts in
      let linked : summary'.linked ≡ summary.linked = ap (λ (m : CachedLocal). m.linked) numbers in
      let front : summary'.front ≡ summary.front = ap (λ (m : CachedLocal). m.front) numbers in
      let a = old.0.linked in
      let b = old.0.front in
      let c = old.0.few in
      let summarised : HasSummary now summary' before = record {
        one = refl;
        is = is;
        linked = omega (arith, a, linked, front);
        front = omega (arith, b, front);
        few = omega (arith, c, linked);
        small = old.0.small;
        place = old.0.place;
        cells = record { count = old.0.cells.count; each = old.0.cells.each };
        own = old.0.own;
        within = λ few. one_step l old.0.within allowed few;
      } in
      let copied : IsCopied k' copy = record { long = old.1.long; place = old.1.place; marks = old.1.marks; words = old.1.words; cells = record { long = old.1.cells.long; each = old.1.cells.each }; sets = record { long = old.1.sets.long; each = old.1.sets.each }; kept = λ x there. (let was = old.1.kept x there in record { known_as = was.known_as; within = was.within }) } in
      let stands : IsSeatOf r (seated table' now before copy) = record { table = same_table ∙ of.table; caller = of.caller; before = of.before; region = of.region } in
      let whole : seated table' now before copy ≡ record (seated table me before copy) { known = k' } = (λ i. record { table = same_table i; before = before; region = length copy.words; known = k' }) in
      subst (λ (x : Me ℕ (List Known)). IsSeat x summary' before copy × Raises r step reads code answers read (seated table me before copy) (seated table' x before copy)) (sym taught.knows) (
        (summarised, copied),
        record { allowed = allowed; guard = guard; made = whole; lawful = taught.lawful; lawful_after = taught.lawful_after; within = summarised.within; seat = stands },
      )

  pub raised_made : (callers : ℕ) (old : Seated) → IsSeat me summary before copy → seated table me before copy ≡ old → ((l : Local) → summary ≡ summary_of l → ¬ IsAtLimit l) → IsSeatOf r old →
      CanRaise instance code (read_op_in read) old.known.local → table' ≡ table → TellsAnswers lines lawful r.base (step r.object) old.known (root_place_of r.callers code) answers →
      TeachesRaised instance code answers read (known_of me.0) me' → callers ≡ r.callers → summary' ≡ raised_summary callers code (is_some read) summary →
      IsSeat me' summary' before copy × Raises r step reads code answers read old (seated table' me' before copy)
  raised_made callers old is view allowed of guard same_table tells taught same numbers =
      subst (λ (s : Seated). IsSeat me' summary' before copy × Raises r step reads code answers read s (seated table' me' before copy)) view
      (raised_inside is (allowed (known_of me.0).local is.0.is) (subst (IsSeatOf r) (sym view) of) (subst (λ (s : Seated). CanRaise instance code (read_op_in read) s.known.local) (sym view) guard) same_table
      (subst (λ (s : Seated). TellsAnswers lines lawful r.base (step r.object) s.known (root_place_of r.callers code) answers) (sym view) tells) taught
      (numbers ∙ ap (λ n. raised_summary n code (is_some read) summary) same))

-- DUR is a word of the table
pub dur_within : {O : Type 0} {line_count : O → ℕ} {lawful : O → List ℕ → Type 0} {r : Running O} → IsTableWithinLimits line_count lawful r → dur_at < r.table.words
dur_within running = (let words = running.words in omega (arith, words))

-- a raise is learned by what the seat's caller noted
pub raise_learned : {O : Type 0} (line_count : O → ℕ) (lawful : O → List ℕ → Type 0) (step : O → List ℕ → List ℕ → List ℕ × List ℕ) (reads : O → List ℕ → Bool) (r : Running O) (code : ℕ) (read : Option (List ℕ × List ℕ)) (known : Known) (old : Seated) →
    IsTableWithinLimits line_count lawful r → ObjectLaws r.lines (lawful r.object) (step r.object) → known ≡ old.known → CanRaise (instance_at r step reads) code (read_op_in read) old.known.local → TellsReads r.lines (lawful r.object) r.base (step r.object) old.known read →
    (answers : List Answer) → TellsAnswers r.lines (lawful r.object) r.base (step r.object) old.known (root_place_of r.callers code) answers → IsRaiseLearned (instance_at r step reads) code answers read known dur_at
raise_learned line_count lawful step reads r code read known old running laws same guard tells_read answers tells =
    subst (λ (k : Known). IsRaiseLearned (instance_at r step reads) code answers read k dur_at) (sym same)
    (learns_raise r.lines (lawful r.object) (instance_at r step reads) laws running.base code answers read old.known dur_at guard refl tells tells_read)

-- what really is there fits what was noted
pub raised_fits : {O : Type 0} (line_count : O → ℕ) (lawful : O → List ℕ → Type 0) (step : O → List ℕ → List ℕ → List ℕ × List ℕ) (reads : O → List ℕ → Bool) (r : Running O) (code : ℕ) (answers : List Answer) (read : Option (List ℕ × List ℕ)) (known : Known) (me' : Me ℕ (List Known)) →
    IsTableWithinLimits line_count lawful r → ObjectLaws r.lines (lawful r.object) (step r.object) → TeachesRaised (instance_at r step reads) code answers read known me' → Fitting r.lines (lawful r.object) r.base (step r.object) (known_of me'.0)
raised_fits line_count lawful step reads r code answers read known me' running laws taught =
    subst (Fitting r.lines (lawful r.object) r.base (step r.object)) (sym (ap (λ (m : Me ℕ (List Known)). known_of m.0) taught.knows))
    (fitting r.lines (lawful r.object) (instance_at r step reads) laws running.base (known_answered (instance_at r step reads) code answers read known) taught.behind)
