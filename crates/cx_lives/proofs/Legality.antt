-- A life that was run, ended in a crash and was recovered is a legal life, told by its trail.
use Rattle.std.proofs.Common.{◌≡◌, ◌↔◌, ◌+◌, ℕ, true, List, sym, ap, subst, ◌∙◌, refl, arith}
use Rattle.std.specs.Prelude.{All}
use Rattle.cx_base.specs.declared.object.Object.{Ghosts}
use Rattle.cx_core.specs.Base.{LawfulBase}
use Rattle.cx_core.specs.Crash.{IsKept}
use Rattle.cx_core.specs.State.{Instance}
use Rattle.cx_core.specs.declared.entry.Base.{Base}
use Rattle.cx_core.specs.declared.entry.Entry.{Entry}
use Rattle.cx_core.specs.declared.local.Local.{Local}
use Rattle.table_invariant.specs.Running.{Running}
use Rattle.cx_table.specs.declared.remains.Remains.{Remains}
use Rattle.life_records.specs.Ended.{IsEnded}
use Rattle.life_records.specs.Told.{IsTold}
use Rattle.life_records.specs.Begins.{Begun, IsBaseOf, begun_after}
use Rattle.life_records.specs.Meanings.{object_instance}
use Rattle.life_records.specs.Recorded.{GoesOn, HasReplies, IsRecorded}
use Rattle.life_records.specs.Lives.{IsPrefixKept, IsKeptStop, IsLegal}
use Rattle.life_records.specs.Records.{JournalLine, Life, LifeRecord, Meaning}
use Rattle.cx_lives.specs.Crash.{HasCrashed}
use Rattle.cx_lives.specs.Life.{HasRun, IsServiceOf}
use Rattle.cx_lives.specs.Lives.{HasLivedOver, HasLost, IsLifeAmong, IsLinearized, IsToldBy, LeavesImage}
use Rattle.cx_lives.specs.declared.crash.Crashed.{Crashed}
use Rattle.typed_object.specs.Meaning.{HasMeaning}
use Rattle.cx_lives.proofs.Crashing.{closed_table, crashed_life, recovered_life}
use Rattle.cx_lives.proofs.Recovering.{keeps_to}
use Rattle.cx_lives.proofs.Entries.{few_entries}

-- a record is one of a legal life, from what is known of its parts
module _ {Op Reply Store : Type 0} (m : Meaning Op Reply Store) (lines : ℕ) (is_lawful : List ℕ → Type 0) (place : ℕ) (store : Store) (life : Life Op) (report flagged : LifeRecord Reply) (next : Base) (from : flagged.from ≡ place) (report_from : report.from ≡ place)
    (ended : IsEnded life flagged) (has : HasReplies m place store life flagged) (goes : GoesOn m lines is_lawful place store life flagged next) where
  legal_of : IsLegal m place store life flagged
  legal_of = record {
    tickets = λ i line at. ended.tickets i line at ∙ ap (λ (p : ℕ). p + i) from;
    interleaved = ended.interleaved;
    reads_in_order = ended.reads_in_order;
    stops_in_order = ended.stops_in_order;
    fulls_in_order = ended.fulls_in_order;
    ended = ended.ended;
    stops = ended.stops;
    fulls = ended.fulls;
    replies = has.replies;
    legal_reads = has.legal_reads;
    in_turn = has.in_turn;
  }

  kept_of : (flagged.journal ≡ report.journal) → (kept : ℕ) → flagged.kept ≡ kept → All (λ line. (line.kept ≡ true) ↔ IsKeptStop report.from kept report.journal line) flagged.stops → IsPrefixKept m place store life flagged
  kept_of journal kept kept_is flags = record {
    prefix = goes.prefix;
    answered = goes.answered;
    stops =
        subst (λ (j : List (JournalLine Reply)). All (λ line. (line.kept ≡ true) ↔ IsKeptStop place flagged.kept j line) flagged.stops) (sym journal)
        (subst (λ (p : ℕ). All (λ line. (line.kept ≡ true) ↔ IsKeptStop p flagged.kept report.journal line) flagged.stops) report_from
        (subst (λ (k : ℕ). All (λ line. (line.kept ≡ true) ↔ IsKeptStop report.from k report.journal line) flagged.stops) (sym kept_is) flags));
    items = goes.items;
  }

module _ {O Op Reply Store : Type 0} {o : Ghosts O} {m : Meaning Op Reply Store} {object : O} {base : Base} {life : Life Op} {begun : Begun Store} {service : Running O} {report flagged : LifeRecord Reply} {remains : Remains} {crashed : Crashed}
    (based : IsBaseOf m base begun) (is : IsServiceOf object (o.line_count object) life.clients base service) (ran : HasRun m o.step o.only_reads life service report remains) (lost : HasLost o m object base life report remains crashed flagged)
    (flagged_is_told : (place : ℕ) (history : List Entry) (locals : List Local) → IsTold m.encoding life place history locals report → IsTold m.encoding life place history locals flagged) where
  abbrev crash : HasCrashed o object base life.choice remains crashed.image crashed.next
  crash = lost.ends.crash

  abbrev inst : Instance
  inst = object_instance (o.step object) (o.only_reads object) remains.callers base

  report_from : report.from ≡ base.place
  report_from = ran.is_told.from ∙ ap (λ (b : Base). b.place) is.from

  flagged_from : flagged.from ≡ base.place
  flagged_from = lost.flags.same.from ∙ report_from

  pub recorded : IsRecorded m inst crash.keeps.s crash.keeps.law.history begun.store life flagged
  recorded = record {
    locals = remains.trail.locals;
    seats = crash.keeps.shows;
    stops = report.stops;
    works = rw (lost.flags.same.journal, lost.flags.same.reads, lost.flags.same.fulls) ran.works;
    is_told =
        subst (λ (p : ℕ). IsTold m.encoding life p crash.keeps.law.history remains.trail.locals flagged) (ap (λ (b : Base). b.place) is.from)
        (subst (λ (h : List Entry). IsTold m.encoding life service.base.place h remains.trail.locals flagged) (sym crash.keeps.history) (flagged_is_told service.base.place remains.trail.history remains.trail.locals ran.is_told));
    stands = based.stands;
    limits = lost.limits;
    op_values = lost.op_values;
    values = lost.values;
  }

  module _ (opening : List ℕ) (means : HasMeaning (o.lawful object) opening (o.step object) (o.only_reads object) m) where
    abbrev linearized : IsLinearized m (o.line_count object) (o.lawful object) (o.step object) (o.only_reads object) life.clients remains.trail
    linearized = record { opening = opening; means = means; seats = ran.seats; remains = remains; closed = closed_table o.step o.only_reads is ran.leaves ran.order; trail_is = refl }

    abbrev is_told_by : IsToldBy m (o.line_count object) (o.lawful object) (o.step object) (o.only_reads object) life remains.trail flagged
    is_told_by = record {
      is_told = subst (λ (b : Base). IsTold m.encoding life b.place remains.trail.history remains.trail.locals flagged) (sym ran.leaves.base) (flagged_is_told service.base.place remains.trail.history remains.trail.locals ran.is_told);
      kept = lost.flags.kept_is ∙ keeps_to lost.ends (ran.leaves.callers ∙ is.callers_are) flagged_from;
      order = linearized;
    }

    abbrev leaves_image : LeavesImage linearized life.choice crashed.image
    leaves_image = record { readable = crash.readable; whole = crash.whole; left = crash.left }

    -- the base, what was kept and the instance, said over its trail
    trail_base : remains.trail.base ≡ base
    trail_base = ran.leaves.base ∙ is.from

    kept_there : IsKept (object_instance (o.step object) (o.only_reads object) life.clients remains.trail.base) crash.keeps.law.history crash.keeps.s crashed.next
    kept_there =
        let same : inst ≡ object_instance (o.step object) (o.only_reads object) life.clients remains.trail.base =
        λ i. record { callers = (ran.leaves.callers ∙ is.callers_are) i; base = sym trail_base i; step = o.step object; reads = o.only_reads object } in
        subst (λ (x : Instance). IsKept x crash.keeps.law.history crash.keeps.s crashed.next) same crash.keeps.kept

    among : LawfulBase (o.line_count object) (o.lawful object) base → IsLifeAmong m (o.line_count object) (o.version_number object) (o.lawful object) (o.step object) (o.only_reads object) begun base life flagged remains.trail crashed.image crashed.next
    among lawful_base =
        let there = subst (LawfulBase (o.line_count object) (o.lawful object)) (sym trail_base) lawful_base in
        record {
          witness = is_told_by;
          began = trail_base;
          based = subst (λ (b : Base). IsBaseOf m b begun) (sym trail_base) based;
          left = leaves_image;
          recovered = crash.recovered;
          crashed = crashed_life linearized life.choice crashed.image leaves_image there;
          next_is = recovered_life linearized life.choice crashed.image leaves_image there (o.version_number object) crashed.next crash.keeps.s crash.keeps.law.history crash.recovered kept_there crash.keeps.history;
        }

  pub lived : (opening : List ℕ) → HasMeaning (o.lawful object) opening (o.step object) (o.only_reads object) m → LawfulBase (o.line_count object) (o.lawful object) base → IsEnded life flagged → HasReplies m base.place begun.store life flagged
      → GoesOn m (o.line_count object) (o.lawful object) base.place begun.store life flagged crashed.next → IsBaseOf m crashed.next (begun_after m begun life flagged.journal flagged.kept)
      → HasLivedOver o object m life begun base (record { report = flagged; trail = remains.trail; image = crashed.image; next = crashed.next })
  lived opening means lawful_base ended has goes begins =
      let has' : HasReplies m begun.place begun.store life flagged = subst (λ (p : ℕ). HasReplies m p begun.store life flagged) based.at_place has in
      let goes' : GoesOn m (o.line_count object) (o.lawful object) begun.place begun.store life flagged crashed.next = subst (λ (p : ℕ). GoesOn m (o.line_count object) (o.lawful object) p begun.store life flagged crashed.next) based.at_place goes in
      let from : flagged.from ≡ begun.place = flagged_from ∙ based.at_place in
      let begun_from : report.from ≡ begun.place = report_from ∙ based.at_place in
      record {
        legal = record {
          clients = lost.flags.same.clients ∙ ran.is_told.clients ∙ ran.is_told.callers;
          choice = lost.flags.choice ∙ ran.choice;
          from = from;
          legal = legal_of m (o.line_count object) (o.lawful object) begun.place begun.store life report flagged crashed.next from begun_from ended has' goes';
          kept = kept_of m (o.line_count object) (o.lawful object) begun.place begun.store life report flagged crashed.next from begun_from ended has' goes' lost.flags.same.journal crashed.kept lost.flags.kept_is lost.flags.stops;
        };
        among = among opening means lawful_base;
        next = record { lawful = goes.lawful; is = begins };
        few = omega (arith, goes.at_place, goes.prefix, few_entries life flagged.journal ended.interleaved);
      }
