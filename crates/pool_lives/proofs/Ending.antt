-- A life of a pool that ended in a crash is a pool life, told by its trail.
use Rattle.std.proofs.Common.{◌≡◌, ◌∙◌, ℕ, List, ap, arith, length, refl, subst, sym}
use Rattle.std.proofs.lemmas.List.{length-map}
use Rattle.cx_base.specs.declared.object.Object.{Ghosts}
use Rattle.cx_core.specs.Shown.{shown}
use Rattle.cx_core.specs.State.{Instance}
use Rattle.cx_core.specs.declared.entry.Base.{Base}
use Rattle.cx_core.specs.declared.entry.Entry.{Entry}
use Rattle.cx_lives.proofs.Crashing.{closed_table}
use Rattle.cx_lives.proofs.Recovering.{keeps_to}
use Rattle.cx_lives.specs.Crash.{EndsInCrash, HasCrashed}
use Rattle.cx_lives.specs.Life.{IsServiceOf}
use Rattle.cx_lives.specs.declared.crash.Crashed.{Crashed}
use Rattle.table_invariant.specs.Running.{Running}
use Rattle.cx_table.specs.declared.remains.Remains.{Remains}
use Rattle.life_records.specs.Begins.{IsBaseOf, nothing_begun}
use Rattle.life_records.specs.Meanings.{object_instance}
use Rattle.life_records.specs.Replies.{HasOpValues, HasReplyValues}
use Rattle.life_records.specs.Lives.{IsLegalLife}
use Rattle.life_records.specs.Records.{Life, LifeRecord, Meaning}
use Rattle.pool_lives.specs.PoolLives.{AreToldIn}
use Rattle.pool_lives.specs.Recorded.{HaveTickets, IsPoolRecorded}
use Rattle.pool_lives.specs.PoolRuns.{HasPooledOver, IsLifeOfPool}
use Rattle.pool_lives.specs.Running.{HasMet}
use Rattle.typed_object.specs.Meaning.{HasMeaning}

-- the record with its numbers of kept entries and of items
abbrev pub with_kept : {Reply : Type 0} → LifeRecord Reply → ℕ → ℕ → LifeRecord Reply
with_kept report kept items = record {
  clients = report.clients;
  from = report.from;
  journal = report.journal;
  reads = report.reads;
  stops = report.stops;
  fulls = report.fulls;
  choice = report.choice;
  kept = kept;
  items = items;
}

module _ {O Op Reply Store : Type 0} {o : Ghosts O} {m : Meaning Op Reply Store} {object : O} {base : Base} {seats : ℕ} {life : Life Op} {service : Running O} {report : LifeRecord Reply} {remains : Remains} {crashed : Crashed}
    (based : IsBaseOf m base (nothing_begun m)) (may : IsLifeOfPool m life) (is : IsServiceOf object (o.line_count object) seats base service) (met : HasMet m o.step o.only_reads life service report remains)
    (ends : EndsInCrash o m object base life.choice remains crashed) (op_values : HasOpValues m life) (values : HasReplyValues m (with_kept report crashed.kept crashed.items)) where
  abbrev crash : HasCrashed o object base life.choice remains crashed.image crashed.next
  crash = ends.crash

  abbrev inst : Instance
  inst = object_instance (o.step object) (o.only_reads object) remains.callers base

  abbrev flagged : LifeRecord Reply
  flagged = with_kept report crashed.kept crashed.items

  pub at_base : service.base.place ≡ base.place
  at_base = ap (λ (b : Base). b.place) is.from

  abbrev pub recorded : IsPoolRecorded m inst crash.keeps.s crash.keeps.law.history m.opening life flagged
  recorded = record {
    locals = remains.trail.locals;
    seats = crash.keeps.shows;
    clients = met.clients;
    count = met.count;
    entries = met.entries;
    works = met.works;
    sorted = met.sorted;
    long = met.long ∙ ap length (sym crash.keeps.history);
    tickets = subst (λ (h : List Entry). HaveTickets base.place (length h) met.entries) (sym crash.keeps.history) (subst (λ (p : ℕ). HaveTickets p (length remains.trail.history) met.entries) at_base met.tickets);
    calls = met.calls;
    in_turn = met.in_turn;
    clients_are = met.clients_are;
    choice = met.choice;
    from = met.from ∙ at_base;
    stops = met.stops;
    fulls = met.fulls;
    stands = based.stands;
    limits = may.limits;
    op_values = op_values;
    values = values;
  }

  callers_are : length remains.trail.locals ≡ seats
  callers_are =
      let leaves = met.leaves in
      let count = leaves.state.shape.count in
      omega (arith, ap length leaves.locals, ap length leaves.shows, length-map leaves.whole shown, count, is.callers_are)

  pub pooled : IsLegalLife m base.place m.opening life flagged → AreToldIn m.encoding life base.place crash.keeps.law.history remains.trail.locals flagged → (opening : List ℕ) → HasMeaning (o.lawful object) opening (o.step object) (o.only_reads object) m → HasPooledOver o object m life seats flagged remains
  pooled legal tells opening means = record {
    legal = record { legal = subst (λ (p : ℕ). IsLegalLife m p m.opening life flagged) based.at_place legal; stops = met.stops; fulls = met.fulls };
    tells = record {
      callers = callers_are;
      is_told =
          subst (λ (p : ℕ). AreToldIn m.encoding life p remains.trail.history remains.trail.locals flagged) (sym (ap (λ (b : Base). b.place) met.leaves.base ∙ at_base))
          (subst (λ (h : List Entry). AreToldIn m.encoding life base.place h remains.trail.locals flagged) crash.keeps.history tells);
      order = record { opening = opening; means = means; seats = met.seats; remains = remains; closed = closed_table o.step o.only_reads is met.leaves met.order; trail_is = refl };
      kept = keeps_to ends (met.leaves.callers ∙ is.callers_are) (met.from ∙ at_base);
    };
    callers = met.leaves.callers ∙ is.callers_are;
    began = subst (λ (b : Base). IsBaseOf m b (nothing_begun m)) (sym (met.leaves.base ∙ is.from)) based;
  }
