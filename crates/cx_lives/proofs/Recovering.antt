-- What a closed service left is recovered after each crash.
use Rattle.std.proofs.Common.{◌≡◌, ◌∙◌, ◌+◌, ◌-◌, ◌%◌, ◌<◌, ◌≤◌, ℕ, List, ap, ap₂, length, slice_index, subst, sym}
use Rattle.cx_base.specs.Codes.{root_place_of}
use Rattle.cx_base.specs.declared.object.Object.{Ghosts}
use Rattle.cx_core.specs.Base.{LawfulBase}
use Rattle.cx_core.specs.Crash.{IsKept, recovered}
use Rattle.cx_core.specs.History.{full_image}
use Rattle.cx_core.specs.LawfulAnswers.{durable_place}
use Rattle.cx_core.specs.State.{Instance}
use Rattle.cx_core.specs.declared.entry.Base.{Base}
use Rattle.cx_core.specs.declared.entry.Entry.{Entry}
use Rattle.cx_core.specs.declared.entry.Image.{Image}
use Rattle.table_invariant.specs.Running.{instance_at}
use Rattle.cx_table.specs.declared.remains.Remains.{Remains}
use Rattle.life_records.specs.Meanings.{object_instance}
use Rattle.life_records.specs.Recorded.{IsKeptIn}
use Rattle.life_records.specs.Records.{LifeRecord, Meaning}
use Rattle.recovery.specs.Crashes.{IsLeftOf}
use Rattle.recovery.specs.Kept.{IsKeptBy, IsOpened, crash_of}
use Rattle.cx_lives.specs.Crash.{EndsInCrash, HasClosed, KeepsState}
use Rattle.cx_lives.specs.declared.crash.Crashed.{Crashed}

module _ {O : Type 0} {o : Ghosts O} {object : O} {base : Base} {remains : Remains} (has : HasClosed o object base remains) where
  -- the table that the service was is opened
  pub opened : IsOpened o.line_count o.lawful has.service
  opened = record {
    lines = has.is.lines_are ∙ ap o.line_count (sym has.is.same);
    enough = subst (λ (l : ℕ). 64 ≤ l) (sym has.is.lines_are) has.lines.0;
    small = subst (λ (l : ℕ). l ≤ 16384) (sym has.is.lines_are) has.lines.1;
    base = subst (λ (b : Base). LawfulBase (o.line_count has.service.object) (o.lawful has.service.object) b) (sym has.is.from) (subst (λ x. LawfulBase (o.line_count x) (o.lawful x) base) (sym has.is.same) has.lawful);
  }

  abbrev inst : Instance
  inst = instance_at has.service o.step o.only_reads

  -- what is kept of the closed service, said over the object, the callers and the base
  module _ {choice : ℕ} {image : Image} {next : Base} (left : IsLeftOf remains choice image) (by : IsKeptBy o.line_count o.lawful o.step has.service has.seats remains choice next)
      (rec : IsKept inst has.leaves.state.history (record { words = has.leaves.words; locals = has.leaves.whole }) (recovered inst (crash_of image))) where
    pub ends_at : next.place ≡ root_place_of remains.callers (slice_index remains.trail.chain (choice % length remains.trail.chain))
    ends_at = by.place ∙ ap₂ (λ (n : ℕ) (codes : List ℕ). root_place_of n (slice_index codes (choice % length codes))) (sym has.leaves.callers) has.leaves.published

    keeps_now : KeepsState inst remains next
    keeps_now =
        let place : root_place_of has.service.callers image.root ≡ next.place = ap (root_place_of has.service.callers) left.root ∙ sym by.place in
        record {
          s = record { words = has.leaves.words; locals = has.leaves.whole };
          law = has.leaves.state;
          history = has.leaves.history;
          shows = has.leaves.shows ∙ sym has.leaves.locals;
          kept = record {
            from = by.from;
            durable = subst (λ (p : ℕ). durable_place inst has.leaves.words ≤ p) place rec.durable;
            to = subst (λ (es : List Entry). next.place ≤ has.service.base.place + length es) (sym has.leaves.history) by.to;
            long = by.again.size.long ∙ sym opened.base.size.long;
            full = λ i within. ap (λ (ws : List ℕ). slice_index ws i) (by.words ∙ ap (λ (es : List Entry). full_image (o.step has.service.object) has.service.base es next.place) (sym has.leaves.history));
            answered = λ c l at i x there. subst (λ (p : ℕ). x.ticket < p) place (rec.answered c l at i x there);
            reads = λ c l at i x there. subst (λ (p : ℕ). x.place ≤ p) place (rec.reads c l at i x there);
          };
        }

    pub keeps : KeepsState (object_instance (o.step object) (o.only_reads object) remains.callers base) remains next
    keeps =
        let same : inst ≡ object_instance (o.step object) (o.only_reads object) remains.callers base =
        λ i. record { callers = sym has.leaves.callers i; base = has.is.from i; step = o.step (has.is.same i); reads = o.only_reads (has.is.same i) } in
        subst (λ (x : Instance). KeepsState x remains next) same keeps_now

module _ {O Op Reply Store : Type 0} {o : Ghosts O} {m : Meaning Op Reply Store} {object : O} {base : Base} {choice : ℕ} {remains : Remains} {crashed : Crashed} (ends : EndsInCrash o m object base choice remains crashed) where
  -- what is kept ends at the place of the code that the choice takes
  pub keeps_to : {callers from : ℕ} → remains.callers ≡ callers → from ≡ base.place → crashed.kept ≡ root_place_of callers (slice_index remains.trail.chain (choice % length remains.trail.chain)) - from
  keeps_to callers_are from_is =
      ends.kept_is
      ∙ ap₂ (λ (p q : ℕ). p - q) (ends.crash.place ∙ ap (λ (n : ℕ). root_place_of n (slice_index remains.trail.chain (choice % length remains.trail.chain))) callers_are) (sym from_is)

  -- a record with the numbers of the crash says them of the base
  pub kept_in : (report : LifeRecord Reply) → report.kept ≡ crashed.kept → report.items ≡ crashed.items →
      IsKeptIn m (object_instance (o.step object) (o.only_reads object) remains.callers base) ends.crash.keeps.s ends.crash.keeps.law.history report crashed.next
  kept_in report kept items = record { image = ends.crash.keeps.kept; kept = kept ∙ ends.kept_is; items = λ store stands. items ∙ ends.items_are store stands }
