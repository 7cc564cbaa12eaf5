use Rattle.std.proofs.Common.{◌≡◌, ◌<◌, ◌+◌, ℕ, length, refl, sym, ap, ◌∙◌, subst, arith}
use Rattle.cx_core.specs.Events.{Guard}
use Rattle.cx_core.specs.declared.kinds.Kind.TheVariants.{ReadSet}
use Rattle.table_invariant.specs.declared.rule.Known.{Known}
use Rattle.table_invariant.specs.Running.{IsSeatOf, instance_at}
use Rattle.table_invariant.specs.Seats.{Seated, unseen}
use Rattle.caller_cache.proofs.SummaryLaws.{IsSeat, seated}
use Rattle.cx_table.specs.Runs.{Runs, set_reads_from}
use Rattle.cx_table.proofs.Handing.{laws_at}
use Rattle.cx_table.proofs.Runs.{led_to}
use Rattle.cx_table.proofs.shared.Shared.read_set_words.Goals as goal

pub read_set_each-requires-clause-guard : goal.read_set_each-requires-clause-guard
read_set_each-requires-clause-guard g c = λ i below. (
    let t = c.args.self.now in
    subst (λ (s : Seated). Guard (instance_at t g.O.Object.step g.O.Object.only_reads) unseen (ReadSet c.args.k c.args.t i) s.known.local) (sym c.seat.view_is) (c.requires.guard i below))

-- what the loads lead to
reads_lead : (g : _) (c : goal.After-slice_known-2-1 g) →
    IsSeat c.read_set_each.new.seat.me c.count.new.self c.seat.inside.before c.seat.inside.copy
    × Runs c.args.self.now g.O.Object.step g.O.Object.only_reads (g.O.Object.lawful c.args.self.now.object) (set_reads_from c.args.k c.args.t c.args.from) c.read_set_each.new.into c.args.seat.now (seated c.read_set_each.new.seat.table_id c.read_set_each.new.seat.me c.seat.inside.before c.seat.inside.copy)
    × IsSeatOf c.args.self.now (seated c.read_set_each.new.seat.table_id c.read_set_each.new.seat.me c.seat.inside.before c.seat.inside.copy)
reads_lead g c =
    let t = c.args.self.now in
    let instance = instance_at t g.O.Object.step g.O.Object.only_reads in
    let words = c.read_set_each.new.into in
    let long : length words ≡ length c.args.into.now = c.read_set_each.ensures.length in
    let running = c.table_is_running.ensures in
    let counted = c.if-not-count.ensures in
    let within = c.requires.seat.1 in
    let May : Known → Type 0 = λ k. ((i : ℕ) → i < 513 → Guard instance unseen (ReadSet c.args.k c.args.t i) k.local) in
    led_to g.O.Object.line_count g.O.Object.lawful g.O.Object.step g.O.Object.only_reads t running
    (laws_at g.O.Object.line_count g.O.Object.lawful g.O.Object.step t running g.met.O.Object.keeps (λ o image law. (g.met.O.Object.shape o image law).0) g.met.O.Object.replies)
    (set_reads_from c.args.k c.args.t c.args.from) (length words) May
    (λ k i below may. may (c.args.from + i) (omega (arith, long, below, within)))
    (λ k i v may j below. may j below)
    (λ k i v. refl)
    (λ k i v copy. refl)
    c.seat.inside.seat.me c.seat.inside.summary c.seat.inside.copy c.seat.inside.seat.table_id c.seat.inside.before c.args.seat.now words c.read_set_each.new.seat.me c.read_set_each.new.seat.table_id c.count.new.self c.seat.view_is
    ((counted.counted refl).0 ∙ ap (λ k. record c.seat.inside.summary { steps = c.seat.inside.summary.steps + k }) (sym long)) c.read_set_each.ensures.table (omega (arith)) (omega (arith, long, (counted.counted refl).1)) (omega (arith, long, (counted.counted refl).2)) c.seat.invariant c.requires.guard c.requires.seat.0 c.read_set_each.ensures.taught

pub invariant_of-seat-2 : goal.invariant_of-seat-2
invariant_of-seat-2 g c = (reads_lead g c).0

pub returns-clause-run : goal.returns-clause-run
returns-clause-run g c = (reads_lead g c).1

pub returns-clause-seat : goal.returns-clause-seat
returns-clause-seat g c = (reads_lead g c).2
