use Rattle.std.proofs.Common.{◌≡◌, ◌+◌, length, refl, sym, ap, ◌∙◌, arith}
use Rattle.table_invariant.specs.declared.rule.Known.{Known}
use Rattle.table_invariant.specs.Running.{IsSeatOf}
use Rattle.caller_cache.proofs.SummaryLaws.{IsSeat, seated}
use Rattle.cx_table.specs.Gaps.{gaps_from}
use Rattle.cx_table.specs.Runs.{Runs}
use Rattle.cx_table.proofs.Handing.{laws_at}
use Rattle.cx_table.proofs.Runs.{led_to}
use Rattle.cx_table.proofs.shared.Shared.load_gaps.Goals as goal

-- what the loads lead to
loads_lead : (g : _) (c : goal.After-slice_known-2-1 g) →
    IsSeat c.load_gaps_each.new.seat.me c.count.new.self c.seat.inside.before c.seat.inside.copy
    × Runs c.args.self.now g.O.Object.step g.O.Object.only_reads (g.O.Object.lawful c.args.self.now.object) (gaps_from c.args.s c.args.from) c.load_gaps_each.new.into c.args.seat.now (seated c.load_gaps_each.new.seat.table_id c.load_gaps_each.new.seat.me c.seat.inside.before c.seat.inside.copy)
    × IsSeatOf c.args.self.now (seated c.load_gaps_each.new.seat.table_id c.load_gaps_each.new.seat.me c.seat.inside.before c.seat.inside.copy)
loads_lead g c =
    let t = c.args.self.now in
    let words = c.load_gaps_each.new.into in
    let long : length words ≡ length c.args.into.now = c.load_gaps_each.ensures.length in
    let running = c.table_is_running.ensures in
    let counted = c.if-not-count.ensures in
    let within = c.requires.seat.1 in
    let slot = c.requires.slot in
    let May : Known → Type 0 = λ k. Unit {0} in
    led_to g.O.Object.line_count g.O.Object.lawful g.O.Object.step g.O.Object.only_reads t running
    (laws_at g.O.Object.line_count g.O.Object.lawful g.O.Object.step t running g.met.O.Object.keeps (λ o image law. (g.met.O.Object.shape o image law).0) g.met.O.Object.replies)
    (gaps_from c.args.s c.args.from) (length words) May
    (λ k i below may. (slot, omega (arith, long, below, within)))
    (λ k i v may. tt)
    (λ k i v. refl)
    (λ k i v copy. refl)
    c.seat.inside.seat.me c.seat.inside.summary c.seat.inside.copy c.seat.inside.seat.table_id c.seat.inside.before c.args.seat.now words c.load_gaps_each.new.seat.me c.load_gaps_each.new.seat.table_id c.count.new.self c.seat.view_is
    ((counted.counted refl).0 ∙ ap (λ k. record c.seat.inside.summary { steps = c.seat.inside.summary.steps + k }) (sym long)) c.load_gaps_each.ensures.table (omega (arith)) (omega (arith, long, (counted.counted refl).1)) (omega (arith, long, (counted.counted refl).2)) c.seat.invariant tt c.requires.seat.0 c.load_gaps_each.ensures.taught

pub invariant_of-seat-2 : goal.invariant_of-seat-2
invariant_of-seat-2 g c = (loads_lead g c).0

pub returns-clause-run : goal.returns-clause-run
returns-clause-run g c = (loads_lead g c).1

pub returns-clause-seat : goal.returns-clause-seat
returns-clause-seat g c = (loads_lead g c).2
