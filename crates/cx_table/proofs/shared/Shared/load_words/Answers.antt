use Rattle.std.proofs.Common.{◌≡◌, ◌+◌, ◌<◌, ℕ, length, refl, sym, ap, ◌∙◌, subst, arith}
use Rattle.cx_core.specs.RegionEvents.{CanLoad}
use Rattle.table_invariant.specs.declared.rule.Known.{Known}
use Rattle.table_invariant.specs.Running.{IsSeatOf, instance_at}
use Rattle.table_invariant.specs.Seats.{Seated}
use Rattle.caller_cache.proofs.SummaryLaws.{IsSeat, seated}
use Rattle.cx_table.specs.Runs.{Runs, loads_from}
use Rattle.cx_table.proofs.Handing.{laws_at}
use Rattle.cx_table.proofs.Runs.{kept_loading, led_to, may_still, numbers_loaded}
use Rattle.cx_table.proofs.shared.Shared.load_words.Goals as goal

pub load_each-requires-clause-guard : goal.load_each-requires-clause-guard
load_each-requires-clause-guard g c = λ i below. subst (λ (s : Seated). CanLoad c.args.self.now.callers (length c.args.self.now.base.words) c.args.r (c.args.from + i) s.known.local) (sym c.seat.view_is) (c.requires.guard i below)

-- what the loads lead to
loads_lead : (g : _) (c : goal.After-slice_known-2-1 g) →
    IsSeat c.load_each.new.seat.me c.count.new.self c.seat.inside.before c.seat.inside.copy
    × Runs c.args.self.now g.O.Object.step g.O.Object.only_reads (g.O.Object.lawful c.args.self.now.object) (loads_from c.args.r c.args.from) c.load_each.new.into c.args.seat.now (seated c.load_each.new.seat.table_id c.load_each.new.seat.me c.seat.inside.before c.seat.inside.copy)
    × IsSeatOf c.args.self.now (seated c.load_each.new.seat.table_id c.load_each.new.seat.me c.seat.inside.before c.seat.inside.copy)
loads_lead g c =
    let t = c.args.self.now in
    let instance = instance_at t g.O.Object.step g.O.Object.only_reads in
    let region = length t.base.words in
    let words = c.load_each.new.into in
    let n = length c.args.into.now in
    let long : length words ≡ n = c.load_each.ensures.length in
    let running = c.table_is_running.ensures in
    let counted = c.if-not-count.ensures in
    let May : Known → Type 0 = λ k. ((i : ℕ) → i < n → CanLoad t.callers region c.args.r (c.args.from + i) k.local) in
    led_to g.O.Object.line_count g.O.Object.lawful g.O.Object.step g.O.Object.only_reads t running
    (laws_at g.O.Object.line_count g.O.Object.lawful g.O.Object.step t running g.met.O.Object.keeps (λ o image law. (g.met.O.Object.shape o image law).0) g.met.O.Object.replies)
    (loads_from c.args.r c.args.from) n May
    (λ k i below may. may i below)
    (λ k i v may j below. may_still instance t.callers region c.args.r (c.args.from + j) c.args.r (c.args.from + i) v k (may j below))
    (λ k i v. numbers_loaded instance c.args.r (c.args.from + i) v k)
    (λ k i v copy. kept_loading c.args.r (c.args.from + i) v k copy (omega (arith, c.requires.seat.1)))
    c.seat.inside.seat.me c.seat.inside.summary c.seat.inside.copy c.seat.inside.seat.table_id c.seat.inside.before c.args.seat.now words c.load_each.new.seat.me c.load_each.new.seat.table_id c.count.new.self c.seat.view_is
    ((counted.counted refl).0 ∙ ap (λ k. record c.seat.inside.summary { steps = c.seat.inside.summary.steps + k }) (sym long)) c.load_each.ensures.table (omega (arith, long)) (omega (arith, long, (counted.counted refl).1)) (omega (arith, long, (counted.counted refl).2)) c.seat.invariant c.requires.guard c.requires.seat.0 c.load_each.ensures.taught

pub invariant_of-seat-2 : goal.invariant_of-seat-2
invariant_of-seat-2 g c = (loads_lead g c).0

pub returns-clause-run : goal.returns-clause-run
returns-clause-run g c = (loads_lead g c).1

pub returns-clause-seat : goal.returns-clause-seat
returns-clause-seat g c = (loads_lead g c).2
