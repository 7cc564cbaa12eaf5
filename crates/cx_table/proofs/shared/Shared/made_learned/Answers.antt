use Rattle.std.proofs.Common.{◌∙◌, ◌≤◌, ap, subst, sym}
use Rattle.table_invariant.specs.Running.{IsTableWithinLimits, Running, instance_at}
use Rattle.table_invariant.specs.Seats.{Seated, SeenGuard, kind_found}
use Rattle.table_invariant.specs.Steps.{MayStepKnowing, Steps}
use Rattle.cx_table.specs.Words.{put_by}
use Rattle.cx_table.proofs.Handing.{laws_at, step_fits}
use Rattle.caller_cache.specs.Following.{CanFollow, IsFollowed}
use Rattle.caller_cache.proofs.FollowedSteps.{can_follow, step_made}
use Rattle.caller_cache.proofs.SummaryLaws.{IsSeat, seated}
use Rattle.cx_table.proofs.shared.Shared.made_learned.Goals as goal

pub learned-found-requires-clause-learns : goal.learned-found-requires-clause-learns
learned-found-requires-clause-learns g c =
    subst (λ (s : Seated). MayStepKnowing (instance_at c.args.self.now g.O.Object.step g.O.Object.only_reads) c.args.kind.now s.known c.args.word (put_by c.args.instruction)) (sym c.seat.view_is) c.requires.learns

pub follow-requires : goal.follow-requires
follow-requires g c =
    let t = c.args.self.now in
    let instance = instance_at t g.O.Object.step g.O.Object.only_reads in
    let same = ap (λ (r : Running _). r.callers) c.self.view_is in
    let region = ap (λ (s : Seated). s.region) c.seat.view_is ∙ c.requires.may.step.seat.region in
    subst (λ n. CanFollow n c.args.kind.now c.seat.inside.summary c.seat.inside.copy) (sym same)
    (can_follow instance c.args.kind.now c.seat.inside.seat.me c.seat.inside.summary c.seat.inside.before c.seat.inside.copy c.seat.invariant region (subst (λ n. n ≤ 8) same c.self.inside.callers.few)
    (subst (λ (s : Seated). SeenGuard instance c.args.kind.now s.known.local) (sym c.seat.view_is) c.requires.may.step.guard) (subst (λ (s : Seated). IsFollowed t.callers c.args.kind.now s.known.local) (sym c.seat.view_is) c.requires.may.followed))

-- what the step makes
made : (g : _) (c : goal.After-follow g) → IsSeat c.learned-found.new.seat.me c.follow.new.summary c.seat.inside.before c.follow.new.copy
    × Steps c.args.self.now g.O.Object.step g.O.Object.only_reads (kind_found (instance_at c.args.self.now g.O.Object.step g.O.Object.only_reads) c.args.kind.now c.args.seat.now.known.local c.learned-found.result) c.learned-found.result c.args.seat.now
    (seated c.learned-found.new.seat.table_id c.learned-found.new.seat.me c.seat.inside.before c.follow.new.copy)
made g c =
    step_made c.args.self.now g.O.Object.step g.O.Object.only_reads c.args.kind.now c.learned-found.result _ _ _ _ _ _ _ _ _ _ _ c.seat.invariant c.seat.view_is c.in_ok-check.ensures c.requires.may.step.seat c.requires.may.step.guard
    c.learned-found.ensures.table c.learned-found.ensures.taught (ap (λ (r : Running _). r.callers) c.self.view_is) c.follow.ensures.numbers c.follow.ensures.copies

pub invariant_of-seat : goal.invariant_of-seat
invariant_of-seat g c = (made g c).0

pub returns : goal.returns
returns g c =
    let running = subst (IsTableWithinLimits g.O.Object.line_count g.O.Object.lawful) c.self.view_is c.self.invariant.0 in
    record {
      made = (made g c).1;
      fits = step_fits g.O.Object.line_count g.O.Object.lawful g.O.Object.step g.O.Object.only_reads c.args.self.now _ _ c.learned-found.result _ running
          (laws_at g.O.Object.line_count g.O.Object.lawful g.O.Object.step c.args.self.now running g.met.O.Object.keeps (λ o image law. (g.met.O.Object.shape o image law).0) g.met.O.Object.replies)
          c.learned-found.ensures.taught;
      halted = tt;
    }
