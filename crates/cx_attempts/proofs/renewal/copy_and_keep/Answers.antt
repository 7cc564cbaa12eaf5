use Rattle.std.proofs.Common.{ap, subst, sym, ◌∙◌}
use Rattle.cx_base.specs.Codes.{root_place_of}
use Rattle.cx_core.specs.State.{one_more}
use Rattle.table_invariant.specs.Seats.{Seated}
use Rattle.cx_attempts.specs.Keeping.{Guards, IsBehindRing}
use Rattle.cx_attempts.specs.Attempts.{unchanged_by_attempt}
use Rattle.cx_attempts.proofs.Kept.{behind_current, copied_image, kept_at, protected_image, attempt_refused}
use Rattle.cx_attempts.proofs.renewal.copy_and_keep.Goals as goal

pub returns-then-branch-clause-kept : goal.returns-then-branch-clause-kept
returns-then-branch-clause-kept g c =
    let t = c.args.shared.now in
    let o = g.O.Object in
    let old = c.args.seat.now in
    let mid = c.renew_listed.new.seat in
    let new = c.guard.new.seat in
    let r = c.in_ok-renew_listed.ensures in
    let e = c.in_ok-guard.ensures in
    let image = copied_image o t old mid c.args.held c.args.source.replica r.renewed.rest c.requires.source.alone r.renewed.ready.is_held r.renewed.ready.image in
    kept_at o t mid new c.args.held c.args.ticket old (subst (Guards t.callers c.args.ticket mid new) c.if-branch.true e.guarded) (ap (λ (s : Seated). s.known.local.met) r.renewed.rest)
    (protected_image o t mid new c.args.held e.keeps.seat e.keeps.rest image)

pub give_up-requires : goal.give_up-requires
give_up-requires g c =
    let t = c.args.shared.now in
    let o = g.O.Object in
    let old = c.args.seat.now in
    let mid = c.renew_listed.new.seat in
    let new = c.guard.new.seat in
    let r = c.in_ok-renew_listed.ensures in
    let e = c.in_ok-guard.ensures in
    let image = copied_image o t old mid c.args.held c.args.source.replica r.renewed.rest c.requires.source.alone r.renewed.ready.is_held r.renewed.ready.image in
    let behind : IsBehindRing t.callers mid new = subst (Guards t.callers c.args.ticket mid new) c.if-branch.false e.guarded in
    let ends = behind_current t.callers mid new behind (r.renewed.placed (root_place_of t.callers old.known.local.seen_cur) c.requires.source.place ∙ ap (λ (s : Seated). root_place_of t.callers s.known.local.seen_cur) (sym r.renewed.rest)) (ap (λ (s : Seated). s.known.local.fresh) r.renewed.rest ∙ c.requires.source.fresh) in
    record { may = record { at_image = protected_image o t mid new c.args.held e.keeps.seat e.keeps.rest image; none = behind.protection; stale = ends.1 } }

pub returns-clause-kept : goal.returns-clause-kept
returns-clause-kept g c =
    let t = c.args.shared.now in
    let old = c.args.seat.now in
    let mid = c.renew_listed.new.seat in
    let new = c.guard.new.seat in
    let r = c.in_ok-renew_listed.ensures in
    let e = c.in_ok-guard.ensures in
    let behind : IsBehindRing t.callers mid new = subst (Guards t.callers c.args.ticket mid new) c.if-branch.false e.guarded in
    let ends = behind_current t.callers mid new behind (r.renewed.placed (root_place_of t.callers old.known.local.seen_cur) c.requires.source.place ∙ ap (λ (s : Seated). root_place_of t.callers s.known.local.seen_cur) (sym r.renewed.rest)) (ap (λ (s : Seated). s.known.local.fresh) r.renewed.rest ∙ c.requires.source.fresh) in
    let last = c.in_ok-give_up.ensures in
    attempt_refused old c.give_up.new.seat (last.attempts.rest ∙ ap unchanged_by_attempt e.keeps.rest ∙ ap unchanged_by_attempt r.renewed.rest) last.ended (last.met ∙ ends.0 ∙ ap one_more (ap (λ (s : Seated). s.known.local.met) r.renewed.rest))
