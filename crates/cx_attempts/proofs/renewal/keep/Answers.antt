use Rattle.std.proofs.Common.{◌≡◌, ◌<◌, ap, refl, subst, sym}
use Rattle.table_invariant.specs.Seats.{Seated, place_noted}
use Rattle.replica.specs.Replays.{StoresNone}
use Rattle.cx_attempts.specs.Keeping.{Guards, IsBehindRing}
use Rattle.cx_attempts.proofs.Kept.{kept_at, protected_image}
use Rattle.cx_attempts.proofs.renewal.keep.Goals as goal

pub returns-then-branch-clause-kept : goal.returns-then-branch-clause-kept
returns-then-branch-clause-kept g c =
    let t = c.args.shared.now in
    let o = g.O.Object in
    let e = c.in_ok-guard.ensures in
    let old = c.args.seat.now in
    let new = c.guard.new.seat in
    kept_at o t old new c.args.held c.args.ticket old (subst (Guards t.callers c.args.ticket old new) c.if-branch.true e.guarded) refl
    (protected_image o t old new c.args.held e.keeps.seat e.keeps.rest c.requires.held)

pub copy_current-requires : goal.copy_current-requires
copy_current-requires g c =
    let t = c.args.shared.now in
    let e = c.in_ok-guard.ensures in
    let old = c.args.seat.now in
    let new = c.guard.new.seat in
    let behind : IsBehindRing t.callers old new = subst (Guards t.callers c.args.ticket old new) c.if-branch.false e.guarded in
    let accesses : new.known.accesses ≡ old.known.accesses = ap (λ (s : Seated). s.known.accesses) e.keeps.rest in
    record {
      may = record {
        at_image = protected_image g.O.Object t old new c.args.held e.keeps.seat e.keeps.rest c.requires.held;
        none = behind.protection;
        behind = subst (λ p. p < new.known.local.seen_low) (sym (ap (place_noted 0) accesses)) behind.above;
        unstored = subst StoresNone (sym accesses) c.requires.unstored;
        linked = subst (λ n. c.args.ticket < n) (sym (ap (λ (s : Seated). s.known.local.front) e.keeps.rest)) c.requires.ready.linked;
      };
    }
