use Rattle.std.proofs.Common.{rules, ◌≡◌, IsTrue, ap, sym, subst, ◌∙◌}
use Rattle.std.specs.List.{Contains}
use Rattle.table_invariant.specs.Fitting.{loaded_of}
use Rattle.replica.specs.Held.{IsHeldShared}
use Rattle.replica.specs.Regions.{has_loaded}
use Rattle.cx_attempts.proofs.Queries.{contains_loaded, loaded_contains}
use Rattle.cx_attempts.proofs.current.query_held.Goals as goal

pub placed-requires-clause-place : goal.placed-requires-clause-place
placed-requires-clause-place g c = loaded_contains c.args.place (loaded_of c.args.seat.now.known.local.shared) c.requires.placed.loaded

pub returns-clause-placed : goal.returns-clause-placed
returns-clause-placed g c =
    let m = c.query_part.new.mem in
    let kept = c.query_part.ensures.framed.fixed_kept in
    let table : m.table.now ≡ c.args.shared.now = ap (λ f. f.table) kept ∙ c.placed.ensures.table in
    let held : m.held.now ≡ c.args.held.now = ap (λ f. f.held) kept ∙ c.placed.ensures.held in
    let placed = ap (λ f. f.placed) kept ∙ c.placed.ensures.placed in
    let same : c.seat-1.given.0 ≡ m.seat.now = search rules in
    record {
      held = subst (λ s. IsHeldShared (g.O.Object.line_count c.args.shared.now.object) c.args.shared.now (g.O.Object.lawful c.args.shared.now.object) s c.args.held.now) (sym same)
          (subst (λ h. IsHeldShared (g.O.Object.line_count c.args.shared.now.object) c.args.shared.now (g.O.Object.lawful c.args.shared.now.object) m.seat.now h) held
          (subst (λ b. IsHeldShared (g.O.Object.line_count b.object) b (g.O.Object.lawful b.object) m.seat.now m.held.now) table m.of));
      loaded = subst (λ s. Contains (loaded_of s.known.local.shared) (0, c.args.place)) (sym same)
          (contains_loaded c.args.place (loaded_of m.seat.now.known.local.shared) (subst (λ o. IsTrue (has_loaded o (loaded_of m.seat.now.known.local.shared))) placed m.place));
    }

pub returns-clause-keeps : goal.returns-clause-keeps
returns-clause-keeps g c = record { seat = (returns-clause-placed g c).held.of; since = search rules; rest = search rules }
