use Rattle.std.proofs.Common.{◌≡◌, arith, ap, subst, sym, ◌∙◌, length}
use Rattle.cx_core.specs.Layout.{per_at}
use Rattle.table_invariant.specs.Fitting.{TellsWord}
use Rattle.table_invariant.specs.Running.{Running, instance_at}
use Rattle.table_invariant.specs.Seats.{Seated, SeenGuard, known_of}
use Rattle.table_invariant.proofs.Giving.{learns_persist}
use Rattle.cx_core.specs.declared.kinds.Kind.TheVariants.{Persist}
use Rattle.cx_table.proofs.shared.Shared.persist.Goals as goal

pub stored_learned-requires-clause-learns : goal.stored_learned-requires-clause-learns
stored_learned-requires-clause-learns g c =
    let t = c.args.self.now in
    let instance = instance_at t g.O.Object.step g.O.Object.only_reads in
    let known = known_of c.seat.inside.seat.me.0 in
    let size : length c.seat.inside.copy.words ≡ length t.base.words = ap (λ (s : Seated). s.region) c.seat.view_is ∙ c.requires.seat.region in
    let below = c.requires.guard.0.1 in
    let may = subst (λ (s : Seated). SeenGuard instance (Persist c.args.r c.args.i) s.known.local) (sym c.seat.view_is) c.requires.guard in
    learns_persist instance c.args.r c.args.i c.args.seat.now.known _ c.word-v.result c.requires.guard
    (c.per_at-word.ensures.value ∙ ap (λ n. per_at c.self.inside.callers.number n c.args.r c.args.i) (c.region.ensures ∙ size) ∙ ap (λ (x : Running _). per_at x.callers (length t.base.words) c.args.r c.args.i) c.self.view_is)
    (subst (λ (s : Seated). TellsWord (length t.base.words) s.known.accesses c.args.i c.word-v.result) c.seat.view_is
    (subst (λ n. TellsWord n known.accesses c.args.i c.word-v.result) size (subst (TellsWord (length c.seat.inside.copy.words) known.accesses c.args.i) (sym c.word-v.ensures) (c.seat.invariant.1.words c.args.i (omega (arith, size, below)) may.1))))
