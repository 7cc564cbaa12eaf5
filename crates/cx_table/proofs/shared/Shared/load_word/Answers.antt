use Rattle.std.proofs.Common.{ap, ◌∙◌, length}
use Rattle.cx_core.specs.Layout.{vol_at}
use Rattle.table_invariant.specs.Running.{Running, instance_at}
use Rattle.table_invariant.specs.Seats.{Seated}
use Rattle.table_invariant.proofs.Giving.{learns_load}
use Rattle.cx_table.proofs.shared.Shared.load_word.Goals as goal

pub made_learned-requires-clause-learns : goal.made_learned-requires-clause-learns
made_learned-requires-clause-learns g c =
    let t = c.args.self.now in
    learns_load (instance_at t g.O.Object.step g.O.Object.only_reads) c.args.r c.args.i c.args.mark c.args.seat.now.known _ c.requires.guard
    (c.vol_at-word.ensures.value
    ∙ ap (λ n. vol_at c.self.inside.callers.number n c.args.r c.args.i) (c.region.ensures ∙ ap (λ (s : Seated). s.region) c.seat.view_is ∙ c.requires.seat.region)
    ∙ ap (λ (x : Running _). vol_at x.callers (length t.base.words) c.args.r c.args.i) c.self.view_is)
