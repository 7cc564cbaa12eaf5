use Rattle.std.proofs.Common.{ℕ, List, ◌∷◌, [], ap, sym, ◌∙◌}
use Rattle.cx_core.specs.declared.local.SeenRead.{SeenRead}
use Rattle.cx_core.specs.Merge.{history_of}
use Rattle.cx_core.specs.RootEvents.{reads_at}
use Rattle.cx_core.specs.State.{Instance}
use Rattle.core_events.proofs.replies.read_at.Goals as goal

pub returns : goal.returns
returns g c = λ callers reads.
    let base = c.args.base.now in
    let instance : Instance = record { callers = callers; base = base; step = g.O.Object.step c.args.object.now; reads = reads } in
    let seen : List ℕ → List SeenRead = λ reply. record { place = c.args.place; op = c.in-Some.op; reply = reply; before = c.args.before } ∷ [] in
    ap seen (c.in_ok-reply.ensures callers reads) ∙ sym (ap (reads_at instance (history_of base.place c.args.locals.now) c.args.place c.args.before) c.in-Some.is)
