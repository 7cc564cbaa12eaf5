use Rattle.std.proofs.Common.{ap, sym, subst, ◌∙◌, length}
use Rattle.cx_base.specs.VecMemory.{words_of}
use Rattle.cx_base.proofs.MemoryLemmas.{known_after}
use Rattle.cx_core.specs.Region.{object_part, place_of}
use Rattle.cx_core.proofs.KeepLemmas.{region_kept}
use Rattle.core_events.proofs.images.step_on.Goals as goal

pub returns-clause-region : goal.returns-clause-region
returns-clause-region g c =
    let o = c.args.object.now in
    let entry = c.args.entry.now in
    let ws = words_of c.args.memory.now in
    let image = object_part ws in
    let law = g.met.O.Object.keeps o image entry.op c.requires.region.0.object c.op_fits.ensures in
    let kept = region_kept (g.O.Object.line_count o) (g.O.Object.step o) entry ws c.requires.caller c.requires.region.0.long (g.met.O.Object.shape o (g.O.Object.step o image entry.op).0 law).0.long (g.met.O.Object.replies o image entry.op c.requires.region.0.object c.op_fits.ensures).long in
    let is = known_after ws (words_of c.full_step.new.mem) c.full_step.new.mem.fit c.in-Ok.ensures.done in
    record {
      long = ap length is ∙ kept.0;
      object = subst (g.O.Object.lawful o) (sym (ap object_part is ∙ kept.2)) law;
    }

pub returns-clause-place : goal.returns-clause-place
returns-clause-place g c =
    let o = c.args.object.now in
    let entry = c.args.entry.now in
    let ws = words_of c.args.memory.now in
    let image = object_part ws in
    let law = g.met.O.Object.keeps o image entry.op c.requires.region.0.object c.op_fits.ensures in
    let kept = region_kept (g.O.Object.line_count o) (g.O.Object.step o) entry ws c.requires.caller c.requires.region.0.long (g.met.O.Object.shape o (g.O.Object.step o image entry.op).0 law).0.long (g.met.O.Object.replies o image entry.op c.requires.region.0.object c.op_fits.ensures).long in
    ap place_of (known_after ws (words_of c.full_step.new.mem) c.full_step.new.mem.fit c.in-Ok.ensures.done) ∙ kept.1
