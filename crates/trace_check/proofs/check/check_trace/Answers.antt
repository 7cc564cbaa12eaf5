use Rattle.cx_core.specs.State.{Instance, opening_state}
use Rattle.cx_core.proofs.HistoryLemmas.{ObjectLaws}
use Rattle.core_runs.proofs.Keeps.{opening_lawful}
use Rattle.trace_check.proofs.Found.{if_found, if_only, if_safe}
use Rattle.trace_check.proofs.check.check_trace.Goals as goal

pub returns-clause-found : goal.returns-clause-found
returns-clause-found g c =
    let instance : Instance = record { callers = c.args.trace.now.callers; base = c.args.base.now; step = g.O.Object.step c.args.object.now; reads = g.O.Object.only_reads c.args.object.now } in
    let laws : ObjectLaws (g.O.Object.line_count c.args.object.now) (g.O.Object.lawful c.args.object.now) (g.O.Object.step c.args.object.now) =
    record { keeps = g.met.O.Object.keeps c.args.object.now; shape = λ image law. (g.met.O.Object.shape c.args.object.now image law).0; replies = g.met.O.Object.replies c.args.object.now } in
    let law = opening_lawful instance c.requires.callers.some c.requires.callers.few c.requires.base.place_within c.requires.base.at_place in
    let from = opening_state c.args.trace.now.callers c.args.base.now in
    if_only (g.O.Object.line_count c.args.object.now) (g.O.Object.version_number c.args.object.now) (g.O.Object.lawful c.args.object.now) instance laws
    (λ words law. (g.met.O.Object.shape c.args.object.now words law).1) c.requires.base from c.args.trace.now.steps law c.walk_trace.result
    (if_found (g.O.Object.line_count c.args.object.now) (g.O.Object.version_number c.args.object.now) (g.O.Object.lawful c.args.object.now) instance laws
    (λ words law. (g.met.O.Object.shape c.args.object.now words law).1) c.requires.base from c.args.trace.now.steps law c.walk_trace.result c.walk_trace.ensures)

pub returns-clause-safe : goal.returns-clause-safe
returns-clause-safe g c =
    let instance : Instance = record { callers = c.args.trace.now.callers; base = c.args.base.now; step = g.O.Object.step c.args.object.now; reads = g.O.Object.only_reads c.args.object.now } in
    let laws : ObjectLaws (g.O.Object.line_count c.args.object.now) (g.O.Object.lawful c.args.object.now) (g.O.Object.step c.args.object.now) =
    record { keeps = g.met.O.Object.keeps c.args.object.now; shape = λ image law. (g.met.O.Object.shape c.args.object.now image law).0; replies = g.met.O.Object.replies c.args.object.now } in
    let law = opening_lawful instance c.requires.callers.some c.requires.callers.few c.requires.base.place_within c.requires.base.at_place in
    let from = opening_state c.args.trace.now.callers c.args.base.now in
    if_safe (g.O.Object.line_count c.args.object.now) (g.O.Object.version_number c.args.object.now) (g.O.Object.lawful c.args.object.now) instance laws
    (λ words law. (g.met.O.Object.shape c.args.object.now words law).1) c.requires.base from c.args.trace.now.steps law c.walk_trace.result
    (if_found (g.O.Object.line_count c.args.object.now) (g.O.Object.version_number c.args.object.now) (g.O.Object.lawful c.args.object.now) instance laws
    (λ words law. (g.met.O.Object.shape c.args.object.now words law).1) c.requires.base from c.args.trace.now.steps law c.walk_trace.result c.walk_trace.ensures)
