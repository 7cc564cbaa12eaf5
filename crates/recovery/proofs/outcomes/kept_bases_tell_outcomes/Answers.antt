use Rattle.std.proofs.Common.{◌+◌, ◌≤◌, ℕ, List, length, sym, subst}
use Rattle.cx_core.specs.declared.entry.Entry.{Entry}
use Rattle.cx_core.specs.History.{full_image}
use Rattle.cx_core.specs.State.{State}
use Rattle.table_invariant.specs.Running.{instance_at}
use Rattle.core_runs.proofs.WholeLaws.{entries_of}
use Rattle.recovery.specs.Outcomes.{TellsOutcome}
use Rattle.recovery.proofs.LastEntries.{full_tells}
use Rattle.recovery.proofs.outcomes.kept_bases_tell_outcomes.Goals as goal

pub returns : goal.returns
returns g c = λ table seats r choice caller base opened leaves kept few.
    let o = table.object in
    let step = g.O.Object.step o in
    let instance = instance_at table g.O.Object.step g.O.Object.only_reads in
    let closed : State = record { words = leaves.words; locals = leaves.whole } in
    let law = leaves.state in
    let entries = entries_of instance closed law opened.base.numbers in
    let at = base.place in
    let to = subst (λ (es : List Entry). at ≤ table.base.place + length es) (sym leaves.history) kept.to in
    let outcome = full_tells (g.O.Object.line_count o) (g.O.Object.lawful o) instance
    (record { keeps = g.met.O.Object.keeps o; shape = λ words fits. (g.met.O.Object.shape o words fits).0; replies = g.met.O.Object.replies o })
    opened.base law.history law.tickets.below entries at caller kept.from to few in
    let here = subst (λ (es : List Entry). TellsOutcome step table.base es (record { place = at; words = full_image step table.base es at }) caller) leaves.history outcome in
    subst (λ (ws : List ℕ). TellsOutcome step table.base r.trail.history (record { place = at; words = ws }) caller) (sym kept.words) here
