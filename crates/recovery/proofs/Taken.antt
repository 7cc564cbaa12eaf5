-- An image that a caller took, once the table is closed.
use Rattle.std.proofs.Common.{◌≡◌, ◌+◌, ◌-◌, ◌≤◌, ℕ, Bool, List, drop, take, ap, sym, subst, ◌∙◌, arith}
use Rattle.cx_core.specs.declared.entry.Base.{Base}
use Rattle.cx_core.specs.declared.entry.Entry.{Entry}
use Rattle.cx_core.specs.History.{full_image, image_from}
use Rattle.cx_core.specs.Region.{place_of}
use Rattle.cx_core.specs.State.{Instance, State}
use Rattle.cx_core.proofs.HistoryLemmas.{ObjectLaws, full_after}
use Rattle.table_invariant.specs.Fitting.{base_of}
use Rattle.table_invariant.specs.Rule.{IsOrigin}
use Rattle.table_invariant.specs.Running.{Running, instance_at}
use Rattle.table_invariant.specs.Seats.{Seated}
use Rattle.table_invariant.proofs.Entries.{entries_from}
use Rattle.table_invariant.proofs.Fitting.{entries_lawful, image_base, origin_full}
use Rattle.cx_table.specs.declared.remains.Remains.{Remains}
use Rattle.cx_table.specs.Remains.{ClosingWitness}
use Rattle.recovery.specs.Taken.{IsCheckpoint}
use Rattle.recovery.specs.Kept.{IsOpened}
use Rattle.recovery.specs.Outcomes.{TellsOutcome}
use Rattle.recovery.specs.Results.{HasResultsFrom}
use Rattle.recovery.proofs.LastEntries.{full_results, full_tells}

-- the entries behind a place lead from the full image there to the full images behind it
behind_full : (instance : Instance) (history : List Entry) (words : List ℕ) (place : ℕ) → instance.base.place ≤ place_of words → words ≡ full_image instance.step instance.base history (place_of words) → place_of words ≤ place →
    full_image instance.step (base_of words) (drop (place_of words - instance.base.place) history) place ≡ full_image instance.step instance.base history place
unfolding full_image
behind_full instance history words place from is later =
    let n = place - place_of words in
    let there : place_of words + n ≡ place = omega arith in
    let entries = take n (drop (place_of words - instance.base.place) history) in
    ap (λ ws. image_from instance.step ws entries) is ∙ full_after instance history (place_of words) n from ∙ ap (full_image instance.step instance.base history) there

pub taken_of : {O : Type 0} (line_count : O → ℕ) (lawful : O → List ℕ → Type 0) (step : O → List ℕ → List ℕ → List ℕ × List ℕ) (reads : O → List ℕ → Bool) (table : Running O) (seats : List Seated) (r : Remains) →
    ObjectLaws (line_count table.object) (lawful table.object) (step table.object) → IsOpened line_count lawful table → ClosingWitness table (instance_at table step reads) seats r →
    (words : List ℕ) → IsOrigin (instance_at table step reads) r.trail.history words → IsCheckpoint line_count lawful step table r.trail.history words
taken_of line_count lawful step reads table seats r laws opened leaves words origin =
    let instance = instance_at table step reads in
    let lines = line_count table.object in
    let fits = lawful table.object in
    let closed : State = record { words = leaves.words; locals = leaves.whole } in
    let law = leaves.state in
    let history = law.history in
    let first : IsOrigin instance history words = subst (λ (es : List Entry). IsOrigin instance es words) (sym leaves.history) origin in
    let numbered = entries_from instance closed law in
    let small = law.tickets.below in
    let full = origin_full lines fits instance laws opened.base history small numbered words first in
    let entries = entries_lawful lines fits instance history opened.base numbered in
    subst (λ (es : List Entry). IsCheckpoint line_count lawful step table es words) leaves.history (record {
      from = full.from;
      to = full.to;
      are = full.full;
      base = image_base lines fits instance laws opened.base words (record { history = history; small = small; entries = numbered; origin = first });
      outcomes = λ caller few. subst (λ (ws : List ℕ). TellsOutcome (step table.object) table.base history (let b : Base = record { place = place_of words; words = ws } in b) caller) (sym full.full)
          (full_tells lines fits instance laws opened.base history small entries (place_of words) caller full.from full.to few);
      results = subst (HasResultsFrom (lawful table.object) (step table.object) table.base.words) (sym full.full)
          (full_results lines fits instance laws opened.base history small entries (place_of words) full.from full.to);
      behind = λ place later. behind_full instance history words place full.from full.full later;
    })
