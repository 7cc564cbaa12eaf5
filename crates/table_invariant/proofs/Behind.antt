-- What is behind a caller's notes: the history, and the full images that were loaded.
use Rattle.std.proofs.Common.{◌≡◌, ◌<◌, ℕ, List, [], ◌∷◌, length, slice_index, refl, ap, sym, ◌∙◌, Some}
use Rattle.std.proofs.lemmas.List.Elements.{All-head, All-tail}
use Rattle.std.specs.List.{All, slice_get}
use Rattle.std.specs.Option.{option_map}
use Rattle.cx_base.specs.Noted.{NotesLead}
use Rattle.cx_core.specs.declared.local.HeldShared.{HeldShared}
use Rattle.cx_core.specs.declared.local.Local.{Local}
use Rattle.cx_core.specs.Lawful.{Lawful}
use Rattle.cx_core.specs.LawfulRegions.{vol_word}
use Rattle.cx_core.specs.Layout.{replica_words}
use Rattle.cx_core.specs.Shown.{shown}
use Rattle.cx_core.specs.State.{Instance, State}
use Rattle.core_runs.proofs.ImageLaws.{image_shared}
use Rattle.cx_core.proofs.Claims.{shared_below}
use Rattle.cx_core.proofs.ReplicaWords.{replica_at}
use Rattle.core_queue.specs.NotedSets.{OwnSetsHold}
use Rattle.table_invariant.specs.declared.rule.Known.{Known}
use Rattle.table_invariant.specs.Fitting.{loads_of}
use Rattle.table_invariant.specs.Rule.{IsBehindNotes, IsOrigin, IsTraced, NotesHold, SetsHold}
use Rattle.table_invariant.proofs.Traced.{image_origin}
use Rattle.table_invariant.proofs.Entries.{entries_from}
use Rattle.table_invariant.proofs.Having.{has_of_history}

-- the loads of words lead from a list to itself where each word loaded stands in it
loads_lead : (region : ℕ) (word : ℕ → ℕ) (words : List ℕ) (loaded : List (ℕ × ℕ)) → ((i : ℕ) → i < region → slice_index words i ≡ word i) → All (λ (x : ℕ × ℕ). (x.0 < region) × (word x.0 ≡ x.1)) loaded → NotesLead (loads_of loaded) words words
loads_lead region word words [] at all = refl
loads_lead region word words (x ∷ xs) at all =
    let P = λ (y : ℕ × ℕ). (y.0 < region) × (word y.0 ≡ y.1) in
    let here = All-head P x xs all in
    (at x.0 here.0 ∙ here.1, loads_lead region word words xs at (All-tail P x xs all))

-- the words that a caller loaded under a shared right are those of a full image, which is there
pub shared_there : (instance : Instance) (s : State) (law : Lawful instance s) → 0 < length instance.base.words → (caller : ℕ) (l : Local) → slice_get s.locals caller ≡ Some l → (h : HeldShared) → l.shared ≡ Some h →
    (words : List ℕ) × IsOrigin instance law.history words × NotesLead (loads_of h.loaded) words words
shared_there instance s law some caller l at h mine =
    let region = length instance.base.words in
    let words = replica_words instance.callers region s.words h.replica in
    let small = shared_below instance.callers s.words s.locals law.locks caller l h at mine in (
      words,
      image_origin instance s law h.replica small some (image_shared instance s law caller h.replica l at (ap (option_map (λ (x : HeldShared). x.replica)) mine)),
      loads_lead region (vol_word instance s.words h.replica) words h.loaded (λ i below. replica_at instance.callers region s.words h.replica i below) (law.regions.loaded caller l at h mine),
    )

-- In a lawful state, what a caller noted, `k`, is true of the state's history: the history has the words noted and what the seat has, and the
-- accesses and the loads go on from full images of the history.
pub behind_notes : (instance : Instance) (s : State) (law : Lawful instance s) → 0 < length instance.base.words → (l : Local) (k : Known) → slice_get s.locals k.local.number ≡ Some l →
    k.local ≡ shown l → NotesHold instance law.history k.noted → IsTraced instance law.history k.accesses l →
    SetsHold instance s law.history k → OwnSetsHold instance law.history l.cells → IsBehindNotes instance k
behind_notes instance s law some l k at shows noted traced sets own = record {
  history = law.history;
  small = law.tickets.below;
  entries = entries_from instance s law;
  noted = noted;
  had = has_of_history instance s law k l at shows noted sets own;
  first = traced.first;
  now = traced.now;
  origin = traced.origin;
  leads = traced.leads;
  shared = λ h has. shared_there instance s law some k.local.number l at h (ap (λ (x : Local). x.shared) (sym shows) ∙ has);
}
