-- The part on gaps: the opening state has it, and each kind of step keeps it.
use Rattle.std.proofs.Common.{◌≡◌, ◌≢◌, ◌+◌, ◌*◌, ◌<◌, ◌≤◌, ◌⊎◌, inl, inr, ℕ, List, length, set, slice_index, ap, sym, subst, ◌∙◌, arith, length-append, Some}
use Rattle.std.proofs.lemmas.Bool.{cases_eq}
use Rattle.std.proofs.lemmas.List.{get_or-set_other, get_or-set_same, set-get_or}
use Rattle.std.proofs.lemmas.Nat.{mod_below}
use Rattle.std.specs.List.{slice_get}
use Rattle.cx_core.specs.declared.entry.Entry.{Entry}
use Rattle.cx_core.specs.declared.kinds.Kind.{Kind}
use Rattle.cx_core.specs.declared.kinds.Kind.TheVariants.{WriteCell, Link, Look, ReadCell, TryExclusive, TryShared, BackOff, Downgrade, ReleaseExclusive, LoadWord, StoreWord, Persist, Retire, Protect, Unprotect, Scan, WriteSet, Offer, LoadOffer, ReadSet, NoteGap, LoadGap}
use Rattle.cx_core.specs.declared.local.Local.{Local}
use Rattle.cx_core.specs.Events.{Guard, step_word, words_after}
use Rattle.cx_core.specs.Frames.{Continues}
use Rattle.cx_core.specs.Gaps.{CanNoteGap, Gap, Gaps, IsGap, gap_of, images}
use Rattle.cx_core.specs.History.{full_image}
use Rattle.cx_core.specs.Lawful.{Shape}
use Rattle.cx_core.specs.Layout.{cell_count, gap_at, gaps_at, replicas_at}
use Rattle.cx_core.specs.RootEvents.{before_in}
use Rattle.cx_core.specs.State.{Instance, Scene}
use Rattle.cx_core.proofs.HistoryLemmas.{full_stays}
use Rattle.cx_core.proofs.StepWords.{own_small, shown_cell}

-- a gap stays one as the history grows
pub gap_stays : (instance : Instance) (history longer : List Entry) (g : Gap) → Continues history longer → IsGap instance history g → IsGap instance longer g
gap_stays instance history longer g continues old =
    let count : length longer ≡ length history + length continues.more = ap length continues.is ∙ length-append history continues.more in
    let same : (place : ℕ) → place ≤ instance.base.place + length history → images instance longer place ≡ images instance history place =
    λ place within. ap (λ h. full_image instance.step instance.base h place) continues.is ∙ full_stays instance history continues.more place within in
    record {
      below = λ some. (let was = old.below some in omega (arith, was, count));
      quiet = λ n over under k small. (
          let within = old.below (omega (arith, over, under)) in
          ap (λ ws. slice_index ws (8 * n + k)) (same (g.ticket + 1) within)
          ∙ old.quiet n over under k small
          ∙ ap (λ ws. slice_index ws (8 * n + k)) (sym (same g.ticket (omega (arith, within)))));
    }

pub gaps_longer : (instance : Instance) (history longer : List Entry) (words : List ℕ) → Continues history longer → Gaps instance history words → Gaps instance longer words
gaps_longer instance history longer words continues old = record {
  each = λ slot i slot_is small. gap_stays instance history longer (gap_of instance.callers slot (slice_index words (gap_at instance.callers slot i))) continues (old.each slot i slot_is small);
}

-- a word put elsewhere
gaps_framed : (instance : Instance) (history : List Entry) (at v : ℕ) (words : List ℕ) → (at < gaps_at instance.callers) ⊎ (replicas_at instance.callers ≤ at) → Gaps instance history words → Gaps instance history (set words at v)
gaps_framed instance history at v words off old = record {
  each = λ slot i slot_is small. (
      let apart : gap_at instance.callers slot i ≢ at = λ e. (elim off [
        | inl before ↦ omega (arith, before, e)
        | inr behind ↦ omega (arith, behind, e, slot_is, small)
      ]) in
      subst (λ w. IsGap instance history (gap_of instance.callers slot w)) (sym (get_or-set_other words at (gap_at instance.callers slot i) v 0 apart)) (old.each slot i slot_is small));
}

-- a gap noted
gaps_noted : (instance : Instance) (history : List Entry) (slot m v : ℕ) (words : List ℕ) → CanNoteGap instance history slot m v → replicas_at instance.callers ≤ length words →
    Gaps instance history words → Gaps instance history (set words (gap_at instance.callers slot m) v)
gaps_noted instance history slot m v words can long old = record {
  each = λ other j other_is small. (
      let place = gap_at instance.callers slot m in
      let Named : ℕ → ℕ → Type 0 = λ s w. IsGap instance history (gap_of instance.callers s w) in
      elim (cases_eq (gap_at instance.callers other j) place) [
        | inl e ↦ (
            let first = can.1 in
            let same : other ≡ slot = omega (arith, e, small, first) in
            subst (λ w. Named other w) (sym (ap (slice_index (set words place v)) e ∙ get_or-set_same words place v 0 (let within = can.0 in omega (arith, within, first, long))))
            (subst (λ s. Named s v) (sym same) can.3))
        | inr ne ↦ subst (λ w. Named other w) (sym (get_or-set_other words place (gap_at instance.callers other j) v 0 ne)) (old.each other j other_is small)
      ]);
}

-- a ring of zeros
pub gaps_blank : (instance : Instance) (history : List Entry) (words : List ℕ) → ((at : ℕ) → gaps_at instance.callers ≤ at → at < replicas_at instance.callers → slice_index words at ≡ 0) → Gaps instance history words
gaps_blank instance history words blank = record {
  each = λ slot i slot_is small. subst (λ w. IsGap instance history (gap_of instance.callers slot w)) (sym (blank (gap_at instance.callers slot i) (omega arith) (omega (arith, slot_is, small)))) (record {
    below = λ some. absurd (let none : 0 + 1 < 0 = some in omega (arith, none));
    quiet = λ n over under. absurd (let none : n < 0 = under in omega (arith, none));
  });
}

-- which words steps are on that note or load no gap
abbrev IsOffGaps : Instance → Kind → Local → Type 0
IsOffGaps instance (NoteGap s i v) l = Unit {0}
IsOffGaps instance (LoadGap s i) l = Unit {0}
IsOffGaps instance kind l = (step_word instance kind l < gaps_at instance.callers) ⊎ (replicas_at instance.callers ≤ step_word instance kind l)

module _ (instance : Instance) (history : List Entry) (scene : Scene) (locals : List Local) (caller : ℕ) (l : Local) (shape : Shape instance scene.words locals) (at : slice_get locals caller ≡ Some l) where
  abbrev callers : ℕ
  callers = instance.callers

  mine : l.number < callers
  mine = own_small instance scene scene.words locals caller l shape at

  step_off : (kind : Kind) → Guard instance scene kind l → IsOffGaps instance kind l
  step_off (WriteCell j i v) guard = inl (omega (arith, mine, guard.0, guard.1))
  step_off (Link j) guard = inl (omega (arith, mod_below l.front (cell_count callers) (omega (arith, shape.some))))
  step_off (Look s) guard = inl (omega (arith, guard))
  step_off (ReadCell t k i) guard = inl (omega (arith, guard.1, shown_cell callers l.seen_slot t k shape.some guard.2))
  step_off (TryExclusive r) guard = inl (omega (arith, guard.0))
  step_off (TryShared r) guard = inl (omega (arith, guard.0))
  step_off (BackOff r) guard = inl (omega (arith, guard.0))
  step_off (Downgrade r) guard = inl (omega (arith, guard.0.0))
  step_off (ReleaseExclusive r) guard = inl (omega (arith, guard.0.0))
  step_off (LoadWord r i refused) guard = inr (omega arith)
  step_off (StoreWord r i v) guard = inr (omega arith)
  step_off (Persist r i) guard = inr (omega arith)
  step_off Retire guard = inl (omega (arith, mod_below (before_in l.won) (2 * callers) (omega (arith, shape.some))))
  step_off (Protect p) guard = inl (omega (arith, mine))
  step_off Unprotect guard = inl (omega (arith, mine))
  step_off (Scan d) guard = inl (omega (arith, guard.0))
  step_off (WriteSet j i v) guard = inl (omega (arith, mine, guard.0.0, guard.1))
  step_off (Offer j) guard = inl (omega (arith, mine, guard.0.0))
  step_off (LoadOffer k t) guard = inl (omega (arith, shown_cell callers l.seen_slot t k shape.some guard.1))
  step_off (ReadSet k t i) guard = inl (omega (arith, guard.1, shown_cell callers l.seen_slot t k shape.some guard.2))
  step_off (NoteGap s i v) guard = tt
  step_off (LoadGap s i) guard = tt
  step_off kind guard = inl (omega arith)

  -- an allowed step of any kind keeps the part on gaps, with the history as it is
  pub gaps_kept : (kind : Kind) → scene.history ≡ history → Guard instance scene kind l → Gaps instance history scene.words → Gaps instance history (words_after instance kind l scene.words)
  gaps_kept (NoteGap s i v) same guard old =
      gaps_noted instance history s i v scene.words (subst (λ h. CanNoteGap instance h s i v) same guard) (omega (arith, shape.long)) old
  gaps_kept (LoadGap s i) same guard old =
      subst (Gaps instance history) (sym (set-get_or scene.words (gap_at callers s i) 0)) old
  gaps_kept kind same guard old = gaps_framed instance history _ _ scene.words (step_off kind guard) old
