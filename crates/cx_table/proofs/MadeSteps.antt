-- Steps that the seat's shown local state tells are learned, and no word found changes their kind.
use Rattle.std.proofs.Common.{◌≡◌, false, true, ℕ, refl, slice_index, subst, sym, Result}
use Rattle.std.proofs.lemmas.Bool.{false≢true}
use Rattle.cx_base.specs.declared.object.Object.{Ghosts}
use Rattle.cx_core.specs.declared.kinds.Kind.{Kind}
use Rattle.cx_core.specs.declared.kinds.Kind.TheVariants.{Downgrade, LoadWord, NoteGap, Offer, ReleaseExclusive}
use Rattle.cx_core.specs.declared.local.Local.{Local}
use Rattle.cx_core.specs.Events.{Guard, step_word}
use Rattle.cx_core.specs.State.{Instance}
use Rattle.table_invariant.specs.declared.rule.Known.{Known}
use Rattle.table_invariant.specs.Learns.{LearnsInAnyState}
use Rattle.table_invariant.specs.Running.{Running, instance_at}
use Rattle.table_invariant.specs.Seats.{IsByShown, Seated, SeenGuard, WordFits, kind_found, known_after, unseen}
use Rattle.table_invariant.specs.Steps.{MayStepKnowing, Puts, Steps}
use Rattle.table_invariant.proofs.Keeps.{learns_shown}
use Rattle.cx_table.specs.Calls.{MakesFittingStep}

-- the word found marks no kind that is shown
pub shown_found : (instance : Instance) (kind : Kind) (l : Local) (found : ℕ) → IsByShown kind → kind_found instance kind l found ≡ kind
shown_found instance (LoadWord r i true) l found by = absurd by
shown_found instance (LoadWord r i false) l found by = refl
shown_found instance kind l found by = refl

-- the guard of a kind that is shown holds where the caller sees it hold
guard_seen : (instance : Instance) (kind : Kind) (l : Local) → IsByShown kind → SeenGuard instance kind l → Guard instance unseen kind l
guard_seen instance (Downgrade r) l by guard = absurd by
guard_seen instance (ReleaseExclusive r) l by guard = absurd by
guard_seen instance (LoadWord r i true) l by guard = absurd by
guard_seen instance (LoadWord r i false) l by guard = (guard, λ yes. absurd (false≢true yes))
guard_seen instance (Offer j) l by guard = absurd by
guard_seen instance (NoteGap s i v) l by guard = absurd by
guard_seen instance kind l by guard = guard

-- what a step of a kind that is shown teaches is learned
pub learns_made : (instance : Instance) (kind : Kind) (known : Known) (word : ℕ) (put : ℕ → ℕ) → IsByShown kind → WordFits kind → SeenGuard instance kind known.local → word ≡ step_word instance kind known.local → Puts instance kind known.local put →
    MayStepKnowing instance kind known word put
learns_made instance kind known word put by fits guard at puts words within =
    let found = slice_index words word in
    subst (λ (k : Kind). LearnsInAnyState instance words k known word (put found) (known_after instance k known found)) (sym (shown_found instance kind known.local found by))
    (learns_shown instance kind known words word (put found) by fits (guard_seen instance kind known.local by guard) at (sym (puts found)))

-- what a step of a kind that is shown leaves, by the word that it found, is what the step of the kind leaves
pub made_shown : {O E : Type 0} (o : Ghosts O) (r : Running O) (kind : Kind) (before after : Seated) (result : Result ℕ E) → IsByShown kind →
    MakesFittingStep o r before after result (λ found. Steps r o.step o.only_reads (kind_found (instance_at r o.step o.only_reads) kind before.known.local found) found before after) →
    MakesFittingStep o r before after result (λ found. Steps r o.step o.only_reads kind found before after)
made_shown o r kind before after result by made =
    subst (λ (Made : ℕ → Type 0). MakesFittingStep o r before after result Made) (λ i found. Steps r o.step o.only_reads (shown_found (instance_at r o.step o.only_reads) kind before.known.local found by i) found before after) made
