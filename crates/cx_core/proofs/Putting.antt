-- Steps that put one word and one local state.
use Rattle.std.proofs.Common.{◌≡◌, ℕ, List, set, slice_index, sym, subst, Some, Bool, true, false, cond}
use Rattle.std.proofs.lemmas.List.{set-get_or}
use Rattle.std.specs.List.{slice_get}
use Rattle.cx_core.specs.declared.local.Local.{Local}
use Rattle.cx_core.specs.Frames.{StepApart}
use Rattle.cx_core.specs.State.{State}

-- where `P` holds once any word with `Off` and any local state with `Same` are put, it holds after a step that is apart by `Off` and `Same`
pub stepped : (Off : ℕ → Type 0) (Same : Local → Local → Type 0) (P : List ℕ → List Local → Type 0) (before after : State) → StepApart Off Same before after →
    ((at v caller : ℕ) (l l' : Local) → slice_get before.locals caller ≡ Some l → Off at → Same l l' → P (set before.words at v) (set before.locals caller l')) →
    P after.words after.locals
stepped Off Same P before after step kept =
    subst (λ ws. P ws after.locals) (sym step.words)
    (subst (λ ls. P (set before.words step.at step.word) ls) (sym step.locals) (kept step.at step.word step.caller step.local step.next step.of_caller step.off step.same))

-- what holds of two local states holds of either
pub either : (P : Local → Type 0) (b : Bool) (x y : Local) → P x → P y → P (cond b x y)
either P true x y one other = one
either P false x y one other = other

-- where a word is as it was
pub no_word : (P : List ℕ → Type 0) (words : List ℕ) (at : ℕ) → P (set words at (slice_index words at)) → P words
no_word P words at kept = subst P (set-get_or words at 0) kept
