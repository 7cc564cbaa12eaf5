-- The part on fronts.
use Rattle.std.proofs.Common.{◌≡◌, ◌≢◌, ◌+◌, ◌≤◌, ◌⊎◌, inl, inr, ℕ, max, List, length, set, slice_index, refl, sym, ◌∙◌, arith, Some}
use Rattle.std.proofs.lemmas.List.{get_or-set_other}
use Rattle.std.specs.List.{slice_get}
use Rattle.cx_core.specs.declared.entry.Entry.{Entry}
use Rattle.cx_core.specs.declared.local.Local.{Local}
use Rattle.cx_core.specs.Layout.{dur_at, low_at, free_at}
use Rattle.cx_core.specs.Lawful.{Fronts, IsBehind}
use Rattle.cx_core.specs.State.{Instance}
use Rattle.core_queue.specs.Frames.{SameFront}
use Rattle.cx_core.proofs.Locals.{EachLocal-set}

-- the words that fronts name are as before
pub record SameWords (words words' : List ℕ) : Type 0 where
  pub dur : slice_index words' dur_at ≡ slice_index words dur_at
  pub low : slice_index words' low_at ≡ slice_index words low_at
  pub free : slice_index words' free_at ≡ slice_index words free_at

pub same_words : (words : List ℕ) (at v : ℕ) → 4 ≤ at ⊎ (at ≡ 0) → SameWords words (set words at v)
same_words words at v off =
    let one : 1 ≢ at = elim off [ inl a ↦ omega arith | inr b ↦ omega arith ] in
    let two : 2 ≢ at = elim off [ inl a ↦ omega arith | inr b ↦ omega arith ] in
    let three : 3 ≢ at = elim off [ inl a ↦ omega arith | inr b ↦ omega arith ] in
    record {
      dur = get_or-set_other words at 1 v 0 one;
      low = get_or-set_other words at 2 v 0 two;
      free = get_or-set_other words at 3 v 0 three;
    }

-- a longer history and the same words leave a caller behind
pub behind_kept : (instance : Instance) (history history' : List Entry) (words words' : List ℕ) (l l' : Local) → IsBehind instance history words l →
    length history ≤ length history' → SameWords words words' → SameFront l l' → IsBehind instance history' words' l'
behind_kept instance history history' words words' l l' old longer same fields = record {
  from = rw fields.front old.from;
  to = rw fields.front (omega (arith, old.to));
  floor = rw (fields.floor, fields.front) old.floor;
  cur = rw (fields.seen_cur, fields.front) old.cur;
  free = rw (fields.seen_free, same.free) old.free;
  low = rw (fields.seen_low, same.low) old.low;
  raised = rw (fields.raised, same.dur) old.raised;
  floor_dur = rw (fields.floor, same.dur) old.floor_dur;
  floor_cur = rw (fields.floor, fields.seen_cur) old.floor_cur;
  won = λ won at. rw fields.seen_cur (old.won won (sym fields.won ∙ at));
}

pub same_front : (l : Local) → SameFront l l
same_front l = record { front = refl; floor = refl; seen_cur = refl; seen_free = refl; seen_low = refl; raised = refl; won = refl }

-- all callers are behind after one local state was put that is
pub fronts_put : (instance : Instance) (history history' : List Entry) (words words' : List ℕ) (locals : List Local) (caller : ℕ) (l l' : Local) →
    Fronts instance history words locals → slice_get locals caller ≡ Some l → length history ≤ length history' → SameWords words words' →
    IsBehind instance history' words' l' → Fronts instance history' words' (set locals caller l')
fronts_put instance history history' words words' locals caller l l' fronts at longer same here = record {
  each = EachLocal-set locals caller l l' (λ _ x. IsBehind instance history' words' x) at
      (λ d x there. behind_kept instance history history' words words' x x (fronts.each d x there) longer same (same_front x)) here;
}

-- a step on a word that fronts do not name, of a caller that is behind afterwards
pub fronts_off : (instance : Instance) (history : List Entry) (words : List ℕ) (locals : List Local) (at v caller : ℕ) (l l' : Local) →
    Fronts instance history words locals → slice_get locals caller ≡ Some l → 4 ≤ at ⊎ (at ≡ 0) → IsBehind instance history words l' →
    Fronts instance history (set words at v) (set locals caller l')
fronts_off instance history words locals at v caller l l' fronts there off here =
    let same = same_words words at v off in
    fronts_put instance history history words (set words at v) locals caller l l' fronts there (omega arith) same
    (behind_kept instance history history words (set words at v) l' l' here (omega arith) same (same_front l'))

-- the framing law: fronts name DUR, LOW and FREE, and of a local state the fields of SameFront
pub fronts_framed : (instance : Instance) (history : List Entry) (words : List ℕ) (locals : List Local) (at v caller : ℕ) (l l' : Local) →
    Fronts instance history words locals → slice_get locals caller ≡ Some l → 4 ≤ at ⊎ (at ≡ 0) → SameFront l l' →
    Fronts instance history (set words at v) (set locals caller l')
fronts_framed instance history words locals at v caller l l' fronts there off fields =
    fronts_off instance history words locals at v caller l l' fronts there off
    (behind_kept instance history history words words l l' (fronts.each caller l there) (omega arith) (record { dur = refl; low = refl; free = refl }) fields)

-- a caller whose front rises, but not past the end
pub behind_raised : (instance : Instance) (history history' : List Entry) (words words' : List ℕ) (l l' : Local) → IsBehind instance history words l →
    length history ≤ length history' → SameWords words words' → l.front ≤ l'.front → l'.front ≤ instance.base.place + length history' →
    SameFront l (record l' { front = l.front }) → IsBehind instance history' words' l'
behind_raised instance history history' words words' l l' old longer same up within fields =
    let kept = behind_kept instance history history' words words' l (record l' { front = l.front }) old longer same fields in
    record {
      from = omega (arith, kept.from);
      to = within;
      floor = omega (arith, kept.floor);
      cur = omega (arith, kept.cur);
      free = kept.free;
      low = kept.low;
      raised = kept.raised;
      floor_dur = kept.floor_dur;
      floor_cur = kept.floor_cur;
      won = kept.won;
    }

-- a caller that found FREE
pub behind_free : (instance : Instance) (history : List Entry) (words : List ℕ) (l l' : Local) → IsBehind instance history words l →
    l'.seen_free ≡ max l.seen_free (slice_index words free_at) → SameFront l (record l' { seen_free = l.seen_free }) → IsBehind instance history words l'
behind_free instance history words l l' old found fields =
    let kept = behind_kept instance history history words words l (record l' { seen_free = l.seen_free }) old (omega arith) (record { dur = refl; low = refl; free = refl }) fields in
    record {
      from = kept.from;
      to = kept.to;
      floor = kept.floor;
      cur = kept.cur;
      free = rw found (omega (arith, old.free));
      low = kept.low;
      raised = kept.raised;
      floor_dur = kept.floor_dur;
      floor_cur = kept.floor_cur;
      won = kept.won;
    }

-- a caller that found LOW
pub behind_low : (instance : Instance) (history : List Entry) (words : List ℕ) (l l' : Local) → IsBehind instance history words l →
    l'.seen_low ≡ max l.seen_low (slice_index words low_at) → SameFront l (record l' { seen_low = l.seen_low }) → IsBehind instance history words l'
behind_low instance history words l l' old found fields =
    let kept = behind_kept instance history history words words l (record l' { seen_low = l.seen_low }) old (omega arith) (record { dur = refl; low = refl; free = refl }) fields in
    record {
      from = kept.from;
      to = kept.to;
      floor = kept.floor;
      cur = kept.cur;
      free = kept.free;
      low = rw found (omega (arith, old.low));
      raised = kept.raised;
      floor_dur = kept.floor_dur;
      floor_cur = kept.floor_cur;
      won = kept.won;
    }

-- a caller that is behind is so when LOW or FREE rises
pub behind_up : (instance : Instance) (history : List Entry) (words words' : List ℕ) (l : Local) → IsBehind instance history words l →
    slice_index words' dur_at ≡ slice_index words dur_at → slice_index words low_at ≤ slice_index words' low_at → slice_index words free_at ≤ slice_index words' free_at →
    IsBehind instance history words' l
behind_up instance history words words' l old dur low free = record {
  from = old.from;
  to = old.to;
  floor = old.floor;
  cur = old.cur;
  free = omega (arith, old.free);
  low = omega (arith, old.low);
  raised = rw dur old.raised;
  floor_dur = rw dur old.floor_dur;
  floor_cur = old.floor_cur;
  won = old.won;
}

-- all callers are behind after LOW or FREE rose and a local state was put that is
pub fronts_up : (instance : Instance) (history : List Entry) (words words' : List ℕ) (locals : List Local) (caller : ℕ) (l l' : Local) → Fronts instance history words locals →
    slice_get locals caller ≡ Some l → slice_index words' dur_at ≡ slice_index words dur_at → slice_index words low_at ≤ slice_index words' low_at →
    slice_index words free_at ≤ slice_index words' free_at → IsBehind instance history words' l' → Fronts instance history words' (set locals caller l')
fronts_up instance history words words' locals caller l l' fronts at dur low free here = record {
  each = EachLocal-set locals caller l l' (λ _ x. IsBehind instance history words' x) at (λ d x there. behind_up instance history words words' x (fronts.each d x there) dur low free) here;
}
