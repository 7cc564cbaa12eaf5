-- The words of entries that a step notes are the history's.
use Rattle.std.proofs.Common.{◌/◌, ◌≡◌, ◌<◌, ◌≤◌, ◌⊎◌, inl, inr, ℕ, zero, suc, List, [], ◌∷◌, ◌++◌, slice_index, ap, sym, subst, arith, Some}
use Rattle.std.proofs.lemmas.Option.{same_Some, none-some}
use Rattle.std.specs.List.{slice_get}
use Rattle.cx_core.specs.declared.entry.Entry.{Entry}
use Rattle.cx_core.specs.declared.kinds.Kind.{Kind}
use Rattle.cx_core.specs.declared.kinds.Kind.TheVariants.{LoadGap, ReadCell}
use Rattle.cx_core.specs.declared.local.Local.{Local}
use Rattle.cx_core.specs.Events.{Guard, found_by}
use Rattle.cx_core.specs.Gaps.{Gap, IsGap, gap_of}
use Rattle.cx_core.specs.Lawful.{Lawful}
use Rattle.cx_core.specs.Layout.{cell_at, gap_at}
use Rattle.cx_core.specs.Merge.{IsLinked, scene_of}
use Rattle.cx_core.specs.State.{Instance, State}
use Rattle.core_queue.proofs.LiveLaws.{read_gives}
use Rattle.cx_core.proofs.Locals.{linked_below}
use Rattle.table_invariant.specs.declared.rule.Noted.{Noted}
use Rattle.table_invariant.specs.Rule.{IsOfEntry, IsTrueNote, NotesHold}
use Rattle.table_invariant.specs.Seats.{noted_by}
use Rattle.table_invariant.proofs.Telling.{cell_of_entry, guard_live}

-- an item of two lists is one of the first or of the second
pub slice_get-append : {X : Type 0} (xs ys : List X) (i : ℕ) (x : X) → slice_get (xs ++ ys) i ≡ Some x → (slice_get xs i ≡ Some x) ⊎ ((k : ℕ) × (slice_get ys k ≡ Some x))
slice_get-append [] ys i x at = inr (i, at)
slice_get-append (z ∷ xs) ys zero x at = inl at
slice_get-append (z ∷ xs) ys (suc i) x at = slice_get-append xs ys i x at

-- where the notes `xs` and the notes `ys` hold of the history, so do those of both lists in one
pub notes-append : (instance : Instance) (history : List Entry) (xs ys : List Noted) → NotesHold instance history xs → NotesHold instance history ys → NotesHold instance history (xs ++ ys)
notes-append instance history xs ys a b n noted at =
    elim (slice_get-append xs ys n noted at) [
      | inl was ↦ a n noted was
      | inr now ↦ b now.0 noted now.1
    ]

no_notes : (instance : Instance) (history : List Entry) → NotesHold instance history []
no_notes instance history n noted at = absurd (none-some noted at)

-- what is the history's stays so where what is linked stays linked
pub notes_still : (instance : Instance) (history history' : List Entry) (notes : List Noted) → ((ticket : ℕ) (entry : Entry) → IsLinked instance.base.place history ticket entry → IsLinked instance.base.place history' ticket entry) →
    ((g : Gap) → IsGap instance history g → IsGap instance history' g) → NotesHold instance history notes → NotesHold instance history' notes
notes_still instance history history' notes grows stays hold n noted at =
    let old = hold n noted at in
    record {
      entry = λ small from. (let was = old.entry small from in record { entry = was.entry; linked = grows noted.ticket was.entry was.linked; caller = was.caller; word = was.word });
      gap = λ large. stays (gap_of instance.callers noted.ticket noted.word) (old.gap large);
    }

-- a word that was read is the entry's
read_noted : (instance : Instance) (s : State) (law : Lawful instance s) (caller : ℕ) (l : Local) (t k i : ℕ) → slice_get s.locals caller ≡ Some l → Guard instance (scene_of instance s) (ReadCell t k i) l →
    NotesHold instance law.history (record { ticket = t; caller = k / 16; index = i; word = slice_index s.words (cell_at instance.callers k i) } ∷ [])
read_noted instance s law caller l t k i at guard n noted there =
    let new : Noted = record { ticket = t; caller = k / 16; index = i; word = slice_index s.words (cell_at instance.callers k i) } in
    let is : new ≡ noted = first_of new n noted there in
    let behind = law.fronts.each caller l at in
    record {
      entry = λ small from. (
          let ticket : instance.base.place ≤ t = subst (λ (x : Noted). instance.base.place ≤ x.ticket) (sym is) from in
          let free = guard_live instance s law caller l t k i at guard in
          let below = guard.0 in
          let to = behind.to in
          let linked = linked_below instance.base.place law.history t ticket (omega arith) in
          subst (IsOfEntry instance law.history) is (record {
            entry = linked.0;
            linked = linked.1;
            caller = cell_of_entry instance s law caller l t k i at guard free linked.0 linked.1;
            word = sym (read_gives instance s law caller l t k i at guard free linked.0 linked.1);
          }));
      gap = λ large. absurd (let index : i ≡ noted.index = ap (λ (x : Noted). x.index) is in let small = guard.1 in omega (arith, index, large, small));
    }
  where
    first_of : (x : Noted) (n : ℕ) (y : Noted) → slice_get (x ∷ []) n ≡ Some y → x ≡ y
    first_of x zero y at = same_Some x y at
    first_of x (suc n) y at = absurd (none-some y at)

-- a word of the ring that was loaded names a gap
gap_noted : (instance : Instance) (history : List Entry) (s word : ℕ) → IsGap instance history (gap_of instance.callers s word) →
    NotesHold instance history (record { ticket = s; caller = 0; index = 145; word = word } ∷ [])
gap_noted instance history s word is zero noted there =
    let new : Noted = record { ticket = s; caller = 0; index = 145; word = word } in
    subst (IsTrueNote instance history) (same_Some new noted there) (record { entry = λ small. absurd (let none : 145 < 145 = small in omega (arith, none)); gap = λ _. is })
gap_noted instance history s word is (suc n) noted there = absurd (none-some noted there)

-- the words that a step notes are the history's
pub noted_hold : (instance : Instance) (kind : Kind) (s : State) (law : Lawful instance s) (caller : ℕ) (l : Local) → slice_get s.locals caller ≡ Some l → Guard instance (scene_of instance s) kind l →
    NotesHold instance law.history (noted_by kind (found_by instance kind l s.words))
noted_hold instance (ReadCell t k i) s law caller l at guard = read_noted instance s law caller l t k i at guard
noted_hold instance (LoadGap slot i) s law caller l at guard =
    gap_noted instance law.history slot (slice_index s.words (gap_at instance.callers slot i)) (law.gaps.each slot i guard.0 guard.1)
noted_hold instance kind s law caller l at guard = no_notes instance law.history
