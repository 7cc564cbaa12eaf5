-- Copying a replica held shared over one held exclusively: how a copy goes on by each load and each store of a word.
use Rattle.std.proofs.Common.{false, true, ◌≡◌, ◌≢◌, ◌+◌, ◌*◌, ◌/◌, ◌%◌, ◌<◌, ◌≤◌, ◌⊎◌, inl, inr, ℕ, zero, suc, Bool, cond, List, [], ◌∷◌, ◌++◌, drop, length, length-append, set, slice_index, ap, sym, subst, ◌∙◌, arith, Option, Some, None}
use Rattle.std.proofs.lemmas.Bool.{cases_eq, cases_lt, false≢true}
use Rattle.std.proofs.lemmas.List.{get_or-set_other, length-drop}
use Rattle.std.proofs.lemmas.List.Elements.{Contains-push_cases}
use Rattle.std.specs.List.{Contains}
use Rattle.std.specs.Option.{option_map}
use Rattle.cx_base.specs.Noted.{Note, NotesLead, led_by_store}
use Rattle.cx_core.specs.declared.kinds.Kind.TheVariants.{StoreWord}
use Rattle.cx_core.specs.declared.local.HeldExclusive.{HeldExclusive}
use Rattle.cx_core.specs.LockEvents.{is_in}
use Rattle.cx_core.specs.RegionEvents.{stored_into}
use Rattle.cx_core.specs.Rights.{held_dirty}
use Rattle.cx_core.specs.State.{Instance}
use Rattle.table_invariant.specs.declared.rule.Known.{Known}
use Rattle.table_invariant.specs.Fitting.{word_noted}
use Rattle.table_invariant.specs.Seats.{known_after}
use Rattle.table_invariant.proofs.Copying.{noted_tells}
use Rattle.caller_cache.specs.Copies.{IsCopiedWord}
use Rattle.line_lanes.specs.Lines.{DiffersInLine}
use Rattle.replica.specs.Copies.{AreOfPiece, AreSeen, CopiesOn, IsCopiedTo, IsSeen, read_notes}
use Rattle.replica.proofs.LineLoads.{AreLoaded, IsIn, IsRunOf, noted_here, noted_other}

-- a list of which the first words were overwritten is as long as it was
pub overwritten : (n : ℕ) (words new : List ℕ) → n ≤ length words → length new ≡ n → length (new ++ drop n words) ≡ length words
overwritten n words new within long = omega (arith, length-append new (drop n words), length-drop n words, long)

-- notes lead from the same words to the same words
leads_one : (notes : List Note) (first now now' : List ℕ) → NotesLead notes first now → NotesLead notes first now' → now ≡ now'
leads_one [] first now now' l l' = l ∙ sym l'
leads_one ((false, at, v) ∷ notes) first now now' l l' = leads_one notes first now now' l.1 l'.1
leads_one ((true, at, v) ∷ notes) first now now' l l' = leads_one notes (set first at v) now now' l.1 l'.1

-- what was seen of a word stays so when another is stored
pub seen_stored : (instance : Instance) (h at w i a b : ℕ) (k : Known) → i ≢ at → IsSeen i a b k → IsSeen i a b (known_after instance (StoreWord h at w) k 0)
seen_stored instance h at w i a b k apart seen = record {
  source = seen.source;
  same = λ e. noted_other k.accesses true at w i apart ∙ seen.same e;
  was = λ first now l.
      let led = led_by_store k.accesses at w first now l in
      ap (λ ws. slice_index ws i) led.2 ∙ get_or-set_other led.0 at i w 0 apart ∙ seen.was first led.0 led.1;
}

-- a copy begins
pub copied_none : (skips : ℕ → Bool) (region : ℕ) (k : Known) → IsCopiedTo skips 0 region k k
copied_none skips region k = record {
  agree = λ i below. absurd (omega (arith, below));
  rest = λ first was is l l' i from. ap (λ ws. slice_index ws i) (leads_one k.accesses first is was l' l);
  began = λ first is l. (is, l);
  dirty = λ at d. inl d;
  stored = λ at d. inl d;
  loaded = λ x has. has;
}

-- words from n on are loaded
pub copied_loaded : (P : ℕ → Type 0) (skips : ℕ → Bool) (n region : ℕ) (before k k' : Known) → ((i : ℕ) → P i → n ≤ i) → AreLoaded P k k' → IsCopiedTo skips n region before k → IsCopiedTo skips n region before k'
copied_loaded P skips n region before k k' above load copied = record {
  agree = λ i below kept.
      let a = copied.agree i below kept in
      let apart : ¬ P i = λ p. absurd (omega (arith, above i p, below)) in
      (a.0, load.beside i apart ∙ a.1, load.unchanged_by_read i apart ∙ a.2);
  rest = λ first was is l l'. copied.rest first was is l (load.held first is l');
  began = λ first is l. copied.began first is (load.held first is l);
  dirty = λ i d. elim (copied.dirty i (subst (λ (xs : List ℕ). Contains xs i) load.dirty d)) [
    | inl old ↦ inl old
    | inr differs ↦ inr (λ first was now read long l l' lr. differs first was now read long l (load.held first now l') (load.read read read lr))
  ];
  stored = λ i d. copied.stored i (subst (λ (xs : List ℕ). Contains xs i) load.dirty d);
  loaded = λ x has. load.kept x (copied.loaded x has);
}

-- a copy goes on where it was after a run of loads
pub on_run : (r from : ℕ) (words : List ℕ) (k k' : Known) → IsRunOf r from words k k' → CopiesOn from from k k'
on_run r from words k k' run skips region first below kept copied = copied_loaded (IsIn from (length words)) skips from region first k k' (λ i x. x.0) run.loaded copied

-- words that are not skipped are copied below n, and then the next one
agree_next : (skips : ℕ → Bool) (k : Known) (n v : ℕ) → ((i : ℕ) → i < n → skips i ≡ false → IsCopiedWord k i) → word_noted None n k.accesses ≡ Some v → word_noted None n (read_notes k) ≡ Some v → (i : ℕ) → i < n + 1 → skips i ≡ false → IsCopiedWord k i
agree_next skips k n v agree here here' i below kept = elim (cases_eq i n) [
  | inl e ↦ (v, ap (λ m. word_noted None m k.accesses) e ∙ here, ap (λ m. word_noted None m (read_notes k)) e ∙ here')
  | inr ne ↦ agree i (omega (arith, below, ne)) kept
]

-- what lies behind a word lies from that word on
further : (skips : ℕ → Bool) (n i : ℕ) → (n + 1 ≤ i) ⊎ (skips i ≡ true) → (n ≤ i) ⊎ (skips i ≡ true)
further skips n i (inl from) = inl (omega (arith, from))
further skips n i (inr skip) = inr skip

nearer : (skips : ℕ → Bool) (n at : ℕ) {D : Type 0} → D ⊎ ((at < n) × (skips at ≡ false)) → D ⊎ ((at < n + 1) × (skips at ≡ false))
nearer skips n at (inl old) = inl old
nearer skips n at (inr new) = inr (let b = new.0 in omega (arith, b), new.1)

-- the copy of a word that is equal in both replicas needs no store
pub copied_same : (u v n region : ℕ) (skips : ℕ → Bool) (before k : Known) → u ≡ v → IsSeen n u v k → IsCopiedTo skips n region before k → IsCopiedTo skips (n + 1) region before k
copied_same u v n region skips before k same seen copied = record {
  agree = agree_next skips k n v copied.agree (seen.same same) seen.source;
  rest = λ first was is l l' i from. copied.rest first was is l l' i (further skips n i from);
  began = copied.began;
  dirty = copied.dirty;
  stored = λ at d. nearer skips n at (copied.stored at d);
  loaded = copied.loaded;
}

-- the dirty words after a store
dirty_stored : (o : Option HeldExclusive) (at v i : ℕ) → Contains (held_dirty (option_map (stored_into at v) o)) i → (i ≡ at) ⊎ Contains (held_dirty o) i
dirty_stored None at v i there = inr there
dirty_stored (Some h) at v i there = by (is_in h.dirty at) there
  where
    by : (b : Bool) → Contains (cond b h.dirty (h.dirty ++ at ∷ [])) i → (i ≡ at) ⊎ Contains h.dirty i
    by true there = inr there
    by false there = elim (Contains-push_cases h.dirty at i there) [ inl was ↦ inr was | inr now ↦ inl (sym now) ]

-- a word that is skipped, or lies behind, is not the one that is stored
apart_from : (skips : ℕ → Bool) (n i : ℕ) → skips n ≡ false → (n + 1 ≤ i) ⊎ (skips i ≡ true) → i ≢ n
apart_from skips n i kept (inl from) e = (let same : i ≡ n = e in absurd (omega (arith, same, from)))
apart_from skips n i kept (inr skip) e = false≢true (sym kept ∙ ap skips (sym e) ∙ skip)

-- a word that differs in the two replicas is copied once the source's word is stored over it
pub copied_over : (instance : Instance) (h u v n region : ℕ) (skips : ℕ → Bool) (before k : Known) → n < region → skips n ≡ false → u ≢ v → IsSeen n u v k → IsCopiedTo skips n region before k → IsCopiedTo skips (n + 1) region before (known_after instance (StoreWord h n v) k 0)
copied_over instance h u v n region skips before k below kept differ seen copied =
    let now = known_after instance (StoreWord h n v) k 0 in
    let old : (i : ℕ) → i < n → skips i ≡ false → IsCopiedWord now i = λ i under stays.
    let a = copied.agree i under stays in
    let apart : i ≢ n = λ e. (let same : i ≡ n = e in absurd (omega (arith, same, under))) in
    (a.0, noted_other k.accesses true n v i apart ∙ a.1, a.2) in
    record {
      agree = agree_next skips now n v old (noted_here k.accesses true n v) seen.source;
      rest = λ first was is l l' i from.
          let led = led_by_store k.accesses n v first is l' in
          ap (λ ws. slice_index ws i) led.2 ∙ get_or-set_other led.0 n i v 0 (apart_from skips n i kept from) ∙ copied.rest first was led.0 l led.1 i (further skips n i from);
      began = λ first is l. (let led = led_by_store k.accesses n v first is l in copied.began first led.0 led.1);
      dirty = λ i d. elim (dirty_stored k.local.exclusive n v i d) [
        | inl here ↦ inr (λ first was is read long l l' lr same.
            let led = led_by_store k.accesses n v first is l' in
            let u_is : slice_index was n ≡ u = sym (copied.rest first was led.0 l led.1 n (inl (omega arith))) ∙ seen.was first led.0 led.1 in
            let v_is : slice_index read n ≡ v = noted_tells region (read_notes k) n v below seen.source read read long lr in
            differ (sym u_is ∙ ap (slice_index was) (sym here) ∙ same ∙ ap (slice_index read) here ∙ v_is))
        | inr there ↦ elim (copied.dirty i there) [
          | inl was ↦ inl was
          | inr differs ↦ inr (λ first was is read long l l' lr. let led = led_by_store k.accesses n v first is l' in differs first was led.0 read long l led.1 lr)
        ]
      ];
      stored = λ i d. elim (dirty_stored k.local.exclusive n v i d) [
        | inl here ↦ inr (let same : i ≡ n = here in omega (arith, same), ap skips here ∙ kept)
        | inr there ↦ nearer skips n i (copied.stored i there)
      ];
      loaded = copied.loaded;
    }

-- where a line of a piece does not differ, it is copied
copied_line : (us vs : List ℕ) (from line n m region : ℕ) (skips : ℕ → Bool) (before k : Known) → m ≤ 8 → 8 * line + m ≤ n → ¬ DiffersInLine us vs line → AreSeen from (8 * line) n us vs k → IsCopiedTo skips (from + 8 * line) region before k → IsCopiedTo skips (from + 8 * line + m) region before k
copied_line us vs from line n zero region skips before k few within none seen copied = subst (λ i. IsCopiedTo skips i region before k) (let none : from + 8 * line ≡ from + 8 * line + 0 = omega arith in none) copied
copied_line us vs from line n (suc m) region skips before k few within none seen copied =
    let at = 8 * line + m in
    let same : slice_index us at ≡ slice_index vs at = elim (cases_eq (slice_index us at) (slice_index vs at)) [ inl e ↦ e | inr ne ↦ absurd (none (at, omega (arith, few), ne)) ] in
    subst (λ i. IsCopiedTo skips i region before k) (let next : (from + at) + 1 ≡ from + 8 * line + suc m = omega arith in next)
    (copied_same (slice_index us at) (slice_index vs at) (from + at) region skips before k same (seen at (omega arith) (omega (arith, within)))
    (subst (λ i. IsCopiedTo skips i region before k) (let here : from + 8 * line + m ≡ from + at = omega arith in here)
    (copied_line us vs from line n m region skips before k (omega (arith, few)) (omega (arith, within)) none seen copied)))

-- a copy goes on over a line of a piece: past one that does not differ, and past one of which the words that differ were stored
pub on_same_line : (us vs : List ℕ) (from line n : ℕ) (before k : Known) → 8 * line + 8 ≤ n → ¬ DiffersInLine us vs line → AreSeen from (8 * line) n us vs k → CopiesOn from (from + 8 * line) before k → CopiesOn from (from + 8 * (line + 1)) before k
on_same_line us vs from line n before k within none seen on skips region first below kept copied =
    subst (λ i. IsCopiedTo skips i region first k) (let next : from + 8 * line + 8 ≡ from + 8 * (line + 1) = omega arith in next)
    (copied_line us vs from line n 8 region skips first k (omega arith) within none seen (on skips region first (omega (arith, below)) (λ i least under. kept i least (omega (arith, under))) copied))

pub on_stored_line : (from line : ℕ) (before k k' : Known) → CopiesOn from (from + 8 * line) before k → CopiesOn (from + 8 * line) (from + 8 * line + 8) k k' → CopiesOn from (from + 8 * (line + 1)) before k'
on_stored_line from line before k k' on then skips region first below kept copied =
    subst (λ i. IsCopiedTo skips i region first k') (let next : from + 8 * line + 8 ≡ from + 8 * (line + 1) = omega arith in next)
    (then skips region first (omega (arith, below)) (λ i least under. kept i (omega (arith, least)) (omega (arith, under)))
    (on skips region first (omega (arith, below)) (λ i least under. kept i least (omega (arith, under))) copied))

-- a copy goes on past the word `i` of a line that is equal in the two replicas
pub on_same : (us vs : List ℕ) (start from i n : ℕ) (before k : Known) → i < n → slice_index us i ≡ slice_index vs i → AreSeen from i n us vs k → CopiesOn start (from + i) before k → CopiesOn start (from + (i + 1)) before k
on_same us vs start from i n before k small same seen on skips region first below kept copied =
    let next : (from + i) + 1 ≡ from + (i + 1) = omega arith in
    subst (λ m. IsCopiedTo skips m region first k) next (copied_same (slice_index us i) (slice_index vs i) (from + i) region skips first k same (seen i (omega arith) small)
    (on skips region first (omega (arith, below)) (λ j least under. kept j least (omega (arith, under))) copied))

-- a copy goes on past the word `i` of a line that differs in the two replicas, by a store of the source's word there
pub on_over : (instance : Instance) (h : ℕ) (us vs : List ℕ) (start from i n : ℕ) (before k : Known) → start ≤ from + i → i < n → slice_index us i ≢ slice_index vs i → AreSeen from i n us vs k → CopiesOn start (from + i) before k →
    CopiesOn start (from + (i + 1)) before (known_after instance (StoreWord h (from + i) (slice_index vs i)) k 0)
on_over instance h us vs start from i n before k behind small differ seen on skips region first below kept copied =
    let next : (from + i) + 1 ≡ from + (i + 1) = omega arith in
    let now = known_after instance (StoreWord h (from + i) (slice_index vs i)) k 0 in
    subst (λ m. IsCopiedTo skips m region first now) next
    (copied_over instance h (slice_index us i) (slice_index vs i) (from + i) region skips first k (omega (arith, below)) (kept (from + i) behind (omega arith)) differ (seen i (omega arith) small)
    (on skips region first (omega (arith, below)) (λ j least under. kept j least (omega (arith, under))) copied))

-- a copy that skips the words from one to another goes on past them
pub on_skipped : (skips : ℕ → Bool) (n m region : ℕ) (before k : Known) → n ≤ m → ((i : ℕ) → n ≤ i → i < m → skips i ≡ true) → IsCopiedTo skips n region before k → IsCopiedTo skips m region before k
on_skipped skips n m region before k order skip copied = record {
  agree = λ i below kept. elim (cases_lt i n) [
    | inl under ↦ copied.agree i under kept
    | inr over ↦ absurd (false≢true (sym kept ∙ skip i over below))
  ];
  rest = λ first was is l l' i from. copied.rest first was is l l' i (elim from [
    | inl above ↦ inl (omega (arith, above, order))
    | inr skipped ↦ inr skipped
  ]);
  began = copied.began;
  dirty = copied.dirty;
  stored = λ at d. elim (copied.stored at d) [
    | inl old ↦ inl old
    | inr new ↦ inr (let below = new.0 in omega (arith, below, order), new.1)
  ];
  loaded = copied.loaded;
}

-- the words behind one that is stored are as they were seen
pub seen_behind : (instance : Instance) (h : ℕ) (us vs : List ℕ) (from n i w : ℕ) (k : Known) → AreSeen from i n us vs k → AreSeen from (i + 1) n us vs (known_after instance (StoreWord h (from + i) w) k 0)
seen_behind instance h us vs from n i w k seen j least below =
    seen_stored instance h (from + i) w (from + j) (slice_index us j) (slice_index vs j) k (λ e. (let same : from + j ≡ from + i = e in absurd (omega (arith, same, least)))) (seen j (omega (arith, least)) below)

-- the words of the lines of a piece are of it
pub of_piece : (line some lines n : ℕ) → line < lines → some ≤ 8 → (line ≡ 0 → some ≡ 1) → (line ≡ 0) ⊎ ((line % 8 ≡ 1) ⊎ (line ≡ lines)) → n ≡ 8 * some → AreOfPiece ((line + 7) / 8) (8 * line) n
of_piece line some lines n under few first (inl none) long i least below = (let one = first none in omega (arith, none, one, long, least, below))
of_piece line some lines n under few first (inr (inl next)) long i least below = omega (arith, next, few, long, least, below)
of_piece line some lines n under few first (inr (inr end_)) long i least below = absurd (omega (arith, end_, under))

-- behind a piece the next piece begins, or the lines end
pub piece_next : (line some lines : ℕ) → (line ≡ 0 → some ≡ 1) → (some ≡ 8) ⊎ ((line + some ≡ lines) ⊎ (line ≡ 0)) → (line ≡ 0) ⊎ ((line % 8 ≡ 1) ⊎ (line ≡ lines)) → line < lines → (line + some ≡ 0) ⊎ (((line + some) % 8 ≡ 1) ⊎ (line + some ≡ lines))
piece_next line some lines first more (inl none) under = (let one = first none in inr (inl (omega (arith, none, one))))
piece_next line some lines first (inl eight) (inr (inl next)) under = inr (inl (omega (arith, eight, next)))
piece_next line some lines first (inr (inl end_)) (inr (inl next)) under = inr (inr end_)
piece_next line some lines first (inr (inr none)) (inr (inl next)) under = absurd (omega (arith, none, next))
piece_next line some lines first more (inr (inr end_)) under = absurd (omega (arith, end_, under))
