-- Reading the words of an entry, one step each.
use Rattle.std.proofs.Common.{◌≡◌, ◌+◌, ◌/◌, ◌^◌, ◌<◌, ◌≤◌, ℕ, zero, suc, Bool, List, [], ◌∷◌, ◌++◌, length, slice_get, slice_index, refl, sym, ap, subst, ◌∙◌, arith, append-nil, zero-add, inr, Some}
use Rattle.std.proofs.lemmas.List.{append_assoc, length-append}
use Rattle.cx_base.specs.declared.object.Object.{Ghosts}
use Rattle.cx_core.specs.declared.entry.Entry.{Entry}
use Rattle.cx_core.specs.declared.kinds.Kind.TheVariants.{ReadCell}
use Rattle.cx_core.specs.declared.local.Local.{Local}
use Rattle.cx_core.specs.State.{Instance, one_more}
use Rattle.cx_core.specs.Layout.{max_word}
use borrow.Author.Count.{below_more}
use Rattle.table_invariant.specs.declared.rule.Noted.{Noted}
use Rattle.table_invariant.specs.Fitting.{Fitting, IsNoted}
use Rattle.cx_table.specs.Running.{Running, instance_at}
use Rattle.cx_table.specs.Runs.{Runs, no_step, one_more_step, reads_of}
use Rattle.cx_table.specs.Seats.{IsAtLimit, Seated, stepped}
use Rattle.mutation_queue.specs.Entries.{EndsAfter, HaltsAmong, HaltsReading, LoadsLink, NotesEntry, ReadsEntry, ReadsWords, notes_of, steps_after, with_look, with_read}

-- ---- steps

reached : (n s : ℕ) → s + n < max_word → steps_after n s ≡ s + n
reached zero s h = omega arith
reached (suc n) s h = ap one_more (reached n s (omega arith)) ∙ omega arith

-- where the count of `s` steps and `n` more is the limit, and this is below 2^64 - 1, the limit is `s + n`
ended : (n s limit : ℕ) → steps_after n s ≡ limit → limit < max_word → s + n ≡ limit
ended zero s limit e h = omega (arith, e)
ended (suc n) s limit e h =
    let before : steps_after n s + 1 ≡ limit = omega (arith, e) in
    omega (arith, ended n s (steps_after n s) refl (omega arith))

-- a limit that n further steps reach, one by one, is n above the steps
pub ends : (n : ℕ) (l : Local) → (steps_after n l.steps ≡ l.limit) × (l.limit < max_word) → EndsAfter n l
ends n l at = (ended n l.steps l.limit at.0 at.1, at.1)

-- a limit that is `n` above the steps is the count after `n` further steps
pub at_end : (n : ℕ) (l : Local) → EndsAfter n l → (steps_after n l.steps ≡ l.limit) × (l.limit < max_word)
at_end n l e = (let h = e.1 in (reached n l.steps (omega (arith, e.0)) ∙ e.0, e.1))

-- ---- notes

abbrev note : ℕ → ℕ → ℕ → ℕ → Noted
note caller ticket i w = record { ticket = ticket; caller = caller; index = i; word = w }

notes_more : (caller ticket i : ℕ) (ws : List ℕ) (w : ℕ) → notes_of caller ticket i (ws ++ w ∷ []) ≡ notes_of caller ticket i ws ++ record { ticket = ticket; caller = caller; index = i + length ws; word = w } ∷ []
notes_more caller ticket i [] w = ap (λ k. note caller ticket k w ∷ []) (omega arith)
notes_more caller ticket i (x ∷ ws) w =
    ap (λ rest. note caller ticket i x ∷ rest)
    (notes_more caller ticket (i + 1) ws w ∙ ap (λ k. notes_of caller ticket (i + 1) ws ++ note caller ticket k w ∷ []) (omega arith))

-- a seat with these steps and notes
abbrev with_steps : Seated → ℕ → List Noted → Seated
with_steps s steps notes = record s { known = record s.known { local = record s.known.local { steps = steps }; noted = notes } }

-- nothing was read yet
pub none_read : (caller ticket : ℕ) (s : Seated) → s ≡ with_read caller ticket [] s
none_read caller ticket s = ap (with_steps s s.known.local.steps) (sym (append-nil s.known.noted))

-- one word more was read
pub read_one : (instance : Instance) (ticket cell : ℕ) (ws : List ℕ) (v i : ℕ) (s now after : Seated) → now ≡ with_read (cell / 16) ticket ws s → i ≡ length ws →
    after ≡ stepped instance (ReadCell ticket cell i) now v → after ≡ with_read (cell / 16) ticket (ws ++ v ∷ []) s
read_one instance ticket cell ws v i s now after is at step =
    let long : length (ws ++ v ∷ []) ≡ suc (length ws) = omega (arith, length-append ws (v ∷ [])) in
    let c = cell / 16 in
    let from : i ≡ 0 + length ws = omega (arith, at) in
    step
    ∙ ap (λ x. stepped instance (ReadCell ticket cell i) x v) is
    ∙ ap (λ k. with_steps s (one_more (steps_after (length ws) s.known.local.steps)) ((s.known.noted ++ notes_of c ticket 0 ws) ++ note c ticket k v ∷ [])) from
    ∙ ap (with_steps s (one_more (steps_after (length ws) s.known.local.steps))) (append_assoc s.known.noted (notes_of c ticket 0 ws) (note c ticket (0 + length ws) v ∷ []) ∙ ap (λ ns. s.known.noted ++ ns) (sym (notes_more c ticket 0 ws v)))
    ∙ ap (λ k. with_steps s k (s.known.noted ++ notes_of c ticket 0 (ws ++ v ∷ []))) (sym (ap (λ k. steps_after k s.known.local.steps) long))

-- the limit was reached among the words
pub halts_among : (caller ticket : ℕ) (ws : List ℕ) (s now after : Seated) → length ws < 145 → now ≡ with_read caller ticket ws s → after ≡ now → IsAtLimit now.known.local → HaltsAmong caller ticket s after
halts_among caller ticket ws s now after fewer is same limit = record {
  words = ws;
  fewer = fewer;
  seat = same ∙ is;
  limit = ends (length ws) s.known.local (subst (λ (x : Seated). IsAtLimit x.known.local) is limit);
}

-- no step so far reached the limit, and neither did this one
pub none_ends : (caller ticket : ℕ) (ws : List ℕ) (i : ℕ) (s now : Seated) → now ≡ with_read caller ticket ws s → i ≡ length ws → ((n : ℕ) → n < i → EndsAfter n s.known.local → ⊥) → (IsAtLimit now.known.local → ⊥) →
    (n : ℕ) → n < i + 1 → EndsAfter n s.known.local → ⊥
none_ends caller ticket ws i s now is at before here =
    below_more (λ n. EndsAfter n s.known.local → ⊥) i before
    (λ e. here (subst (λ (x : Seated). IsAtLimit x.known.local) (sym is) (at_end (length ws) s.known.local (subst (λ n. EndsAfter n s.known.local) at e))))

-- what a run of reads leads to
pub run_read : {O : Type 0} (r : Running O) (step : O → List ℕ → List ℕ → List ℕ × List ℕ) (reads : O → List ℕ → Bool) (lawful : List ℕ → Type 0) (ticket cell : ℕ) (words : List ℕ) (before after : Seated) → Runs r step reads lawful (reads_of ticket cell) words before after →
    (after ≡ with_read (cell / 16) ticket words before) × ((n : ℕ) → n < length words → EndsAfter n before.known.local → ⊥) × (0 < length words → Fitting r.lines lawful r.base (step r.object) after.known)
run_read r step reads lawful ticket cell words before after (no_step _ _ _ nothing same) =
    let long : length words ≡ 0 = ap length nothing in (
      same ∙ none_read (cell / 16) ticket before ∙ ap (λ (ws : List ℕ). with_read (cell / 16) ticket ws before) (sym nothing),
      λ n below e. absurd (omega (arith, long)),
      λ some. absurd (omega (arith, long)),
    )
run_read r step reads lawful ticket cell words before after (one_more_step _ _ _ first found mid longer run made fits) =
    let was = run_read r step reads lawful ticket cell first before mid run in
    let long : length words ≡ length first + 1 = ap length longer ∙ length-append first (found ∷ []) in (
      read_one (instance_at r step reads) ticket cell first found (length first) before mid after was.0 refl made.made ∙ ap (λ (ws : List ℕ). with_read (cell / 16) ticket ws before) (sym longer),
      λ n below e. none_ends (cell / 16) ticket first (length first) before mid was.0 refl was.1 made.allowed n (omega (arith, long, below)) e,
      λ some. fits,
    )

-- ---- the entry

-- a limit that is reached one step later than from the seat after the look
ends_after_look : (s looked : Seated) (n : ℕ) → looked ≡ with_look looked.known.local.seen_slot s → EndsAfter (suc n) s.known.local → EndsAfter n looked.known.local
ends_after_look s looked n is e =
    let steps : looked.known.local.steps ≡ one_more s.known.local.steps = ap (λ (x : Seated). x.known.local.steps) is in
    let limit : looked.known.local.limit ≡ s.known.local.limit = ap (λ (x : Seated). x.known.local.limit) is in
    let few = e.1 in
    let sum = e.0 in (omega (arith, steps, limit), omega (arith, limit))

-- a limit that is reached `n` steps after the seat behind a look is reached one step later from the seat before it
ends_before_look : (s looked : Seated) (n : ℕ) → looked ≡ with_look looked.known.local.seen_slot s → EndsAfter n looked.known.local → EndsAfter (suc n) s.known.local
ends_before_look s looked n is e =
    let steps : looked.known.local.steps ≡ one_more s.known.local.steps = ap (λ (x : Seated). x.known.local.steps) is in
    let limit : looked.known.local.limit ≡ s.known.local.limit = ap (λ (x : Seated). x.known.local.limit) is in
    let few = e.1 in
    let sum = e.0 in (omega (arith, steps, limit), omega (arith, limit))

within_all : (s looked : Seated) → looked ≡ with_look looked.known.local.seen_slot s → (IsAtLimit s.known.local → ⊥) → ((n : ℕ) → n < 145 → EndsAfter n looked.known.local → ⊥) → (n : ℕ) → n < 146 → EndsAfter n s.known.local → ⊥
within_all s looked is first rest zero below e = first (at_end zero s.known.local e)
within_all s looked is first rest (suc n) below e = rest n (omega arith) (ends_after_look s looked n is e)

-- what was read stands behind the look
read_after_look : (caller ticket : ℕ) (words : List ℕ) (s looked after : Seated) → looked ≡ with_look looked.known.local.seen_slot s → after ≡ with_read caller ticket words looked →
    after ≡ with_read caller ticket words (with_look after.known.local.seen_slot s)
read_after_look caller ticket words s looked after look is =
    let seen : after.known.local.seen_slot ≡ looked.known.local.seen_slot = ap (λ (x : Seated). x.known.local.seen_slot) is in
    is ∙ ap (with_read caller ticket words) (look ∙ ap (λ x. with_look x s) (sym seen))

-- a look that shows the ticket in a cell, and the reading of the 145 words there, read the entry from `s` on
pub reads_entry : {O : Type 0} (o : Ghosts O) (r : Running O) (caller ticket cell : ℕ) (words : List ℕ) (s looked after : Seated) → LoadsLink r ticket cell s looked → ReadsWords o r caller ticket words looked after → length words ≡ 145 → ReadsEntry caller ticket words s after
reads_entry o r caller ticket cell words s looked after l read long = record {
  seat = read_after_look caller ticket words s looked after l.seat read.seat;
  long = long;
  within = within_all s looked l.seat l.allowed read.within;
}

-- where the limit is reached among the words of an entry, behind the look at its slot, the reading of the entry halts
pub halts_reading : {O : Type 0} (r : Running O) (caller ticket cell : ℕ) (s looked after : Seated) → LoadsLink r ticket cell s looked → HaltsAmong caller ticket looked after → HaltsReading ticket s after
halts_reading r caller ticket cell s looked after l h =
    let fewer = h.fewer in record {
      made = suc (length h.words);
      fewer = omega arith;
      limit = ends_before_look s looked (length h.words) l.seat h.limit;
      ended = subst (λ (x : Seated). IsAtLimit x.known.local) (sym h.seat) (at_end (length h.words) looked.known.local h.limit);
      seat = inr (caller, h.words, read_after_look caller ticket h.words s looked after l.seat h.seat);
    }

-- the words of an entry are noted one by one
noted_at : (caller ticket from i : ℕ) (words : List ℕ) → i < length words → slice_get (notes_of caller ticket from words) i ≡ Some (record { ticket = ticket; caller = caller; index = from + i; word = slice_index words i })
noted_at caller ticket from i [] below = absurd (omega arith)
noted_at caller ticket from zero (w ∷ words) below = ap (λ k. Some (let n : Noted = record { ticket = ticket; caller = caller; index = k; word = w } in n)) (omega arith)
noted_at caller ticket from (suc i) (w ∷ words) below =
    noted_at caller ticket (from + 1) i words (omega arith)
    ∙ ap (λ k. Some (let n : Noted = record { ticket = ticket; caller = caller; index = k; word = slice_index words i } in n)) (omega arith)

behind : {X : Type 0} (xs ys : List X) (i : ℕ) (x : X) → slice_get ys i ≡ Some x → slice_get (xs ++ ys) (length xs + i) ≡ Some x
behind [] ys i x is = ap (slice_get ys) (zero-add i) ∙ is
behind (y ∷ xs) ys i x is = (let next : suc (length xs) + i ≡ suc (length xs + i) = omega arith in ap (slice_get (y ∷ (xs ++ ys))) next ∙ behind xs ys i x is)

pub read_noted : (ticket : ℕ) (words : List ℕ) (before after : Seated) (entry : Entry) → ReadsEntry entry.caller ticket words before after → entry.number ∷ entry.op ≡ words → IsNoted after.known.noted ticket entry
read_noted ticket words before after entry read is =
    let all : after.known.noted ≡ before.known.noted ++ notes_of entry.caller ticket 0 words = ap (λ (s : Seated). s.known.noted) read.seat in
    record {
      long = (let l = read.long in let same : suc (length entry.op) ≡ length words = ap length is in omega arith);
      each = λ i below. (
          let here : slice_get (notes_of entry.caller ticket 0 words) i ≡ Some (record { ticket = ticket; caller = entry.caller; index = i; word = slice_index (entry.number ∷ entry.op) i }) =
          noted_at entry.caller ticket 0 i words (let l = read.long in omega arith)
          ∙ ap (λ k. Some (let n : Noted = record { ticket = ticket; caller = entry.caller; index = k; word = slice_index words i } in n)) (zero-add i)
          ∙ ap (λ ws. Some (let n : Noted = record { ticket = ticket; caller = entry.caller; index = i; word = slice_index ws i } in n)) (sym is) in
          (length before.known.noted + i, ap (λ ns. slice_get ns (length before.known.noted + i)) all ∙ behind before.known.noted (notes_of entry.caller ticket 0 words) i _ here));
    }

-- what really is there tells that an entry that was read may come at its ticket
pub notes_entry : {O : Type 0} (o : Ghosts O) (r : Running O) (caller ticket : ℕ) (words : List ℕ) (before after : Seated) → Fitting r.lines (o.lawful r.object) r.base (o.step r.object) after.known → r.base.place ≤ ticket → ticket < 2 ^ 40 → ReadsEntry caller ticket words before after →
    NotesEntry o r caller ticket words after
notes_entry o r caller ticket words before after fits from below read = record {
  each = λ entry of is. (
      let noted = read_noted ticket words before after entry (subst (λ k. ReadsEntry k ticket words before after) (sym of) read) is in
      record { noted = noted; lawful = fits.entries ticket entry from noted; small = below });
  fits = fits;
}
