-- Reading a write set, word after word.
use Rattle.std.proofs.Common.{◌≡◌, ◌≢◌, ◌+◌, ◌*◌, ◌<◌, ◌≤◌, ◌==◌, if◌then◌else◌, ne_eqb, ℕ, zero, suc, List, [], ◌∷◌, ◌++◌, length, slice_index, refl, sym, ap, subst, ◌∙◌, arith, append-nil, zero-add, length-append, take, inl, Bool, Option, Some}
use Rattle.std.proofs.lemmas.List.{append_assoc, get_or-take, get_or_append_left}
use Rattle.std.specs.List.{slice_get}
use Rattle.cx_base.specs.declared.object.Object.{Ghosts}
use Rattle.cx_core.specs.declared.kinds.Kind.TheVariants.{LoadOffer, ReadSet}
use Rattle.cx_core.specs.declared.local.SeenOffer.{SeenOffer}
use Rattle.cx_core.specs.SetEvents.{ShowsOffer}
use Rattle.cx_core.specs.State.{Instance, one_more}
use Rattle.core_queue.specs.declared.notes.SetNoted.{SetNoted}
use Rattle.core_queue.specs.NotedSets.{IsNotedSet}
use Rattle.table_invariant.specs.declared.rule.Noted.{Noted}
use Rattle.table_invariant.specs.Fitting.{Fitting}
use Rattle.table_invariant.specs.Running.{IsSeatOf, Running, instance_at}
use Rattle.table_invariant.specs.Seats.{IsAtLimit, Seated, stepped}
use Rattle.table_invariant.specs.Steps.{Halts, Steps}
use Rattle.table_invariant.proofs.Stepping.{on_same, on_step, on_then, on_then_one}
use Rattle.cx_table.specs.Runs.{Runs, no_step, one_more_step, set_reads_from}
use Rattle.cx_table.specs.Seats.{StepsOn}
use Rattle.redo_set.specs.Taking.{FindsUnoffered, HaltsReadingSet, HaltsTakingSet, IsReadingSet, KeepsTaking, ReadsFewer, ReadsSetWords, set_notes, sets_read, with_notes}

abbrev note : ℕ → ℕ → ℕ → SetNoted
note ticket i w = record { ticket = ticket; index = i; word = w }

notes_more : (ticket i : ℕ) (ws : List ℕ) (w : ℕ) → set_notes ticket i (ws ++ w ∷ []) ≡ set_notes ticket i ws ++ note ticket (i + length ws) w ∷ []
notes_more ticket i [] w = ap (λ k. note ticket k w ∷ []) (omega arith)
notes_more ticket i (x ∷ ws) w =
    ap (λ rest. note ticket i x ∷ rest)
    (notes_more ticket (i + 1) ws w ∙ ap (λ k. set_notes ticket (i + 1) ws ++ note ticket k w ∷ []) (omega arith))

-- a seat whose caller has these parts
abbrev seat_with : Seated → Option SeenOffer → ℕ → List Noted → List SetNoted → Seated
seat_with s seen steps noted sets = record s { known = record s.known { local = record s.known.local { seen_offer = seen; steps = steps }; noted = noted; sets = sets } }

-- a seat after some notes, by what it then shows
shown_so : (seen : Option SeenOffer) (steps : ℕ) (notes : List SetNoted) (s after : Seated) → after ≡ with_notes seen steps notes s → after ≡ with_notes after.known.local.seen_offer after.known.local.steps notes s
shown_so seen steps notes s after is =
    is ∙ (λ k. with_notes (sym (ap (λ (x : Seated). x.known.local.seen_offer) is) k) (sym (ap (λ (x : Seated). x.known.local.steps) is) k) notes s)

-- what a seat is after some notes it leaves
pub leaves_of : {O : Type 0} (r : Running O) (seen : Option SeenOffer) (steps : ℕ) (notes : List SetNoted) (s after : Seated) → after ≡ with_notes seen steps notes s → IsSeatOf r after → StepsOn s after → KeepsTaking r s after
leaves_of r seen steps notes s after is of since = record { notes = notes; seat = shown_so seen steps notes s after is; of = of; since = since }

-- some words of a set were read, and a further one is to be
pub reading_so : (cell ticket found steps : ℕ) (words : List ℕ) (s after : Seated) → found ≡ ticket + 1 → length words < 2 * slice_index words 0 + 1 →
    after ≡ with_notes (Some (record { cell = cell; ticket = ticket; word = found })) steps (set_notes ticket 0 words) s → IsReadingSet cell ticket s after
reading_so cell ticket found steps words s after offered fewer is = record {
  offered = subst (λ (x : Seated). ShowsOffer x.known.local.seen_offer cell ticket) (sym is) (refl, refl, offered);
  words = words;
  fewer = fewer;
  seat = shown_so (Some (record { cell = cell; ticket = ticket; word = found })) steps (set_notes ticket 0 words) s after is;
}

-- the limit was reached among the words
pub fewer_so : {O : Type 0} (r : Running O) (ticket from count : ℕ) (words : List ℕ) (s t after : Seated) → length words < count → t ≡ with_notes s.known.local.seen_offer t.known.local.steps (set_notes ticket from words) s → Halts r t after →
    HaltsReadingSet ticket from count s after
fewer_so r ticket from count words s t after fewer is halted =
    let due : ReadsFewer ticket from count s t = record { words = words; fewer = fewer; seat = is } in
    subst (HaltsReadingSet ticket from count s) (sym halted.same) (record { limit = halted.limit; due = due })

none_is : (s : Seated) → s ≡ with_notes s.known.local.seen_offer s.known.local.steps [] s
none_is s = ap (seat_with s s.known.local.seen_offer s.known.local.steps s.known.noted) (sym (append-nil s.known.sets))

-- the limit came first: nothing was made
pub leaves_none : {O : Type 0} (r : Running O) (s after : Seated) → Halts r s after → KeepsTaking r s after
leaves_none r s after h = leaves_of r s.known.local.seen_offer s.known.local.steps [] s after (h.same ∙ none_is s) h.seat (on_same s after h.same)

pub halts_first : {O : Type 0} (r : Running O) (cell ticket : ℕ) (s after : Seated) → Halts r s after → HaltsTakingSet cell ticket s after
halts_first r cell ticket s after h = record { limit = subst (λ (x : Seated). IsAtLimit x.known.local) (sym h.same) h.limit; due = inl h.same }

-- an offer was looked at
pub looked_is : (instance : Instance) (cell ticket found : ℕ) (s after : Seated) → after ≡ stepped instance (LoadOffer cell ticket) s found →
    after ≡ with_notes (Some (record { cell = cell; ticket = ticket; word = found })) (one_more s.known.local.steps) [] s
looked_is instance cell ticket found s after step =
    step ∙ (λ k. seat_with s (Some (record { cell = cell; ticket = ticket; word = found })) (one_more s.known.local.steps) (append-nil s.known.noted k) (sym (append-nil s.known.sets) k))

-- an offer was looked at, and it is another
pub unoffered_is : (instance : Instance) (cell ticket found : ℕ) (s after : Seated) → ¬ IsAtLimit s.known.local → found ≢ ticket + 1 → after ≡ stepped instance (LoadOffer cell ticket) s found → FindsUnoffered cell ticket s after
unoffered_is instance cell ticket found s after allowed other step = record {
  allowed = allowed;
  word = found;
  other = other;
  seat = step ∙ (λ k. seat_with s (Some (record { cell = cell; ticket = ticket; word = found })) (one_more s.known.local.steps) (append-nil s.known.noted k) s.known.sets);
}

-- one word more was read
pub read_one : (instance : Instance) (cell ticket i v : ℕ) (seen : Option SeenOffer) (steps : ℕ) (notes : List SetNoted) (s t after : Seated) → t ≡ with_notes seen steps notes s → after ≡ stepped instance (ReadSet cell ticket i) t v →
    after ≡ with_notes seen (one_more steps) (notes ++ note ticket i v ∷ []) s
read_one instance cell ticket i v seen steps notes s t after is step =
    step ∙ ap (λ x. stepped instance (ReadSet cell ticket i) x v) is
    ∙ (λ k. seat_with s seen (one_more steps) (append-nil s.known.noted k) (append_assoc s.known.sets notes (note ticket i v ∷ []) k))

-- notes behind notes
pub notes_then : (seen : Option SeenOffer) (steps more_steps : ℕ) (notes more : List SetNoted) (s t u : Seated) → t ≡ with_notes seen steps notes s → u ≡ with_notes t.known.local.seen_offer more_steps more t → u ≡ with_notes seen more_steps (notes ++ more) s
notes_then seen steps more_steps notes more s t u is next =
    next ∙ ap (λ (x : Seated). with_notes x.known.local.seen_offer more_steps more x) is ∙ (λ k. seat_with s seen more_steps s.known.noted (append_assoc s.known.sets notes more k))

-- the seat after an offer was looked at and the words of its set were read
pub set_is : (instance : Instance) (cell ticket found count steps : ℕ) (words : List ℕ) (s looked t u : Seated) → looked ≡ stepped instance (LoadOffer cell ticket) s found → t ≡ stepped instance (ReadSet cell ticket 0) looked count →
    u ≡ with_notes t.known.local.seen_offer steps (set_notes ticket 1 words) t → u ≡ with_notes (Some (record { cell = cell; ticket = ticket; word = found })) steps (set_notes ticket 0 (count ∷ words)) s
set_is instance cell ticket found count steps words s looked t u look one more =
    let seen : Option SeenOffer = Some (record { cell = cell; ticket = ticket; word = found }) in
    let first = read_one instance cell ticket 0 count seen (one_more s.known.local.steps) [] s looked t (looked_is instance cell ticket found s looked look) one in
    notes_then seen (one_more (one_more s.known.local.steps)) steps (set_notes ticket 0 (count ∷ [])) (set_notes ticket 1 words) s t u first more

module _ {O : Type 0} (r : Running O) where
  -- what is left by one part and by the next
  leaves_then : (s t u : Seated) → KeepsTaking r s t → KeepsTaking r t u → KeepsTaking r s u
  leaves_then s t u one two = record {
    notes = one.notes ++ two.notes;
    seat = two.seat
        ∙ ap (with_notes u.known.local.seen_offer u.known.local.steps two.notes) one.seat
        ∙ (λ k. seat_with s u.known.local.seen_offer u.known.local.steps s.known.noted (append_assoc s.known.sets one.notes two.notes k));
    of = two.of;
    since = on_then s t u one.since two.since;
  }

  module _ (step : O → List ℕ → List ℕ → List ℕ × List ℕ) (reads : O → List ℕ → Bool) where
    -- what the look at an offer leaves of the seat
    pub leaves_looked : (cell ticket found : ℕ) (s t : Seated) → Steps r step reads (LoadOffer cell ticket) found s t → KeepsTaking r s t
    leaves_looked cell ticket found s t made =
        leaves_of r (Some (record { cell = cell; ticket = ticket; word = found })) (one_more s.known.local.steps) [] s t (looked_is (instance_at r step reads) cell ticket found s t made.made) made.seat
        (on_step r step reads (LoadOffer cell ticket) found s t made)

    -- what the reading of a word of a set leaves of the seat
    leaves_word : (cell ticket i v : ℕ) (s t : Seated) → Steps r step reads (ReadSet cell ticket i) v s t → KeepsTaking r s t
    leaves_word cell ticket i v s t made =
        leaves_of r s.known.local.seen_offer (one_more s.known.local.steps) (note ticket i v ∷ []) s t (read_one (instance_at r step reads) cell ticket i v s.known.local.seen_offer s.known.local.steps [] s s t (none_is s) made.made) made.seat
        (on_step r step reads (ReadSet cell ticket i) v s t made)

    pub leaves_set : (cell ticket found count : ℕ) (s looked t u : Seated) → Steps r step reads (LoadOffer cell ticket) found s looked → Steps r step reads (ReadSet cell ticket 0) count looked t → KeepsTaking r t u → KeepsTaking r s u
    leaves_set cell ticket found count s looked t u look first rest =
        leaves_then s t u (leaves_then s looked t (leaves_looked cell ticket found s looked look) (leaves_word cell ticket 0 count looked t first)) rest

module _ {O : Type 0} (o : Ghosts O) (r : Running O) where
  pub words_none : (ticket from : ℕ) (s after : Seated) → after ≡ s → ReadsSetWords o r ticket from [] s after
  words_none ticket from s after same = record {
    seat = same ∙ none_is s ∙ (λ k. with_notes s.known.local.seen_offer (sym same k).known.local.steps [] s);
    fits = λ f. subst (λ (x : Seated). Fitting r.lines (o.lawful r.object) r.base (o.step r.object) x.known) (sym same) f;
  }

  pub words_more : (cell ticket from : ℕ) (ws : List ℕ) (v i : ℕ) (s t after : Seated) → ReadsSetWords o r ticket from ws s t → i ≡ from + length ws → after ≡ stepped (instance_at r o.step o.only_reads) (ReadSet cell ticket i) t v → Fitting r.lines (o.lawful r.object) r.base (o.step r.object) after.known →
      ReadsSetWords o r ticket from (ws ++ v ∷ []) s after
  words_more cell ticket from ws v i s t after was at step fits =
      let seen = s.known.local.seen_offer in
      let is = read_one (instance_at r o.step o.only_reads) cell ticket i v seen t.known.local.steps (set_notes ticket from ws) s t after was.seat step in
      let notes : set_notes ticket from ws ++ note ticket i v ∷ [] ≡ set_notes ticket from (ws ++ v ∷ []) = ap (λ k. set_notes ticket from ws ++ note ticket k v ∷ []) at ∙ sym (notes_more ticket from ws v) in
      record {
        seat = is ∙ (λ k. with_notes seen (sym (ap (λ (x : Seated). x.known.local.steps) is) k) (notes k) s);
        fits = λ _. fits;
      }

  -- what was read leaves
  pub leaves_read : (ticket from : ℕ) (words : List ℕ) (s after : Seated) → ReadsSetWords o r ticket from words s after → IsSeatOf r after → StepsOn s after → KeepsTaking r s after
  leaves_read ticket from words s after read of since = leaves_of r s.known.local.seen_offer after.known.local.steps (set_notes ticket from words) s after read.seat of since

  -- what a run of reads leads to
  pub run_words : (cell ticket from : ℕ) (words : List ℕ) (before after : Seated) → Runs r o.step o.only_reads (o.lawful r.object) (set_reads_from cell ticket from) words before after → ReadsSetWords o r ticket from words before after
  run_words cell ticket from words before after (no_step _ _ _ nothing same) = subst (λ (ws : List ℕ). ReadsSetWords o r ticket from ws before after) (sym nothing) (words_none ticket from before after same)
  run_words cell ticket from words before after (one_more_step _ _ _ first found mid longer run made fits) =
      subst (λ (ws : List ℕ). ReadsSetWords o r ticket from ws before after) (sym longer)
      (words_more cell ticket from first found (from + length first) before mid after (run_words cell ticket from first before mid run) refl made.made fits)

  pub run_since : (cell ticket from : ℕ) (words : List ℕ) (before after : Seated) → Runs r o.step o.only_reads (o.lawful r.object) (set_reads_from cell ticket from) words before after → StepsOn before after
  run_since cell ticket from words before after (no_step _ _ _ nothing same) = on_same before after same
  run_since cell ticket from words before after (one_more_step _ _ _ first found mid longer run made fits) =
      on_then_one before mid after (run_since cell ticket from first before mid run) (ap (λ (x : Seated). x.known.local.steps) made.made)

-- the words of a set are noted one by one
noted_at : (ticket from i : ℕ) (words : List ℕ) → i < length words → slice_get (set_notes ticket from words) i ≡ Some (note ticket (from + i) (slice_index words i))
noted_at ticket from i [] below = absurd (omega arith)
noted_at ticket from zero (w ∷ words) below = ap (λ k. Some (note ticket k w)) (omega arith)
noted_at ticket from (suc i) (w ∷ words) below = noted_at ticket (from + 1) i words (omega arith) ∙ ap (λ k. Some (note ticket k (slice_index words i))) (omega arith)

behind : {X : Type 0} (xs ys : List X) (i : ℕ) (x : X) → slice_get ys i ≡ Some x → slice_get (xs ++ ys) (length xs + i) ≡ Some x
behind [] ys i x is = ap (slice_get ys) (zero-add i) ∙ is
behind (y ∷ xs) ys i x is = (let next : suc (length xs) + i ≡ suc (length xs + i) = omega arith in ap (slice_get (y ∷ (xs ++ ys))) next ∙ behind xs ys i x is)

-- a set that was read whole is noted whole
pub whole_noted : (ticket count : ℕ) (pairs set : List ℕ) (sets notes : List SetNoted) → notes ≡ sets ++ set_notes ticket 0 (count ∷ pairs) → length pairs ≡ 2 * count → count ≤ 256 → ((i : ℕ) → i < 2 * count + 1 → slice_index set i ≡ slice_index (count ∷ pairs) i) →
    IsNotedSet notes ticket set
whole_noted ticket count pairs set sets notes are long few same =
    let first : slice_index set 0 ≡ count = same 0 (omega arith) in
    record {
      few = subst (λ n. n ≤ 256) (sym first) few;
      each = λ i below. (
          let within : i < 2 * count + 1 = omega (arith, below, first) in
          let at : i < length (count ∷ pairs) = omega (arith, within, long) in
          let here = noted_at ticket 0 i (count ∷ pairs) at ∙ ap (λ k. Some (note ticket k (slice_index (count ∷ pairs) i))) (zero-add i) ∙ ap (λ w. Some (note ticket i w)) (sym (same i within)) in
          (length sets + i, ap (λ ns. slice_get ns (length sets + i)) are ∙ behind sets (set_notes ticket 0 (count ∷ pairs)) i _ here));
    }

-- words that were put behind the first of a list
pub put_behind : (size count i : ℕ) (now pairs post rest : List ℕ) → i < size → 0 < length now → slice_index now 0 ≡ count → i < length pairs + 1 →
    slice_index (take size ((take 1 now ++ (pairs ++ post)) ++ rest)) i ≡ slice_index (count ∷ pairs) i
put_behind size count i [] pairs post rest within some first below = absurd (omega arith)
put_behind size count zero (x ∷ now) pairs post rest within some first below = get_or-take size (x ∷ ((pairs ++ post) ++ rest)) 0 0 within ∙ first
put_behind size count (suc i) (x ∷ now) pairs post rest within some first below =
    let here : i < length pairs = omega arith in
    get_or-take size (x ∷ ((pairs ++ post) ++ rest)) (suc i) 0 within
    ∙ get_or_append_left (pairs ++ post) rest 0 i (omega (arith, here, length-append pairs post))
    ∙ get_or_append_left pairs post 0 i here

sum_of : (a b c : ℕ) → a + (b + c) ≡ a + b + c
sum_of a b c = omega arith

-- the sets that were read in two parts of notes
read_both : (xs ys : List SetNoted) → sets_read (xs ++ ys) ≡ sets_read xs + sets_read ys
unfolding sets_read
read_both [] ys = sym (zero-add (sets_read ys))
read_both (x ∷ xs) ys = ap (λ n. (if x.index == 0 then 1 else 0) + n) (read_both xs ys) ∙ sum_of (if x.index == 0 then 1 else 0) (sets_read xs) (sets_read ys)

-- words behind the first one of a set make none
read_none : (ticket i : ℕ) (words : List ℕ) → i ≢ 0 → sets_read (set_notes ticket i words) ≡ 0
unfolding sets_read
read_none ticket i [] behind_first = refl
read_none ticket i (w ∷ words) behind_first =
    ap (λ b. (if b then 1 else 0) + sets_read (set_notes ticket (i + 1) words)) (ne_eqb i 0 behind_first)
    ∙ ap (λ n. 0 + n) (read_none ticket (i + 1) words (omega arith))

-- the words of a set make one
pub read_whole : (sets : List SetNoted) (ticket count : ℕ) (pairs : List ℕ) → sets_read (sets ++ set_notes ticket 0 (count ∷ pairs)) ≡ sets_read sets + 1
unfolding sets_read
read_whole sets ticket count pairs = read_both sets (set_notes ticket 0 (count ∷ pairs)) ∙ ap (λ n. sets_read sets + (1 + n)) (read_none ticket 1 pairs (omega arith))
