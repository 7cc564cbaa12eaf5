-- What an entry that was read leaves of a replica held exclusively, and its words.
use Rattle.std.proofs.Common.{All, inl, inr, false, ◌≡◌, ◌+◌, ◌^◌, ◌<◌, ℕ, List, [], ◌∷◌, length, drop, slice_index, take, ap, sym, subst, ◌∙◌, arith}
use Rattle.std.proofs.lemmas.Bool.{false≢true}
use Rattle.std.proofs.lemmas.List.{take_all}
use Rattle.cx_base.specs.declared.object.Object.{Ghosts}
use Rattle.cx_core.specs.declared.entry.Entry.{Entry}
use Rattle.cx_core.specs.History.{IsLawfulEntry}
use Rattle.cx_core.specs.Region.{region_words}
use Rattle.cx_core.specs.Rights.{held_dirty}
use Rattle.cx_core.specs.RingEvents.{Protects}
use Rattle.table_invariant.specs.Fitting.{Fitting, HasEntry, IsNoted, SomeFits, entries_of, has_of}
use Rattle.table_invariant.specs.Running.{IsSeatOf, Running}
use Rattle.table_invariant.specs.Seats.{Seated}
use Rattle.table_invariant.proofs.HasMore.{HasMore, noted_more}
use Rattle.cx_table.specs.Right.{Right}
use Rattle.cx_table.specs.Tokens.{IsExclusiveOf}
use Rattle.cx_attempts.specs.Replaying.{IsApplied, ReadsNext}
use Rattle.mutation_queue.specs.Entries.{MayReplay, ReadsEntry, notes_of, with_look, with_read}
use Rattle.replica.specs.Held.{IsHeld}
use Rattle.replica.specs.Replays.{ComesNext, IsReady, noted_place}
use Rattle.replica.specs.Laws.{image_more}
use Rattle.caller_cache.specs.Summaries.{IsOwnEntry}

-- a replica that is held still is, once an entry was read
held_read : {O : Type 0} (lines : ℕ) (r : Running O) (lawful : List ℕ → Type 0) (step : List ℕ → List ℕ → List ℕ × List ℕ) (caller ticket : ℕ) (words : List ℕ) (before after : Seated) (held : Right) → IsSeatOf r after → ReadsEntry caller ticket words before after → Fitting r.lines lawful r.base step after.known → IsHeld lines r lawful step before held → IsHeld lines r lawful step after held
held_read lines r lawful step caller ticket words before after held of read fits was =
    let now = with_read caller ticket words (with_look after.known.local.seen_slot before) in
    record {
      sized = was.sized;
      of = of;
      right = subst (λ s. IsExclusiveOf r.callers s held) (sym read.seat) (let right : IsExclusiveOf r.callers now held = record { few = was.right.few; caller = was.right.caller; holds = was.right.holds } in right);
      some = subst (λ n. SomeFits n lawful r.base step after.known) was.sized.lines_are fits.exclusive;
      dirty = subst (λ (s : Seated). All (λ i. i < region_words lines) (held_dirty s.known.local.exclusive)) (sym read.seat) was.dirty;
    }

-- a replica that is the image after its place still is, once an entry was read
pub ready_read : {O : Type 0} (o : Ghosts O) (r : Running O) (caller ticket at : ℕ) (words : List ℕ) (before after : Seated) (held : Right) → IsSeatOf r after → ReadsEntry caller ticket words before after → Fitting r.lines (o.lawful r.object) r.base (o.step r.object) after.known → IsReady o r held at before → IsReady o r held at after
ready_read o r caller ticket at words before after held of read fits was = record {
  is_held = held_read (o.line_count r.object) r (o.lawful r.object) (o.step r.object) caller ticket words before after held of read fits was.is_held;
  image = image_more (o.line_count r.object) (o.lawful r.object) r.base (o.step r.object) before.known after.known
      (subst (λ (s : Seated). HasMore (has_of before.known) (has_of s.known)) (sym read.seat) (noted_more before.known (notes_of caller ticket 0 words))) (ap (λ (s : Seated). s.known.accesses) read.seat) was.image;
  place = ap noted_place read.seat ∙ was.place;
}

-- an entry that was read comes next still where what is noted of entries stayed
pub offered_comes : {O : Type 0} (o : Ghosts O) (r : Running O) (at : ℕ) (entry : Entry) (before mid after : Seated) → ReadsNext o r at entry before mid → after.known.noted ≡ mid.known.noted → noted_place after ≡ at → ComesNext entry after
offered_comes o r at entry before mid after next same place = record {
  had = subst (λ p. HasEntry (entries_of after.known) p entry) (sym place) (inl (subst (λ ns. IsNoted ns at entry) (sym same) next.noted.noted));
  lawful = subst (λ p. IsLawfulEntry p entry) (sym place) next.noted.lawful;
  small = subst (λ p. p < 2 ^ 40) (sym place) next.noted.small;
}

-- an own entry that stands in the seat's memory with the replica's place as its ticket comes next
pub own_comes : (at : ℕ) (entry : Entry) (seat : Seated) → IsOwnEntry seat.known.local.own seat.known.local.number at entry → seat.known.local.number < 8 → noted_place seat ≡ at → ComesNext entry seat
own_comes at entry seat mine few place = record {
  had = subst (λ p. HasEntry (entries_of seat.known) p entry) (sym place) (inr mine.own);
  lawful = subst (λ p. IsLawfulEntry p entry) (sym place) (mine.lawful few);
  small = subst (λ p. p < 2 ^ 40) (sym place) mine.small;
}

-- an entry may still be read
pub may_still : {O : Type 0} (r : Running O) (at : ℕ) (before after : Seated) → IsSeatOf r after → after.known.local.front ≡ before.known.local.front → after.known.local.protection ≡ before.known.local.protection → MayReplay r at before → MayReplay r at after
may_still r at before after of front protection was = record {
  may = record { of = of; linked = subst (λ n. at < n) (sym front) was.may.linked; protected = subst (Protects at) (sym protection) was.may.protected };
  later = was.later;
}

-- An entry was applied that is another caller's, or the caller's own by its write set: the replica is ready at the next place, and nothing is said of
-- the reply.
pub applied_alone : {O : Type 0} (o : Ghosts O) (r : Running O) (held : Right) (at : ℕ) (reply : List ℕ) (seat : Seated) → IsReady o r held (at + 1) seat → IsApplied o r held at reply seat false
applied_alone o r held at reply seat ready = record { ready = ready; replied = λ own. absurd (false≢true own) }

-- words, the first of them and the 144 behind it
pub first_and_rest : (ws op : List ℕ) → length ws ≡ 145 → op ≡ take 144 (drop 1 ws) → slice_index ws 0 ∷ op ≡ ws
first_and_rest [] op long is = absurd (omega arith)
first_and_rest (w ∷ ws) op long is = ap (λ xs. w ∷ xs) (is ∙ take_all 144 ws (omega arith))
