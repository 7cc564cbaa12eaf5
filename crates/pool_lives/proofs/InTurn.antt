-- The answers of clients in turn, and their lines by ticket.
use Rattle.std.proofs.Common.{◌≡◌, ◌+◌, ◌<◌, ℕ, List, [], ◌∷◌, length, get_or, map, filter, slice_get, Option, None, Some, sym, ap, subst, ◌∙◌, refl, inl, inr, ◌⊎◌, arith}
use Rattle.std.specs.Prelude.{Contains, IsPermutation, IsSome}
use Rattle.std.specs.List.{cons_option, filter_map}
use Rattle.std.proofs.lemmas.Bool.{eqb-true}
use Rattle.std.proofs.lemmas.List.Elements.{Contains-append_cases, Contains-append_left, Contains-append_right, Contains-get_or, filter_passes}
use Rattle.std.proofs.lemmas.List.Sorted.{IsPermutation-sym}
use Rattle.life_records.proofs.ItemLists.{Contains-item, filter_map_item, map_item, some_made}
use Rattle.life_records.proofs.Lists.{Has, Rises, contains_has, filter_has, has_contains, has_get, has_moved, pairs_rise}
use Rattle.life_records.specs.Lives.{ClientAnswer, answers_of, journal_answer, read_answer}
use Rattle.life_records.specs.Records.{Encoding, JournalLine, Life, ReadLine}
use Rattle.life_records.specs.Works.{AreWorks, IsDoneEntry, by_entry}
use Rattle.cx_core.specs.declared.local.Local.{Local}
use Rattle.pool_lives.specs.Recorded.{AreAnswersInTurn}

kept_later : {Y : Type 0} (o : Option Y) (ys : List Y) (y : Y) → Has ys y → Has (cons_option o ys) y
kept_later None ys y h = h
kept_later (Some z) ys y h = inr h

-- what an item makes is among what all make
has_made : {X Y : Type 0} (f : X → Option Y) (xs : List X) (x : X) (y : Y) → Has xs x → f x ≡ Some y → Has (filter_map f xs) y
has_made f [] x y h e = absurd h
has_made f (z ∷ xs) x y (inl s) e = subst (λ o. Has (cons_option o (filter_map f xs)) y) (sym (ap f s ∙ e)) (inl refl)
has_made f (z ∷ xs) x y (inr h) e = kept_later (f z) (filter_map f xs) y (has_made f xs x y h e)

module _ {Reply : Type 0} where
  -- the answer that an entry's line tells
  abbrev pub answer_of_line : JournalLine Reply → ClientAnswer
  answer_of_line line = record { client = line.client; command = line.command; at = line.ticket; next = line.ticket + 1 }

  journal_answer_is : (line : JournalLine Reply) (reply : Option Reply) → line.reply ≡ reply → IsSome reply → journal_answer line ≡ Some (answer_of_line line)
  journal_answer_is line None is has = cc
  journal_answer_is line (Some reply) is has = rw is refl

  pub entry_answers : (entries : List (JournalLine Reply)) (reads : List (ReadLine Reply)) (line : JournalLine Reply) → Has entries line → IsSome line.reply → Contains (answers_of entries reads) (answer_of_line line)
  entry_answers entries reads line has some =
      Contains-append_left (filter_map journal_answer entries) (map read_answer reads) (answer_of_line line)
      (has_contains (filter_map journal_answer entries) (answer_of_line line) (has_made journal_answer entries line (answer_of_line line) has (journal_answer_is line line.reply refl some)))

  -- an answer is that of an entry's line with a reply, or of a read's line
  pub line_behind : (entries : List (JournalLine Reply)) (reads : List (ReadLine Reply)) (a : ClientAnswer) → Contains (answers_of entries reads) a
      → ((line : JournalLine Reply) × Has entries line × IsSome line.reply × (a ≡ answer_of_line line)) ⊎ ((line : ReadLine Reply) × Has reads line × (a ≡ read_answer line))
  line_behind entries reads a there = elim (Contains-append_cases (filter_map journal_answer entries) (map read_answer reads) a there) [
    | inl front ↦ (
        let k = Contains-item (filter_map journal_answer entries) a front in
        let l = filter_map_item journal_answer entries k.0 a k.1 in
        let r = some_made (λ (reply : Reply). answer_of_line l.1) l.1.reply a l.3 in
        inl (l.1, has_get entries l.0 l.1 l.2, subst IsSome (sym r.1) refl, sym r.2))
    | inr back ↦ (
        let k = Contains-item (map read_answer reads) a back in
        let l = map_item read_answer reads k.0 a k.1 in
        inr (l.0, has_get reads k.0 l.0 l.1, sym l.2))
  ]

  read_answers : (entries : List (JournalLine Reply)) (reads : List (ReadLine Reply)) (line : ReadLine Reply) → Has reads line → Contains (answers_of entries reads) (read_answer line)
  read_answers entries reads line has =
      Contains-append_right (filter_map journal_answer entries) (map read_answer reads) (read_answer line)
      (has_contains (map read_answer reads) (read_answer line) (has_mapped reads has))
    where
      has_mapped : (rs : List (ReadLine Reply)) → Has rs line → Has (map read_answer rs) (read_answer line)
      has_mapped [] h = absurd h
      has_mapped (r ∷ rs) (inl s) = inl (ap read_answer s)
      has_mapped (r ∷ rs) (inr h) = inr (has_mapped rs h)

  -- in another order the entries' lines tell the same answers
  pub answers_moved : (entries journal : List (JournalLine Reply)) (reads : List (ReadLine Reply)) (a : ClientAnswer) → IsPermutation entries journal → Contains (answers_of journal reads) a → Contains (answers_of entries reads) a
  answers_moved entries journal reads a moved there = elim (line_behind journal reads a there) [
    | inl e ↦ subst (Contains (answers_of entries reads)) (sym e.3) (entry_answers entries reads e.0 (has_moved journal entries e.0 (IsPermutation-sym entries journal moved) e.1) e.2)
    | inr r ↦ subst (Contains (answers_of entries reads)) (sym r.2) (read_answers entries reads r.0 r.1)
  ]

  replied : (done : ℕ) (line : JournalLine Reply) → IsDoneEntry done None line → IsSome line.reply
  replied done line (inl answered) = answered.2
  replied done line (inr last) = cc

module _ {Op Reply : Type 0} (encoding : Encoding Op Reply) (life : Life Op) (clients : List Local) (entries : List (JournalLine Reply)) (reads : List (ReadLine Reply))
    (works : AreWorks encoding life clients entries reads [] []) (turns : AreAnswersInTurn (answers_of entries reads)) where
  -- each line of a client has a reply
  pub has_reply : (i : ℕ) (l : Local) → slice_get clients i ≡ Some l → (k : ℕ) (d : JournalLine Reply) → k < length (filter (by_entry i) entries) → IsSome (get_or (filter (by_entry i) entries) k d).reply
  has_reply i l at k d below =
      let w = works.each i l at in
      replied w.done (get_or (filter (by_entry i) entries) k d) (w.entries_done k d below)

  -- a client's lines rise by ticket
  pub tickets_rise : (i : ℕ) (l : Local) → slice_get clients i ≡ Some l → Rises (λ (line : JournalLine Reply). line.ticket) (filter (by_entry i) entries)
  tickets_rise i l at =
      let es = filter (by_entry i) entries in
      let w = works.each i l at in
      let among : (k : ℕ) (d : JournalLine Reply) → k < length es → Contains (answers_of entries reads) (answer_of_line (get_or es k d)) = λ k d below.
      entry_answers entries reads (get_or es k d) (filter_has (by_entry i) entries (get_or es k d) (contains_has es (get_or es k d) (Contains-get_or es k d below))) (has_reply i l at k d below) in
      let mine : (k : ℕ) (d : JournalLine Reply) → k < length es → (get_or es k d).client ≡ i = λ k d below. eqb-true (get_or es k d).client i (filter_passes (by_entry i) entries k d below) in
      pairs_rise (λ (line : JournalLine Reply). line.ticket) es (λ j k d up within. (
      let first : j < length es = omega arith in
      let rise = turns (answer_of_line (get_or es j d)) (answer_of_line (get_or es k d)) (among j d first) (among k d within) (mine j d first ∙ sym (mine k d within)) (w.entries_in_turn j k d up within) in
      omega (arith, rise)))
