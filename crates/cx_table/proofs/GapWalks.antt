-- The words of a slot that lead to the end of a region are gaps that lead over all lines but those that they name.
use Rattle.std.proofs.Common.{◌≡◌, ◌≢◌, ◌+◌, ◌%◌, ◌/◌, ◌^◌, ◌<◌, ◌≤◌, ◌==◌, if◌then◌else◌, ℕ, zero, suc, Bool, true, List, [], ◌∷◌, slice_index, slice_set, length, take, refl, ap, sym, subst, ◌∙◌, arith, ne_eqb, eq-eqb, inl, inr}
use Rattle.std.proofs.lemmas.Bool.{cases_eq}
use Rattle.std.proofs.lemmas.List.{get_or-take}
use Rattle.std.specs.List.{Contains}
use Rattle.cx_core.specs.Gaps.{Gap, Walk, gap_of}
use Rattle.cx_core.specs.State.{Instance}
use Rattle.table_invariant.specs.declared.rule.Known.{Known}
use Rattle.table_invariant.specs.Listed.{HasGap}
use Rattle.cx_table.specs.GapMarks.{AreMarked, IsMarked, MarksChanged, MarksTicket}
use Rattle.cx_table.specs.GapWords.{IsNamed, TellsLines, lines_from, start_at}

-- where the words of a slot tell n more gaps and the last one from word k on, these lead from the start of the gap of word k to the end of the region
lines_walk_from : (callers slot ticket lines : ℕ) (words : List ℕ) (n k m : ℕ) → k + n ≡ m → TellsLines callers slot ticket lines words m →
    Walk (IsNamed callers slot words) ticket (start_at words k) (lines_from k n words) lines
lines_walk_from callers slot ticket lines words zero k m is tells =
    let same : m ≡ k = omega (arith, is) in
    (k, omega (arith, same, tells.within), subst (λ j. gap_of callers slot (slice_index words j) ≡ record { ticket = ticket; from = start_at words j; to = lines }) same tells.last)
lines_walk_from callers slot ticket lines words (suc n) k m is tells =
    let next : k + 1 ≡ suc k = omega arith in (
      (k, omega (arith, is, tells.within), tells.each k (omega (arith, is))),
      subst (λ f. Walk (IsNamed callers slot words) ticket f (lines_from (k + 1) n words) lines) (ap (start_at words) next) (lines_walk_from callers slot ticket lines words n (k + 1) m (omega (arith, is)) tells),
    )

-- where the words of a slot tell n gaps and a last one of a ticket, these lead from line 0 to the end of the region
pub lines_walk : (callers slot ticket lines : ℕ) (words : List ℕ) (n : ℕ) → TellsLines callers slot ticket lines words n →
    Walk (IsNamed callers slot words) ticket 0 (lines_from 0 n words) lines
lines_walk callers slot ticket lines words n tells = lines_walk_from callers slot ticket lines words n 0 n (omega arith) tells

-- gaps that are had in another way lead over as many lines
pub walk_by : (G H : Gap → Type 0) → ((g : Gap) → G g → H g) → (ticket from : ℕ) (list : List ℕ) (last : ℕ) → Walk G ticket from list last → Walk H ticket from list last
walk_by G H by ticket from [] last walk = by (record { ticket = ticket; from = from; to = last }) walk
walk_by G H by ticket from (line ∷ list) last walk = (by (record { ticket = ticket; from = from; to = line }) walk.0, walk_by G H by ticket line list last walk.1)

-- a line that is named is named by one of the words
named_by : (words : List ℕ) (from n x : ℕ) → Contains (lines_from from n words) x → (k : ℕ) × (k < n) × (slice_index words (from + k) % 2 ^ 17 ≡ x)
named_by words from zero x has = absurd (omega (arith, has.1))
named_by words from (suc n) x (zero, below, is) = (0, omega arith, ap (λ i. slice_index words i % 2 ^ 17) (let e : from + 0 ≡ from = omega arith in e) ∙ is)
named_by words from (suc n) x (suc i, below, is) =
    let later = named_by words (from + 1) n x (i, omega (arith, below), is) in
    let e : from + (later.0 + 1) ≡ from + 1 + later.0 = omega arith in
    (later.0 + 1, omega (arith, later.1), ap (λ j. slice_index words j % 2 ^ 17) e ∙ later.2)

-- where the piece of the line that each of n words names is marked, the lines that these words name are marked
pub marked_lines : (marks : List Bool) (words : List ℕ) (n : ℕ) → n ≤ length words → ((k : ℕ) → k < length (take n words) → IsMarked marks ((slice_index (take n words) k % 2 ^ 17 + 7) / 8)) → n ≡ length (take n words) → AreMarked marks (lines_from 0 n words)
marked_lines marks words n within marked long x has =
    let by = named_by words 0 n x has in
    let at : slice_index (take n words) by.0 % 2 ^ 17 ≡ x = ap (λ w. w % 2 ^ 17) (get_or-take n words by.0 0 by.1) ∙ ap (λ i. slice_index words i % 2 ^ 17) (let e : by.0 ≡ 0 + by.0 = omega arith in e) ∙ by.2 in
    subst (λ y. IsMarked marks ((y + 7) / 8)) at (marked by.0 (omega (arith, by.1, long)))

-- between a place and itself no entry changed a line, so whatever is marked will do
pub changed_none : (instance : Instance) (lines from : ℕ) (marks : List Bool) (known : Known) → MarksChanged instance lines from from marks known
changed_none instance lines from marks known = record {
  lists = λ t. [];
  walked = λ t least below. absurd (omega (arith, least, below));
  marked = λ t least below. absurd (omega (arith, least, below));
}

-- lists by ticket, where the ticket `to` has `list` and each other ticket has the list that `lists` gives
with_list : (ℕ → List ℕ) → ℕ → List ℕ → ℕ → List ℕ
with_list lists to list t = if t == to then list else lists t

-- in `with_list` the ticket `to` has `list`
at_last : (lists : ℕ → List ℕ) (to : ℕ) (list : List ℕ) (t : ℕ) → t ≡ to → with_list lists to list t ≡ list
unfolding with_list
at_last lists to list t is = ap (λ b. if b then list else lists t) (eq-eqb t to is)

-- in `with_list` each other ticket has the list that `lists` gives
at_others : (lists : ℕ → List ℕ) (to : ℕ) (list : List ℕ) (t : ℕ) → t ≢ to → with_list lists to list t ≡ lists t
unfolding with_list
at_others lists to list t apart = ap (λ b. if b then list else lists t) (ne_eqb t to apart)

-- Where the lines that the entries between two places changed are marked, and then those that the next ticket's entry changed, the lines that the
-- entries up to that ticket changed are marked.
pub changed_more : (instance : Instance) (lines from to : ℕ) (marks marks' : List Bool) (known known' : Known) → ((g : Gap) → HasGap instance known g → HasGap instance known' g) → ((piece : ℕ) → IsMarked marks piece → IsMarked marks' piece) →
    MarksChanged instance lines from to marks known → MarksTicket instance lines to marks' known' → MarksChanged instance lines from (to + 1) marks' known'
changed_more instance lines from to marks marks' known known' keeps kept was one =
    let lists = with_list was.lists to one.list in
    record {
      lists = lists;
      walked = λ t least below. elim (cases_eq t to) [
        | inl e ↦ subst (λ list. Walk (HasGap instance known') t 0 list lines) (sym (at_last was.lists to one.list t e)) (subst (λ u. Walk (HasGap instance known') u 0 one.list lines) (sym e) one.walked)
        | inr ne ↦ subst (λ list. Walk (HasGap instance known') t 0 list lines) (sym (at_others was.lists to one.list t ne))
            (walk_by (HasGap instance known) (HasGap instance known') keeps t 0 (was.lists t) lines (was.walked t least (omega (arith, below, ne))))
      ];
      marked = λ t least below. elim (cases_eq t to) [
        | inl e ↦ subst (AreMarked marks') (sym (at_last was.lists to one.list t e)) one.marked
        | inr ne ↦ subst (AreMarked marks') (sym (at_others was.lists to one.list t ne)) (λ n has. kept ((n + 7) / 8) (was.marked t least (omega (arith, below, ne)) n has))
      ];
    }

-- a mark that is set stands, and so do the others
pub mark_set : (marks : List Bool) (piece : ℕ) → piece < length marks → IsMarked (slice_set marks piece true) piece
mark_set [] piece below = absurd (omega arith)
mark_set (m ∷ marks) zero below = refl
mark_set (m ∷ marks) (suc i) below = mark_set marks i (omega arith)

-- a mark stays where another piece is marked
pub marks_stay : (marks : List Bool) (piece other : ℕ) → IsMarked marks other → IsMarked (slice_set marks piece true) other
marks_stay [] piece other is = is
marks_stay (m ∷ marks) zero zero is = refl
marks_stay (m ∷ marks) zero (suc j) is = is
marks_stay (m ∷ marks) (suc i) zero is = is
marks_stay (m ∷ marks) (suc i) (suc j) is = marks_stay marks i j is
