-- The cells of a client that gave up hold so many answered entries.
use Rattle.std.proofs.Common.{◌≡◌, ◌≢◌, ◌<◌, ◌≤◌, ◌==◌, ◌&&◌, ℕ, zero, suc, Bool, true, false, not, cond, List, [], ◌∷◌, length, filter, Option, None, Some, sym, ap, subst, ◌∙◌, refl, inl, inr, arith}
use Rattle.std.specs.Prelude.{IsSome, Contains, count_by, is_some, nat_le}
use Rattle.std.specs.List.{AllZip}
use Rattle.std.proofs.lemmas.Bool.{eq-eqb, ne_eqb}
use Rattle.std.proofs.lemmas.List.Sums.{length-filter}
use Rattle.cx_core.specs.QueueEvents.{cell_of}
use Rattle.cx_core.specs.declared.local.Answer.{Answer}
use Rattle.cx_core.specs.declared.local.Local.{Local}
use Rattle.life_records.specs.Lives.{is_answered_from}
use Rattle.life_records.specs.Records.{Encoding, FullLine, JournalLine, Life}
use Rattle.life_records.specs.Works.{IsFullOf, IsLineOf, by_entry}
use Rattle.life_records.proofs.Lists.{Has, filter_has, has_contains, has_filter, has_get, zip_has}

few : {X : Type 0} (p : X → Bool) (xs : List X) → length (filter p xs) ≤ length xs
few p [] = omega arith
few p (x ∷ xs) =
    let rest = few p xs in
    elim (p x) as (λ b. length (cond b (x ∷ filter p xs) (filter p xs)) ≤ suc (length xs)) [
      | true ↦ omega (arith, rest)
      | false ↦ omega (arith, rest)
    ]

-- where an item does not pass, fewer are left
fewer : {X : Type 0} (p : X → Bool) (xs : List X) (z : X) → Has xs z → p z ≡ false → length (filter p xs) < length xs
fewer p [] z h off = absurd h
fewer p (x ∷ xs) z (inl s) off =
    let is : filter p (x ∷ xs) ≡ filter p xs = ap (λ b. cond b (x ∷ filter p xs) (filter p xs)) (ap p s ∙ off) in
    omega (arith, ap length is, few p xs)
fewer p (x ∷ xs) z (inr h) off =
    let rest = fewer p xs z h off in
    elim (p x) as (λ b. length (cond b (x ∷ filter p xs) (filter p xs)) < suc (length xs)) [
      | true ↦ omega (arith, rest)
      | false ↦ omega (arith, rest)
    ]

-- as many indices as have items with keys that no other has, are as many as the items at most
pub as_many : {X : Type 0} (key : X → ℕ) (T : ℕ → ℕ → Type 0) → ((j k t : ℕ) → T j t → T k t → j ≡ k) → (n : ℕ) (xs : List X) → ((j : ℕ) → j < n → (x : X) × Has xs x × T j (key x)) → n ≤ length xs
as_many key T apart zero xs each = omega arith
as_many {X} key T apart (suc n) xs each =
    let last = each n (omega arith) in
    let p : X → Bool = λ x. not (key x == key last.0) in
    let off : p last.0 ≡ false = ap not (eq-eqb (key last.0) (key last.0) refl) in
    let rest : n ≤ length (filter p xs) = as_many key T apart n (filter p xs) (λ j less. (
    let mine = each j (omega arith) in
    let other : key mine.0 ≢ key last.0 = λ same. (let index : j ≡ n = apart j n (key last.0) (subst (T j) same mine.2) last.2 in omega arith) in
    (mine.0, has_filter p xs mine.0 mine.1 (ap not (ne_eqb (key mine.0) (key last.0) other)), mine.2))) in
    omega (arith, rest, fewer p xs last.0 last.1 off)

some_is : {X : Type 0} (o : Option X) → IsSome o → is_some o ≡ true
some_is None has = cc
some_is (Some x) has = refl

le_is : (a b : ℕ) → a ≤ b → nat_le a b ≡ true
le_is a b le = search (arith, le)

module _ {Op Reply : Type 0} (encoding : Encoding Op Reply) (life : Life Op) (client done : ℕ) (l : Local) (answered : List Answer) (journal : List (JournalLine Reply)) (line : FullLine) (full : IsFullOf life client done l line)
    (lines : AllZip (IsLineOf encoding life client answered None) l.own (filter (by_entry client) journal)) (replied : (e : JournalLine Reply) → Has (filter (by_entry client) journal) e → IsSome e.reply) where
  -- the line of the entry that a cell holds
  held : (j t : ℕ) → (cell_of l j).ticket ≡ Some t → (e : JournalLine Reply) × Has journal e × (e.ticket ≡ t) × (e.client ≡ client) × IsSome e.reply
  held j t at =
      let own = full.own j t at in
      let found = zip_has (IsLineOf encoding life client answered None) l.own (filter (by_entry client) journal) own.1 lines (has_get l.own own.0 own.1 own.2) in
      (found.0, filter_has (by_entry client) journal found.0 found.1, found.2.ticket ∙ own.3, found.2.client_is, replied found.0 found.1)

  passes : (e : JournalLine Reply) → e.client ≡ client → IsSome e.reply → line.note.ticket ≤ e.ticket → is_answered_from client line.note.ticket e ≡ true
  passes e by some from =
      ap (λ b. b && (is_some e.reply && nat_le line.note.ticket e.ticket)) (eq-eqb e.client client by)
      ∙ ap (λ b. b && nat_le line.note.ticket e.ticket) (some_is e.reply some)
      ∙ le_is line.note.ticket e.ticket from

  -- 16 answered entries from the ticket on
  pub enough : 16 ≤ count_by (is_answered_from client line.note.ticket) journal
  enough =
      let p = is_answered_from client line.note.ticket in
      let many : 16 ≤ length (filter p journal) = as_many (λ (e : JournalLine Reply). e.ticket) (λ j t. (cell_of l j).ticket ≡ Some t) full.apart 16 (filter p journal) (λ j less. (
      let cell = full.cells.each j less in
      let e = held j cell.0 cell.1 in
      let from : line.note.ticket ≤ e.0.ticket = omega (arith, e.2, cell.2) in
      (e.0, has_filter p journal e.0 e.1 (passes e.0 e.3 e.4 from), cell.1 ∙ ap Some (sym e.2)))) in
      omega (arith, many, length-filter p journal)

  -- one of the client's answered entries is at the ticket
  pub least : (e : JournalLine Reply) × Contains journal e × (e.client ≡ client) × (e.ticket ≡ line.note.ticket) × IsSome e.reply
  least =
      let here = full.cells.here in
      let e = held here.0 line.note.ticket here.2 in
      (e.0, has_contains journal e.0 e.1, e.3, e.2, e.4)
