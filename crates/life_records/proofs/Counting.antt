-- How many answers a command has: as many as lines, where its entries have replies.
use Rattle.std.proofs.Common.{◌≡◌, ℕ, suc, ◌+◌, ◌==◌, ◌&&◌, Bool, true, false, cond, List, [], ◌∷◌, length, map, filter, Option, None, Some, sym, ap, ◌∙◌, refl, inl, inr, arith}
use Rattle.std.specs.Prelude.{IsSome}
use Rattle.std.specs.List.{cons_option, filter_map}
use Rattle.std.specs.Option.{option_map}
use Rattle.std.proofs.lemmas.Bool.{and_parts, cases_Bool, eqb-true}
use Rattle.std.proofs.lemmas.List.Sums.{length-filter, sum_by-append}
use Rattle.life_records.specs.Records.{JournalLine, ReadLine}
use Rattle.life_records.specs.Lives.{ClientAnswer, answers_of, count_to, journal_answer, read_answer}
use Rattle.life_records.specs.Works.{by_entry, by_read, client_lines}
use Rattle.life_records.proofs.Lists.{Each}

abbrev answers_to : ℕ → ℕ → ClientAnswer → Bool
answers_to client command a = (a.client == client) && (a.command == command)

abbrev entry_of : {Reply : Type 0} → ℕ → JournalLine Reply → Bool
entry_of command line = line.command == command

abbrev read_of : {Reply : Type 0} → ℕ → ReadLine Reply → Bool
read_of command line = line.command == command

-- one item more on both sides, or on neither
both : {X Y : Type 0} (p : X → Bool) (q r : Y → Bool) (x : X) (y : Y) (xs : List X) (ys : List Y) → p x ≡ q y && r y → length (filter p xs) ≡ length (filter r (filter q ys)) → length (filter p (x ∷ xs)) ≡ length (filter r (filter q (y ∷ ys)))
both {X} {Y} p q r x y xs ys same rest =
    ap (λ b. length (cond b (x ∷ filter p xs) (filter p xs))) same
    ∙ (elim (q y) as (λ b. length (cond (b && r y) (x ∷ filter p xs) (filter p xs)) ≡ length (filter r (cond b (y ∷ filter q ys) (filter q ys)))) [
      | true ↦ (elim (r y) as (λ b. length (cond b (x ∷ filter p xs) (filter p xs)) ≡ length (cond b (y ∷ filter r (filter q ys)) (filter r (filter q ys)))) [
        | true ↦ ap suc rest
        | false ↦ rest
      ])
      | false ↦ rest
    ])

-- an item that does not pass both tests counts for nothing
neither : {Y : Type 0} (q r : Y → Bool) (y : Y) (ys : List Y) → q y && r y ≡ false → length (filter r (filter q (y ∷ ys))) ≡ length (filter r (filter q ys))
neither {Y} q r y ys off =
    elim (cases_Bool (q y)) [
      | inl passes ↦
          ap (λ b. length (filter r (cond b (y ∷ filter q ys) (filter q ys)))) passes
          ∙ ap (λ b. length (cond b (y ∷ filter r (filter q ys)) (filter r (filter q ys)))) (sym (ap (λ b. b && r y) passes) ∙ off)
      | inr fails ↦ ap (λ b. length (filter r (cond b (y ∷ filter q ys) (filter q ys)))) fails
    ]

-- a line of this command of this client has a reply
abbrev Replies : {Reply : Type 0} → ℕ → ℕ → JournalLine Reply → Type 0
Replies client command line = line.client ≡ client → line.command ≡ command → IsSome line.reply

module _ {Reply : Type 0} where
  entry_one : (client command : ℕ) (line : JournalLine Reply) (journal : List (JournalLine Reply)) →
      length (filter (answers_to client command) (filter_map journal_answer journal)) ≡ length (filter (entry_of command) (filter (by_entry client) journal))
      → (reply : Option Reply) → line.reply ≡ reply → Replies client command line
      → length (filter (answers_to client command) (filter_map journal_answer (line ∷ journal))) ≡ length (filter (entry_of command) (filter (by_entry client) (line ∷ journal)))
  entry_one client command line journal rest None is some =
      let a : ClientAnswer = record { client = line.client; command = line.command; at = line.ticket; next = line.ticket + 1 } in
      let front : filter_map journal_answer (line ∷ journal) ≡ filter_map journal_answer journal =
      ap (λ (o : Option Reply). cons_option (option_map (λ _. a) o) (filter_map journal_answer journal)) is in
      let off : by_entry client line && entry_of command line ≡ false =
      elim (cases_Bool (by_entry client line && entry_of command line)) [
        | inl on ↦ (
            let parts = and_parts (by_entry client line) (entry_of command line) on in
            let has = some (eqb-true line.client client parts.0) (eqb-true line.command command parts.1) in
            cc)
        | inr off ↦ off
      ] in
      ap (λ as'. length (filter (answers_to client command) as')) front
      ∙ rest
      ∙ sym (neither (by_entry client) (entry_of command) line journal off)
  entry_one client command line journal rest (Some reply) is some =
      let a : ClientAnswer = record { client = line.client; command = line.command; at = line.ticket; next = line.ticket + 1 } in
      let front : filter_map journal_answer (line ∷ journal) ≡ a ∷ filter_map journal_answer journal =
      ap (λ (o : Option Reply). cons_option (option_map (λ _. a) o) (filter_map journal_answer journal)) is in
      ap (λ as'. length (filter (answers_to client command) as')) front
      ∙ both (answers_to client command) (by_entry client) (entry_of command) a line (filter_map journal_answer journal) journal refl rest

entry_counts : {Reply : Type 0} → (client command : ℕ) (journal : List (JournalLine Reply)) → Each (Replies client command) journal
    → length (filter (answers_to client command) (filter_map journal_answer journal)) ≡ length (filter (entry_of command) (filter (by_entry client) journal))
entry_counts client command [] each = refl
entry_counts client command (line ∷ journal) each =
    entry_one client command line journal (entry_counts client command journal each.1) line.reply refl each.0

read_counts : {Reply : Type 0} → (client command : ℕ) (reads : List (ReadLine Reply)) → length (filter (answers_to client command) (map read_answer reads)) ≡ length (filter (read_of command) (filter (by_read client) reads))
read_counts client command [] = refl
read_counts client command (line ∷ reads) =
    both (answers_to client command) (by_read client) (read_of command) (read_answer line) line (map read_answer reads) reads refl (read_counts client command reads)

-- a command whose entries have replies has as many answers as lines
pub answers_counted : {Reply : Type 0} → (client command : ℕ) (journal : List (JournalLine Reply)) (reads : List (ReadLine Reply)) → Each (Replies client command) journal
    → count_to client command (answers_of journal reads) ≡ client_lines command (filter (by_entry client) journal) (filter (by_read client) reads)
answers_counted client command journal reads each =
    let p = answers_to client command in
    omega (
      arith,
      sum_by-append (λ (a : ClientAnswer). cond (p a) 1 0) (filter_map journal_answer journal) (map read_answer reads),
      length-filter p (filter_map journal_answer journal),
      length-filter p (map read_answer reads),
      entry_counts client command journal each,
      read_counts client command reads,
      length-filter (entry_of command) (filter (by_entry client) journal),
      length-filter (read_of command) (filter (by_read client) reads),
    )
