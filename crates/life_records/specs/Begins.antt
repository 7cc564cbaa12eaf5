-- What a life begins with: what all lives before it kept.
use Rattle.std.specs.Prelude.{◌≡◌, ◌+◌, ◌<◌, ◌==◌, ℕ, List, [], ◌∷◌, replicate, take, Option, None, Some, if◌then◌else◌}
use Rattle.cx_core.specs.Region.{object_part, slot_number, slot_reply}
use Rattle.cx_core.specs.declared.entry.Base.{Base}
use Rattle.life_records.specs.Lives.{ops_of, store_after_all, store_at}
use Rattle.life_records.specs.Scripts.{named_op}
use Rattle.life_records.specs.Records.{JournalLine, Life, Meaning}

-- The number of entries that all lives so far kept, and the store after them. For each client the number of its entries among them, and
-- the words of the reply that the one-thread store gives to the last of them; 0 and 144 zeros where there is none.
pub record Begun (Store : Type 0) : Type 0 where
  pub place : ℕ
  pub store : Store
  pub results : ℕ → ℕ × List ℕ

-- what the first life begins with: place 0, the opening store, and no entry of any client
abbrev pub nothing_begun : {Op Reply Store : Type 0} → Meaning Op Reply Store → Begun Store
nothing_begun m = record { place = 0; store = m.opening; results = λ client. (0, replicate 144 0) }

-- the words of the reply to an entry's operation
abbrev pub words_to : {Op Reply Store : Type 0} → Meaning Op Reply Store → Store → Option Op → List ℕ
words_to m store None = replicate 144 0
words_to m store (Some op) = m.encoding.reply_words (m.reply_to store op)

-- the results after one entry more, which meets this store
abbrev pub with_result : {Op Reply Store : Type 0} → Meaning Op Reply Store → Store → Life Op → JournalLine Reply → (ℕ → ℕ × List ℕ) → ℕ → ℕ × List ℕ
with_result m store life line results client =
    let before = results client in
    if client == line.client then (before.0 + 1, words_to m store (named_op life line.client line.command)) else before

-- the results after entries
abbrev pub results_after : {Op Reply Store : Type 0} → Meaning Op Reply Store → Store → Life Op → List (JournalLine Reply) → (ℕ → ℕ × List ℕ) → ℕ → ℕ × List ℕ
results_after m store life [] results = results
results_after m store life (line ∷ journal) results =
    results_after m (store_after_all m store (ops_of life (line ∷ []))) life journal (with_result m store life line results)

-- what the next life begins with, where a life keeps this many entries
abbrev pub begun_after : {Op Reply Store : Type 0} → Meaning Op Reply Store → Begun Store → Life Op → List (JournalLine Reply) → ℕ → Begun Store
begun_after m begun life journal kept = record {
  place = begun.place + kept;
  store = store_at m begun.store life journal kept;
  results = results_after m begun.store life (take kept journal) begun.results;
}

-- a base has that place, stands for that store, and has in its slots those numbers and replies
pub record IsBaseOf {Op Reply Store : Type 0} (m : Meaning Op Reply Store) (base : Base) (begun : Begun Store) : Type 0 where
  pub at_place : base.place ≡ begun.place
  pub stands : m.stands (object_part base.words) begun.store
  pub numbers : (client : ℕ) → client < 8 → slot_number client base.words ≡ (begun.results client).0
  pub replies : (client : ℕ) → client < 8 → slot_reply client base.words ≡ (begun.results client).1
