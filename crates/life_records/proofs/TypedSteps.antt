-- The steps of an object with their meaning and their laws, put together for proofs.
use Rattle.std.proofs.Common.{ℕ, Bool, List}
use Rattle.cx_core.proofs.HistoryLemmas.{ObjectLaws}
use Rattle.life_records.specs.Meanings.{AreLaws}
use Rattle.typed_object.specs.Meaning.{HasMeaning, Meaning}

pub record TypedSteps (Op Reply Store : Type 0) : Type 1 where
  pub lines : ℕ
  pub lawful : List ℕ → Type 0
  pub opening : List ℕ
  pub step : List ℕ → List ℕ → List ℕ × List ℕ
  pub reads : List ℕ → Bool
  pub meaning : Meaning Op Reply Store
  pub object : ObjectLaws lines lawful step
  pub means : HasMeaning lawful opening step reads meaning

-- the typed steps of an object with these laws
abbrev pub typed_steps : {Op Reply Store : Type 0} → (lines : ℕ) (lawful : List ℕ → Type 0) (opening : List ℕ) (step : List ℕ → List ℕ → List ℕ × List ℕ) (reads : List ℕ → Bool)
    (meaning : Meaning Op Reply Store) → AreLaws lines lawful step → HasMeaning lawful opening step reads meaning → TypedSteps Op Reply Store
typed_steps lines lawful opening step reads meaning laws means = record {
  lines = lines;
  lawful = lawful;
  opening = opening;
  step = step;
  reads = reads;
  meaning = meaning;
  object = record { keeps = laws.keeps; shape = laws.shape; replies = laws.replies };
  means = means;
}
