-- The lines of records of legal lives name commands of their lives.
use Rattle.std.proofs.Common.{ℕ, ◌+◌, List, [], ◌∷◌}
use Rattle.std.proofs.lemmas.List.Elements.{All-weaker}
use Rattle.life_records.specs.Lives.{AreLivesFrom, IsLegalRead, NameCommands, Names, store_at}
use Rattle.life_records.specs.Records.{Life, LifeRecord, Meaning, ReadLine}

module _ {Op Reply Store : Type 0} where
  pub names_of_lives : (m : Meaning Op Reply Store) (place : ℕ) (store : Store) (lives : List (Life Op)) (records : List (LifeRecord Reply)) → AreLivesFrom m place store lives records → NameCommands lives records
  names_of_lives m place store [] [] are = tt
  names_of_lives m place store (life ∷ lives) (report ∷ records) are = (
    record {
      journal = are.0.legal.interleaved.named;
      reads =
          All-weaker (λ (line : ReadLine Reply). IsLegalRead m place store life report.journal line) (λ (line : ReadLine Reply). Names life line.client line.command) (λ line legal. legal.named) report.reads are.0.legal.legal_reads;
    },
    names_of_lives m (place + report.kept) (store_at m store life report.journal report.kept) lives records are.1,
  )
  names_of_lives m place store _ _ are = absurd are
