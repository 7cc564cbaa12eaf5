use Rattle.std.proofs.Common.{◌≡◌, ℕ, suc, ◌+◌, ◌<◌, List, [], ◌∷◌, length, get_or, ⊎_elim, subst, arith, rules}
use Rattle.std.proofs.lemmas.Bool.{cases_lt}
use Rattle.std.proofs.lemmas.List.{get_or_read}
use Rattle.doc_model.specs.declared.operations.Op.{Op}
use Rattle.doc_model.specs.declared.operations.Reply.{Reply}
use Rattle.life_records.specs.Records.{Life, LifeRecord}
use Rattle.life_records.specs.Lives.{NameCommands, NamesCommands}
use Rattle.text_tests.proofs.named.name_commands.Goals as goal

-- where there are as many records as lives, and each record names commands of the life with its number, the records name commands of the lives
NameCommands-from_places : (lives : List (Life Op)) (records : List (LifeRecord Reply)) → length lives ≡ length records
    → ((n : ℕ) (d : Life Op) (e : LifeRecord Reply) → n < length records → NamesCommands (get_or lives n d) (get_or records n e))
    → NameCommands lives records
NameCommands-from_places [] [] same named = tt
NameCommands-from_places [] (report ∷ records) same named = absurd (omega arith)
NameCommands-from_places (life ∷ lives) [] same named = absurd (omega arith)
NameCommands-from_places (life ∷ lives) (report ∷ records) same named = (
  named 0 life report (omega arith),
  NameCommands-from_places lives records (omega arith) (λ n d e below. named (suc n) d e (omega arith)),
)

-- if the first n records name commands of the lives with their numbers, and record n does, then so do the first n + 1
at_places_more : (lives : List (Life Op)) (records : List (LifeRecord Reply)) (n : ℕ) (life : Life Op) (report : LifeRecord Reply)
    → n < length lives → n < length records → life ≡ get_or lives n life → report ≡ get_or records n report
    → ((m : ℕ) (d : Life Op) (e : LifeRecord Reply) → m < n → NamesCommands (get_or lives m d) (get_or records m e))
    → NamesCommands life report
    → (m : ℕ) (d : Life Op) (e : LifeRecord Reply) → m < n + 1 → NamesCommands (get_or lives m d) (get_or records m e)
at_places_more lives records n life report lives_have records_have life_is report_is before here m d e below =
    let P : ℕ → Type 0 = λ k. NamesCommands (get_or lives k d) (get_or records k e) in
    ⊎_elim
    (λ less. before m d e less)
    (λ least.
    let same : n ≡ m = omega (arith, least) in
    subst P same
    (subst (λ (l : Life Op). NamesCommands l (get_or records n e)) (get_or_read lives n life lives_have life_is d)
    (subst (λ (t : LifeRecord Reply). NamesCommands life t) (get_or_read records n report records_have report_is e) here)))
    (cases_lt m n)

-- once the loop has passed all records, they name commands of the lives
pub returns : goal.returns
returns c = λ _.
    NameCommands-from_places c.args.lives.now c.args.records.now c.if-lives-records.false
    (λ n d e below. c.loop-number.invariant n d e (omega (arith, c.loop-number-test.false)))

-- if each record up to number `number` names commands of the life with its number, the invariant holds for the next number
pub loop-number-preserved : goal.loop-number-preserved
loop-number-preserved c =
    at_places_more c.args.lives.now c.args.records.now c.loop-number.number c.index-lives-number.result c.index-records-number.result
    (omega arith) c.loop-number-test.true c.index-lives-number.is c.index-records-number.is c.loop-number.invariant (search rules)
