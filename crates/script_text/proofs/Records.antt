-- The text of records, one record after another.
use Rattle.std.proofs.Common.{◌≡◌, ℕ, zero, suc, ◌+◌, ◌<◌, ◌≤◌, List, [], ◌∷◌, ◌++◌, length, get_or, take, sym, ap, ◌∙◌, refl, arith, append_assoc, add-zero, add-one}
use Rattle.std.proofs.lemmas.List.{append-nil, take_all}
use Rattle.life_records.specs.Records.{Life, LifeRecord}
use Rattle.life_records.specs.Lives.{NameCommands, NamesCommands}
use Rattle.script_text.specs.Report.{Wording, record_text, records_text}

module _ {Op Reply : Type 0} where
  -- there are as many records as lives
  pub length-lives : (lives : List (Life Op)) (records : List (LifeRecord Reply)) → NameCommands lives records → length lives ≡ length records
  length-lives [] [] named = refl
  length-lives (life ∷ lives) (report ∷ records) named = ap suc (length-lives lives records named.1)
  length-lives _ _ named = absurd named

  -- the lines of each record name commands of its life
  pub NamesCommands_at : (lives : List (Life Op)) (records : List (LifeRecord Reply)) (n : ℕ) (d : Life Op) (e : LifeRecord Reply)
      → NameCommands lives records → n < length records → NamesCommands (get_or lives n d) (get_or records n e)
  NamesCommands_at [] [] n d e named below = absurd (omega arith)
  NamesCommands_at (life ∷ lives) (report ∷ records) zero d e named below = named.0
  NamesCommands_at (life ∷ lives) (report ∷ records) (suc n) d e named below = NamesCommands_at lives records n d e named.1 (omega arith)
  NamesCommands_at _ _ n d e named below = absurd named

  -- the text of one record more
  records_text-take_suc : (w : Wording Op Reply) (number : ℕ) (lives : List (Life Op)) (records : List (LifeRecord Reply)) (n : ℕ) (d : Life Op) (e : LifeRecord Reply)
      → NameCommands lives records → n < length records
      → records_text w number (take (suc n) lives) (take (suc n) records)
      ≡ records_text w number (take n lives) (take n records) ++ record_text w (number + n) (get_or lives n d) (get_or records n e)
  records_text-take_suc w number [] [] n d e named below = absurd (omega arith)
  records_text-take_suc w number (life ∷ lives) (report ∷ records) zero d e named below =
      append-nil (record_text w number life report) ∙ ap (λ m. record_text w m life report) (sym (add-zero number))
  records_text-take_suc w number (life ∷ lives) (report ∷ records) (suc n) d e named below =
      let below' : n < length records = omega arith in
      let same : number + 1 + n ≡ number + suc n = omega arith in
      ap (λ text. record_text w number life report ++ text) (records_text-take_suc w (number + 1) lives records n d e named.1 below')
      ∙ sym (append_assoc (record_text w number life report) (records_text w (number + 1) (take n lives) (take n records)) (record_text w (number + 1 + n) (get_or lives n d) (get_or records n e)))
      ∙ ap (λ m. record_text w number life report ++ records_text w (number + 1) (take n lives) (take n records) ++ record_text w m (get_or lives n d) (get_or records n e)) same
  records_text-take_suc w number _ _ n d e named below = absurd named

  pub records_text-more : (w : Wording Op Reply) (lives : List (Life Op)) (records : List (LifeRecord Reply)) (n : ℕ) (d : Life Op) (e : LifeRecord Reply)
      → NameCommands lives records → n < length records
      → records_text w 0 (take (n + 1) lives) (take (n + 1) records)
      ≡ records_text w 0 (take n lives) (take n records) ++ record_text w n (get_or lives n d) (get_or records n e)
  records_text-more w lives records n d e named below =
      let from_zero : 0 + n ≡ n = omega arith in
      rw add-one (records_text-take_suc w 0 lives records n d e named below
      ∙ ap (λ m. records_text w 0 (take n lives) (take n records) ++ record_text w m (get_or lives n d) (get_or records n e)) from_zero)

  -- the text of all records
  pub records_text-all : (w : Wording Op Reply) (lives : List (Life Op)) (records : List (LifeRecord Reply)) (n : ℕ)
      → NameCommands lives records → length records ≤ n
      → records_text w 0 (take n lives) (take n records) ≡ records_text w 0 lives records
  records_text-all w lives records n named all =
      let same = length-lives lives records named in
      let enough : length lives ≤ n = omega arith in
      rw (take_all n lives enough, take_all n records all)

  -- a step of the loop that goes through records: this record's text is put at the end
  pub records_text-step : (w : Wording Op Reply) (lives : List (Life Op)) (records : List (LifeRecord Reply)) (n : ℕ) (life indexed : Life Op) (report : LifeRecord Reply) (before after : List ℕ)
      → NameCommands lives records → n < length records → life ≡ get_or lives n life → report ≡ get_or records n report → indexed ≡ life
      → before ≡ records_text w 0 (take n lives) (take n records) → after ≡ before ++ record_text w n indexed report
      → after ≡ records_text w 0 (take (n + 1) lives) (take (n + 1) records)
  records_text-step w lives records n life indexed report before after named below life_is report_is same so_far written =
      written ∙ ap (λ text. text ++ record_text w n indexed report) so_far
      ∙ ap (λ l. records_text w 0 (take n lives) (take n records) ++ record_text w n l report) (same ∙ life_is)
      ∙ ap (λ t. records_text w 0 (take n lives) (take n records) ++ record_text w n (get_or lives n life) t) report_is
      ∙ sym (records_text-more w lives records n life report named below)
