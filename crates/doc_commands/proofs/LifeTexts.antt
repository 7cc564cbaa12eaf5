-- Lives are read off their report.
use Rattle.std.proofs.Common.{◌≡◌, ◌≢◌, ℕ, suc, ◌+◌, ◌-◌, ◌≤◌, Bool, true, false, not, eqb, List, [], ◌∷◌, ◌++◌, length, take, map, get_or, All, flat_map, codes, Option, None, Some, IsSome, is_some, sym, ap, ◌∙◌, subst, refl, inl, inr, arith, lit≤, lit<, append_assoc}
use Rattle.std.specs.Fmt.{decimal}
use Rattle.std.specs.List.{cons_option}
use Rattle.std.proofs.lemmas.Bool.{cases_Bool, eqb-true, ne_eqb}
use Rattle.std.proofs.lemmas.List.{append_cancel_left, length-map}
use Rattle.std.proofs.lemmas.List.Elements.{All-nil, All-cons, All-head, All-tail}
use Rattle.std.proofs.lemmas.List.Folds.{list_any_none}
use Rattle.cx_base.specs.Store.{IsKey, IsDocument}
use Rattle.doc_model.specs.Revisions.{RevisedStore, IsRevisedStore, empty_store}
use Rattle.doc_model.specs.Meaning.{IsOp, store_after}
use Rattle.doc_model.specs.declared.operations.Op.{Op}
use Rattle.doc_model.specs.declared.operations.Reply.{Reply}
use Rattle.doc_model.proofs.AfterSteps.{IsRevisedStore-after}
use Rattle.life_records.specs.Limits.{KeepsLimits}
use Rattle.life_records.specs.Lives.{IsLegal, IsLegalLife, IsLegalRead, IsEndedEntry, HasReply, AreLivesFrom, AreLegalLives, HasNumbers, AreNumbers, has_stop, ops_of, store_after_all, store_at}
use Rattle.life_records.specs.Scripts.{named_op}
use Rattle.life_records.specs.Records.{Command, FullLine, JournalLine, Life, LifeRecord, ReadLine, Script, StopLine}
use Rattle.script_text.specs.Report.{life_text, journal_text, read_text, stop_text, full_text, power_text, record_text, records_text}
use Rattle.doc_store.specs.DocumentMeaning.{document_meaning}
use Rattle.doc_text.specs.Report.{document_wording, document_report_of}
use Rattle.plain_text.proofs.Beginnings.{BeginsWithout, same_lines}
use Rattle.plain_text.proofs.Decimals.{BeginsOutside, same_numbers}
use Rattle.script_text.proofs.EndTexts.{HasStopNumbers, HasFullNumbers, stops_read, fulls_read}
use Rattle.doc_commands.proofs.JournalTexts.{AreTold, AreTold-from_places, IsAnsweredBy, bare, named_within, same_journals, same_replies}
use Rattle.doc_commands.proofs.ReadTexts.{IsReadOff, reads_read}

-- the texts `a` to `f`, joined and then put before `x`, are the same as each of them put before what follows it
regroup : (a b c d e f x : List ℕ) → (a ++ b ++ c ++ d ++ e ++ f) ++ x ≡ a ++ (b ++ (c ++ (d ++ (e ++ (f ++ x)))))
regroup a b c d e f x = simp append_assoc

-- the first line of a record, and the one on the crash
abbrev life_of : ℕ → LifeRecord Reply → List ℕ
life_of number report = life_text number report.clients report.from

abbrev power_of : LifeRecord Reply → List ℕ
power_of report = power_text report.choice report.kept (length report.journal) (codes " documents ") report.items

-- the lines of a record behind those of its history, of its reads and of its stops, with what follows them
abbrev fulls_end : LifeRecord Reply → List ℕ → List ℕ
fulls_end report x = flat_map full_text report.fulls ++ (power_of report ++ x)

abbrev stops_end : LifeRecord Reply → List ℕ → List ℕ
stops_end report x = flat_map stop_text report.stops ++ fulls_end report x

abbrev reads_end : Life Op → LifeRecord Reply → List ℕ → List ℕ
reads_end life report x = flat_map (read_text document_wording life) report.reads ++ stops_end report x

-- the parts of a record's text, with what follows it
record_text-append : (number : ℕ) (life : Life Op) (report : LifeRecord Reply) (x : List ℕ)
    → record_text document_wording number life report ++ x ≡ life_of number report ++ (flat_map (journal_text document_wording life) report.journal ++ reads_end life report x)
record_text-append number life report x =
    regroup (life_of number report) (flat_map (journal_text document_wording life) report.journal) (flat_map (read_text document_wording life) report.reads)
    (flat_map stop_text report.stops) (flat_map full_text report.fulls) (power_of report) x

-- the ends of the line on the crash, with what follows it
abbrev items_end : LifeRecord Reply → List ℕ → List ℕ
items_end report x = decimal report.items ++ 10 ∷ x

abbrev entries_end : LifeRecord Reply → List ℕ → List ℕ
entries_end report x = decimal (length report.journal) ++ 32 ∷ (codes "documents " ++ items_end report x)

abbrev kept_end : LifeRecord Reply → List ℕ → List ℕ
kept_end report x = decimal report.kept ++ 32 ∷ (codes "of " ++ entries_end report x)

power_text-append : (report : LifeRecord Reply) (x : List ℕ)
    → power_of report ++ x ≡ codes "power " ++ (decimal report.choice ++ 32 ∷ (codes "kept " ++ kept_end report x))
power_text-append report x = simp append_assoc

life_text-is : (number : ℕ) (a b : LifeRecord Reply) → a.clients ≡ b.clients → a.from ≡ b.from → life_of number a ≡ life_of number b
life_text-is number a b clients from =
    ap (λ n. codes "life " ++ decimal number ++ codes " clients " ++ decimal n ++ codes " from " ++ decimal a.from ++ codes "\n") clients
    ∙ ap (λ n. codes "life " ++ decimal number ++ codes " clients " ++ decimal b.clients ++ codes " from " ++ decimal n ++ codes "\n") from

-- ---- what follows lines of a kind

after_fulls : (b : ℕ) (fulls : List FullLine) (report : LifeRecord Reply) (x : List ℕ) → 102 ≢ b → 112 ≢ b
    → BeginsWithout b (flat_map full_text fulls ++ (power_of report ++ x))
after_fulls b [] report x no_full no_power = no_power
after_fulls b (line ∷ fulls) report x no_full no_power = no_full

after_stops : (b : ℕ) (stops : List StopLine) (report : LifeRecord Reply) (x : List ℕ) → 115 ≢ b → 102 ≢ b → 112 ≢ b
    → BeginsWithout b (flat_map stop_text stops ++ fulls_end report x)
after_stops b [] report x no_stop no_full no_power = after_fulls b report.fulls report x no_full no_power
after_stops b (line ∷ stops) report x no_stop no_full no_power = no_stop

fulls_outside : (fulls : List FullLine) (report : LifeRecord Reply) (x : List ℕ) → BeginsOutside (flat_map full_text fulls ++ (power_of report ++ x))
fulls_outside [] report x = lit≤ tt
fulls_outside (line ∷ fulls) report x = lit≤ tt

stops_outside : (stops : List StopLine) (report : LifeRecord Reply) (x : List ℕ) → BeginsOutside (flat_map stop_text stops ++ fulls_end report x)
stops_outside [] report x = fulls_outside report.fulls report x
stops_outside (line ∷ stops) report x = lit≤ tt

-- what follows a journal begins with no digit
reads_outside : (life : Life Op) (reads : List (ReadLine Reply)) (report : LifeRecord Reply) (x : List ℕ) → BeginsOutside (flat_map (read_text document_wording life) reads ++ stops_end report x)
reads_outside life [] report x = stops_outside report.stops report x
reads_outside life (line ∷ reads) report x = lit≤ tt

-- ---- what is legal of a record

abbrev AreOps : Life Op → Type 0
AreOps life = All (λ (c : Command Op). IsOp c.op) life.commands

-- what legality says of a journal's lines
AreTold-from_legal : (lines place : ℕ) (store : RevisedStore) (life : Life Op) (report : LifeRecord Reply) → IsRevisedStore store → AreOps life
    → IsLegal (document_meaning lines) place store life report → HasNumbers report → AreTold lines store life report.journal
AreTold-from_legal lines place store life report s ops legal numbers =
    AreTold-from_places lines store life report.journal s ops legal.interleaved.named numbers.journal legal.replies

-- a client was stopped in no command before the one in which its stop line says so
no_stop_before : (client command answered : ℕ) (stops : List StopLine) → All (λ line. line.client ≡ client → line.command ≡ answered + 1) stops
    → command ≤ answered → has_stop client command stops ≡ false
no_stop_before client command answered stops are before =
    list_any_none _ stops (λ k d below.
    elim (cases_Bool (eqb (get_or stops k d).client client)) [
      | inl hit ↦
          let at : (get_or stops k d).command ≡ answered + 1 = are k d below (eqb-true (get_or stops k d).client client hit) in
          rw (hit, ne_eqb (get_or stops k d).command command (λ same. omega (arith, same, at, before))) refl
      | inr miss ↦ rw miss refl
    ])

-- whether a client was answered in a command
abbrev is_answered : List StopLine → JournalLine Reply → Bool
is_answered stops line = not (has_stop line.client line.command stops)

entry_answered : (line : JournalLine Reply) (answered : ℕ) (stops : List StopLine) → All (λ stop. stop.client ≡ line.client → stop.command ≡ answered + 1) stops
    → IsEndedEntry line.client answered stops line → IsAnsweredBy (is_answered stops) line
entry_answered line answered stops are (inl (first, within, replied)) =
    rw (no_stop_before line.client line.command answered stops are within, some_is line.reply replied) refl
  where
    some_is : {X : Type 0} (o : Option X) → IsSome o → is_some o ≡ true
    some_is None some = cc
    some_is (Some x) some = refl
entry_answered line answered stops are (inr (next, none, stopped)) =
    rw (none, next, stopped) refl

-- the entries that tell a reply are those of clients that were not stopped in them
journal_answered : (lines place : ℕ) (store : RevisedStore) (life : Life Op) (report : LifeRecord Reply) → IsLegal (document_meaning lines) place store life report
    → All (IsAnsweredBy (is_answered report.stops)) report.journal
journal_answered lines place store life report legal k d below =
    let named = legal.interleaved.named k d below in
    let ended = legal.ended (get_or report.journal k d).client named.takes_part in
    entry_answered (get_or report.journal k d) ended.answered report.stops ended.stops (ended.entries k d below refl)

-- ---- stores along a journal

ops_of-bare : (life : Life Op) (journal : List (JournalLine Reply)) (n : ℕ) → ops_of life (take n (map bare journal)) ≡ ops_of life (take n journal)
ops_of-bare life (line ∷ journal) (suc n) = ap (cons_option (named_op life line.client line.command)) (ops_of-bare life journal n)
ops_of-bare life _ _ = refl

-- a read is legal beside a journal whatever the journal's replies are
bare_read : (lines place : ℕ) (store : RevisedStore) (life : Life Op) (journal : List (JournalLine Reply)) (line : ReadLine Reply)
    → IsLegalRead (document_meaning lines) place store life journal line → IsLegalRead (document_meaning lines) place store life (map bare journal) line
bare_read lines place store life journal line legal = record {
  named = legal.named;
  reads = legal.reads;
  from = legal.from;
  to = let long = length-map journal bare in omega (arith, long, legal.to);
  reply = subst (λ ops. HasReply (document_meaning lines) (store_after_all (document_meaning lines) store ops) (named_op life line.client line.command) line.reply)
      (sym (ops_of-bare life journal (line.place - place))) legal.reply;
}

reads_read_off : (lines place : ℕ) (store : RevisedStore) (life : Life Op) (report : LifeRecord Reply) → IsLegal (document_meaning lines) place store life report → HasNumbers report
    → All (IsReadOff lines place store life (map bare report.journal)) report.reads
reads_read_off lines place store life report legal numbers k d below =
    record { legal = bare_read lines place store life report.journal (get_or report.reads k d) (legal.legal_reads k d below); numbers = numbers.reads k d below }

cons_within : (o : Option Op) (ops : List Op) → ((op : Op) → o ≡ Some op → IsOp op) → All IsOp ops → All IsOp (cons_option o ops)
cons_within None ops one all = all
cons_within (Some op) ops one all = All-cons IsOp op ops (one op refl) all

ops_within : (life : Life Op) (journal : List (JournalLine Reply)) → AreOps life → All IsOp (ops_of life journal)
ops_within life [] ops = All-nil IsOp
ops_within life (line ∷ journal) ops =
    cons_within (named_op life line.client line.command) (ops_of life journal) (λ op is. named_within life line.client line.command op ops is) (ops_within life journal ops)

IsRevisedStore-after_all : (lines : ℕ) (store : RevisedStore) (ops : List Op) → IsRevisedStore store → All IsOp ops → IsRevisedStore (store_after_all (document_meaning lines) store ops)
IsRevisedStore-after_all lines store [] s all = s
IsRevisedStore-after_all lines store (op ∷ ops) s all =
    IsRevisedStore-after_all lines (store_after lines store op) ops (IsRevisedStore-after lines store op s (All-head IsOp op ops all)) (All-tail IsOp op ops all)

-- ---- records

-- the numbers in the line on the crash
same_power : (a b : LifeRecord Reply) (x y : List ℕ) → HasNumbers a → HasNumbers b
    → power_of a ++ x ≡ power_of b ++ y → (a.kept ≡ b.kept) × (a.items ≡ b.items) × (x ≡ y)
same_power a b x y fits others_fit e =
    let choice = same_numbers a.choice b.choice 32 (codes "kept " ++ kept_end a x) (codes "kept " ++ kept_end b y) fits.choice others_fit.choice (lit≤ tt)
    (append_cancel_left (codes "power ") (decimal a.choice ++ 32 ∷ (codes "kept " ++ kept_end a x)) (decimal b.choice ++ 32 ∷ (codes "kept " ++ kept_end b y))
    (sym (power_text-append a x) ∙ e ∙ power_text-append b y)) in
    let kept = same_numbers a.kept b.kept 32 (codes "of " ++ entries_end a x) (codes "of " ++ entries_end b y) fits.kept others_fit.kept (lit≤ tt)
    (append_cancel_left (codes "kept ") (kept_end a x) (kept_end b y) choice.1) in
    let entries = same_numbers (length a.journal) (length b.journal) 32 (codes "documents " ++ items_end a x) (codes "documents " ++ items_end b y)
    fits.entries others_fit.entries (lit≤ tt) (append_cancel_left (codes "of ") (entries_end a x) (entries_end b y) kept.1) in
    let items = same_numbers a.items b.items 10 x y fits.items others_fit.items (lit≤ tt)
    (append_cancel_left (codes "documents ") (items_end a x) (items_end b y) entries.1) in
    (kept.0, items.0, items.1)

same_parts : (a b : LifeRecord Reply) → a.clients ≡ b.clients → a.from ≡ b.from → a.journal ≡ b.journal → a.reads ≡ b.reads → a.stops ≡ b.stops → a.fulls ≡ b.fulls
    → a.choice ≡ b.choice → a.kept ≡ b.kept → a.items ≡ b.items → a ≡ b
same_parts a b clients from journal reads stops fulls choice kept items =
    λ i. record { clients = clients i; from = from i; journal = journal i; reads = reads i; stops = stops i; fulls = fulls i; choice = choice i; kept = kept i; items = items i }

-- two records with the same text, legal at one place with one store, are the same, and the texts behind them are the same
same_record : (number lines place : ℕ) (store : RevisedStore) (life : Life Op) (a b : LifeRecord Reply) (x y : List ℕ) → IsRevisedStore store → AreOps life
    → IsLegalLife (document_meaning lines) place store life a → IsLegalLife (document_meaning lines) place store life b → HasNumbers a → HasNumbers b
    → record_text document_wording number life a ++ x ≡ record_text document_wording number life b ++ y → (a ≡ b) × (x ≡ y)
same_record number lines place store life a b x y s ops legal other fits others_fit e =
    let clients = legal.clients ∙ sym other.clients in
    let from = legal.from ∙ sym other.from in
    let after_life = append_cancel_left (life_of number a)
    (flat_map (journal_text document_wording life) a.journal ++ reads_end life a x) (flat_map (journal_text document_wording life) b.journal ++ reads_end life b y)
    (sym (record_text-append number life a x) ∙ e ∙ record_text-append number life b y
    ∙ ap (λ t. t ++ (flat_map (journal_text document_wording life) b.journal ++ reads_end life b y)) (sym (life_text-is number a b clients from))) in
    let are_told = AreTold-from_legal lines place store life a s ops legal.legal fits in
    let others = AreTold-from_legal lines place store life b s ops other.legal others_fit in
    let journal = same_journals lines store life a.journal b.journal (reads_end life a x) (reads_end life b y)
    are_told others (reads_outside life a.reads a x) (reads_outside life b.reads b y) after_life in
    let P : List (JournalLine Reply) → Type 0 = λ j. All (IsReadOff lines place store life j) b.reads in
    let reads = same_lines (read_text document_wording life) 114 (IsReadOff lines place store life (map bare a.journal)) (reads_read lines place store life (map bare a.journal))
    a.reads b.reads (stops_end a x) (stops_end b y)
    (reads_read_off lines place store life a legal.legal fits)
    (subst P (sym journal.0) (reads_read_off lines place store life b other.legal others_fit))
    (after_stops 114 a.stops a x (λ h. omega (arith, h)) (λ h. omega (arith, h)) (λ h. omega (arith, h)))
    (after_stops 114 b.stops b y (λ h. omega (arith, h)) (λ h. omega (arith, h)) (λ h. omega (arith, h))) journal.1 in
    let stops = same_lines stop_text 115 HasStopNumbers stops_read a.stops b.stops (fulls_end a x) (fulls_end b y) fits.stops others_fit.stops
    (after_fulls 115 a.fulls a x (λ h. omega (arith, h)) (λ h. omega (arith, h)))
    (after_fulls 115 b.fulls b y (λ h. omega (arith, h)) (λ h. omega (arith, h))) reads.1 in
    let fulls = same_lines full_text 102 HasFullNumbers fulls_read a.fulls b.fulls (power_of a ++ x) (power_of b ++ y) fits.fulls others_fit.fulls
    (λ h. omega (arith, h)) (λ h. omega (arith, h)) stops.1 in
    let power = same_power a b x y fits others_fit fulls.1 in
    let Q : List StopLine → Type 0 = λ l. All (IsAnsweredBy (is_answered l)) b.journal in
    let same_journal : a.journal ≡ b.journal =
    same_replies lines store life (is_answered a.stops) (λ line. refl) a.journal b.journal are_told others
    (journal_answered lines place store life a legal.legal)
    (subst Q (sym stops.0) (journal_answered lines place store life b other.legal)) journal.0 in
    (same_parts a b clients from same_journal reads.0 stops.0 fulls.0 (legal.choice ∙ sym other.choice) power.0 power.1, power.2)

-- lives of which the first begins at one place with one store
same_lives : (number lines place : ℕ) (store : RevisedStore) (lives : List (Life Op)) (a b : List (LifeRecord Reply)) → IsRevisedStore store → All AreOps lives
    → AreLivesFrom (document_meaning lines) place store lives a → AreLivesFrom (document_meaning lines) place store lives b → AreNumbers a → AreNumbers b
    → records_text document_wording number lives a ≡ records_text document_wording number lives b → a ≡ b
same_lives number lines place store [] [] [] s ops legal others fits others_fit e = refl
same_lives number lines place store [] (report ∷ a) b s ops legal others fits others_fit e = absurd legal
same_lives number lines place store (life ∷ lives) [] b s ops legal others fits others_fit e = absurd legal
same_lives number lines place store (life ∷ lives) (report ∷ a) (other ∷ b) s ops legal others fits others_fit e =
    let own : AreOps life = All-head AreOps life lives ops in
    let found = same_record number lines place store life report other (records_text document_wording (number + 1) lives a) (records_text document_wording (number + 1) lives b) s own
    legal.0 others.0 (All-head HasNumbers report a fits) (All-head HasNumbers other b others_fit) e in
    let P : LifeRecord Reply → Type 0 = λ r. AreLivesFrom (document_meaning lines) (place + r.kept) (store_at (document_meaning lines) store life r.journal r.kept) lives b in
    let first : report ≡ other = found.0 in
    let next : IsRevisedStore (store_at (document_meaning lines) store life report.journal report.kept) =
    IsRevisedStore-after_all lines store (ops_of life (take report.kept report.journal)) s (ops_within life (take report.kept report.journal) own) in
    let rest : a ≡ b = same_lives (number + 1) lines (place + report.kept) (store_at (document_meaning lines) store life report.journal report.kept) lives a b
    next (All-tail AreOps life lives ops)
    legal.1 (subst P (sym found.0) others.1) (All-tail HasNumbers report a fits) (All-tail HasNumbers other b others_fit) found.1 in
    cc
same_lives number lines place store _ _ b s ops legal others fits others_fit e = absurd others

-- the store before the first life
nothing_written : IsRevisedStore empty_store
nothing_written = record {
  pairs = record { rising = tt; keys = All-nil (λ (p : List ℕ × List ℕ). IsKey p.0); documents = All-nil (λ (p : List ℕ × List ℕ). IsDocument p.1) };
  fits = lit< tt;
  given = All-nil (λ (t : (List ℕ × List ℕ) × ℕ). (1 ≤ t.1) × (t.1 ≤ 0));
}

-- the lives of a script are read off its report
pub same_reports : (script : Script Op) (a b : List (LifeRecord Reply)) → KeepsLimits IsOp 8 script
    → AreLegalLives (document_meaning script.lines) script a → AreLegalLives (document_meaning script.lines) script b → AreNumbers a → AreNumbers b → document_report_of script a ≡ document_report_of script b → a ≡ b
same_reports script a b limits legal others fits others_fit e =
    same_lives 0 script.lines 0 empty_store script.lives a b nothing_written
    (λ k d below i c within. ((limits.each k d below).commands i c within).op) legal others fits others_fit e
