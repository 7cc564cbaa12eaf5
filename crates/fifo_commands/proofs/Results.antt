-- The bases of lives have the results of the lives before them.
use Rattle.std.proofs.Common.{◌≡◌, ◌==◌, ◌+◌, ℕ, zero, suc, Bool, true, false, cond, List, [], ◌∷◌, ◌++◌, length, map, take, replicate, Option, None, Some, IsSome, IfSome, refl, sym, ap, ap₂, subst, ◌∙◌, arith, append_assoc, append-nil, length-append}
use Rattle.std.specs.List.{cons_option, filter, slice_get}
use Rattle.std.proofs.lemmas.Option.{none-some, same_Some}
use Rattle.cx_core.specs.declared.entry.Base.{Base}
use Rattle.table_invariant.specs.Ending.{Ending}
use Rattle.cx_lives.proofs.Lists.{all_at}
use Rattle.cx_lives.specs.Lives.{AreToldFrom, LifeEnd}
use Rattle.life_records.specs.Begins.{Begun, begun_after, nothing_begun, results_after, with_result, words_to}
use Rattle.life_records.specs.Lives.{ops_of, store_after_all, store_at}
use Rattle.life_records.specs.Records.{JournalLine, Life}
use Rattle.life_records.specs.Scripts.{named_op}
use Rattle.fifo_object.specs.Queue.{Queue, reply_to}
use Rattle.fifo_object.specs.Words.{reply_words}
use Rattle.fifo_object.specs.declared.operations.FifoOp.{FifoOp}
use Rattle.fifo_object.specs.declared.operations.FifoReply.{FifoReply}
use Rattle.fifo_object.specs.Fifo.{IsFifo, fifo_reads, fifo_step}
use Rattle.fifo_object.specs.FifoMeaning.{fifo_meaning}
use Rattle.fifo_commands.specs.FifoLives.{AreFifoLivesFrom, IsFifoLife, queue_at, uncut}
use Rattle.fifo_commands.specs.Leaving.{with_no_stops}
use Rattle.fifo_commands.specs.declared.record.FifoLife.{FifoLife}
use Rattle.fifo_commands.specs.declared.record.FifoRecord.{FifoRecord}
use Rattle.fifo_commands.proofs.Plainly.{after_is}
use Rattle.fifo_commands.specs.Results.{HasResultsOf, kept_of, last_words, words_of_reply}
use Rattle.fifo_commands.specs.Runs.{HaveFifoLived}
use Rattle.fifo_commands.specs.declared.runs.FifoLived.{FifoLived}

-- ---- the entries of one life

abbrev mine : ℕ → List (JournalLine FifoReply) → List (JournalLine FifoReply)
mine client journal = filter (λ line. client == line.client) journal

-- each entry has the reply to its command
abbrev HasEachReply : ℕ → Queue → Life FifoOp → List (JournalLine FifoReply) → Type 0
HasEachReply lines store life journal = (k : ℕ) (line : JournalLine FifoReply) → slice_get journal k ≡ Some line →
    words_of_reply line.reply ≡ words_to (fifo_meaning lines) (store_at (fifo_meaning lines) store life journal k) (named_op life line.client line.command)

-- a number and words, and the same with entries more
abbrev result : ℕ → List ℕ → ℕ × List ℕ
result n words = (n, words)

abbrev with_more : ℕ × List ℕ → List (JournalLine FifoReply) → ℕ × List ℕ
with_more before journal = result (before.0 + length journal) (last_words before.1 journal)

none_more : (before : ℕ × List ℕ) → before ≡ with_more before []
none_more before = (let same : before.0 ≡ before.0 + 0 = omega arith in ap (λ n. result n before.1) same)

one_more : (b : Bool) (before : ℕ × List ℕ) (words : List ℕ) (line : JournalLine FifoReply) (rest : List (JournalLine FifoReply)) → words_of_reply line.reply ≡ words →
    with_more (cond b (result (before.0 + 1) words) before) rest ≡ with_more before (cond b (line ∷ rest) rest)
one_more true before words line rest same =
    let counted : before.0 + 1 + length rest ≡ before.0 + suc (length rest) = omega arith in
    ap₂ (λ n ws. result n (last_words ws rest)) counted (sym same)
one_more false before words line rest same = refl

store_on : (lines : ℕ) (store : Queue) (o : Option FifoOp) (ops : List FifoOp) → store_after_all (fifo_meaning lines) store (cons_option o ops) ≡ store_after_all (fifo_meaning lines) (store_after_all (fifo_meaning lines) store (cons_option o [])) ops
store_on lines store None ops = refl
store_on lines store (Some op) ops = refl

results_are : (lines : ℕ) (store : Queue) (life : Life FifoOp) (n : ℕ) (journal : List (JournalLine FifoReply)) (results : ℕ → ℕ × List ℕ) (client : ℕ) → HasEachReply lines store life journal →
    results_after (fifo_meaning lines) store life (take n journal) results client ≡ with_more (results client) (mine client (take n journal))
results_are lines store life zero journal results client each = none_more (results client)
results_are lines store life (suc n) [] results client each = none_more (results client)
results_are lines store life (suc n) (line ∷ journal) results client each =
    let m = fifo_meaning lines in
    results_are lines (store_after_all m store (ops_of life (line ∷ []))) life n journal (with_result m store life line results) client
    (λ k l at. each (suc k) l at ∙ ap (λ s. words_to m s (named_op life l.client l.command)) (store_on lines store (named_op life line.client line.command) (ops_of life (take k journal))))
    ∙ one_more (client == line.client) (results client) (words_to m store (named_op life line.client line.command)) line (mine client (take n journal)) (each 0 line refl)

-- the reply of an entry of a legal life
reply_is : (lines : ℕ) (store queue : Queue) (o : Option FifoOp) (reply : Option FifoReply) → store ≡ queue → IsSome o → IsSome reply → IfSome reply (λ r. IfSome o (λ op. r ≡ reply_to lines queue op)) →
    words_of_reply reply ≡ words_to (fifo_meaning lines) store o
reply_is lines store queue (Some op) (Some r) same named replied has = ap reply_words (has ∙ ap (λ q. reply_to lines q op) (sym same))
reply_is lines store queue None reply same named replied has = (let no : false ≡ true = named in cc)
reply_is lines store queue (Some op) None same named replied has = (let no : false ≡ true = replied in cc)

each_reply : (lines place : ℕ) (store queue : Queue) (life : FifoLife) (report : FifoRecord) → store ≡ queue → IsFifoLife lines place queue life report → HasEachReply lines store (uncut life) report.journal
each_reply lines place store queue life report same is k line at =
    reply_is lines (store_at (fifo_meaning lines) store (uncut life) report.journal k) (queue_at lines queue life report.journal k) (named_op (uncut life) line.client line.command) line.reply
    (ap (λ s. store_at (fifo_meaning lines) s (uncut life) report.journal k) same ∙ after_is lines queue (ops_of (uncut life) (take k report.journal)))
    (all_at (λ (l : JournalLine FifoReply). IsSome (named_op (uncut life) l.client l.command)) report.journal k line (λ i d within. (is.interleaved.named i d within).there) at)
    (all_at (λ (l : JournalLine FifoReply). IsSome l.reply) report.journal k line is.answered.replies at)
    (is.replies k line at)

-- ---- the entries of lives

kept_more : (client : ℕ) (before : List FifoRecord) (report : FifoRecord) → kept_of client (before ++ report ∷ []) ≡ kept_of client before ++ mine client (take report.kept report.journal)
kept_more client [] report = append-nil (mine client (take report.kept report.journal))
kept_more client (first ∷ before) report =
    ap (λ ls. mine client (take first.kept first.journal) ++ ls) (kept_more client before report)
    ∙ sym (append_assoc (mine client (take first.kept first.journal)) (kept_of client before) (mine client (take report.kept report.journal)))

last_more : (words : List ℕ) (a b : List (JournalLine FifoReply)) → last_words (last_words words a) b ≡ last_words words (a ++ b)
last_more words [] b = refl
last_more words (line ∷ a) b = last_more (words_of_reply line.reply) a b

abbrev result_of : ℕ → List FifoRecord → ℕ × List ℕ
result_of client records = result (length (kept_of client records)) (last_words (replicate 144 0) (kept_of client records))

result_more : (client : ℕ) (before : List FifoRecord) (report : FifoRecord) → with_more (result_of client before) (mine client (take report.kept report.journal)) ≡ result_of client (before ++ report ∷ [])
result_more client before report =
    let own = mine client (take report.kept report.journal) in
    ap₂ result (sym (length-append (kept_of client before) own)) (last_more (replicate 144 0) (kept_of client before) own)
    ∙ ap (λ ls. result (length ls) (last_words (replicate 144 0) ls)) (sym (kept_more client before report))

results_from : (lines place : ℕ) (queue : Queue) (before : List FifoRecord) (begun : Begun Queue) (base : Base) (lives : List FifoLife) (records : List FifoRecord) (trails : List Ending) (ends : List LifeEnd) →
    AreFifoLivesFrom lines place queue lives records → AreToldFrom (fifo_meaning lines) lines 16 (IsFifo lines) (fifo_step lines) fifo_reads begun base (map uncut lives) (map with_no_stops records) trails ends →
    begun.store ≡ queue → ((client : ℕ) → begun.results client ≡ result_of client before) → (i : ℕ) (trail : Ending) → slice_get trails i ≡ Some trail → HasResultsOf (before ++ take i records) trail.base
results_from lines place queue before begun base [] [] [] ends are are_told same results i trail at = absurd (none-some trail at)
results_from lines place queue before begun base [] [] (first ∷ trails) ends are are_told same results i trail at = absurd are_told
results_from lines place queue before begun base [] (one ∷ records) trails ends are are_told same results i trail at = absurd are
results_from lines place queue before begun base (life ∷ lives) [] trails ends are are_told same results i trail at = absurd are
results_from lines place queue before begun base (life ∷ lives) (one ∷ records) [] ends are are_told same results i trail at = absurd are_told
results_from lines place queue before begun base (life ∷ lives) (one ∷ records) (first ∷ trails) [] are are_told same results i trail at = absurd are_told
results_from lines place queue before begun base (life ∷ lives) (one ∷ records) (first ∷ trails) (end_ ∷ ends) are are_told same results zero trail at =
    let is = are_told.0.based in
    subst (λ (t : Ending). HasResultsOf (before ++ []) t.base) (same_Some first trail at)
    (subst (λ rs. HasResultsOf rs first.base) (sym (append-nil before)) (record {
      numbers = λ client below. is.numbers client below ∙ ap (λ (r : ℕ × List ℕ). r.0) (results client);
      replies = λ client below. is.replies client below ∙ ap (λ (r : ℕ × List ℕ). r.1) (results client);
    }))
results_from lines place queue before begun base (life ∷ lives) (one ∷ records) (first ∷ trails) (end_ ∷ ends) are are_told same results (suc i) trail at =
    let m = fifo_meaning lines in
    subst (λ rs. HasResultsOf rs trail.base) (append_assoc before (one ∷ []) (take i records))
    (results_from lines (place + one.kept) (queue_at lines queue life one.journal one.kept) (before ++ one ∷ []) (begun_after m begun (uncut life) one.journal one.kept) end_.next lives records trails ends are.1 are_told.1
    (ap (λ s. store_at m s (uncut life) one.journal one.kept) same ∙ after_is lines queue (ops_of (uncut life) (take one.kept one.journal)))
    (λ client. results_are lines begun.store (uncut life) one.kept one.journal begun.results client (each_reply lines place begun.store queue life one same are.0)
    ∙ ap (λ (r : ℕ × List ℕ). with_more r (mine client (take one.kept one.journal))) (results client)
    ∙ result_more client before one)
    i trail at)

pub have_results : (lines : ℕ) (lives : List FifoLife) (lived : FifoLived) → HaveFifoLived lines lives lived → (i : ℕ) (trail : Ending) → slice_get lived.trails i ≡ Some trail → HasResultsOf (take i lived.records) trail.base
have_results lines lives lived have i trail at =
    results_from lines 0 [] [] (nothing_begun (fifo_meaning lines)) have.witness.first lives lived.records lived.trails have.witness.ends have.legal have.witness.each refl (λ client. refl) i trail at
