-- The lists that a caller of its own would have, with one call more.
use Rattle.std.proofs.Common.{◌≡◌, ◌∙◌, ◌+◌, ℕ, List, [], ◌∷◌, ◌++◌, ap, arith, length, map, refl}
use Rattle.std.proofs.lemmas.List.{length-map, map-append}
use Rattle.cx_core.specs.declared.local.Answer.{Answer}
use Rattle.cx_core.specs.declared.local.SeenRead.{SeenRead}
use Rattle.cx_lives.specs.Calls.{LinksEntryAt, one_read}
use Rattle.cx_attempts.specs.Answering.{with_answer}
use Rattle.cx_attempts.specs.declared.lookup.Seen.{Seen}
use Rattle.seat_pool.specs.declared.hand.AnsweredCall.{AnsweredCall}
use Rattle.client_pool.proofs.Calling.{entries_more, entries_same}
use Rattle.client_pool.specs.Clients.{entries_called}
use Rattle.client_pool.specs.declared.call.Call.{Call}
use Rattle.client_pool.specs.declared.call.Call.TheVariants.{Entry, Look}
use Rattle.pool_lives.specs.Ghosts.{answer_of, as_own, local_of, locals_from, seen_from}

seen_same : (before : ℕ) (calls : List Call) (answered : AnsweredCall) → seen_from before (calls ++ Entry answered ∷ []) ≡ seen_from before calls
seen_same before [] answered = refl
seen_same before (Entry t ∷ calls) answered = seen_same (before + 1) calls answered
seen_same before (Look x ∷ calls) answered = ap (λ (xs : List SeenRead). record { place = x.place; op = x.op; reply = x.reply; before = before } ∷ xs) (seen_same before calls answered)

abbrev seen_of : ℕ → List ℕ → List ℕ → ℕ → SeenRead
seen_of place op reply before = record { place = place; op = op; reply = reply; before = before }

seen_more : (before : ℕ) (calls : List Call) (read : SeenRead) → seen_from before (calls ++ Look read ∷ []) ≡ seen_from before calls ++ seen_of read.place read.op read.reply (before + length (entries_called calls)) ∷ []
seen_more before [] read = (let same : before ≡ before + 0 = omega arith in ap (λ n. seen_of read.place read.op read.reply n ∷ []) same)
seen_more before (Entry t ∷ calls) read =
    let same : before + 1 + length (entries_called calls) ≡ before + length (t ∷ entries_called calls) = omega arith in
    seen_more (before + 1) calls read ∙ ap (λ n. seen_from (before + 1) calls ++ seen_of read.place read.op read.reply n ∷ []) same
seen_more before (Look x ∷ calls) read = ap (λ (xs : List SeenRead). seen_of x.place x.op x.reply before ∷ xs) (seen_more before calls read)

module _ (client : ℕ) (calls : List Call) where
  pub even : length (local_of client calls).own ≡ length (local_of client calls).answered
  even = omega (arith, length-map (entries_called calls) (as_own client), length-map (entries_called calls) answer_of)

  pub own_long : length (local_of client calls).own ≡ length (entries_called calls)
  own_long = length-map (entries_called calls) (as_own client)

  pub links : (answered : AnsweredCall) (op : List ℕ) (ticket : ℕ) → answered.entry.ticket ≡ ticket → answered.entry.entry.op ≡ op → LinksEntryAt op ticket (local_of client calls) (local_of client (calls ++ Entry answered ∷ []))
  links answered op ticket at is = record {
    number = refl;
    limit = refl;
    entry = as_own client answered;
    own = ap (map (as_own client)) (entries_more calls answered) ∙ map-append (as_own client) (entries_called calls) (answered ∷ []);
    at = at;
    by = refl;
    op_is = is;
    reads = seen_same 0 calls answered;
  }

  pub answers : (answered : AnsweredCall) (answer : Answer) → answered.answer ≡ answer → (local_of client (calls ++ Entry answered ∷ [])).answered ≡ with_answer answer.ticket answer.reply (local_of client calls).answered
  answers answered answer is =
      ap (map answer_of) (entries_more calls answered) ∙ map-append answer_of (entries_called calls) (answered ∷ [])
      ∙ ap (λ (a : Answer). map answer_of (entries_called calls) ++ a ∷ []) is

  pub own_still : (read : SeenRead) → (local_of client (calls ++ Look read ∷ [])).own ≡ (local_of client calls).own
  own_still read = ap (map (as_own client)) (entries_same calls read)

  pub answers_still : (read : SeenRead) → (local_of client (calls ++ Look read ∷ [])).answered ≡ (local_of client calls).answered
  answers_still read = ap (map answer_of) (entries_same calls read)

  pub sees : (read : SeenRead) (op : List ℕ) (seen : Seen) → read.place ≡ seen.place → read.op ≡ op → read.reply ≡ seen.reply → (local_of client (calls ++ Look read ∷ [])).seen_reads ≡ one_read op seen (local_of client calls)
  sees read op seen place is reply =
      let long : 0 + length (entries_called calls) ≡ length (local_of client calls).answered = omega (arith, length-map (entries_called calls) answer_of) in
      let front = seen_from 0 calls in
      seen_more 0 calls read
      ∙ ap (λ (p : ℕ). front ++ seen_of p read.op read.reply (0 + length (entries_called calls)) ∷ []) place
      ∙ ap (λ (o : List ℕ). front ++ seen_of seen.place o read.reply (0 + length (entries_called calls)) ∷ []) is
      ∙ ap (λ (w : List ℕ). front ++ seen_of seen.place op w (0 + length (entries_called calls)) ∷ []) reply
      ∙ ap (λ (n : ℕ). front ++ seen_of seen.place op seen.reply n ∷ []) long

-- with one client more, that client's lists stand behind those of the others
pub locals_more : (client : ℕ) (calls : List (List Call)) (own : List Call) → locals_from client (calls ++ own ∷ []) ≡ locals_from client calls ++ local_of (client + length calls) own ∷ []
locals_more client [] own = (let same : client ≡ client + 0 = omega arith in ap (λ n. local_of n own ∷ []) same)
locals_more client (cs ∷ calls) own =
    let same : client + 1 + length calls ≡ client + length (cs ∷ calls) = omega arith in
    ap (λ ls. local_of client cs ∷ ls) (locals_more (client + 1) calls own ∙ ap (λ n. locals_from (client + 1) calls ++ local_of n own ∷ []) same)

pub locals_long : (client : ℕ) (calls : List (List Call)) → length (locals_from client calls) ≡ length calls
locals_long client [] = refl
locals_long client (cs ∷ calls) = (let rest = locals_long (client + 1) calls in omega (arith, rest))
