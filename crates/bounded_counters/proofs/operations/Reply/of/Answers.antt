use Rattle.std.proofs.Common.{◌≡◌, ◌∙◌, ap, sym, true, false}
use Rattle.std.proofs.lemmas.Slice.Eq.{bytes_eq-Decides}
use Rattle.bounded_counters.specs.CounterMeaning.{reply_is_read}
use Rattle.bounded_counters.specs.Operations.{reply_in, reply_words}
use Rattle.bounded_counters.proofs.operations.Reply.of.Goals as goal

pub returns-else-eq : goal.returns-else-eq
returns-else-eq c reply any same =
    let read = c.read-reply.ensures ∙ (ap reply_in (sym same) ∙ reply_is_read reply) in
    let words = c.words.ensures ∙ (ap reply_words read ∙ same) in
    let bad : false ≡ true = c.if-eq.ensures ∙ (bytes_eq-Decides c.words.result c.args.words.now).1 words in
    cc
