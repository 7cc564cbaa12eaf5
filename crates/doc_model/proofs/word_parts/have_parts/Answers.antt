use Rattle.std.proofs.Common.{arith}
use Rattle.std.proofs.lemmas.Bool.{both_ways}
use Rattle.doc_model.proofs.PartsHeld.{no_parts, parts_decided}
use Rattle.doc_model.proofs.word_parts.have_parts.Goals as goal
use Rattle.doc_model.proofs.word_parts.have_parts.Goals.{then-key_len-gt64-via-then-key_len-gt64, then-key_len-gt64-via-else-key_len-gt64+then-document_len-gt1024}

pub returns-then-key_len-gt64 : goal.returns-then-key_len-gt64
returns-then-key_len-gt64 c = no_parts c.args.words.now (λ p. (
    let key = p.key_short in
    let document = p.document_short in
    elim c.then-key_len-gt64.branch [
      | then-key_len-gt64-via-then-key_len-gt64 w ↦ omega arith
      | then-key_len-gt64-via-else-key_len-gt64+then-document_len-gt1024 w ↦ omega arith
    ]))

pub returns-then-not-are_zero : goal.returns-then-not-are_zero
returns-then-not-are_zero c = no_parts c.args.words.now (λ p. both_ways c.are_zero.result c.if-not-are_zero.true (c.are_zero.ensures.1 p.free))

pub returns-then-not-is_padded : goal.returns-then-not-is_padded
returns-then-not-is_padded c = no_parts c.args.words.now (λ p. both_ways c.is_padded.result c.if-not-is_padded.true (c.is_padded.ensures.1 p.key))

pub returns : goal.returns
returns c =
    let short = c.if-key_len-gt64.false in
    parts_decided c.args.words.now c.told-words c.fits-words (omega arith) (omega arith) (c.are_zero.ensures.0 c.if-not-are_zero.false) (c.is_padded.ensures.0 c.if-not-is_padded.false) c.is_padded-2.result c.is_padded-2.ensures
