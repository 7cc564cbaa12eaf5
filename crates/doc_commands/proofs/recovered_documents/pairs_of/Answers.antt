use Rattle.std.proofs.Common.{◌≡◌, ◌∙◌, List, ℕ, ap, drop, subst, sym}
use Rattle.std.proofs.lemmas.Result.{IfOk-weaker}
use Rattle.cx_core.specs.Region.{object_part}
use Rattle.doc_store.specs.ExactStep.{IsImageOfStore}
use Rattle.index_validation.specs.Reading.{StandsForRevised, revised_in}
use Rattle.doc_commands.specs.Documents.{HaveDocuments}
use Rattle.doc_commands.proofs.recovered_documents.pairs_of.Goals as goal

pub documents-requires : goal.documents-requires
unfolding object_part
documents-requires c =
    let (lines, lawful) = c.requires.lawful in
    record { lawful = (lines, subst (IsImageOfStore lines) (sym (c.split_at.ensures.back ∙ ap (drop 1168) c.as_slice.ensures)) lawful) }

-- the triples read off the words
have : (words : List ℕ) (triples : List ((List ℕ × List ℕ) × ℕ)) → StandsForRevised words (revised_in words) → triples ≡ (revised_in words).triples → HaveDocuments words triples
have words triples stands is = (
  (revised_in words).last,
  subst (λ (ts : List ((List ℕ × List ℕ) × ℕ)). StandsForRevised words (record { last = (revised_in words).last; triples = ts })) (sym is) stands,
)

pub returns : goal.returns
unfolding object_part
returns c =
    let words : List ℕ = c.split_at.result.1.now in
    let part : words ≡ object_part c.args.base.now.words = c.split_at.ensures.back ∙ ap (drop 1168) c.as_slice.ensures in
    IfOk-weaker c.documents.result (λ pairs. pairs.items ≡ (revised_in words).triples) (λ pairs. HaveDocuments (object_part c.args.base.now.words) pairs.items)
    (λ pairs is. subst (λ (ws : List ℕ). HaveDocuments ws pairs.items) part (have words pairs.items c.documents.ensures.stands is)) c.documents.ensures.pairs
