-- The result of a load as text.
use Rattle.std.specs.Prelude.{ℕ, ℤ, pos, ◌+ℤ◌, List, [], ◌∷◌, ◌++◌, length, codes, unwrap_or}
use Rattle.std.specs.Fmt.{decimal, signed_decimal}
use Rattle.plain_text.specs.Number.{integer_of}
use Rattle.doc_model.specs.declared.operations.Reply.{Reply}
use Rattle.life_records.specs.declared.record.LifeRecord.{LifeRecord}

-- the 64-bit integer that the document of a triple is, and 0 where it is none
abbrev pub document_number : (List ℕ × List ℕ) × ℕ → ℤ
document_number triple = unwrap_or (integer_of triple.0.1) (pos 0)

-- the sum of the documents that are integers
abbrev pub integer_sum : List ((List ℕ × List ℕ) × ℕ) → ℤ
integer_sum [] = pos 0
integer_sum (triple ∷ triples) = document_number triple +ℤ integer_sum triples

-- the four lines on a life that left a store of these triples
abbrev pub summary_text : LifeRecord Reply → List ((List ℕ × List ℕ) × ℕ) → List ℕ
summary_text life triples =
    codes "clients " ++ decimal life.clients ++ codes "\nupdates " ++ decimal (length life.journal)
    ++ codes "\ndocuments " ++ decimal (length triples) ++ codes "\nsum " ++ signed_decimal (integer_sum triples) ++ codes "\n"
