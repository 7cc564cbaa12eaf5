-- The sum of the documents that are integers, pair by pair.
use Rattle.std.proofs.Common.{◌≡◌, ℕ, ◌+ℤ◌, List, [], ◌∷◌, ◌++◌, arith}
use Rattle.std.proofs.lemmas.Int.{ints}
use Rattle.doc_text.specs.Summary.{integer_sum, document_number}

pub integer_sum-push : (triples : List ((List ℕ × List ℕ) × ℕ)) (triple : (List ℕ × List ℕ) × ℕ)
    → integer_sum (triples ++ triple ∷ []) ≡ integer_sum triples +ℤ document_number triple
integer_sum-push [] triple = omega (arith, ints)
integer_sum-push (t ∷ triples) triple = omega (arith, ints, integer_sum-push triples triple)
