use Rattle.std.proofs.Common.{rules, ◌≡◌, ◌∙◌, sym, ap, ap₂, ◌++◌, ◌<◌, ◌^◌, ℕ, suc, ◌+◌, ◌*◌, List, [], ◌∷◌, take, arith, ℤ, pos, ◌+ℤ◌, ◌≤ℤ◌, SFits, to_z, of_z, w64}
use Rattle.std.specs.Int.{w128}
use Rattle.std.proofs.Math.Seq.{take-suc}
use Rattle.std.proofs.lemmas.Int.{ints}
use Rattle.doc_text.specs.Summary.{integer_sum, document_number}
use Rattle.doc_text.proofs.Sums.{integer_sum-push}
use Rattle.doc_text.proofs.load_summary.sum_of.Goals as goal

-- one number of 64 bits more
one_more : (k : ℕ) (sum number : ℤ) → k < 2 ^ 63 → SFits w64 number → pos 0 ≤ℤ (sum +ℤ pos (2 ^ 63 * k)) → sum ≤ℤ pos (2 ^ 63 * k) → to_z w128 (of_z w128 (sum +ℤ to_z w128 (of_z w128 (to_z w64 (of_z w64 number))))) ≡ sum +ℤ number
one_more k sum number short small low high = omega (arith, ints)

pub loop-pair-preserved : goal.loop-pair-preserved
loop-pair-preserved c =
    let k : ℕ = c.loop-pair.pair-index in
    let on : k + 1 ≡ suc k = omega arith in
    let next : take (k + 1) c.args.pairs.now ≡ take k c.args.pairs.now ++ c.pair-item.result ∷ [] =
    ap (λ (n : ℕ). take n c.args.pairs.now) on ∙ take-suc c.args.pairs.now k c.pair-item.result c.loop-pair-test.true ∙ ap (λ (x : (List ℕ × List ℕ) × ℕ). take k c.args.pairs.now ++ x ∷ []) (sym c.pair-item.is) in
    let more : integer_sum (take (k + 1) c.args.pairs.now) ≡ integer_sum (take k c.args.pairs.now) +ℤ document_number c.pair-item.result =
    ap integer_sum next ∙ integer_sum-push (take k c.args.pairs.now) c.pair-item.result in
    let small : SFits w64 c.number_in.result = search rules in
    let added : to_z w128 (of_z w128 (to_z w128 c.loop-pair.sum-bits +ℤ to_z w128 (of_z w128 c.from-sum.result))) ≡ to_z w128 c.loop-pair.sum-bits +ℤ c.number_in.result =
    rw c.from-sum.ensures (one_more k (to_z w128 c.loop-pair.sum-bits) c.number_in.result (omega arith) small c.loop-pair.invariant.low c.loop-pair.invariant.high) in
    record {
      sum = added ∙ (ap₂ (λ (x y : ℤ). x +ℤ y) c.loop-pair.invariant.sum c.number_in.ensures ∙ sym more);
      low = rw added (omega (arith, ints, small, c.loop-pair.invariant.low));
      high = rw added (omega (arith, ints, small, c.loop-pair.invariant.high));
    }
