use Rattle.std.proofs.Common.{◌≡◌, ◌+◌, ◌-◌, ◌<◌, ◌∷◌, ◌++◌, ℕ, zero, suc, List, [], length, get_or, take, drop, sym, ap, ◌∙◌, arith, length-drop}
use Rattle.std.proofs.lemmas.List.{take_more, get_or-drop}
use mathlib.Core.Option.{some, some-injective, some-ne-none}
use lib.ListN.{get_elem?}
use Rattle.caller_cache.proofs.at_close.copy_words.Goals as goal

within : {A : Type 0} (xs : List A) (i : ℕ) (x : A) → get_elem? xs i ≡ some x → i < length xs
within [] i x at = absurd (some-ne-none x (sym at))
within (y ∷ ys) zero x at = omega arith
within (y ∷ ys) (suc i) x at = let b = within ys i x at in omega arith

read : {A : Type 0} (xs : List A) (i : ℕ) (x : A) → get_elem? xs i ≡ some x → get_or xs i x ≡ x
read [] i x at = absurd (some-ne-none x (sym at))
read (y ∷ ys) zero x at = some-injective y x at
read (y ∷ ys) (suc i) x at = read ys i x at

-- one word more of a part of a list
one_more : (xs : List ℕ) (from i x : ℕ) → get_elem? xs (from + i) ≡ some x → take (i + 1) (drop from xs) ≡ take i (drop from xs) ++ x ∷ []
one_more xs from i x at =
    let below : i < length (drop from xs) = omega (arith, length-drop from xs, within xs (from + i) x at) in
    take_more (drop from xs) i x below ∙ ap (λ y. take i (drop from xs) ++ y ∷ []) (get_or-drop from xs i x ∙ read xs (from + i) x at)

pub loop-i-preserved : goal.loop-i-preserved
loop-i-preserved c = record {
  room = omega (arith, c.push_reserved.ensures.capacity, c.loop-i.invariant.room);
  long = omega (arith, c.push_reserved.ensures.len, c.loop-i.invariant.long);
  so_far = c.push_reserved.ensures.items ∙ ap (λ ws. ws ++ c.word.result ∷ []) c.loop-i.invariant.so_far ∙ sym (one_more c.args.closed.now.words.items c.args.from c.loop-i.i c.word.result c.word.ensures);
}

part : (xs : List ℕ) (from i count : ℕ) → i ≡ count → take i (drop from xs) ≡ take (from + count - from) (drop from xs)
part xs from i count e = let n : i ≡ from + count - from = omega arith in ap (λ k. take k (drop from xs)) n

pub returns : goal.returns
returns c = c.loop-i.invariant.so_far ∙ part c.args.closed.now.words.items c.args.from c.loop-i.i c.args.count (omega (arith, c.loop-i-test.false, c.loop-i.auto))
