-- What was read or written so far, piece by piece.
use Rattle.std.proofs.Common.{◌≡◌, ◌∙◌, sym, ap, subst, ℕ, ◌+◌, ◌≤◌, List, ◌++◌, length, take, drop, arith, Option, Some, None, IfSome, append_assoc}
use Rattle.std.proofs.lemmas.List.{length-append, length-take-le, length-drop}
use Rattle.std.proofs.Math.Seq.{take-add}
use Rattle.std.proofs.lemmas.List.{drop-drop}
use Rattle.cx_base.specs.Outside.{Took}
use Rattle.cx_program.specs.Input.{Moves, Moved}

-- `bytes` are the front of all bytes, and the rest of them is left
pub record IsFront (all : List ℕ) (left : Option (List ℕ)) (bytes : List ℕ) : Type 0 where
  pub front : bytes ≡ take (length bytes) all
  pub rest : left ≡ Some (drop (length bytes) all)
  pub within : length bytes ≤ length all

-- these bytes were read: where it is known what the source had, they are its front, and the rest is left
abbrev pub HasRead : Option (List ℕ) → Option (List ℕ) → List ℕ → Type 0
HasRead given left bytes = IfSome given (λ all. IsFront all left bytes)

-- one more piece was read
front-more : (all : List ℕ) (n : ℕ) (bytes longer : List ℕ) (left after : Option (List ℕ)) → IsFront all left bytes → Moves n (drop (length bytes) all) bytes longer after → IsFront all after longer
front-more all n bytes longer left after front moves =
    let read : length (take n (drop (length bytes) all)) ≡ n = length-take-le n (drop (length bytes) all) moves.enough in
    let len : length longer ≡ length bytes + n = ap length moves.read ∙ (length-append bytes (take n (drop (length bytes) all)) ∙ ap (λ (k : ℕ). length bytes + k) read) in
    record {
      front =
          moves.read ∙ (ap (λ (xs : List ℕ). xs ++ take n (drop (length bytes) all)) front.front
          ∙ (sym (take-add (length bytes) n all) ∙ ap (λ (k : ℕ). take k all) (sym len)));
      rest = moves.left ∙ ap Some (drop-drop n (length bytes) all ∙ ap (λ (k : ℕ). drop k all) (sym len));
      within = omega (arith, len, moves.enough, length-drop (length bytes) all, front.within);
    }

pub read-more : (given left after : Option (List ℕ)) (n : ℕ) (bytes longer : List ℕ) → HasRead given left bytes → Moved n left bytes longer after → HasRead given after longer
read-more None left after n bytes longer read moves = tt
read-more (Some all) left after n bytes longer read moves =
    front-more all n bytes longer left after read
    (subst (λ (o : Option (List ℕ)). IfSome o (λ rest. Moves n rest bytes longer after)) read.rest moves)

-- the first n bytes of a text were written
abbrev pub HasWritten : ℕ → List ℕ → Option (List ℕ) → Option (List ℕ) → Type 0
HasWritten n text before after = IfSome before (λ written. after ≡ Some (written ++ take n text))

-- one more piece was written
pub written-more : (text : List ℕ) (at n : ℕ) (before now after : Option (List ℕ)) → HasWritten at text before now → Took n (drop at text) now after → HasWritten (at + n) text before after
written-more text at n None now after written took = tt
written-more text at n (Some first) now after written took =
    let took' : after ≡ Some ((first ++ take at text) ++ take n (drop at text)) = subst (λ (o : Option (List ℕ)). IfSome o (λ w. after ≡ Some (w ++ take n (drop at text)))) written took in
    took' ∙ ap Some (append_assoc first (take at text) (take n (drop at text)) ∙ ap (λ (xs : List ℕ). first ++ xs) (sym (take-add at n text)))
