-- What lines say, line by line, and the first at fault.
use Rattle.std.proofs.Common.{◌≡◌, ℕ, zero, suc, ◌+◌, ◌-◌, ◌<◌, List, [], ◌∷◌, ◌++◌, length, take, drop, slice_get, Some, Result, Ok, Err, refl, sym, ap, subst, ◌∙◌, arith}
use Rattle.std.proofs.lemmas.List.{append-nil, take-append-drop}
use Rattle.plain_text.specs.LineGrammar.{LineGrammar, AddsAll, AreLinesOf, IsTextOf, IsFirstFault, IsReasonAt, IsFault, IsOkOr, ReadsLines}
use Rattle.plain_text.specs.Lines.{text_lines}
use Rattle.plain_text.specs.declared.reader.TextFault.{TextFault}
use Rattle.plain_text.specs.declared.reader.TextFault.TheVariants.{Refused, Memory}

-- ---- the next line of a list

record Comes (lines : List (List ℕ)) (n : ℕ) (line : List ℕ) (rest : List (List ℕ)) : Type 0 where
  within : n < length lines
  taken : take (n + 1) lines ≡ take n lines ++ line ∷ []
  left : drop (n + 1) lines ≡ rest
  at : slice_get lines n ≡ Some line

comes : (n : ℕ) (lines : List (List ℕ)) (line : List ℕ) (rest : List (List ℕ)) → drop n lines ≡ line ∷ rest → Comes lines n line rest
comes zero [] line rest e = absurd cc
comes zero (first ∷ lines) line rest e =
    let same : first ≡ line = cc in
    record { within = omega arith; taken = ap (λ (l : List ℕ). l ∷ []) same; left = cc; at = ap Some same }
comes (suc n) [] line rest e = absurd cc
comes (suc n) (first ∷ lines) line rest e =
    let later = comes n lines line rest e in
    let k : suc n + 1 ≡ suc (n + 1) = omega arith in
    record {
      within = let h = later.within in omega arith;
      taken = rw k (ap (λ (ls : List (List ℕ)). first ∷ ls) later.taken);
      left = rw k later.left;
      at = later.at;
    }

-- a result is one value
pub one_value : {Said Reason : Type 0} (r : Result Said Reason) (after other : Said) → r ≡ Ok after → r ≡ Ok other → after ≡ other
one_value (Err reason) after other e f = absurd cc
one_value (Ok said) after other e f = let first : said ≡ after = cc in let second : said ≡ other = cc in sym first ∙ second

pub no_value : {Said Reason : Type 0} (r : Result Said Reason) (after : Said) (reason : Reason) → r ≡ Ok after → r ≡ Err reason → ⊥
no_value (Err found) after reason e f = absurd cc
no_value (Ok said) after reason e f = absurd cc

module _ {Said Reason : Type 0} (g : LineGrammar Said Reason) where
  -- ---- several lines

  -- lines say one thing
  same_said : (judged : Said → List ℕ → Result Said Reason) → ReadsLines g judged
      → (before : Said) (lines : List (List ℕ)) (one other : Said)
      → AddsAll g before lines one → AddsAll g before lines other → one ≡ other
  same_said judged r before [] one other e f = e ∙ sym f
  same_said judged r before (line ∷ lines) one other (between, adds, more) (between', adds', more') =
      let same : between ≡ between' =
      one_value (judged before line) between between' (r.complete before line between adds) (r.complete before line between' adds') in
      same_said judged r between' lines one other (subst (λ (s : Said). AddsAll g s lines one) same more) more'

  -- lines in two parts
  split : (before : Said) (front back : List (List ℕ)) (after : Said) → AddsAll g before (front ++ back) after
      → (between : Said) × AddsAll g before front between × AddsAll g between back after
  split before [] back after adds = (before, refl, adds)
  split before (line ∷ front) back after (next, one, more) =
      let parts = split next front back after more in (parts.0, (next, one, parts.1), parts.2)

  push : (before : Said) (lines : List (List ℕ)) (line : List ℕ) (between after : Said) → AddsAll g before lines between → g.Adds between line after
      → AddsAll g before (lines ++ line ∷ []) after
  push before [] line between after same one = (after, subst (λ (s : Said). g.Adds s line after) same one, refl)
  push before (first ∷ lines) line between after (next, adds, more) one = (next, adds, push next lines line between after more one)

  -- every front of a text's lines says something
  front_says : (lines : List (List ℕ)) (n : ℕ) (said : Said) → AreLinesOf g lines said → (front : Said) × AreLinesOf g (take n lines) front
  front_says lines n said are =
      let parts = split g.nothing (take n lines) (drop n lines) said (rw (take-append-drop n lines) are) in (parts.0, parts.1)

  -- ---- the first line at fault

  -- lines that were read, and one more that is refused
  pub fault : (judged : Said → List ℕ → Result Said Reason) → ReadsLines g judged
      → (text line : List ℕ) (rest : List (List ℕ)) (n : ℕ) (between : Said) (reason : Reason) → drop n (text_lines text) ≡ line ∷ rest
      → AreLinesOf g (take n (text_lines text)) between → judged between line ≡ Err reason
      → IsFirstFault g text (n + 1) × IsReasonAt g text (n + 1) reason
  fault judged r text line rest n between reason left read refused =
      let next = comes n (text_lines text) line rest left in
      let one_less : n + 1 - 1 ≡ n = omega arith in (
        record {
          some = omega arith;
          there = let h = next.within in omega arith;
          before = (between, rw one_less read);
          none = λ said are.
              let parts = split g.nothing (take n (text_lines text)) (line ∷ []) said (rw next.taken at are) in
              let same : parts.0 ≡ between = same_said judged r g.nothing (take n (text_lines text)) parts.0 between parts.1 read in
              let adds : judged parts.0 line ≡ Ok parts.2.0 = r.complete parts.0 line parts.2.0 parts.2.1 in
              no_value (judged between line) parts.2.0 reason (sym (ap (λ (s : Said). judged s line) same) ∙ adds) refused;
        },
        record { before = between; are = rw one_less read; this = line; stands = rw one_less next.at; because = r.refused between line reason refused },
      )

  -- ---- a loop over the lines

  pub one_more : (judged : Said → List ℕ → Result Said Reason) → ReadsLines g judged
      → (lines : List (List ℕ)) (line : List ℕ) (rest : List (List ℕ)) (n : ℕ) (between after : Said) → drop n lines ≡ line ∷ rest
      → AreLinesOf g (take n lines) between → judged between line ≡ Ok after
      → (drop (n + 1) lines ≡ rest) × AreLinesOf g (take (n + 1) lines) after
  one_more judged r lines line rest n between after left read added =
      let next = comes n lines line rest left in
      (next.left, rw next.taken (push g.nothing (take n lines) line between after read (r.sound between line after added)))

  pub all_read : (lines : List (List ℕ)) (n : ℕ) (said : Said) → drop n lines ≡ [] → AreLinesOf g (take n lines) said → AreLinesOf g lines said
  all_read lines n said left read =
      let whole : take n lines ≡ lines =
      sym (append-nil (take n lines)) ∙ ap (λ (rest : List (List ℕ)). take n lines ++ rest) (sym left) ∙ take-append-drop n lines in
      subst (λ (ls : List (List ℕ)). AreLinesOf g ls said) whole read

  -- ---- what is answered

  pub only_said : (judged : Said → List ℕ → Result Said Reason) → ReadsLines g judged
      → (text : List ℕ) (read said : Said) → IsTextOf g text read → IsTextOf g text said → read ≡ said
  only_said judged r text read said are is = same_said judged r g.nothing (text_lines text) read said are is

  -- a text that is refused says nothing
  pub refused_only : (text : List ℕ) (error : TextFault Reason) → IsFault g text error → (said : Said) → IsTextOf g text said → IsOkOr said (Err error)
  refused_only text (Refused line reason) first said is =
      let front = front_says (text_lines text) line said is in first.0.none front.0 front.1
  refused_only text Memory first said is = tt
