-- The life that was begun last, and what changes it.
use Rattle.std.proofs.Common.{◌≡◌, ℕ, suc, ◌+◌, ◌-◌, ◌<◌, ◌≤◌, List, [], ◌∷◌, ◌++◌, length, get_or, set, slice_get, Some, refl, sym, ap, ◌∙◌, arith}
use Rattle.std.specs.Prelude.{All}
use Rattle.std.proofs.lemmas.List.{length-append}
use Rattle.std.proofs.lemmas.List.Elements.{All-nil, All-cons, All-head, All-tail}
use Rattle.std.proofs.lemmas.List.Sums.{sum_by-append, sum_by-cons}
use Rattle.life_records.specs.Scripts.{command_count}
use Rattle.life_records.specs.Records.{Command, Cut, Life}
use Rattle.script_text.specs.Grammar.{last_life, with_last, with_cut, with_command}

module _ {Op : Type 0} where
  -- the last life is at the last place
  pub slice_get_last : (lives : List (Life Op)) → slice_get lives (length lives - 1) ≡ last_life lives
  slice_get_last (life ∷ next ∷ lives) =
      let later : length (life ∷ next ∷ lives) - 1 ≡ suc (length (next ∷ lives) - 1) = omega arith in
      ap (slice_get (life ∷ next ∷ lives)) later ∙ slice_get_last (next ∷ lives)
  slice_get_last _ = refl

  -- a change to the last life is a change at the last place
  pub with_last-set : (change : Life Op → Life Op) (lives : List (Life Op)) (n : ℕ) (life : Life Op) → n ≡ length lives → 0 < n → life ≡ get_or lives (n - 1) life
      → set lives (n - 1) (change life) ≡ with_last change lives
  with_last-set change [] n life long some is = absurd (omega (arith, long, some))
  with_last-set change (one ∷ []) n life long some is =
      let first : n - 1 ≡ 0 = omega (arith, long) in
      let here : life ≡ one = is ∙ ap (λ k. get_or (one ∷ []) k life) first in
      ap (λ k. set (one ∷ []) k (change life)) first ∙ ap (λ (l : Life Op). change l ∷ []) here
  with_last-set change (one ∷ next ∷ lives) n life long some is =
      let later : n - 1 ≡ suc (n - 1 - 1) = omega (arith, long) in
      let here : life ≡ get_or (next ∷ lives) (n - 1 - 1) life = is ∙ ap (λ k. get_or (one ∷ next ∷ lives) k life) later in
      ap (λ k. set (one ∷ next ∷ lives) k (change life)) later
      ∙ ap (λ (ls : List (Life Op)). one ∷ ls) (with_last-set change (next ∷ lives) (n - 1) life (omega (arith, long)) (omega (arith, long)) here)

  pub length-with_last : (change : Life Op → Life Op) (lives : List (Life Op)) → length (with_last change lives) ≡ length lives
  length-with_last change (life ∷ next ∷ lives) = ap suc (length-with_last change (next ∷ lives))
  length-with_last change _ = refl

  -- what holds of all lives holds of them with the last one changed
  pub All-with_last : (P : Life Op → Type 0) (change : Life Op → Life Op) (lives : List (Life Op)) → ((life : Life Op) → last_life lives ≡ Some life → P life → P (change life))
      → All P lives → All P (with_last change lives)
  All-with_last P change [] keeps all = all
  All-with_last P change (life ∷ []) keeps all = All-cons P (change life) [] (keeps life refl (All-head P life [] all)) (All-nil P)
  All-with_last P change (life ∷ next ∷ lives) keeps all =
      All-cons P life (with_last change (next ∷ lives)) (All-head P life (next ∷ lives) all)
      (All-with_last P change (next ∷ lives) keeps (All-tail P life (next ∷ lives) all))

  -- the commands of all lives are those of the first and of the others
  count-cons : (life : Life Op) (lives : List (Life Op)) → command_count (life ∷ lives) ≡ length life.commands + command_count lives
  count-cons life lives = sum_by-cons (λ (l : Life Op). length l.commands) life lives

  -- the commands of all lives, with one more
  pub command_count-more : (command : Command Op) (lives : List (Life Op)) → 0 < length lives
      → command_count (with_last (with_command command) lives) ≡ command_count lives + 1
  command_count-more command [] some = absurd (omega arith)
  command_count-more command (life ∷ []) some =
      let longer : length (life.commands ++ command ∷ []) ≡ length life.commands + 1 = length-append life.commands (command ∷ []) in omega (arith, longer)
  command_count-more command (life ∷ next ∷ lives) some =
      let more = command_count-more command (next ∷ lives) (omega arith) in
      let before = count-cons life (next ∷ lives) in
      let after = count-cons life (with_last (with_command command) (next ∷ lives)) in
      omega (arith, more, before, after)

  pub command_count-with_command : (command : Command Op) (lives : List (Life Op)) → command_count (with_last (with_command command) lives) ≤ command_count lives + 1
  command_count-with_command command [] = omega arith
  command_count-with_command command (life ∷ lives) = let more = command_count-more command (life ∷ lives) (omega arith) in omega (arith, more)

  -- a cut line adds no command to those of all lives
  pub command_count-with_cut : (cut : Cut) (lives : List (Life Op)) → command_count (with_last (with_cut cut) lives) ≡ command_count lives
  command_count-with_cut cut (life ∷ next ∷ lives) =
      count-cons life (with_last (with_cut cut) (next ∷ lives)) ∙ ap (λ n. length life.commands + n) (command_count-with_cut cut (next ∷ lives))
      ∙ sym (count-cons life (next ∷ lives))
  command_count-with_cut cut _ = refl

  -- a life that begins without commands adds none to those of all lives
  pub command_count-begun : (lives : List (Life Op)) (begun : Life Op) → begun.commands ≡ [] → command_count (lives ++ begun ∷ []) ≡ command_count lives
  command_count-begun lives begun none =
      let added = sum_by-append (λ (life : Life Op). length life.commands) lives (begun ∷ []) in
      let empty : length begun.commands ≡ 0 = ap (length {A = Command Op}) none in
      omega (arith, added, empty)
