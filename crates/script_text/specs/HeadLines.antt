-- How the lines without a command are spelled, and that they are read from that.
use Rattle.std.proofs.Common.{◌≡◌, ℕ, ◌^◌, ◌<◌, ◌≤◌, false, cond, leb, ltb, ◌&&◌, List, ◌∷◌, ◌++◌, Option, None, Some, refl, sym, ap, subst, ◌∙◌, append_assoc, arith}
use Rattle.std.specs.Prelude.{codes, option_and_then}
use Rattle.std.specs.Option.{option_map}
use Rattle.std.specs.Fmt.{decimal}
use Rattle.std.proofs.lemmas.Bool.{and_parts, leb-true, ltb-true, le-leb, lt-ltb}
use Rattle.std.proofs.lemmas.Option.{cond_some}
use Rattle.plain_text.specs.Number.{number_of}
use Rattle.plain_text.specs.Words.{first_word, rest_of, is_word}
use Rattle.plain_text.proofs.Numerals.{number_of-decimal, decimal-number_of}
use Rattle.plain_text.proofs.WordCuts.{named, spaced, word_cut, decimal_unspaced}
use Rattle.life_records.specs.Scripts.{has_cut}
use Rattle.life_records.specs.declared.script.Cut.{Cut}
use Rattle.script_text.specs.Heads.{within, header_of, choice_of, life_behind, life_of, client_of, cut_of}
use Rattle.script_text.specs.Choices.{mapped_some, step_some, first_branch, second_branch}

-- ---- headers and lives

abbrev pair : ℕ → ℕ → ℕ × ℕ
pair clients choice = (clients, choice)

-- `life N power C`, of at most the given number of clients
abbrev pub IsLifeLine : ℕ → ℕ × ℕ → List ℕ → Type 0
IsLifeLine most life line =
    (line ≡ codes "life " ++ decimal life.0 ++ codes " power " ++ decimal life.1) × (1 ≤ life.0) × (life.0 ≤ most) × (life.1 < 2 ^ 64)

-- `cut K S`
abbrev pub IsCutLine : Cut → List ℕ → Type 0
IsCutLine cut line = (line ≡ codes "cut " ++ decimal cut.client ++ codes " " ++ decimal cut.steps) × (cut.client < 2 ^ 64) × (cut.steps < 2 ^ 64)

within_is : (least most number n : ℕ) → within least most number ≡ Some n → (number ≡ n) × (least ≤ number) × (number ≤ most)
within_is least most number n e =
    let kept = cond_some (leb least number && leb number most) number n e in
    let bounds = and_parts (leb least number) (leb number most) kept.0 in
    (kept.1, leb-true least number bounds.0, leb-true number most bounds.1)

-- a header that was read is `lines N`, with 64 to 16,384 lines
pub header_is : (line : List ℕ) (lines : ℕ) → header_of line ≡ Some lines → (line ≡ codes "lines " ++ decimal lines) × (64 ≤ lines) × (lines ≤ 16384)
unfolding header_of
header_is line lines e =
    let kept = first_branch (is_word (codes "lines") (first_word line)) (option_and_then (λ text. option_and_then (within 64 16384) (number_of text)) (rest_of line)) lines e in
    let rest = step_some (λ text. option_and_then (within 64 16384) (number_of text)) (rest_of line) lines kept.1 in
    let number = step_some (within 64 16384) (number_of rest.0) lines rest.2 in
    let bounds = within_is 64 16384 number.0 lines number.2 in
    let text = decimal-number_of rest.0 number.0 number.1 in
    let spelled : line ≡ codes "lines " ++ decimal lines =
    named (codes "lines") line rest.0 kept.0 rest.1 ∙ ap (λ (t : List ℕ). codes "lines " ++ t) (text.0 ∙ ap decimal bounds.0) in
    (spelled, omega (arith, bounds.0, bounds.1), omega (arith, bounds.0, bounds.2))

choice_is : (text : List ℕ) (choice : ℕ) → choice_of text ≡ Some choice → (text ≡ codes "power " ++ decimal choice) × (choice < 2 ^ 64)
unfolding choice_of
choice_is text choice e =
    let kept = first_branch (is_word (codes "power") (first_word text)) (option_and_then number_of (rest_of text)) choice e in
    let rest = step_some number_of (rest_of text) choice kept.1 in
    let number = decimal-number_of rest.0 choice rest.2 in
    (named (codes "power") text rest.0 kept.0 rest.1 ∙ ap (λ (t : List ℕ). codes "power " ++ t) number.0, number.1)

start_is : (most : ℕ) (text : List ℕ) (life : ℕ × ℕ) → life_behind most text ≡ Some life → IsLifeLine most life (codes "life " ++ text)
unfolding life_behind
start_is most text life e =
    let clients = step_some (λ (clients : ℕ). option_map (λ (choice : ℕ). pair clients choice) (option_and_then choice_of (rest_of text)))
    (option_and_then (within 1 most) (number_of (first_word text))) life e in
    let number = step_some (within 1 most) (number_of (first_word text)) clients.0 clients.1 in
    let bounds = within_is 1 most number.0 clients.0 number.2 in
    let choice = mapped_some (λ (choice : ℕ). pair clients.0 choice) (option_and_then choice_of (rest_of text)) life clients.2 in
    let rest = step_some choice_of (rest_of text) choice.0 choice.1 in
    let power = choice_is rest.0 choice.0 rest.2 in
    let count : first_word text ≡ decimal clients.0 = (decimal-number_of (first_word text) number.0 number.1).0 ∙ ap decimal bounds.0 in
    let spelled : text ≡ decimal clients.0 ++ codes " power " ++ decimal choice.0 =
    spaced text rest.0 rest.1
    ∙ ap (λ (word : List ℕ). word ++ 32 ∷ rest.0) count
    ∙ ap (λ (t : List ℕ). decimal clients.0 ++ 32 ∷ t) power.0
    ∙ sym (append_assoc (decimal clients.0) (codes " power ") (decimal choice.0)) in
    subst (λ (l : ℕ × ℕ). IsLifeLine most l (codes "life " ++ text)) choice.2 (
      ap (λ (t : List ℕ). codes "life " ++ t) spelled,
      omega (arith, bounds.0, bounds.1),
      omega (arith, bounds.0, bounds.2),
      power.1,
    )

-- a life's first line that was read is `life N power C`, with numbers within the limits
pub life_is : (most : ℕ) (line : List ℕ) (life : ℕ × ℕ) → life_of most line ≡ Some life → IsLifeLine most life line
unfolding life_of
life_is most line life e =
    let kept = first_branch (is_word (codes "life") (first_word line)) (option_and_then (life_behind most) (rest_of line)) life e in
    let rest = step_some (life_behind most) (rest_of line) life kept.1 in
    subst (IsLifeLine most life) (sym (named (codes "life") line rest.0 kept.0 rest.1)) (start_is most rest.0 life rest.2)

-- ---- clients and cuts

-- a word that was read as a client is that client's number, and there is such a client
pub client_is : (clients : ℕ) (word : List ℕ) (client : ℕ) → client_of clients word ≡ Some client → (word ≡ decimal client) × (client < 2 ^ 64) × (client < clients)
unfolding client_of
client_is clients word client e =
    let number = step_some (λ client. cond (ltb client clients) (Some client) None) (number_of word) client e in
    let kept = cond_some (ltb number.0 clients) number.0 client number.2 in
    let text = decimal-number_of word number.0 number.1 in
    let below : number.0 < clients = ltb-true number.0 clients kept.0 in
    (text.0 ∙ ap decimal kept.1, omega (arith, kept.1, text.1), omega (arith, kept.1, below))

-- a cut line that was read is `cut N S`, of a client of the life that has no cut line before
pub cut_is : (clients : ℕ) (cuts : List Cut) (text : List ℕ) (cut : Cut) → cut_of clients cuts text ≡ Some cut
    → IsCutLine cut (codes "cut " ++ text) × (cut.client < clients) × (has_cut cut.client cuts ≡ false)
unfolding cut_of
cut_is clients cuts text cut e =
    let with_steps : ℕ → Option Cut = λ client. option_map (λ steps. record { client = client; steps = steps }) (option_and_then number_of (rest_of text)) in
    let client = step_some (λ client. cond (has_cut client cuts) None (with_steps client)) (client_of clients (first_word text)) cut e in
    let name = client_is clients (first_word text) client.0 client.1 in
    let new = second_branch (has_cut client.0 cuts) (with_steps client.0) cut client.2 in
    let steps = mapped_some (λ steps. let made : Cut = record { client = client.0; steps = steps } in made) (option_and_then number_of (rest_of text)) cut new.1 in
    let rest = step_some number_of (rest_of text) steps.0 steps.1 in
    let number = decimal-number_of rest.0 steps.0 rest.2 in
    let spelled : text ≡ decimal client.0 ++ codes " " ++ decimal steps.0 =
    spaced text rest.0 rest.1
    ∙ ap (λ (word : List ℕ). word ++ 32 ∷ rest.0) name.0
    ∙ ap (λ (t : List ℕ). decimal client.0 ++ 32 ∷ t) number.0
    ∙ sym (append_assoc (decimal client.0) (codes " ") (decimal steps.0)) in
    subst (λ (made : Cut). IsCutLine made (codes "cut " ++ text) × (made.client < clients) × (has_cut made.client cuts ≡ false)) steps.2
    ((ap (λ (t : List ℕ). codes "cut " ++ t) spelled, name.1, number.1), name.2, new.0)

-- ---- lines that are spelled by these rules are read

-- the line `lines N`, with 64 to 16,384 lines, is read as a header
pub header_again : (lines : ℕ) → 64 ≤ lines → lines ≤ 16384 → header_of (codes "lines " ++ decimal lines) ≡ Some lines
unfolding header_of
header_again lines least most = rw (number_of-decimal lines (omega arith), le-leb 64 lines least, le-leb lines 16384 most) refl

-- the line `life N power C`, with numbers within the limits, is read as a life's first line
pub life_again : (most clients choice : ℕ) → most < 2 ^ 64 → 1 ≤ clients → clients ≤ most → choice < 2 ^ 64
    → life_of most (codes "life " ++ decimal clients ++ codes " power " ++ decimal choice) ≡ Some (pair clients choice)
unfolding life_of life_behind choice_of
life_again most clients choice few_fit least few fits =
    let small : clients < 2 ^ 64 = omega arith in
    let cut = word_cut (decimal clients) (codes "power " ++ decimal choice) (decimal_unspaced clients small) in
    rw (append_assoc (decimal clients) (codes " power ") (decimal choice), cut.0, cut.1, number_of-decimal clients small, number_of-decimal choice fits, le-leb 1 clients least, le-leb clients most few) refl

-- the number of a client that there is, is read as that client
pub client_again : (clients client : ℕ) → client < 2 ^ 64 → client < clients → client_of clients (decimal client) ≡ Some client
unfolding client_of
client_again clients client fits below = rw (number_of-decimal client fits, lt-ltb client clients below) refl

-- what stands behind `cut` in the line `cut N S`, of a client of the life that has no cut line before, is read as that cut
pub cut_again : (clients : ℕ) (cuts : List Cut) (cut : Cut) → cut.client < 2 ^ 64 → cut.steps < 2 ^ 64 → cut.client < clients → has_cut cut.client cuts ≡ false
    → cut_of clients cuts (decimal cut.client ++ codes " " ++ decimal cut.steps) ≡ Some cut
unfolding cut_of
cut_again clients cuts cut client_fits steps_fit below new =
    let words = word_cut (decimal cut.client) (decimal cut.steps) (decimal_unspaced cut.client client_fits) in
    rw (append_assoc (decimal cut.client) (codes " ") (decimal cut.steps), words.0, words.1, client_again clients cut.client client_fits below, new, number_of-decimal cut.steps steps_fit) refl
