-- The words of a command have its form.
use Rattle.std.proofs.Common.{◌≡◌, ◌∙◌, inl, inr, refl, sym, ap, subst, ℕ, ◌<◌, ◌≤◌, ◌^◌, List, [], ◌∷◌, codes, false, arith, length, get_or, map, string_bytes, String, Global}
use Rattle.std.specs.Char.{digit_value}
use Rattle.std.specs.Fmt.{decimal}
use Rattle.std.specs.Str.Parse.{AllDigits}
use Rattle.std.proofs.Math.ListN.{get_or-map}
use Rattle.std.proofs.lemmas.Bool.{ne_eqb}
use Rattle.std.proofs.lemmas.List.{length-map}
use Rattle.std.proofs.lemmas.Fmt.{decimal_is_IsNumeral}
use Rattle.std.proofs.lemmas.List.Elements.{All-cons, All-nil}
use Rattle.cx_program.specs.CommandLine.{HasForm, IsLone, begins_with_hyphen}
use Rattle.cx_program.specs.Commands.{command}
use Rattle.cx_program.specs.Words.{IsAlone, IsLoadOf, IsPoolOf}
use Rattle.cx_program.specs.declared.asked.AskedCommand.{AskedCommand}
use Rattle.cx_program.specs.declared.asked.AskedCommand.TheVariants.{Run, Image, Recover, Fifo, Trace, Load, Pool}

abbrev IsPlain : List ℕ → Type 0
IsPlain word = begins_with_hyphen word ≡ false

digits_plain : (ds : List ℕ) → AllDigits 10 ds → IsPlain ds
digits_plain [] digits = refl
digits_plain (d ∷ ds) digits = ne_eqb d 45 (λ e. let bad : digit_value 45 < 10 = subst (λ (k : ℕ). digit_value k < 10) e digits.0 in absurd (omega arith))

decimal_plain : (n : ℕ) → n < 2 ^ 64 → IsPlain (decimal n)
decimal_plain n fits = digits_plain (decimal n) (decimal_is_IsNumeral n fits).0.1

lone_has_form : (word : List ℕ) (words : List (List ℕ)) → IsLone word → IsPlain word → IsAlone word words → HasForm words
lone_has_form word words lone plain is = subst HasForm (sym is) (record { plain = All-cons IsPlain word [] plain (All-nil IsPlain); form = inl (word, lone, refl) })

load_has_form : (from clients ops : ℕ) (words : List (List ℕ)) → IsLoadOf from clients ops words → HasForm words
load_has_form from clients ops words is =
    let third = All-cons IsPlain (decimal ops) [] (decimal_plain ops (omega (arith, is.within.short))) (All-nil IsPlain) in
    let second = All-cons IsPlain (decimal clients) (decimal ops ∷ []) (decimal_plain clients (omega (arith, is.within.few))) third in
    let first = All-cons IsPlain (decimal from) (decimal clients ∷ decimal ops ∷ []) (decimal_plain from is.within.fits) second in
    subst HasForm (sym is.are)
    (record {
      plain = All-cons IsPlain (codes "load") (decimal from ∷ decimal clients ∷ decimal ops ∷ []) refl first;
      form = inr (inr (decimal from, decimal clients, decimal ops, refl));
    })

pool_has_form : (seats : ℕ) (words : List (List ℕ)) → IsPoolOf seats words → HasForm words
pool_has_form seats words is =
    let last = All-cons IsPlain (decimal seats) [] (decimal_plain seats (omega (arith, is.few))) (All-nil IsPlain) in
    subst HasForm (sym is.are) (record { plain = All-cons IsPlain (codes "pool") (decimal seats ∷ []) refl last; form = inr (inl (decimal seats, refl)) })

same_word : (word other : List ℕ) → word ∷ [] ≡ other ∷ [] → word ≡ other
same_word word other is = cc

-- words that ask for a command have its form
pub has_form : (words : List (List ℕ)) (asked : AskedCommand) → (command asked).asked words → HasForm words
has_form words Run is = lone_has_form (codes "run") words (inl refl) refl is
has_form words Image is = lone_has_form (codes "image") words (inr (inl refl)) refl is
has_form words Recover is = lone_has_form (codes "recover") words (inr (inr (inl refl))) refl is
has_form words Fifo is = lone_has_form (codes "fifo") words (inr (inr (inr (inl refl)))) refl is
has_form words Trace is = lone_has_form (codes "trace") words (inr (inr (inr (inr refl)))) refl is
has_form words (Load load) is = load_has_form load.from load.clients load.ops words is
has_form words (Pool seats) is = pool_has_form seats.count words is

-- `load` and three words behind it that are those of no load ask for no command
pub none_of_load : (words : List (List ℕ)) (first second third : List ℕ) → words ≡ codes "load" ∷ first ∷ second ∷ third ∷ []
    → ((from clients ops : ℕ) → IsLoadOf from clients ops words → ⊥) → (asked : AskedCommand) → (command asked).asked words → ⊥
none_of_load words first second third are no_load Run is =
    let bad : codes "load" ∷ first ∷ second ∷ third ∷ [] ≡ codes "run" ∷ [] = sym are ∙ is in cc
none_of_load words first second third are no_load Image is =
    let bad : codes "load" ∷ first ∷ second ∷ third ∷ [] ≡ codes "image" ∷ [] = sym are ∙ is in cc
none_of_load words first second third are no_load Recover is =
    let bad : codes "load" ∷ first ∷ second ∷ third ∷ [] ≡ codes "recover" ∷ [] = sym are ∙ is in cc
none_of_load words first second third are no_load Fifo is =
    let bad : codes "load" ∷ first ∷ second ∷ third ∷ [] ≡ codes "fifo" ∷ [] = sym are ∙ is in cc
none_of_load words first second third are no_load Trace is =
    let bad : codes "load" ∷ first ∷ second ∷ third ∷ [] ≡ codes "trace" ∷ [] = sym are ∙ is in cc
none_of_load words first second third are no_load (Load load) is = no_load load.from load.clients load.ops is
none_of_load words first second third are no_load (Pool seats) is =
    let bad : codes "load" ∷ first ∷ second ∷ third ∷ [] ≡ codes "pool" ∷ decimal seats.count ∷ [] = sym are ∙ is.are in cc

-- `pool` and a word behind it that are those of no pool ask for no command
pub none_of_pool : (words : List (List ℕ)) (seats : List ℕ) → words ≡ codes "pool" ∷ seats ∷ [] → ((n : ℕ) → IsPoolOf n words → ⊥) → (asked : AskedCommand) → (command asked).asked words → ⊥
none_of_pool words seats are no_pool Run is = let bad : codes "pool" ∷ seats ∷ [] ≡ codes "run" ∷ [] = sym are ∙ is in cc
none_of_pool words seats are no_pool Image is = let bad : codes "pool" ∷ seats ∷ [] ≡ codes "image" ∷ [] = sym are ∙ is in cc
none_of_pool words seats are no_pool Recover is = let bad : codes "pool" ∷ seats ∷ [] ≡ codes "recover" ∷ [] = sym are ∙ is in cc
none_of_pool words seats are no_pool Fifo is = let bad : codes "pool" ∷ seats ∷ [] ≡ codes "fifo" ∷ [] = sym are ∙ is in cc
none_of_pool words seats are no_pool Trace is = let bad : codes "pool" ∷ seats ∷ [] ≡ codes "trace" ∷ [] = sym are ∙ is in cc
none_of_pool words seats are no_pool (Load load) is =
    let bad : codes "pool" ∷ seats ∷ [] ≡ codes "load" ∷ decimal load.from ∷ decimal load.clients ∷ decimal load.ops ∷ [] = sym are ∙ is.are in cc
none_of_pool words seats are no_pool (Pool pool) is = no_pool pool.count is

-- a word alone that is none of `run`, `image`, `recover`, `fifo` and `trace` asks for no command
pub none_alone : (word : List ℕ) → (word ≡ codes "run" → ⊥) → (word ≡ codes "image" → ⊥) → (word ≡ codes "recover" → ⊥) → (word ≡ codes "fifo" → ⊥) → (word ≡ codes "trace" → ⊥)
    → (asked : AskedCommand) → (command asked).asked (word ∷ []) → ⊥
none_alone word no_run no_image no_recover no_fifo no_trace Run is = no_run (same_word word (codes "run") is)
none_alone word no_run no_image no_recover no_fifo no_trace Image is = no_image (same_word word (codes "image") is)
none_alone word no_run no_image no_recover no_fifo no_trace Recover is = no_recover (same_word word (codes "recover") is)
none_alone word no_run no_image no_recover no_fifo no_trace Fifo is = no_fifo (same_word word (codes "fifo") is)
none_alone word no_run no_image no_recover no_fifo no_trace Trace is = no_trace (same_word word (codes "trace") is)
none_alone word no_run no_image no_recover no_fifo no_trace (Load load) is =
    let bad : word ∷ [] ≡ codes "load" ∷ decimal load.from ∷ decimal load.clients ∷ decimal load.ops ∷ [] = is.are in cc
none_alone word no_run no_image no_recover no_fifo no_trace (Pool seats) is = let bad : word ∷ [] ≡ codes "pool" ∷ decimal seats.count ∷ [] = is.are in cc

-- words of the form are one, two or four
pub one_two_or_four : (words : List (String Global)) → HasForm (map string_bytes words) → (length words ≡ 1 → ⊥) → (length words ≡ 2 → ⊥) → (length words ≡ 4 → ⊥) → ⊥
one_two_or_four words has not_one not_two not_four = elim has.form [
  | inl lone ↦ not_one (sym (length-map words string_bytes) ∙ ap length lone.2)
  | inr (inl pool) ↦ not_two (sym (length-map words string_bytes) ∙ ap length pool.1)
  | inr (inr load) ↦ not_four (sym (length-map words string_bytes) ∙ ap length load.3)
]

-- the bytes of one word
pub one_word : (words : List (String Global)) (word : String Global) → length words ≡ 1 → word ≡ get_or words 0 word → map string_bytes words ≡ string_bytes word ∷ []
one_word [] word one is = absurd (omega (arith, one))
one_word (w ∷ []) word one is = cc
one_word (w ∷ v ∷ words) word one is = absurd (omega (arith, one))

-- four words of the form are those of a load
load_words : (words : List (List ℕ)) (first second third : List ℕ) → HasForm words → 4 ≤ length words
    → words ≡ codes "load" ∷ get_or words 1 first ∷ get_or words 2 second ∷ get_or words 3 third ∷ []
load_words words first second third has four = elim has.form [
  | inl lone ↦ absurd (omega (arith, four, ap length lone.2))
  | inr (inl pool) ↦ absurd (omega (arith, four, ap length pool.1))
  | inr (inr load) ↦ subst (λ (ws : List (List ℕ)). ws ≡ codes "load" ∷ get_or ws 1 first ∷ get_or ws 2 second ∷ get_or ws 3 third ∷ []) (sym load.3) refl
]

pub are_of_load : (words : List (String Global)) (first second third : String Global) → HasForm (map string_bytes words) → 4 ≤ length words
    → first ≡ get_or words 1 first → second ≡ get_or words 2 second → third ≡ get_or words 3 third
    → map string_bytes words ≡ codes "load" ∷ string_bytes first ∷ string_bytes second ∷ string_bytes third ∷ []
are_of_load words first second third has four one two three =
    let are = load_words (map string_bytes words) (string_bytes first) (string_bytes second) (string_bytes third) has (omega (arith, four, length-map words string_bytes)) in
    let e1 : get_or (map string_bytes words) 1 (string_bytes first) ≡ string_bytes first = get_or-map string_bytes words 1 first ∙ ap string_bytes (sym one) in
    let e2 : get_or (map string_bytes words) 2 (string_bytes second) ≡ string_bytes second = get_or-map string_bytes words 2 second ∙ ap string_bytes (sym two) in
    let e3 : get_or (map string_bytes words) 3 (string_bytes third) ≡ string_bytes third = get_or-map string_bytes words 3 third ∙ ap string_bytes (sym three) in
    cc (are, e1, e2, e3)

-- two words that have the form of a command are `pool` and a word behind it
pool_words : (words : List (List ℕ)) (seats : List ℕ) → HasForm words → length words ≡ 2 → words ≡ codes "pool" ∷ get_or words 1 seats ∷ []
pool_words words seats has two = elim has.form [
  | inl lone ↦ absurd (omega (arith, two, ap length lone.2))
  | inr (inl pool) ↦ subst (λ (ws : List (List ℕ)). ws ≡ codes "pool" ∷ get_or ws 1 seats ∷ []) (sym pool.1) refl
  | inr (inr load) ↦ absurd (omega (arith, two, ap length load.3))
]

pub are_of_pool : (words : List (String Global)) (seats : String Global) → HasForm (map string_bytes words) → length words ≡ 2 → seats ≡ get_or words 1 seats
    → map string_bytes words ≡ codes "pool" ∷ string_bytes seats ∷ []
are_of_pool words seats has two one =
    let are = pool_words (map string_bytes words) (string_bytes seats) has (omega (arith, two, length-map words string_bytes)) in
    let e1 : get_or (map string_bytes words) 1 (string_bytes seats) ≡ string_bytes seats = get_or-map string_bytes words 1 seats ∙ ap string_bytes (sym one) in
    cc (are, e1)
