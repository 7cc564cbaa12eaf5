-- How the lines without a command are read: the header, the first line of a life, and the cut line of a client. Words in capitals stand for numbers.
use Rattle.std.specs.Prelude.{ℕ, ◌&&◌, nat_le, nat_lt, List, codes, Option, None, Some, option_and_then, if◌then◌else◌}
use Rattle.std.specs.Option.{option_map}
use Rattle.plain_text.specs.Number.{number_of}
use Rattle.plain_text.specs.Words.{first_word, rest_of, is_word}
use Rattle.life_records.specs.Scripts.{has_cut}
use Rattle.life_records.specs.declared.script.Cut.{Cut}

-- the number, where it lies between two
abbrev pub within : ℕ → ℕ → ℕ → Option ℕ
within least most number = if nat_le least number && nat_le number most then Some number else None

-- the header: `lines` LINES, from 64 to 16384
unfoldable pub header_of : List ℕ → Option ℕ
header_of line =
    if is_word (codes "lines") (first_word line)
    then option_and_then (λ text. option_and_then (within 64 16384) (number_of text)) (rest_of line)
    else None

-- the end of a life's first line: `power` CHOICE
unfoldable pub choice_of : List ℕ → Option ℕ
choice_of text = if is_word (codes "power") (first_word text) then option_and_then number_of (rest_of text) else None

-- behind `life`: CLIENTS `power` CHOICE, with 1 to `most` clients
unfoldable pub life_behind : ℕ → List ℕ → Option (ℕ × ℕ)
life_behind most text =
    option_and_then (λ clients. option_map (λ choice. (clients, choice)) (option_and_then choice_of (rest_of text)))
    (option_and_then (within 1 most) (number_of (first_word text)))

-- the first line of a life: `life` CLIENTS `power` CHOICE
unfoldable pub life_of : ℕ → List ℕ → Option (ℕ × ℕ)
life_of most line = if is_word (codes "life") (first_word line) then option_and_then (life_behind most) (rest_of line) else None

-- CLIENT: a number below the number of clients
unfoldable pub client_of : ℕ → List ℕ → Option ℕ
client_of clients word = option_and_then (λ client. if nat_lt client clients then Some client else None) (number_of word)

-- behind `cut`: CLIENT STEPS, of a client that has no cut line in this life yet
unfoldable pub cut_of : ℕ → List Cut → List ℕ → Option Cut
cut_of clients cuts text =
    option_and_then (λ client. if has_cut client cuts then None
    else option_map (λ steps. record { client = client; steps = steps }) (option_and_then number_of (rest_of text)))
    (client_of clients (first_word text))
