-- The program's command line, as its parser is told it.
use Rattle.std.specs.Prelude.{◌≡◌, ◌⊎◌, ◌==◌, MatchResult, Result, ℕ, Bool, true, false, List, [], ◌∷◌, Some, codes, All}
use Rattle.clap.specs.Kinds.{Kinds, IsAmong}
use Rattle.clap.specs.declared.error.kind.ErrorKind.{ErrorKind}
use Rattle.clap.specs.declared.error.kind.ErrorKind.TheVariants.{OutOfMemory}
use Rattle.clap.specs.Simple.{App, new_app, new_rule, new_shape, with_rule}
use Rattle.clap.specs.Walk.{Rule}
use Rattle.clap.specs.declared.builder.action.ArgAction.TheVariants.{Set}

-- a word begins with a hyphen
abbrev pub begins_with_hyphen : List ℕ → Bool
begins_with_hyphen [] = false
begins_with_hyphen (c ∷ cs) = c == 45

-- a number that a command wants
abbrev pub number_rule : List ℕ → Rule
number_rule name = record (new_rule name) { action = Some Set; required = true }

-- the command `load` with its three numbers
abbrev pub load_app : App
load_app = with_rule (with_rule (with_rule (new_app (codes "load")) (number_rule (codes "from"))) (number_rule (codes "clients"))) (number_rule (codes "ops"))

-- the command `pool` with its number
abbrev pub pool_app : App
pool_app = with_rule (new_app (codes "pool")) (number_rule (codes "seats"))

-- the command line of the program: one of seven commands is wanted, and there are no commands for help
abbrev pub program : App
program = record {
  top = record (new_shape (codes "cx_tool")) {
    is_leaf = false;
    no_binary_name = true;
    disable_help_flag = true;
    disable_help_subcommand = true;
    subcommand_required = true;
  };
  subs = new_shape (codes "run") ∷ new_shape (codes "image") ∷ new_shape (codes "recover") ∷ new_shape (codes "fifo") ∷ new_shape (codes "trace") ∷ load_app.top ∷ pool_app.top ∷ [];
}

-- a word that is a command by itself
abbrev pub IsLone : List ℕ → Type 0
IsLone word = (word ≡ codes "run") ⊎ ((word ≡ codes "image") ⊎ ((word ≡ codes "recover") ⊎ ((word ≡ codes "fifo") ⊎ (word ≡ codes "trace"))))

-- one such word alone, `pool` and one more, or `load` and three more
abbrev pub IsForm : List (List ℕ) → Type 0
IsForm words =
    ((word : List ℕ) × IsLone word × (words ≡ word ∷ []))
    ⊎ (((a : List ℕ) × (words ≡ codes "pool" ∷ a ∷ [])) ⊎ ((a b c : List ℕ) × (words ≡ codes "load" ∷ a ∷ b ∷ c ∷ [])))

-- The words have the form of a command, and none begins with a hyphen.
pub record HasForm (words : List (List ℕ)) : Type 0 where
  pub plain : All (λ word. begins_with_hyphen word ≡ false) words
  pub form : IsForm words

-- the words pass, where no kind of fault does; a fault has one of the kinds, or memory ran out
abbrev pub IsJudged : Kinds → Result Unit ErrorKind → Type 0
IsJudged kinds result = MatchResult result (λ _. kinds ≡ []) (λ kind. (kind ≡ OutOfMemory) ⊎ IsAmong kind kinds)
