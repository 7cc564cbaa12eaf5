-- What every command keeps to: an input calls for one status, and for none of a fault.
use Rattle.std.proofs.Common.{◌≡◌, refl, ◌∙◌, sym, ap, subst, inl, inr, ℕ, ◌<◌, ◌≤◌, List, length, [], arith, Option, Some, None, false}
use Rattle.std.proofs.lemmas.Bool.{cases_Bool}
use Rattle.doc_commands.specs.declared.image_answer.ImageEnd.{ImageEnd}
use Rattle.doc_commands.specs.declared.image_answer.ImageEnd.TheVariants as ends
use Rattle.doc_commands.proofs.Ends.{one_end}
use Rattle.doc_text.specs.Grammar.{IsPoolScript, IsScript}
use Rattle.fifo_commands.specs.Grammar.{IsFifoScript}
use Rattle.trace_text.specs.Traces.{IsTrace}
use Rattle.cx_program.specs.Answer.{CallsForStatus, Owed, Read}
use Rattle.cx_program.specs.Commands.{CommandMeaning, command, command_asked, load_command, recover_command, script_calls, usage_command}
use Rattle.cx_program.specs.Input.{IsInput}
use Rattle.cx_program.specs.Status.{status_of}
use Rattle.cx_program.specs.Texts.{too_long_text}
use Rattle.cx_program.specs.declared.asked.AskedCommand.{AskedCommand}
use Rattle.cx_program.specs.declared.asked.AskedCommand.TheVariants.{Run, Image, Recover, Fifo, Trace, Load, Pool}
use Rattle.cx_program.specs.declared.status.Status.{Status}
use Rattle.cx_program.specs.declared.status.Status.TheVariants.{Fine, Usage, Refused, ReadFault, WriteFault, Memory, TooLong}
use Rattle.table_invariant.specs.Ending.{Ending}

-- a status that comes in place of the one that an input calls for
abbrev pub GivesUp : Status → Type 0
GivesUp ReadFault = Unit {0}
GivesUp WriteFault = Unit {0}
GivesUp Memory = Unit {0}
GivesUp _ = ⊥

pub record IsSound (command : CommandMeaning) : Type 0 where
  pub one : (input : List ℕ) (a b : Status) → command.calls input a → command.calls input b → a ≡ b
  pub plain : (input : List ℕ) (status : Status) → command.calls input status → GivesUp status → ⊥

module _ {Script : Type 0} (Is : List ℕ → Script → Type 0) where
  script_one : (input : List ℕ) (a b : Status) → script_calls Is input a → script_calls Is input b → a ≡ b
  script_one input Fine Fine x y = refl
  script_one input Fine Refused x y = absurd (y x.0 x.1)
  script_one input Refused Fine x y = absurd (x y.0 y.1)
  script_one input Refused Refused x y = refl
  script_one input Fine b x y = absurd y
  script_one input Refused b x y = absurd y
  script_one input a b x y = absurd x

  script_plain : (input : List ℕ) (status : Status) → script_calls Is input status → GivesUp status → ⊥
  script_plain input Fine calls gives = gives
  script_plain input Refused calls gives = gives
  script_plain input status calls gives = absurd calls

ends_tell : (end : ImageEnd) → GivesUp (status_of end) → ⊥
ends_tell ends.Fine gives = gives
ends_tell ends.Refused gives = gives
ends_tell ends.BadImage gives = gives

recover_sound : IsSound recover_command
recover_sound = record {
  one = λ input a b x y. x.2 ∙ ap status_of (one_end input x.0 y.0 x.1 y.1) ∙ sym y.2;
  plain = λ input status calls gives. ends_tell calls.0 (subst GivesUp calls.2 gives);
}

-- a command that always calls for one status
always : (command : CommandMeaning) (wanted : Status) → (GivesUp wanted → ⊥) → ((input : List ℕ) (status : Status) → command.calls input status → status ≡ wanted) → IsSound command
always command wanted tells is = record {
  one = λ input a b x y. is input a x ∙ sym (is input b y);
  plain = λ input status calls gives. tells (subst GivesUp (is input status calls) gives);
}

pub sound : (asked : Option AskedCommand) → IsSound (command_asked asked)
sound (Some Run) = record { one = script_one IsScript; plain = script_plain IsScript }
sound (Some Image) = record { one = script_one IsScript; plain = script_plain IsScript }
sound (Some Recover) = recover_sound
sound (Some Fifo) = record { one = script_one IsFifoScript; plain = script_plain IsFifoScript }
sound (Some Trace) = record { one = script_one IsTrace; plain = script_plain IsTrace }
sound (Some (Load load)) = always (load_command load.from load.clients load.ops) Fine (λ gives. gives) (λ input status calls. calls)
sound (Some (Pool seats)) = record { one = script_one IsPoolScript; plain = script_plain IsPoolScript }
sound None = always usage_command Usage (λ gives. gives) (λ input status calls. calls)

calls_one : (command : CommandMeaning) (input : List ℕ) (a b : Status) → IsSound command → CallsForStatus command input a → CallsForStatus command input b → a ≡ b
calls_one command input a b is (inl x) (inl y) = x.1 ∙ sym y.1
calls_one command input a b is (inl x) (inr y) = absurd (omega (arith, x.0, y.0))
calls_one command input a b is (inr x) (inl y) = absurd (omega (arith, x.0, y.0))
calls_one command input a b is (inr x) (inr y) = is.one input a b x.1 y.1

calls_plain : (command : CommandMeaning) (input : List ℕ) (status : Status) → IsSound command → CallsForStatus command input status → GivesUp status → ⊥
calls_plain command input status is (inl x) gives = subst GivesUp x.1 gives
calls_plain command input status is (inr x) gives = is.plain input status x.1 gives

-- nothing that is called for tells of a fault
pub owed_plain : (words : List (List ℕ)) (given : Option (List ℕ)) (status : Status) (trails : List Ending) (text : List ℕ) → Owed words given status trails text → GivesUp status → ⊥
owed_plain words given status trails text owed = calls_plain (command_asked owed.asked) owed.input status (sound owed.asked) owed.owes.calls

-- what is owed for an input that calls for a status
owed_as : (asked : Option AskedCommand) (words : List (List ℕ)) (given : Option (List ℕ)) (input : List ℕ) (status : Status) (trails : List Ending) (text : List ℕ)
    → (command_asked asked).asked words → IsInput (command_asked asked).reads given input → CallsForStatus (command_asked asked) input status
    → (16777216 < length input → text ≡ too_long_text) → (length input ≤ 16777216 → (command_asked asked).writes input status trails text) → Owed words given status trails text
owed_as asked words given input status trails text asks is wanted long short = record {
  asked = asked;
  asks = asks;
  input = input;
  is = is;
  owes = record { calls = wanted; only = λ other called. calls_one (command_asked asked) input other status (sound asked) called wanted; long = long; short = short };
}

-- what is owed for an input within the limit, and for a longer one
pub owed_short : (asked : Option AskedCommand) (words : List (List ℕ)) (given : Option (List ℕ)) (input : List ℕ) (status : Status) (trails : List Ending) (text : List ℕ)
    → (command_asked asked).asked words → IsInput (command_asked asked).reads given input → length input ≤ 16777216
    → (command_asked asked).calls input status → (command_asked asked).writes input status trails text → Owed words given status trails text
owed_short asked words given input status trails text asks is short calls writes =
    owed_as asked words given input status trails text asks is (inr (short, calls)) (λ past. absurd (omega (arith, past, short))) (λ within. writes)

pub owed_long : (asked : Option AskedCommand) (words : List (List ℕ)) (given : Option (List ℕ)) (input : List ℕ)
    → (command_asked asked).asked words → IsInput (command_asked asked).reads given input → 16777216 < length input → Owed words given TooLong [] too_long_text
owed_long asked words given input asks is past =
    owed_as asked words given input TooLong [] too_long_text asks is (inl (past, refl)) (λ more. refl) (λ within. absurd (omega (arith, past, within)))

-- where no word asks for what reads, nothing is read for what they ask for
pub none_read : (words : List (List ℕ)) (asked : AskedCommand) → (command asked).asked words → (Read words → ⊥) → (command asked).reads ≡ false
none_read words asked asks none = elim (cases_Bool (command asked).reads) [
  | inl reads ↦ absurd (none (record { asked = Some asked; asks = asks; reads = reads }))
  | inr not ↦ not
]
