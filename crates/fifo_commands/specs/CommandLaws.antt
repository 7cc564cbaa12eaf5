-- Commands on a queue are read by their rules: what is read is asked for, what is asked for is read, and a refusal has the first reason that fits.
use Rattle.std.specs.Prelude.{codes, is_some}
use Rattle.std.proofs.Common.{◌≡◌, ℕ, cond, List, ◌∷◌, ◌++◌, Option, None, Some, Ok, Err, refl, sym, ap, subst, ◌∙◌, arith, inl, inr}
use Rattle.plain_text.specs.Words.{first_word, rest_of}
use Rattle.plain_text.proofs.WordCuts.{spaced, unspaced, word_alone, visible_unspaced}
use Rattle.fifo_object.specs.Queue.{IsText}
use Rattle.fifo_object.specs.WordLaws.{text_from_test, text_passes}
use Rattle.fifo_object.specs.Words.{is_text}
use Rattle.fifo_object.specs.declared.operations.FifoOp.{FifoOp}
use Rattle.fifo_object.specs.declared.operations.FifoOp.TheVariants.{Push, Pop, Peek, Len}
use Rattle.script_text.specs.Choices.{named_or, ok_first, ok_second, err_second, err_first}
use Rattle.script_text.specs.Grammar.{ReadsCommands, Row, first_that_fits}
use Rattle.fifo_commands.specs.CommandReasons.{queue_command_rows, queue_word_rows}
use Rattle.fifo_commands.specs.Grammar.{AsksQueue, queue_commands}
use Rattle.fifo_commands.specs.Reading.{asked_queue_op, queue_op_by_verb, push_of, queue_verb_of}
use Rattle.fifo_commands.specs.declared.commands.Verb.{Verb}
use Rattle.fifo_commands.specs.declared.commands.Verb.TheVariants as verbs
use Rattle.fifo_commands.specs.declared.reasons.FifoReason.{FifoReason}
use Rattle.fifo_commands.specs.declared.reasons.FifoReason.TheVariants as reasons

abbrev verb_name : Verb → List ℕ
verb_name verbs.Push = codes "push"
verb_name verbs.Pop = codes "pop"
verb_name verbs.Peek = codes "peek"
verb_name verbs.Len = codes "len"

verb_is : (word : List ℕ) (verb : Verb) → queue_verb_of word ≡ Some verb → word ≡ verb_name verb
unfolding queue_verb_of
verb_is word verb e =
    named_or verb_name (codes "push") word verbs.Push verb _ refl
    (named_or verb_name (codes "pop") word verbs.Pop verb _ refl
    (named_or verb_name (codes "peek") word verbs.Peek verb _ refl
    (named_or verb_name (codes "len") word verbs.Len verb None refl (λ none. absurd cc)))) e

push_is : (words : List ℕ) (op : FifoOp) → push_of words ≡ Ok op → AsksQueue op (codes "push " ++ words)
push_is words op e =
    let one = ok_second (is_some (rest_of words)) reasons.Command (cond (is_text words) (Ok (Push words)) (Err reasons.Text)) op e in
    let is = ok_first (is_text words) reasons.Text (Ok (Push words)) op one.1 in
    let same : Push words ≡ op = let h : Ok (Push words) ≡ Ok op = is.1 in cc in
    subst (λ (o : FifoOp). AsksQueue o (codes "push " ++ words)) same (refl, text_from_test words is.0)

-- the text by its verb and what stands behind it
behind : (text words : List ℕ) (verb : Verb) → queue_verb_of (first_word text) ≡ Some verb → rest_of text ≡ Some words → text ≡ verb_name verb ++ 32 ∷ words
behind text words verb v rest = spaced text words rest ∙ ap (λ (word : List ℕ). word ++ 32 ∷ words) (verb_is (first_word text) verb v)

alone : (text : List ℕ) (verb : Verb) → queue_verb_of (first_word text) ≡ Some verb → rest_of text ≡ None → text ≡ verb_name verb
alone text verb v rest = unspaced text rest ∙ verb_is (first_word text) verb v

with_verb : (text : List ℕ) (verb : Option Verb) (words : Option (List ℕ)) (op : FifoOp) → queue_verb_of (first_word text) ≡ verb → rest_of text ≡ words
    → queue_op_by_verb verb words ≡ Ok op → AsksQueue op text
with_verb text (Some verbs.Push) (Some words) op v rest e = subst (AsksQueue op) (sym (behind text words verbs.Push v rest)) (push_is words op e)
with_verb text (Some verbs.Pop) None op v rest e =
    let is : Pop ≡ op = let h : Ok Pop ≡ Ok op = e in cc in
    subst (λ (o : FifoOp). AsksQueue o text) is (alone text verbs.Pop v rest, tt)
with_verb text (Some verbs.Peek) None op v rest e =
    let is : Peek ≡ op = let h : Ok Peek ≡ Ok op = e in cc in
    subst (λ (o : FifoOp). AsksQueue o text) is (alone text verbs.Peek v rest, tt)
with_verb text (Some verbs.Len) None op v rest e =
    let is : Len ≡ op = let h : Ok Len ≡ Ok op = e in cc in
    subst (λ (o : FifoOp). AsksQueue o text) is (alone text verbs.Len v rest, tt)
with_verb text _ words op v rest e = absurd cc

push_again : (text : List ℕ) → IsText text → push_of text ≡ Ok (Push text)
push_again text is = rw ((word_alone text (visible_unspaced text is.visible)).1, text_passes text is) refl

asked_again : (op : FifoOp) (text : List ℕ) → AsksQueue op text → asked_queue_op (Some text) ≡ Ok op
unfolding queue_verb_of
asked_again (Push text) line (spelled, is) = rw spelled (push_again text is)
asked_again Pop line (spelled, _) = rw spelled refl
asked_again Peek line (spelled, _) = rw spelled refl
asked_again Len line (spelled, _) = rw spelled refl

abbrev Fits : List (Row FifoReason) → FifoReason → Type 0
Fits rows reason = first_that_fits rows ≡ Some reason

push_why : (words : List ℕ) (reason : FifoReason) → push_of words ≡ Err reason → Fits (queue_word_rows (Some verbs.Push) (Some words)) reason
push_why words reason e =
    elim (err_second (is_some (rest_of words)) reasons.Command (cond (is_text words) (Ok (Push words)) (Err reasons.Text)) reason e) [
      | inl (more, same) ↦ rw (more, same) refl
      | inr (one, e2) ↦
          elim (err_first (is_text words) reasons.Text (Ok (Push words)) reason e2) [
            | inl (bad, same) ↦ rw (one, bad, same) refl
            | inr (_, h) ↦ absurd cc
          ]
    ]

verb_why : (verb : Option Verb) (words : Option (List ℕ)) (reason : FifoReason) → queue_op_by_verb verb words ≡ Err reason → Fits (queue_word_rows verb words) reason
verb_why (Some verbs.Push) (Some words) reason e = push_why words reason e
verb_why (Some verbs.Pop) None reason e = absurd cc
verb_why (Some verbs.Peek) None reason e = absurd cc
verb_why (Some verbs.Len) None reason e = absurd cc
verb_why verb words reason e = ap Some cc

none_asked : (op : FifoOp) → asked_queue_op None ≡ Ok op → ⊥
none_asked op e = absurd cc

why : (text : Option (List ℕ)) (reason : FifoReason) → asked_queue_op text ≡ Err reason → first_that_fits (queue_command_rows text) ≡ Some reason
why None reason e = ap Some cc
why (Some text) reason e = verb_why (queue_verb_of (first_word text)) (rest_of text) reason e

-- Commands on a queue are read by their rules.
pub reads_queue_commands : ReadsCommands queue_commands asked_queue_op
reads_queue_commands = record {
  clients = omega arith;
  lives = omega arith;
  some = none_asked;
  sound = λ text op e. with_verb text (queue_verb_of (first_word text)) (rest_of text) op refl refl e;
  complete = λ text op is. asked_again op text is;
  refused = why;
}
