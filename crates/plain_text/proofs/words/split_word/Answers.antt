use Rattle.std.proofs.Common.{ap, ◌∙◌, sym, subst, Some, ℕ, List}
use Rattle.std.specs.Prelude.{IsUtf8}
use Rattle.plain_text.proofs.WordCuts.{words_cut, words_whole, rest_is_utf8}
use Rattle.plain_text.proofs.words.split_word.Goals as goal

pub returns-in-Some-clause-word : goal.returns-in-Some-clause-word
returns-in-Some-clause-word c =
    let h = c.in-Some.ensures.some in h.1 ∙ (words_cut c.args.text.now h.0).0

pub returns-in-Some-clause-rest : goal.returns-in-Some-clause-rest
returns-in-Some-clause-rest c =
    let h = c.in-Some.ensures.some in ap Some h.2 ∙ (words_cut c.args.text.now h.0).1

pub returns-in-None-clause-word : goal.returns-in-None-clause-word
returns-in-None-clause-word c = (words_whole c.args.text.now c.in-None.ensures.none).0

pub returns-in-None-clause-rest : goal.returns-in-None-clause-rest
returns-in-None-clause-rest c = (words_whole c.args.text.now c.in-None.ensures.none).1

pub returns-in-Some-clause-utf8 : goal.returns-in-Some-clause-utf8
returns-in-Some-clause-utf8 c = λ utf8.
    let h = c.in-Some.ensures.some in subst (λ (text : List ℕ). IsUtf8 text) (sym h.2) (rest_is_utf8 c.args.text.now h.0 utf8)
