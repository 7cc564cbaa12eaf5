use Rattle.std.proofs.Common.{◌≡◌, ◌∙◌, sym, ap, subst, string_bytes, false, All, String, Global, arith, take, ◌+◌, ℕ, suc, ◌++◌, ◌∷◌, []}
use Rattle.std.proofs.Math.Seq.{take-suc}
use Rattle.std.proofs.lemmas.List.{take_all}
use Rattle.std.proofs.lemmas.List.Elements.{All-push}
use Rattle.cx_program.specs.CommandLine.{begins_with_hyphen}
use Rattle.cx_program.proofs.command_line.has_option.Goals as goal

pub returns-then-is_option-clause-some : goal.returns-then-is_option-clause-some
returns-then-is_option-clause-some c is = (c.loop-word.word-index, c.word-item.result, c.loop-word-test.true, sym c.word-item.is, sym c.is_option.ensures ∙ c.if-is_option.true)

pub loop-word-preserved : goal.loop-word-preserved
loop-word-preserved c =
    let P : String Global → Type 0 = λ word. begins_with_hyphen (string_bytes word) ≡ false in
    let one_more : c.loop-word.word-index + 1 ≡ suc c.loop-word.word-index = omega arith in
    let next : take (c.loop-word.word-index + 1) c.args.words.now ≡ take c.loop-word.word-index c.args.words.now ++ c.word-item.result ∷ [] =
    ap (λ (n : ℕ). take n c.args.words.now) one_more ∙ take-suc c.args.words.now c.loop-word.word-index c.word-item.result c.loop-word-test.true ∙ ap (λ (x : String Global). take c.loop-word.word-index c.args.words.now ++ x ∷ []) (sym c.word-item.is) in
    subst (All P) (sym next) (All-push P (take c.loop-word.word-index c.args.words.now) c.word-item.result c.loop-word.invariant (sym c.is_option.ensures ∙ c.if-is_option.false))

pub returns-clause-none : goal.returns-clause-none
returns-clause-none c none = subst (All (λ word. begins_with_hyphen (string_bytes word) ≡ false)) (take_all c.loop-word.word-index c.args.words.now (omega arith)) c.loop-word.invariant
