use Rattle.std.proofs.Common.{subst, sym, inl, inr, rules, arith}
use Rattle.std.specs.Bool.{MatchBool}
use Rattle.std.proofs.lemmas.Bool.{cases_eq, eq-eqb, ne_eqb}
use Rattle.index_validation.specs.Lawful.{HasChain, NoChain}
use Rattle.index_validation.proofs.ChainChecks.{marked_more, marked_all, no_chain_taken, no_chain_longer}
use Rattle.index_validation.proofs.marks.mark_chain.Goals as goal

pub returns-then-not-mark : goal.returns-then-not-mark
returns-then-not-mark c =
    let l = c.loop in
    no_chain_taken c.args.words.now c.args.first l.counter c.args.count l.line c.args.marks.now l.marks l.invariant c.loop-test.true c.if-not-mark.ensures

pub loop-preserved : goal.loop-preserved
loop-preserved c =
    let l = c.loop in
    marked_more c.args.words.now c.args.first l.counter l.line _ c.args.marks.now l.marks c.mark.new.marks l.invariant c.if-not-mark.ensures.1 (search rules)

pub returns : goal.returns
returns c =
    let l = c.loop in
    let P = HasChain c.args.words.now c.args.first c.args.count c.args.marks.now l.marks in
    let Q = NoChain c.args.words.now c.args.first c.args.count c.args.marks.now in
    elim (cases_eq l.line 0) [
      | inl e ↦ subst (λ b. MatchBool b P Q) (sym (eq-eqb l.line 0 e)) (marked_all c.args.words.now c.args.first l.counter c.args.count l.line c.args.marks.now l.marks l.invariant (omega arith) e)
      | inr ne ↦ subst (λ b. MatchBool b P Q) (sym (ne_eqb l.line 0 ne)) (no_chain_longer c.args.words.now c.args.first l.counter c.args.count l.line c.args.marks.now l.marks l.invariant (omega arith) ne)
    ]
