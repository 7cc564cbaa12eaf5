use Rattle.std.proofs.Common.{◌≡◌, ◌+◌, ◌<◌, sym, subst, ap, ◌∙◌, inl, inr, arith, length, Some}
use Rattle.std.proofs.lemmas.Bool.{cases_eq}
use Rattle.std.proofs.lemmas.Option.{same_Some, slice_get-get_or}
use Rattle.std.specs.List.{slice_get}
use Rattle.cx_core.specs.declared.local.WonCode.{WonCode}
use Rattle.caller_cache.specs.Wins.{IsWinTaken}
use Rattle.caller_cache.proofs.Chaining.{among_item, taken_out}
use Rattle.caller_cache.proofs.at_close.take_over.Goals as goal

pub returns-then-index-before : goal.returns-then-index-before
returns-then-index-before c =
    let wins = c.loop-i.wins.items in
    let i = c.loop-i.i in
    let w = c.remove.result in
    let end = c.loop-i-test.true in
    let within : i < length wins = omega (arith, end, c.loop-i.auto.i-end, c.len-i-end.ensures, c.loop-i.wins.ok.0, ap length c.loop-i.invariant.same) in
    let at : slice_get wins i ≡ Some w = slice_get-get_or wins i w within ∙ ap (λ x. Some x) (sym c.remove.ensures.value) in
    let found : slice_get wins i ≡ Some c.index.result.now = slice_get-get_or wins i c.index.result.now within ∙ ap (λ x. Some x) (sym c.index.ensures) in
    let over = ap (λ (x : WonCode). x.before) (same_Some w c.index.result.now (sym at ∙ found)) ∙ c.if-index-before.true in
    let fewer : length c.remove.new.self.items + 1 ≡ length wins = omega (arith, c.remove.ensures.len, c.remove.new.self.ok.0, c.loop-i.wins.ok.0) in
    subst (λ ws. IsWinTaken c.args.before w.code ws c.remove.new.self.items) c.loop-i.invariant.same
    (taken_out wins i c.args.before w c.remove.new.self.items at over c.remove.ensures.items fewer)

pub loop-i-preserved : goal.loop-i-preserved
loop-i-preserved c = record {
  same = c.loop-i.invariant.same;
  none = λ k w below at over. elim (cases_eq k c.loop-i.i) [
    | inl e ↦ (
        let wins = c.loop-i.wins.items in
        let seen = c.index.result.now in
        let within : c.loop-i.i < length wins = omega (arith, c.loop-i-test.true, c.loop-i.auto.i-end, c.len-i-end.ensures, c.loop-i.wins.ok.0, ap length c.loop-i.invariant.same) in
        let found : slice_get wins c.loop-i.i ≡ Some seen = slice_get-get_or wins c.loop-i.i seen within ∙ ap (λ x. Some x) (sym c.index.ensures) in
        c.if-index-before.false (ap (λ (x : WonCode). x.before) (same_Some seen w (sym found ∙ ap (slice_get wins) (sym e) ∙ at)) ∙ over))
    | inr apart ↦ c.loop-i.invariant.none k w (omega (arith, below, apart)) at over
  ];
}

pub returns : goal.returns
returns c = (
  c.loop-i.invariant.same,
  λ w there over. (
      let at = among_item c.args.wins.now.items w there in
      let below = at.1 in
      c.loop-i.invariant.none at.0 w (omega (arith, below, c.loop-i-test.false, c.loop-i.auto.i-end, c.len-i-end.ensures)) (ap (λ ws. slice_get ws at.0) c.loop-i.invariant.same ∙ at.2) over),
)
