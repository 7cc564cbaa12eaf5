use Rattle.std.proofs.Common.{◌≡◌, subst, sym, rules}
use Rattle.std.specs.List.{All}
use Rattle.index_validation.proofs.TextChecks.{filled, zeros_behind}
use Rattle.index_validation.proofs.text_checks.is_filled.Goals as goal

pub returns-then-are_between : goal.returns-then-are_between
returns-then-are_between c =
    let bytes = c.args.bytes.now in (
      λ yes. filled bytes c.args.len c.args.least c.args.most (c.if-are_between.ensures.0 (search rules)) (subst (All (λ b. b ≡ 0)) c.behind.ensures (c.are_zero.ensures.0 yes)),
      λ f. c.are_zero.ensures.1 (subst (All (λ b. b ≡ 0)) (sym c.behind.ensures) (zeros_behind bytes c.args.len c.args.least c.args.most f)),
    )
