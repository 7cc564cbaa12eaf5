use Rattle.std.proofs.Common.{◌≡◌, ◌+◌, ◌-◌, ◌*◌, ◌%◌, ap, ◌∙◌, arith}
use Rattle.std.proofs.lemmas.Nat.{mod-mul-add}
use Rattle.cx_base.proofs.codes.link_parts.Goals as goal

pub returns-clause-cell : goal.returns-clause-cell
returns-clause-cell c =
    let w = 16 * c.args.callers in
    let one_off : c.args.ticket * w + c.args.cell + 1 - 1 ≡ c.args.ticket * w + c.args.cell = omega arith in
    ap (λ n. n % w) one_off ∙ mod-mul-add c.args.ticket w c.args.cell c.requires
