use Rattle.std.proofs.Common.{ℕ, List, set, ap, ◌∙◌, arith}
use Rattle.cx_base.specs.Tally.{IsTally}
use Rattle.mutation_queue.proofs.Bases.{moved}
use Rattle.table_tests.proofs.links.base_at.Goals as goal

-- a lawful base of Tally is lawful at another place too
pub returns-clause-lawful : goal.returns-clause-lawful
returns-clause-lawful c =
    let fresh = c.in_ok-fresh in
    let place : ℕ = c.args.place in
    moved 64 IsTally fresh.fresh place c.of.result fresh.ensures.lawful (omega (arith, fresh.ensures.place)) (omega arith) (c.of.ensures ∙ ap (λ (ws : List ℕ). set ws 0 place) c.into_vec-words.ensures)
