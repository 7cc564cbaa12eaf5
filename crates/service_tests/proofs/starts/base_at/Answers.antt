use Rattle.std.proofs.Common.{ℕ, List, set, ap, ◌∙◌, arith}
use Rattle.cx_base.specs.Tally.{IsTally}
use Rattle.mutation_queue.proofs.Bases.{moved}
use Rattle.service_tests.proofs.starts.base_at.Goals as goal

pub returns : goal.returns
returns c =
    let fresh = c.in_ok-fresh in
    let place = c.args.place in
    moved 64 IsTally fresh.fresh place c.of.result fresh.ensures.lawful (omega (arith, fresh.ensures.place)) (omega (arith, c.if-place.false)) (c.of.ensures ∙ ap (λ (ws : List ℕ). set ws 0 place) c.into_vec-words.ensures)
