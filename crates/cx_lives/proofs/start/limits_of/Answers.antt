use Rattle.std.proofs.Common.{◌≡◌, ◌∙◌, ℕ, List, ◌∷◌, [], ◌++◌, sym, ap, ap₂, map, arith}
use Rattle.std.specs.List.{range_with_len}
use Rattle.life_records.specs.Scripts.{limit_in}
use Rattle.cx_lives.proofs.Taking.{range_next}
use Rattle.cx_lives.proofs.start.limits_of.Goals as goal

pub loop-client-preserved : goal.loop-client-preserved
loop-client-preserved g c =
    let limit : ℕ → ℕ = λ client. limit_in client c.args.life.now.cuts in
    c.in_ok-push.ensures.items
    ∙ ap₂ (λ (xs : List ℕ) (x : ℕ). xs ++ x ∷ []) c.loop-client.invariant (c.limit_of.ensures ∙ ap (limit_in c.loop-client.client) c.cuts.ensures)
    ∙ sym (range_next limit c.loop-client.client)

pub returns : goal.returns
returns g c =
    let over : c.loop-client.client ≡ c.args.life.now.clients = omega (arith, c.clients-clients.ensures) in
    c.loop-client.invariant ∙ ap (λ (n : ℕ). map (λ client. limit_in client c.args.life.now.cuts) (range_with_len 0 n)) over
