use Rattle.std.proofs.Common.{◌≡◌, of_z, rules, subst, to_z, w32}
use Rattle.githoppu_c.specs.Closings.{ClosesAs}
use Rattle.githoppu_c.specs.declared.content.AnyHandleState.{AnyHandleState}
use Rattle.githoppu_c.proofs.githoppu_close.Goals as goal

-- the session was closed while others were not: the closing is as `ClosesAs` says
pub returns-then-code-eq-OTHERS : goal.returns-then-code-eq-OTHERS
returns-then-code-eq-OTHERS c =
    let closes : ClosesAs c.args.session.content c.close-code.new.self (to_z w32 (of_z w32 c.close-code.result)) = search rules in
    (c.close-code.new.self, c.close-code.ensures.callable, closes)

-- any other answer: the closing is as `ClosesAs` says
pub returns-else-code-eq-OTHERS : goal.returns-else-code-eq-OTHERS
returns-else-code-eq-OTHERS c =
    let after = c.close-code.new.self in
    let same : c.deref_mut.result.now ≡ c.args.session.content = search rules in
    let code : c.close-code.result ≡ to_z w32 (of_z w32 c.close-code.result) = search rules in
    (after, c.close-code.ensures.callable, subst (λ (before : AnyHandleState). ClosesAs before after (to_z w32 (of_z w32 c.close-code.result))) same (subst (ClosesAs c.deref_mut.result.now after) code c.close-code.ensures.done))
