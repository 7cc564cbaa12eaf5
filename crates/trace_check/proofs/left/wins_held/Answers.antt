use Rattle.std.proofs.Common.{◌≡◌, ◌+◌, ◌≤◌, ◌++◌, ◌∷◌, [], Global, Vec, take, vec_len, ap, sym, subst, ◌∙◌, arith}
use Rattle.std.proofs.lemmas.List.{append-nil}
use Rattle.std.specs.Option.{option_to_list}
use Rattle.cx_core.specs.declared.local.WonCode.{WonCode}
use Rattle.caller_cache.specs.Wins.{wins_of}
use Rattle.caller_cache.proofs.Chaining.{no_win}
use Rattle.trace_check.proofs.Walk.{wins_more}
use Rattle.trace_check.proofs.left.wins_held.Goals as goal
use Rattle.trace_check.proofs.left.wins_held.Goals.{in-Some+in_ok-push, in_default}

pub loop-local-preserved : goal.loop-local-preserved
loop-local-preserved c =
    let locals = c.args.locals.now in
    let k = c.loop-local.local-index in
    let old = c.loop-local.invariant in
    let l = c.local-item.result in
    let more = wins_more locals k l c.loop-local-test.true c.local-item.is in
    let P : Vec WonCode Global → Type 0 = λ v. (vec_len v ≤ k + 1) × (v.items ≡ wins_of (take (k + 1) locals)) in
    let all : P c.match-local.wins = elim c.match-local.branch [
      | in-Some+in_ok-push w ↦ (
          let one = ap option_to_list w.in-Some.is in
          subst P (sym w.wins-is) (
            omega (arith, old.few, w.in_ok-push.ensures.len),
            w.in_ok-push.ensures.items ∙ ap (λ ws. ws ++ w.in-Some.won ∷ []) old.so_far ∙ ap (λ ws. wins_of (take k locals) ++ ws) (sym one) ∙ sym more,
          ))
      | in_default w ↦ (
          let none = ap option_to_list (no_win l.won (λ x is. w.in_default.not-Some x is)) in
          subst P (sym w.wins-is) (
            omega (arith, old.few),
            old.so_far ∙ sym (append-nil (wins_of (take k locals))) ∙ ap (λ ws. wins_of (take k locals) ++ ws) (sym none) ∙ sym more,
          ))
    ] in
    record { few = all.0; so_far = all.1 }
