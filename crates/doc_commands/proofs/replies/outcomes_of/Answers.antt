use Rattle.std.proofs.Common.{◌≡◌, ◌∙◌, ◌++◌, ◌∷◌, [], ◌+◌, false, subst, sym, Result, Ok, Err, OnOk}
use Rattle.std.specs.Result.{is_err}
use Rattle.doc_commands.proofs.Commands.{IsToldBelow, outcomes_more, outcomes_skip}
use Rattle.doc_commands.proofs.replies.outcomes_of.Goals as goal
use Rattle.doc_commands.proofs.replies.outcomes_of.Goals.{in-Some+else-is_err, in_default}

pushed : {A E : Type 0} (r : Result A E) (P : Type 0) → OnOk r P → is_err r ≡ false → P
pushed (Ok x) P on good = on
pushed (Err e) P on good = absurd cc

pub loop-client-preserved : goal.loop-client-preserved
loop-client-preserved c =
    let region = c.args.base.now.words in
    let client = c.loop-client.client in
    let so_far = c.loop-client.invariant in
    elim c.match-branch-2.branch [
      | in-Some+else-is_err w ↦
          let slot = rw w.in-Some.is at c.in_ok-applied.ensures in
          let added : c.match-branch-2.outcomes ≡ c.loop-client.outcomes ++ w.in-Some.applied ∷ [] =
          w.outcomes-is ∙ pushed w.push.result _ w.push.ensures.ok (sym w.is_err.ensures.value ∙ w.if-is_err.false) in
          subst (IsToldBelow region (client + 1)) (sym added)
          (outcomes_more region client c.loop-client.outcomes w.in-Some.applied so_far slot.0 slot.1 slot.2)
      | in_default w ↦
          let none = rw w.in_default.is at c.in_ok-applied.ensures in
          subst (IsToldBelow region (client + 1)) (sym w.outcomes-is) (outcomes_skip region client c.loop-client.outcomes so_far none)
    ]
