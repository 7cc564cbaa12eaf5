use Rattle.std.proofs.Common.{◌≡◌, refl, ◌∙◌, take}
use Rattle.std.proofs.lemmas.List.{take_all, length-set}
use Rattle.script_text.proofs.OwnOps.{AreOwnOps-step, AreOwnOps-step_past}
use Rattle.script_text.proofs.indexed_life.IndexedLife.of.Goals as goal
use Rattle.script_text.proofs.indexed_life.IndexedLife.of.Goals.{in-Some+in_ok-push, in_default}

pub loop-command-preserved : goal.loop-command-preserved
loop-command-preserved g c =
    elim c.match-get_mut.branch [
      | in-Some+in_ok-push w ↦ rw w.by_client-is (record {
        clients = length-set c.loop-command.by_client.items c.command-item.result.client w.push.new.self ∙ c.loop-command.invariant.clients;
        ops =
            AreOwnOps-step c.commands-command-items.result.now c.loop-command.command-index c.command-item.result c.loop-command.by_client.items w.in-Some.own.now w.push.new.self _
            c.loop-command-test.true c.command-item.is c.loop-command.invariant.ops w.in-Some.ensures.item.3.0 w.in-Some.ensures.value w.in_ok-push.ensures.items refl;
      })
      | in_default w ↦ rw w.by_client-is (record {
        clients = c.loop-command.invariant.clients;
        ops =
            AreOwnOps-step_past c.commands-command-items.result.now c.loop-command.command-index c.command-item.result c.loop-command.by_client.items
            c.loop-command-test.true c.command-item.is c.loop-command.invariant.ops w.in_default.ensures.item.3;
      })
    ]

pub invariant_of-result : goal.invariant_of-result
invariant_of-result g c =
    let whole : take c.loop-command.command-index c.commands-command-items.result.now ≡ c.args.life.now.commands =
    take_all c.loop-command.command-index c.commands-command-items.result.now c.loop-command-test.false ∙ c.commands-command-items.ensures in
    record { clients = c.loop-command.invariant.clients; ops = rw whole at c.loop-command.invariant.ops }
