use Rattle.std.proofs.Common.{◌≡◌, length, take}
use Rattle.script_text.specs.Index.{AreOwnOps}
use Rattle.script_text.proofs.indexed_life.IndexedLife.of.Given as goal

abbrev pub invariant-loop-command : goal.invariant-loop-command
invariant-loop-command g l = record { clients : length l.by_client.items ≡ l.life.clients; ops : AreOwnOps (take l.command-index l.command-items) l.by_client.items }
