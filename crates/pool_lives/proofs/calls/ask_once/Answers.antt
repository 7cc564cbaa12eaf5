use Rattle.client_pool.specs.Clients.{HaltsClientRead}
use Rattle.client_pool.specs.Lending.{IsReadRefused}
use Rattle.pool_lives.proofs.Asking.{full_again, not_stopped, worn_ends}
use Rattle.pool_lives.proofs.calls.ask_once.Goals as goal

pub returns-in-Full : goal.returns-in-Full
returns-in-Full g c =
    full_again c.args.pool.now.service c.args.pool.now.line.table.shared.table_id c.args.client.now c.read.new.client c.requires.client (IsReadRefused c.args.pool.now.service) _ c.in-Full.ensures

pub returns-in-Worn : goal.returns-in-Worn
returns-in-Worn g c =
    worn_ends c.args.pool.now.service c.args.pool.now.line.table.shared.table_id c.args.client.now c.read.new.client c.requires.client (IsReadRefused c.args.pool.now.service) c.in-Worn.ensures

pub unreachable-requires : goal.unreachable-requires
unreachable-requires g c =
    not_stopped c.args.pool.now.service c.args.pool.now.line.table.shared.table_id c.args.client.now c.read.new.client c.requires.client (HaltsClientRead c.args.pool.now.service c.args.op.now) _ c.in-Stopped.ensures
