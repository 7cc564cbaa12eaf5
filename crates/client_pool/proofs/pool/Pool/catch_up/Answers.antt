use Rattle.std.proofs.Common.{None, refl}
use Rattle.cx_service.specs.CatchUps.{CatchUpHalted}
use Rattle.client_pool.proofs.Calling.{given_more, stopped_more}
use Rattle.client_pool.proofs.pool.Pool.catch_up.Goals as goal

pub returns-in-Caught : goal.returns-in-Caught
returns-in-Caught g c =
    let sees = c.in-Caught.ensures in
    record {
      made = given_more c.args.self.now.service c.args.self.now.line.table.shared.table_id c.args.client.now _ refl sees.given;
      seen = c.max-client.ensures;
      asked = sees.asked;
      now = sees.now;
      returns = sees.returns;
      caught = sees.caught;
    }

pub returns-in-Behind : goal.returns-in-Behind
returns-in-Behind g c =
    let sees = c.in-Behind.ensures in
    record {
      made = given_more c.args.self.now.service c.args.self.now.line.table.shared.table_id c.args.client.now _ refl sees.given;
      seen = refl;
      asked = sees.asked;
      now = sees.now;
      returns = sees.returns;
      behind = sees.behind;
    }

pub returns-in-Stopped : goal.returns-in-Stopped
returns-in-Stopped g c =
    let r = c.args.self.now.service in
    stopped_more r c.args.self.now.line.table.shared.table_id c.args.client.now _ refl refl (CatchUpHalted r) None c.in-Stopped.ensures
