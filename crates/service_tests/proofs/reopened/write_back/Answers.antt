use Rattle.std.proofs.Common.{ap, length}
use Rattle.service_tests.proofs.Replicas.{same_replicas}
use Rattle.service_tests.proofs.reopened.write_back.Goals as goal

pub returns : goal.returns
returns c = same_replicas c.args.medium.now c.write_back.new.self c.requires.medium c.write_back.ensures.words.long (ap length c.write_back.ensures.stores)
