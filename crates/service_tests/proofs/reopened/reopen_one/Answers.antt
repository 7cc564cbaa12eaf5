use Rattle.service_tests.proofs.Replicas.{same_replicas}
use Rattle.service_tests.proofs.reopened.reopen_one.Goals as goal

pub returns : goal.returns
returns c = same_replicas c.args.medium.now c.reopen.new.medium c.requires c.reopen.ensures.long c.reopen.ensures.lines
