use Rattle.service_tests.proofs.Replicas.{fenced_replicas}
use Rattle.service_tests.proofs.reopened.fence.Goals as goal

pub returns : goal.returns
returns c = fenced_replicas c.args.medium.now c.fence.new.self c.requires c.fence.ensures.words c.fence.ensures.stores
