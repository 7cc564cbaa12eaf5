use Rattle.std.proofs.Common.{rules}
use Rattle.std.proofs.lemmas.List.FromFn.{fill_by_all}
use Rattle.pmem_model.specs.Medium.{left_in_medium}
use Rattle.pmem_model.proofs.medium.Medium.image.Goals as goal

pub returns : goal.returns
returns c = fill_by_all (left_in_medium c.args.choice c.args.self.now) c.loop-at.into _ 0 (search rules) (search rules)
