use Rattle.std.proofs.Common.{◌+◌, drop}
use Rattle.doc_model.proofs.Puts.{above_at}
use Rattle.doc_model.proofs.places.place_above.Goals as goal

pub returns-in-Ok-clause-above : goal.returns-in-Ok-clause-above
returns-in-Ok-clause-above c = above_at c.args.pairs.now c.args.key.now (drop (c.in-Ok.at + 1) c.args.pairs.now) c.in-Ok.ensures.found.above

pub returns-in-Err-clause-above : goal.returns-in-Err-clause-above
returns-in-Err-clause-above c = above_at c.args.pairs.now c.args.key.now (drop c.in-Err.at c.args.pairs.now) c.in-Err.ensures.missing.above
