use Rattle.std.proofs.Common.{rules}
use Rattle.std.proofs.lemmas.List.FromFn.{fill_by_all}
use Rattle.cx_base.specs.Packing.{byte_at}
use Rattle.cx_base.proofs.packed_bytes.unpack.Goals as goal

pub returns : goal.returns
returns c = fill_by_all (byte_at c.args.words.now) c.loop-i.into _ 0 (search rules) (search rules)
