use Rattle.std.proofs.Common.{subst, sym}
use Rattle.cx_base.specs.Memory.{Words}
use Rattle.doc_store.proofs.Stepping.{op_are_words}
use Rattle.table_tests.proofs.commands.entry_of.Goals as goal

-- the operation that was copied has 144 words of 64 bits
pub returns-clause-op : goal.returns-clause-op
returns-clause-op c = subst (Words 144) (sym c.copy_from_slice.ensures.after) (op_are_words c.args.op.now c.told-op c.fits-op)
