use Rattle.std.proofs.Common.{◌^◌, ◌<◌, subst}
use Rattle.std.proofs.lemmas.List.{get_or_default}
use Rattle.cx_core.proofs.entry.op_fits.Goals as goal

pub returns : goal.returns
returns c = record { long = c.requires; fit = λ k d l. subst (λ v. v < 2 ^ 64) (get_or_default c.args.op.now k 0 d l) (c.type_inv.op k).fits }
