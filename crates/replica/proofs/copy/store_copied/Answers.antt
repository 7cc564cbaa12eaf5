use Rattle.std.proofs.Common.{ap, subst}
use Rattle.cx_core.specs.declared.kinds.Kind.TheVariants.{StoreWord}
use Rattle.table_invariant.specs.Seats.{Seated}
use Rattle.table_invariant.specs.Steps.{Steps}
use Rattle.replica.proofs.CopySteps.{store_leaves}
use Rattle.replica.proofs.copy.store_copied.Goals as goal

pub returns-in_err-store_word-clause-leaves : goal.returns-in_err-store_word-clause-leaves
returns-in_err-store_word-clause-leaves g c =
    store_leaves g.O.Object c.args.shared.now c.args.held.now c.args.source.now c.replica.result c.args.at c.args.seat.now c.store_word.new.seat c.requires.both c.args.word c.store_word.result c.requires.at c.store_word.ensures.made c.store_word.ensures.fits c.store_word.ensures.halted

pub returns-clause-leaves : goal.returns-clause-leaves
returns-clause-leaves g c =
    store_leaves g.O.Object c.args.shared.now c.args.held.now c.args.source.now c.replica.result c.args.at c.args.seat.now c.store_word.new.seat c.requires.both c.args.word c.store_word.result c.requires.at c.store_word.ensures.made c.store_word.ensures.fits c.store_word.ensures.halted

pub returns-clause-known : goal.returns-clause-known
returns-clause-known g c =
    let t = c.args.shared.now in
    ap (λ (s : Seated). s.known)
    (subst (λ q. Steps t g.O.Object.step g.O.Object.only_reads (StoreWord q c.args.at c.args.word) 0 c.args.seat.now c.store_word.new.seat) c.replica.ensures c.in_ok-store_word.ensures.made).made
