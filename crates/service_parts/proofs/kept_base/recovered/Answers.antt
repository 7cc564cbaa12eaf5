use Rattle.std.proofs.Common.{rules, ◌≡◌, Ok, Err}
use Rattle.recovery.specs.declared.recovered_base.ImageFault.TheVariants.{Memory}
use Rattle.service_parts.proofs.KeptLemmas.{may_of, readable_of, recovered_of}
use Rattle.service_parts.proofs.kept_base.recovered.Goals as goal

pub crash_image-requires : goal.crash_image-requires
crash_image-requires g c =
    let left = c.requires in
    c.closed_tables_are_whole.ensures.whole left.table left.seats c.args.remains.now left.opened left.leaves

pub recover-requires : goal.recover-requires
recover-requires g c =
    let left = c.requires in
    readable_of g.O.Object c.args.object.now c.args.remains.now c.args.choice left c.in_ok-image.image
    (c.closed_tables_are_whole.ensures.readable left.table left.seats c.args.remains.now c.args.choice c.in_ok-image.image left.opened left.leaves c.in_ok-image.ensures)

pub unreachable-requires : goal.unreachable-requires
unreachable-requires g c =
    let memory : c.in-Err.field-0 ≡ Memory =
    recovered_of g.O.Object c.args.object.now c.args.remains.now c.args.choice c.requires c.closed_tables_recover.ensures c.in_ok-image.image c.in_ok-image.ensures (Err c.in-Err.field-0) c.in-Err.ensures.recovers in
    let other : c.in-Err.field-0 ≡ Memory → ⊥ = search rules in
    other memory

pub returns-in-Ok-clause-kept : goal.returns-in-Ok-clause-kept
returns-in-Ok-clause-kept g c = λ left. (
    recovered_of g.O.Object c.args.object.now c.args.remains.now c.args.choice left c.closed_tables_recover.ensures c.in_ok-image.image c.in_ok-image.ensures (Ok c.in-Ok.base) c.in-Ok.ensures.recovers)

pub returns-in-Ok-clause-may : goal.returns-in-Ok-clause-may
returns-in-Ok-clause-may g c =
    let left = c.requires in
    may_of g.O.Object c.args.object.now c.args.remains.now c.args.choice left c.in-Ok.base
    (recovered_of g.O.Object c.args.object.now c.args.remains.now c.args.choice left c.closed_tables_recover.ensures c.in_ok-image.image c.in_ok-image.ensures (Ok c.in-Ok.base) c.in-Ok.ensures.recovers)
