use Rattle.std.proofs.Common.{◌≡◌, ◌∙◌, refl, sym, true≢false}
use Rattle.recovery.specs.declared.recovered_base.ImageFault.TheVariants.{Memory}
use Rattle.cx_lives.proofs.crash.end_in_crash.Goals as goal

pub unreachable-requires : goal.unreachable-requires
unreachable-requires g c =
    let memory : c.in-Err.fault ≡ Memory = c.closed_services_recover.ensures.faults c.args.choice c.in_ok-image.image c.in-Err.fault c.in_ok-image.ensures c.in-Err.ensures.recovers in
    true≢false (sym (c.is_memory-wanting.ensures memory) ∙ c.if-wanting.false)

pub overflow_sub-kept : goal.overflow_sub-kept
overflow_sub-kept g c = (c.closed_services_recover.ensures.recovers c.args.choice c.in_ok-image.image c.in-Ok.next c.in_ok-image.ensures c.in-Ok.ensures.recovers).keeps.kept.from

pub count_items-requires-clause-lawful : goal.count_items-requires-clause-lawful
count_items-requires-clause-lawful g c = λ κs within. (c.closed_services_recover.ensures.recovers c.args.choice c.in_ok-image.image c.in-Ok.next c.in_ok-image.ensures c.in-Ok.ensures.recovers).lawful

pub returns : goal.returns
returns g c = record {
  crash = c.closed_services_recover.ensures.recovers c.args.choice c.in_ok-image.image c.in-Ok.next c.in_ok-image.ensures c.in-Ok.ensures.recovers;
  kept_is = refl;
  items_are = c.in_ok-items.ensures;
}
