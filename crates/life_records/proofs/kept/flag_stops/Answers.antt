use Rattle.std.proofs.Common.{◌≡◌, ◌<◌, false, length, slice_index_or, refl, arith, subst}
use Rattle.std.specs.List.{AllWithin}
use Rattle.std.proofs.lemmas.List.Elements.{All-from_all_within, AllWithin-more_set, AllWithin-none}
use Rattle.life_records.specs.declared.record.StopLine.{StopLine}
use Rattle.life_records.specs.Ended.{IsFlagged}
use Rattle.life_records.proofs.Flags.{set_flag, same_stops}
use Rattle.life_records.proofs.kept.flag_stops.Goals as goal

pub loop-stop-init : goal.loop-stop-init
loop-stop-init g c = record {
  same = same_stops c.args.stops.now;
  flags = AllWithin-none (IsFlagged c.args.place c.args.kept c.args.journal.now) c.args.stops.now 0;
}

pub loop-stop-preserved : goal.loop-stop-preserved
loop-stop-preserved g c =
    let stops = c.loop-stop.stops in
    let at = c.loop-stop.stop-index in
    let was : StopLine = slice_index_or stops at (record { client = 0; command = 0; steps = 0; kept = false }) in
    let now : StopLine = record { client = was.client; command = was.command; steps = was.steps; kept = c.is_kept-stop.result } in
    let below : at < length stops = omega (arith, c.loop-stop-test.true, c.loop-stop.auto.stops) in
    record {
      same = set_flag c.args.stops.now stops at (record { client = 0; command = 0; steps = 0; kept = false }) c.is_kept-stop.result c.loop-stop.invariant.same below;
      flags = AllWithin-more_set stops at now below (IsFlagged c.args.place c.args.kept c.args.journal.now) c.loop-stop.invariant.flags (c.is_kept-stop.ensures now refl refl);
    }

pub returns : goal.returns
returns g c =
    let stops = c.loop-stop.stops in
    let all : c.loop-stop.stop-index ≡ length stops = omega (arith, c.loop-stop-test.false, c.loop-stop.auto.stops, c.loop-stop.auto.stop-index-end) in
    record {
      same = c.loop-stop.invariant.same;
      flags = All-from_all_within (IsFlagged c.args.place c.args.kept c.args.journal.now) stops (subst (AllWithin (IsFlagged c.args.place c.args.kept c.args.journal.now) stops 0) all c.loop-stop.invariant.flags);
    }
