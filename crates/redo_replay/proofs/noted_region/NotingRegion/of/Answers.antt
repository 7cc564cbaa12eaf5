use Rattle.std.proofs.Common.{ap, arith}
use Rattle.table_invariant.specs.declared.rule.Known.{Known}
use Rattle.redo_replay.proofs.NotingLaws.{kept_none}
use Rattle.redo_replay.proofs.noted_region.NotingRegion.of.Goals as goal

pub invariant_of-result : goal.invariant_of-result
invariant_of-result g c =
    let table = c.args.table.now in
    let seat = c.args.seat.now in
    record {
      of = c.requires.held;
      starts = c.start_held-start.ensures;
      within = c.steps_are_within_limit.ensures;
      place = c.requires.begins.place;
      since = (let same = ap (λ (k : Known). k.local.steps) c.requires.begins.same in omega (arith, same));
      notes = λ all. kept_none (g.T.HeldWords.line_count table) (g.T.HeldWords.running table) (g.T.HeldWords.lawful table) (g.T.HeldWords.step table) g.J.KnowledgeAtStart.known seat seat c.clear.new.self c.requires.begins.same c.clear.ensures;
    }
