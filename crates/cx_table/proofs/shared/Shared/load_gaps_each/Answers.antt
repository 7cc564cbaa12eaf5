use Rattle.std.proofs.Common.{◌+◌, ◌<◌, ◌∷◌, [], List, length, refl, sym, ap, ◌∙◌, subst, arith}
use Rattle.std.proofs.lemmas.List.{length-set}
use Rattle.atomic_table.specs.Table.{Me}
use Rattle.cx_core.specs.Layout.{gap_at, word_count}
use Rattle.table_invariant.specs.declared.rule.Known.{Known}
use Rattle.table_invariant.specs.Running.{IsTableWithinLimits, Running, instance_at}
use Rattle.table_invariant.specs.Seats.{known_of}
use Rattle.cx_table.specs.Gaps.{gaps_from}
use Rattle.cx_table.proofs.GapSteps.{gap_within}
use Rattle.cx_table.proofs.Runs.{taught_nothing, taught_on}
use Rattle.cx_table.proofs.shared.Shared.load_gaps_each.Goals as goal

pub loop-i-init : goal.loop-i-init
loop-i-init g c = record {
  table = c.requires.one.table_is;
  one = c.requires.one.one;
  taught = taught_nothing (instance_at c.args.self.now g.O.Object.step g.O.Object.only_reads) (gaps_from c.args.s c.args.from) c.args.into.now c.args.seat.now.me;
  length = refl;
}

pub event-requires-clause-event : goal.event-requires-clause-event
event-requires-clause-event g c =
    let at = c.args.from + c.loop-i.i in
    let below : at < 16 = omega (arith, c.loop-i-test.true, c.loop-i.invariant.length, c.requires.within) in
    let t = c.args.self.now in
    let place = c.gap_at-word.ensures ∙ ap (λ (x : Running _). gap_at x.callers c.args.s at) c.self.view_is in
    record {
      of_table = c.loop-i.invariant.table;
      one = c.loop-i.invariant.one;
      by_shown = tt;
      fits = tt;
      guard = (c.requires.slot, below);
      place = place;
      within = (let run = subst (IsTableWithinLimits g.O.Object.line_count g.O.Object.lawful) c.self.view_is c.self.invariant.0 in
          subst (λ n. c.gap_at-word.result < n) (sym run.words)
          (subst (λ n. n < word_count t.callers (length t.base.words)) (sym place) (gap_within t.callers (length t.base.words) c.args.s at c.requires.slot below)));
    }

pub loop-i-preserved : goal.loop-i-preserved
loop-i-preserved g c =
    let t = c.args.self.now in
    let instance = instance_at t g.O.Object.step g.O.Object.only_reads in
    let i = c.loop-i.i in
    let taught = c.event.ensures.taught in
    record {
      table = c.event.ensures.table ∙ c.loop-i.invariant.table;
      one = taught.knows ∙ ap (λ k. (k ∷ [], [])) (sym (ap (λ (m : Me _ (List Known)). known_of m.0) taught.knows));
      taught = taught_on instance (gaps_from c.args.s c.args.from) c.loop-i.into i c.event.result c.args.seat.now.me c.loop-i.seat.me c.event.new.seat.me (omega (arith, c.loop-i-test.true, c.loop-i.invariant.length)) c.loop-i.invariant.taught taught;
      length = length-set c.loop-i.into i c.event.result ∙ c.loop-i.invariant.length;
    }
