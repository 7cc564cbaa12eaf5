use Rattle.std.proofs.Common.{false, ◌≡◌, ◌+◌, length, refl, sym, ◌∙◌, subst, arith}
use Rattle.std.proofs.lemmas.List.{length-set}
use Rattle.cx_core.proofs.LayoutLemmas.{vol_within}
use Rattle.table_invariant.specs.Running.{instance_at}
use Rattle.table_invariant.specs.Seats.{known_of}
use Rattle.table_invariant.proofs.Giving.{learns_load}
use Rattle.cx_table.specs.Runs.{AreLoaded}
use Rattle.cx_table.proofs.Runs.{loaded_on}
use Rattle.cx_table.proofs.shared.Shared.load_part.Goals as goal

pub loop-j-init : goal.loop-j-init
loop-j-init g c = record {
  table = c.requires.table;
  loaded = λ begun. subst (λ n. AreLoaded (instance_at c.args.self.now g.O.Object.step g.O.Object.only_reads) c.args.r c.args.from begun n c.args.into.now c.args.seat.now.me) (omega arith);
  length = refl;
}

pub learned-requires-clause-on : goal.learned-requires-clause-on
learned-requires-clause-on g c =
    let t = c.args.self.now in
    let loaded = c.loop-j.invariant.loaded c.requires.loaded.0 c.requires.loaded.1 in
    let may = loaded.may (c.args.at + c.loop-j.j) (omega (arith, c.loop-j-test.true, c.loop-j.invariant.length, c.requires.within)) in
    let running = c.table_is_running.ensures in
    record {
      table_is = c.loop-j.invariant.table;
      one = loaded.one;
      within = omega (arith, c.requires.start, running.words, vol_within t.callers (length t.base.words) c.args.r (c.args.from + (c.args.at + c.loop-j.j)) may.0 may.1);
    }

pub learned-requires-clause-learns : goal.learned-requires-clause-learns
learned-requires-clause-learns g c =
    let t = c.args.self.now in
    let loaded = c.loop-j.invariant.loaded c.requires.loaded.0 c.requires.loaded.1 in
    let may = loaded.may (c.args.at + c.loop-j.j) (omega (arith, c.loop-j-test.true, c.loop-j.invariant.length, c.requires.within)) in
    learns_load (instance_at t g.O.Object.step g.O.Object.only_reads) c.args.r (c.args.from + (c.args.at + c.loop-j.j)) false (known_of c.loop-j.seat.me.0) _ may (omega (arith, c.requires.start))

pub loop-j-preserved : goal.loop-j-preserved
loop-j-preserved g c =
    let instance = instance_at c.args.self.now g.O.Object.step g.O.Object.only_reads in
    let i = c.args.at + c.loop-j.j in
    record {
      table = c.learned.ensures.table ∙ c.loop-j.invariant.table;
      loaded = λ begun first. loaded_on instance c.args.r c.args.from i _ c.learned.result begun c.loop-j.into c.loop-j.seat.me c.learned.new.seat.me (omega arith) (omega (arith, c.loop-j-test.true, c.loop-j.invariant.length, c.requires.within)) (c.loop-j.invariant.loaded begun first) c.learned.ensures.taught;
      length = length-set c.loop-j.into i c.learned.result ∙ c.loop-j.invariant.length;
    }

pub returns : goal.returns
returns g c =
    let end : c.loop-j.j ≡ c.args.count = omega (arith, c.loop-j-test.false, c.loop-j.auto.j-end) in
    record {
      table = c.loop-j.invariant.table ∙ sym c.requires.table;
      taught = λ begun first. subst (λ n. AreLoaded (instance_at c.args.self.now g.O.Object.step g.O.Object.only_reads) c.args.r c.args.from begun (c.args.at + n) c.loop-j.into c.loop-j.seat.me) end (c.loop-j.invariant.loaded begun first);
      length = c.loop-j.invariant.length;
    }
