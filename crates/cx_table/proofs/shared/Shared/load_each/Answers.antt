use Rattle.std.proofs.Common.{refl, sym, ◌∙◌, subst, arith}
use Rattle.std.proofs.lemmas.List.{take_all}
use Rattle.table_invariant.specs.Running.{instance_at}
use Rattle.cx_table.specs.Runs.{AreLoaded, TeachesRun, loads_from}
use Rattle.cx_table.proofs.Runs.{taught_nothing}
use Rattle.cx_table.proofs.shared.Shared.load_each.Goals as goal

pub loop-i-init : goal.loop-i-init
loop-i-init g c = record {
  table = c.requires.one.table_is;
  loaded = record { one = c.requires.one.one; may = c.requires.guard; taught = taught_nothing (instance_at c.args.self.now g.O.Object.step g.O.Object.only_reads) (loads_from c.args.r c.args.from) c.args.into.now c.args.seat.now.me };
  length = refl;
}

pub returns : goal.returns
returns g c =
    let instance = instance_at c.args.self.now g.O.Object.step g.O.Object.only_reads in
    let into = c.load_part-2.new.into in
    let loaded = c.load_part-2.ensures.taught c.args.seat.now.me (subst (λ n. AreLoaded instance c.args.r c.args.from c.args.seat.now.me n c.loop-i.into c.loop-i.seat.me) (omega (arith, c.loop-i-test.false, c.loop-i.auto.i-end)) c.loop-i.invariant.loaded) in
    record {
      table = c.load_part-2.ensures.table ∙ c.loop-i.invariant.table ∙ sym c.requires.one.table_is;
      taught = subst (λ ws. TeachesRun instance (loads_from c.args.r c.args.from) ws c.args.seat.now.me c.load_part-2.new.seat.me) (take_all _ into (omega (arith, c.load_part-2.ensures.length, c.loop-i.invariant.length))) loaded.taught;
      length = c.load_part-2.ensures.length ∙ c.loop-i.invariant.length;
    }
