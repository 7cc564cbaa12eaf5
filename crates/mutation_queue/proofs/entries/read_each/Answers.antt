use Rattle.std.proofs.Common.{◌≡◌, ◌<◌, ◌/◌, ℕ, List, length, take, sym, ap, ◌∙◌, arith}
use Rattle.std.proofs.lemmas.List.{length-set, length-take, take_all}
use Rattle.cx_table.specs.Running.{instance_at}
use Rattle.mutation_queue.specs.Entries.{with_read}
use Rattle.mutation_queue.proofs.Results.{on_err}
use Rattle.cx_table.proofs.Runs.{take_set}
use Rattle.mutation_queue.proofs.EntryReads.{halts_among, none_ends, none_read, read_one}
use Rattle.mutation_queue.proofs.entries.read_each.Goals as goal

-- i words were read
so_far : (into : List ℕ) (i : ℕ) → length into ≡ 145 → i < 145 → i ≡ length (take i into)
so_far into i long below = omega (arith, length-take i into)

pub loop-i-init : goal.loop-i-init
loop-i-init g c = record {
  seat = none_read (c.args.cell / 16) c.args.ticket c.args.seat.now;
  long = c.told-into;
  within = λ n below e. absurd (omega arith);
  of = c.requires.may.of;
  fits = λ some. absurd (omega arith);
}

pub returns-in_err-into-clause-halted : goal.returns-in_err-into-clause-halted
returns-in_err-into-clause-halted g c =
    let below = c.loop-i-test.true in
    let i = c.loop-i.i in
    let ws = take i c.loop-i.into in
    let at : i ≡ length ws = so_far c.loop-i.into i c.loop-i.invariant.long (omega arith) in
    on_err c.from_residual.result _ (halts_among (c.args.cell / 16) c.args.ticket ws c.args.seat.now c.loop-i.seat c.read_cell.new.seat (omega (arith, at)) c.loop-i.invariant.seat
    c.in_err-into.ensures.halted.same c.in_err-into.ensures.halted.limit)

pub loop-i-preserved : goal.loop-i-preserved
loop-i-preserved g c =
    let instance = instance_at c.args.shared.now g.O.Object.step g.O.Object.only_reads in
    let below = c.loop-i-test.true in
    let i = c.loop-i.i in
    let ws = take i c.loop-i.into in
    let v = c.in_ok-into.field-0 in
    let ok = c.in_ok-into.ensures.made in
    let at : i ≡ length ws = so_far c.loop-i.into i c.loop-i.invariant.long (omega arith) in record {
      seat = read_one instance c.args.ticket c.args.cell ws v i c.args.seat.now c.loop-i.seat c.read_cell.new.seat c.loop-i.invariant.seat at ok.made
          ∙ ap (λ (xs : List ℕ). with_read (c.args.cell / 16) c.args.ticket xs c.args.seat.now) (sym (take_set c.loop-i.into i v (omega (arith, c.loop-i.invariant.long))));
      long = length-set c.loop-i.into i v ∙ c.loop-i.invariant.long;
      within = none_ends (c.args.cell / 16) c.args.ticket ws i c.args.seat.now c.loop-i.seat c.loop-i.invariant.seat at c.loop-i.invariant.within ok.allowed;
      of = ok.seat;
      fits = λ some. c.in_ok-into.ensures.fits;
    }

pub returns-clause-read : goal.returns-clause-read
returns-clause-read g c =
    let end : c.loop-i.i ≡ 145 = omega (arith, c.loop-i-test.false, c.loop-i.auto) in
    let inv = c.loop-i.invariant in
    record {
      seat = inv.seat ∙ ap (λ (xs : List ℕ). with_read (c.args.cell / 16) c.args.ticket xs c.args.seat.now) (take_all c.loop-i.i c.loop-i.into (omega (arith, inv.long)));
      fits = inv.fits (omega (arith, end));
      within = λ n below e. inv.within n (omega (arith, end, below)) e;
    }
