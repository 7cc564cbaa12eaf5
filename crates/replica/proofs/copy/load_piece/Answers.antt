use Rattle.std.proofs.Common.{◌+◌, ◌*◌, length, take, refl, subst, arith}
use Rattle.std.proofs.lemmas.List.{length-take-le}
use Rattle.replica.specs.Copies.{EndsLoads}
use Rattle.replica.proofs.Access.{load_guard, shared_guard}
use Rattle.replica.proofs.CopySteps.{at_err, one_run, two_runs}
use Rattle.replica.proofs.LineCopies.{on_run}
use Rattle.replica.proofs.LineLoads.{IsRunOf, seen_runs}
use Rattle.replica.proofs.Runs.{on_err}
use Rattle.replica.proofs.copy.load_piece.Goals as goal

pub load_run-requires-clause-guard : goal.load_run-requires-clause-guard
load_run-requires-clause-guard g c =
    λ i below. load_guard _ c.args.shared.now _ (g.O.Object.step c.args.shared.now.object) c.args.held.now c.replica.result (c.args.from + i) c.args.seat.now c.replica.ensures c.requires.both.exclusive (omega (arith, below, c.requires.piece.within))

pub load_run-requires-2-clause-seat : goal.load_run-requires-2-clause-seat
load_run-requires-2-clause-seat g c =
    let both = (one_run g.O.Object c.args.shared.now c.args.held.now c.args.source.now c.args.from c.replica.result c.load_run.new.into c.args.seat.now c.load_run.new.seat c.requires.both c.in_ok-load_run.ensures.made).0.both in
    let small = both.exclusive.sized.small in
    (both.exclusive.of, omega (arith, c.requires.piece.within, c.requires.piece.lengths, small))

pub load_run-requires-2-clause-guard : goal.load_run-requires-2-clause-guard
load_run-requires-2-clause-guard g c =
    let t = c.args.shared.now in
    let both = (one_run g.O.Object c.args.shared.now c.args.held.now c.args.source.now c.args.from c.replica.result c.load_run.new.into c.args.seat.now c.load_run.new.seat c.requires.both c.in_ok-load_run.ensures.made).0.both in
    λ i below. shared_guard (g.O.Object.line_count t.object) t (g.O.Object.lawful t.object) c.args.source.now c.replica-2.result (c.args.from + i) c.load_run.new.seat c.replica-2.ensures both.shared (omega (arith, below, c.requires.piece.within, c.requires.piece.lengths))

-- ---- the first run was ended by the limit

pub returns-in_err-load_run-clause-leaves : goal.returns-in_err-load_run-clause-leaves
returns-in_err-load_run-clause-leaves g c =
    let halted = c.in_err-load_run.ensures.halted in
    (one_run g.O.Object c.args.shared.now c.args.held.now c.args.source.now c.args.from c.replica.result (take halted.n c.load_run.new.into) c.args.seat.now c.load_run.new.seat c.requires.both halted.run).0

pub returns-in_err-load_run-clause-steps : goal.returns-in_err-load_run-clause-steps
returns-in_err-load_run-clause-steps g c =
    let halted = c.in_err-load_run.ensures.halted in
    let fewer = halted.fewer in
    let count = (one_run g.O.Object c.args.shared.now c.args.held.now c.args.source.now c.args.from c.replica.result (take halted.n c.load_run.new.into) c.args.seat.now c.load_run.new.seat c.requires.both halted.run).1.count in
    let most = count.0 in
    at_err _ c.from_residual.result (EndsLoads (2 * length c.args.held_words.now) c.args.seat.now.known c.load_run.new.seat.known) c.from_residual.ensures.1
    (λ e. (omega (arith, most, fewer, length-take-le halted.n c.load_run.new.into (omega (arith, fewer)), c.load_run.ensures.length), count.1))

pub returns-in_err-load_run-clause-halts : goal.returns-in_err-load_run-clause-halts
returns-in_err-load_run-clause-halts g c = on_err c.from_residual.result _ c.in_err-load_run.ensures.halted.limit

-- ---- the second was

pub returns-in_err-load_run-2-clause-leaves : goal.returns-in_err-load_run-2-clause-leaves
returns-in_err-load_run-2-clause-leaves g c =
    let halted = c.in_err-load_run-2.ensures.halted in
    (two_runs g.O.Object c.args.shared.now c.args.held.now c.args.source.now c.args.from c.replica.result c.replica-2.result c.load_run.new.into (take halted.n c.load_run-2.new.into) c.args.seat.now c.load_run.new.seat c.load_run-2.new.seat c.requires.both c.in_ok-load_run.ensures.made halted.run).leaves

pub returns-in_err-load_run-2-clause-steps : goal.returns-in_err-load_run-2-clause-steps
returns-in_err-load_run-2-clause-steps g c =
    let halted = c.in_err-load_run-2.ensures.halted in
    let fewer = halted.fewer in
    let count = (two_runs g.O.Object c.args.shared.now c.args.held.now c.args.source.now c.args.from c.replica.result c.replica-2.result c.load_run.new.into (take halted.n c.load_run-2.new.into) c.args.seat.now c.load_run.new.seat c.load_run-2.new.seat c.requires.both c.in_ok-load_run.ensures.made halted.run).count in
    let most = count.0 in
    at_err _ c.from_residual-in_err-load_run-2.result (EndsLoads (2 * length c.args.held_words.now) c.args.seat.now.known c.load_run-2.new.seat.known) c.from_residual-in_err-load_run-2.ensures.1
    (λ e. (omega (arith, most, fewer, length-take-le halted.n c.load_run-2.new.into (omega (arith, fewer)), c.load_run.ensures.length, c.load_run-2.ensures.length, c.requires.piece.lengths), count.1))

pub returns-in_err-load_run-2-clause-halts : goal.returns-in_err-load_run-2-clause-halts
returns-in_err-load_run-2-clause-halts g c = on_err c.from_residual-in_err-load_run-2.result _ c.in_err-load_run-2.ensures.halted.limit

-- ---- both were made

pub returns-clause-leaves : goal.returns-clause-leaves
returns-clause-leaves g c =
    (two_runs g.O.Object c.args.shared.now c.args.held.now c.args.source.now c.args.from c.replica.result c.replica-2.result c.load_run.new.into c.load_run-2.new.into c.args.seat.now c.load_run.new.seat c.load_run-2.new.seat c.requires.both c.in_ok-load_run.ensures.made c.in_ok-load_run-2.ensures.made).leaves

pub returns-clause-steps : goal.returns-clause-steps
returns-clause-steps g c =
    let count = (two_runs g.O.Object c.args.shared.now c.args.held.now c.args.source.now c.args.from c.replica.result c.replica-2.result c.load_run.new.into c.load_run-2.new.into c.args.seat.now c.load_run.new.seat c.load_run-2.new.seat c.requires.both c.in_ok-load_run.ensures.made c.in_ok-load_run-2.ensures.made).count in
    let most = count.0 in
    (omega (arith, most, c.load_run.ensures.length, c.load_run-2.ensures.length, c.requires.piece.lengths), count.1)

pub returns-clause-loaded : goal.returns-clause-loaded
returns-clause-loaded g c =
    let h = c.args.held.now in
    let s = c.args.source.now in
    let from = c.args.from in
    let us = c.load_run.new.into in
    let vs = c.load_run-2.new.into in
    let first = c.args.seat.now.known in
    let mid = c.load_run.new.seat.known in
    let last = c.load_run-2.new.seat.known in
    let runs = two_runs g.O.Object c.args.shared.now c.args.held.now c.args.source.now c.args.from c.replica.result c.replica-2.result c.load_run.new.into c.load_run-2.new.into c.args.seat.now c.load_run.new.seat c.load_run-2.new.seat c.requires.both c.in_ok-load_run.ensures.made c.in_ok-load_run-2.ensures.made in
    record {
      seen = seen_runs h.replica s.replica from (length us) us vs first mid last refl (omega (arith, c.load_run.ensures.length, c.load_run-2.ensures.length, c.requires.piece.lengths))
          c.requires.both.exclusive.right.holds c.requires.both.shared.right.holds
          (subst (λ q. IsRunOf q from us first mid) c.replica.ensures runs.one) (subst (λ q. IsRunOf q from vs mid last) c.replica-2.ensures runs.two);
      copied = λ skips region known below kept copied. on_run c.replica-2.result from vs mid last runs.two skips region known below kept (on_run c.replica.result from us first mid runs.one skips region known below kept copied);
    }
