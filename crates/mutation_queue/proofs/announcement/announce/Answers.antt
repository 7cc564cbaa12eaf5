use Rattle.std.proofs.Common.{◌≡◌, ◌≢◌, ◌+◌, ◌<◌, ◌≤◌, ◌∷◌, ℕ, length, slice_index, refl, sym, ap, subst, ◌∙◌, arith, add-one}
use Rattle.cx_core.specs.declared.kinds.Kind.TheVariants.{WriteCell}
use Rattle.cx_core.specs.QueueEvents.{cell_of, next_number}
use Rattle.cx_table.specs.Steps.{Steps}
use Rattle.mutation_queue.proofs.Results.{on_err}
use Rattle.mutation_queue.proofs.Writes.{HasTo, announced_ready, announces, halts_at, has_first, has_new, has_run}
use Rattle.mutation_queue.proofs.announcement.announce.Goals as goal

pub loop-at-init : goal.loop-at-init
loop-at-init g c =
    let r = c.args.shared.now in
    let s = c.args.seat.now in
    let t = c.write_cell.new.seat in
    let op = c.args.op.now in
    let number = c.next_number-number.result in
    let words = next_number r.base s.known.local ∷ op in
    let found = c.cell_apart-at.ensures in
    let to = c.cell_apart-at.result in
    let value : number ≡ slice_index words 0 = c.next_number-number.ensures.value ∙ ap (λ b. b + length s.known.local.own + 1) c.requires.may.of.before in
    let made = subst (λ j. Steps r g.O.Object.step g.O.Object.only_reads (WriteCell j 0 number) 0 s t) c.from-j.ensures c.in_ok-write_cell.ensures.made in
    let first = has_first s c.args.cell words c.next_number-number.ensures.cells c.requires.may.few (omega (arith, c.told-op)) r g.O.Object.step g.O.Object.only_reads number t value made in
    record {
      most = found.within.1;
      to = has_run s c.args.cell words c.next_number-number.ensures.cells c.requires.may.few (omega (arith, c.told-op)) 0 to t (omega arith) found.within.1 first
          (subst (λ j. (k : ℕ) → 0 ≤ k → k < to → slice_index (cell_of t.known.local j).words (k + 1) ≡ slice_index op k) c.from-j.ensures found.same);
      apart = subst (λ j. to < 144 → slice_index (cell_of t.known.local j).words (to + 1) ≢ slice_index op to) c.from-j.ensures found.apart;
    }

pub returns-in_err-write_cell-2-clause-halted : goal.returns-in_err-write_cell-2-clause-halted
returns-in_err-write_cell-2-clause-halted g c =
    let s = c.args.seat.now in
    let t = c.loop-at.seat in
    let at = c.loop-at.at in
    let op = c.args.op.now in
    let number = next_number c.args.shared.now.base s.known.local in
    let differs = subst (λ n. slice_index (cell_of t.known.local c.args.cell).words n ≢ slice_index op at) (add-one at) (c.loop-at.invariant.apart c.loop-at-test.true) in
    let halted = c.in_err-write_cell-2.ensures.halted in
    on_err c.from_residual-in_err-write_cell-2.result _
    (halts_at s c.args.cell (number ∷ op) c.next_number-number.ensures.cells c.requires.may.few (omega (arith, c.told-op)) at t c.write_cell-in-loop-at.new.seat (slice_index op at) c.loop-at-test.true
    refl c.loop-at.invariant.to differs halted.same halted.limit)

pub loop-at-preserved : goal.loop-at-preserved
loop-at-preserved g c =
    let r = c.args.shared.now in
    let s = c.args.seat.now in
    let t = c.loop-at.seat in
    let u = c.write_cell-in-loop-at.new.seat in
    let at = c.loop-at.at in
    let op = c.args.op.now in
    let words = next_number r.base s.known.local ∷ op in
    let found = c.cell_apart-at-in-loop-at.ensures in
    let to = c.cell_apart-at-in-loop-at.result in
    let made = subst (λ n. Steps r g.O.Object.step g.O.Object.only_reads (WriteCell c.args.cell n (slice_index op at)) 0 t u) (add-one at)
    (subst (λ j. Steps r g.O.Object.step g.O.Object.only_reads (WriteCell j (at + 1) (slice_index op at)) 0 t u) c.from-j.ensures c.in_ok-write_cell-2.ensures.made) in
    let differs = subst (λ n. slice_index (cell_of t.known.local c.args.cell).words n ≢ slice_index op at) (add-one at) (c.loop-at.invariant.apart c.loop-at-test.true) in
    let new = has_new s c.args.cell words c.next_number-number.ensures.cells c.requires.may.few (omega (arith, c.told-op)) r g.O.Object.step g.O.Object.only_reads at (slice_index op at) t u c.loop-at-test.true refl c.loop-at.invariant.to differs made in
    record {
      most = found.within.1;
      to = has_run s c.args.cell words c.next_number-number.ensures.cells c.requires.may.few (omega (arith, c.told-op)) (at + 1) to u found.within.0 found.within.1 (subst (λ n. HasTo c.args.cell words n s u) (sym (add-one at)) new)
          (subst (λ j. (k : ℕ) → at + 1 ≤ k → k < to → slice_index (cell_of u.known.local j).words (k + 1) ≡ slice_index op k) c.from-j.ensures found.same);
      apart = subst (λ j. to < 144 → slice_index (cell_of u.known.local j).words (to + 1) ≢ slice_index op to) c.from-j.ensures found.apart;
    }

pub returns-clause-announced : goal.returns-clause-announced
returns-clause-announced g c =
    let s = c.args.seat.now in
    let words = next_number c.args.shared.now.base s.known.local ∷ c.args.op.now in
    let end : c.loop-at.at ≡ 144 = omega (arith, c.loop-at-test.false, c.loop-at.invariant.most) in
    let done = announces s c.args.cell words c.next_number-number.ensures.cells c.requires.may.few (omega (arith, c.told-op)) c.loop-at.seat (subst (λ n. HasTo c.args.cell words n s c.loop-at.seat) end c.loop-at.invariant.to) in
    record { announces = done; ready = (announced_ready c.args.shared.now c.args.cell c.args.op.now s c.loop-at.seat done c.requires.may.of).0 }
