use Rattle.std.proofs.Common.{length, subst, sym, OnErr, OnOk, ℕ}
use Rattle.table_invariant.specs.Seats.{Seated}
use Rattle.redo_set.specs.Taking.{HaltsReadingSet, KeepsTaking, MayReadSet, ReadsSetWords}
use Rattle.redo_set.proofs.Takings.{leaves_read, run_since, run_words}
use Rattle.redo_set.proofs.taken.read_words.Goals as goal

pub returns-then-read_set_words-clause-read : goal.returns-then-read_set_words-clause-read
returns-then-read_set_words-clause-read g c =
    run_words g.O.Object c.args.shared.now c.args.cell c.args.ticket 1 c.read_set_words.new.into c.args.seat.now c.read_set_words.new.seat c.if-read_set_words.ensures.run

pub returns-then-read_set_words-clause-leaves : goal.returns-then-read_set_words-clause-leaves
returns-then-read_set_words-clause-leaves g c =
    let r = c.args.shared.now in
    let words = c.read_set_words.new.into in
    let s = c.args.seat.now in
    let t = c.read_set_words.new.seat in
    let run = c.if-read_set_words.ensures.run in
    leaves_read g.O.Object r c.args.ticket 1 words s t (run_words g.O.Object r c.args.cell c.args.ticket 1 words s t run) c.read_set_words.ensures.seat (run_since g.O.Object r c.args.cell c.args.ticket 1 words s t run)

pub read_each-requires-clause-may : goal.read_each-requires-clause-may
read_each-requires-clause-may g c = subst (MayReadSet g.O.Object c.args.shared.now c.args.cell c.args.ticket) (sym c.if-read_set_words.ensures.run.0) c.requires.may

pub returns-clause-read : goal.returns-clause-read
returns-clause-read g c =
    subst (λ (s : Seated). OnOk c.read_each.result (ReadsSetWords g.O.Object c.args.shared.now c.args.ticket 1 c.read_each.new.into s c.read_each.new.seat)) c.if-read_set_words.ensures.run.0 c.read_each.ensures.read

pub returns-clause-leaves : goal.returns-clause-leaves
returns-clause-leaves g c = subst (λ (s : Seated). KeepsTaking c.args.shared.now s c.read_each.new.seat) c.if-read_set_words.ensures.run.0 c.read_each.ensures.leaves

pub returns-clause-halted : goal.returns-clause-halted
returns-clause-halted g c =
    subst (λ (n : ℕ). OnErr c.read_each.result (HaltsReadingSet c.args.ticket 1 n c.args.seat.now c.read_each.new.seat)) c.if-read_set_words.ensures.length
    (subst (λ (s : Seated). OnErr c.read_each.result (HaltsReadingSet c.args.ticket 1 (length c.read_set_words.new.into) s c.read_each.new.seat)) c.if-read_set_words.ensures.run.0 c.read_each.ensures.halted)
