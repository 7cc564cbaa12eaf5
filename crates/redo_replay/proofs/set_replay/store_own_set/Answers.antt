use Rattle.std.proofs.Common.{◌≡◌, ◌+◌, ◌*◌, ◌<◌, slice_index, ap, subst, sym, ◌∙◌, arith}
use Rattle.cx_base.specs.Memory.{Becomes}
use Rattle.cx_base.proofs.MemoryLemmas.{Becomes-store}
use Rattle.cx_core.specs.QueueEvents.{cell_of}
use Rattle.cx_core.specs.Region.{region_words}
use Rattle.cx_core.specs.WriteSet.{stored}
use Rattle.table_invariant.specs.Stores.{FitsIn}
use Rattle.table_invariant.proofs.Stepping.{on_then}
use Rattle.table_invariant.specs.Seats.{Seated}
use Rattle.redo_set.specs.Sets.{put_over}
use Rattle.redo_replay.proofs.Stored.{stored_more, stored_ready}
use Rattle.redo_replay.proofs.set_replay.store_own_set.Goals as goal

pub put_pair-requires-clause-at : goal.put_pair-requires-clause-at
put_pair-requires-clause-at g c =
    let i = c.loop-m.invariant in
    let set = λ (s : Seated). (cell_of s.known.local c.args.cell).set in
    let below : c.loop-m.m < slice_index (set c.args.seat.now) 0 = (let end_ = i.end in let less = c.loop-m-test.true in omega (arith, end_, less)) in
    subst (λ a. a < region_words (g.O.Object.line_count c.args.shared.now.object)) (sym (c.set_word-at.ensures ∙ ap (λ (s : Seated). slice_index (set s) (2 * c.loop-m.m + 1)) i.leaves.rest)) (c.requires.next.comes.within.within c.loop-m.m below)

pub loop-m-preserved : goal.loop-m-preserved
loop-m-preserved g c =
    let i = c.loop-m.invariant in
    let e = c.in_ok-put_pair.ensures in
    let m = c.loop-m.m in
    let set = λ (s : Seated). (cell_of s.known.local c.args.cell).set in
    let same = i.leaves.rest in
    record {
      end = i.end;
      few = i.few;
      done = Becomes-store i.done e.stored.done (λ first x y s r. stored_more m (set c.args.seat.now) x y c.set_word-at.result c.set_word-v.result r
          (c.set_word-at.ensures ∙ ap (λ (s : Seated). slice_index (set s) (2 * m + 1)) same) (c.set_word-v.ensures ∙ ap (λ (s : Seated). slice_index (set s) (2 * m + 2)) same));
      leaves = record { still = e.leaves.still; begun = e.leaves.begun; within = e.leaves.within; since = on_then c.args.seat.now c.loop-m.seat c.put_pair.new.seat i.leaves.since e.leaves.since; rest = e.leaves.rest ∙ same };
    }

pub returns-clause-ready : goal.returns-clause-ready
unfolding put_over
returns-clause-ready g c =
    let l = c.loop-m in
    let t = c.args.shared.now in
    let before = c.args.seat.now in
    let set = (cell_of before.known.local c.args.cell).set in
    let end_ : l.m ≡ c.set_word-m-end.result = omega (arith, l.auto.m-end, c.loop-m-test.false) in
    stored_ready g.O.Object t c.args.held.now set before l.seat c.requires.ready.image c.requires.next.comes.had l.invariant.leaves
    (subst (λ n. Becomes (FitsIn g.O.Object t before.known) (FitsIn g.O.Object t l.seat.known) (λ was now. now ≡ stored n set was)) (end_ ∙ c.set_word-m-end.ensures) l.invariant.done)
