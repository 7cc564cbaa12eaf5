use Rattle.std.proofs.Common.{◌≡◌, ◌++◌, ◌<◌, slice_index, ap, refl, subst, sym, ◌∙◌, arith}
use Rattle.cx_base.specs.Memory.{Becomes}
use Rattle.cx_base.proofs.MemoryLemmas.{Becomes-same, Becomes-weaker, Becomes-store}
use Rattle.cx_core.specs.Region.{region_words}
use Rattle.cx_core.specs.WriteSet.{stored}
use Rattle.table_invariant.specs.Stores.{FitsIn}
use Rattle.table_invariant.proofs.Stepping.{on_then}
use Rattle.redo_replay.specs.Storing.{set_stores, stores_to}
use Rattle.redo_set.specs.Sets.{put_over}
use Rattle.redo_replay.proofs.Stored.{no_stores, stored_more, stored_ready, stores_more}
use Rattle.redo_replay.proofs.set_replay.store_set.Goals as goal

pub loop-m-init : goal.loop-m-init
loop-m-init g c =
    record {
      end = c.len-m-end.ensures.count;
      few = c.len-m-end.ensures.few;
      done = Becomes-weaker (Becomes-same _) (λ first x y s same. sym same);
      stores = no_stores c.args.seat.now.known.accesses c.args.set.now;
      leaves = record { still = c.requires.ready.is_held; begun = c.requires.ready.image.begun; within = c.steps_are_within_limit.ensures; since = omega arith; rest = refl };
    }

pub put_pair-requires-clause-at : goal.put_pair-requires-clause-at
put_pair-requires-clause-at g c =
    let i = c.loop-m.invariant in
    let below : c.loop-m.m < slice_index c.args.set.now 0 = (let end_ = i.end in let less = c.loop-m-test.true in omega (arith, end_, less)) in
    subst (λ a. a < region_words (g.O.Object.line_count c.args.shared.now.object)) (sym c.pair-at.ensures.at) (c.requires.next.within.within c.loop-m.m below)

pub loop-m-preserved : goal.loop-m-preserved
loop-m-preserved g c =
    let i = c.loop-m.invariant in
    let e = c.in_ok-put_pair.ensures in
    let m = c.loop-m.m in
    let set = c.args.set.now in
    record {
      end = i.end;
      few = i.few;
      done = Becomes-store i.done e.stored.done (λ first x y s r. stored_more m set x y c.pair-at.result.0 c.pair-at.result.1 r c.pair-at.ensures.at c.pair-at.ensures.value);
      stores = stores_more m set c.pair-at.result.0 c.pair-at.result.1 c.args.seat.now.known.accesses c.loop-m.seat.known.accesses c.put_pair.new.seat.known.accesses i.stores e.stored.stores c.pair-at.ensures.at c.pair-at.ensures.value;
      leaves = record { still = e.leaves.still; begun = e.leaves.begun; within = e.leaves.within; since = on_then c.args.seat.now c.loop-m.seat c.put_pair.new.seat i.leaves.since e.leaves.since; rest = e.leaves.rest ∙ i.leaves.rest };
    }

pub returns-clause-stored : goal.returns-clause-stored
unfolding put_over set_stores
returns-clause-stored g c =
    let l = c.loop-m in
    let t = c.args.shared.now in
    let before = c.args.seat.now in
    let set = c.args.set.now in
    let end_ : l.m ≡ slice_index set 0 = (let stop = c.loop-m-test.false in let top = l.invariant.end in let low = l.auto.m-end in omega (arith, low, stop, top)) in
    let done : Becomes (FitsIn g.O.Object t before.known) (FitsIn g.O.Object t l.seat.known) (λ was now. now ≡ put_over set was) =
    subst (λ n. Becomes (FitsIn g.O.Object t before.known) (FitsIn g.O.Object t l.seat.known) (λ was now. now ≡ stored n set was)) end_ l.invariant.done in
    record {
      ready = stored_ready g.O.Object t c.args.held.now set before l.seat c.requires.ready.image c.requires.next.had l.invariant.leaves done;
      done = done;
      stores = l.invariant.stores ∙ ap (λ n. before.known.accesses ++ stores_to n set) end_;
    }
