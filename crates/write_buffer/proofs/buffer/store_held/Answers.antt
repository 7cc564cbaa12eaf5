use Rattle.std.proofs.Common.{subst}
use Rattle.cx_base.specs.Memory.{Words}
use Rattle.cx_base.proofs.MemoryLemmas.{Framed-then, Framed-access}
use Rattle.write_buffer.proofs.Buffered.{becomes_stored, becomes_kept}
use Rattle.write_buffer.proofs.buffer.store_held.Goals.{then-held-i+in_ok-store, else-held-i}
use Rattle.write_buffer.proofs.buffer.store_held.Goals as goal

pub loop-i-preserved : goal.loop-i-preserved
loop-i-preserved g c =
    let l = c.loop-i in
    let h = c.args.held.now in
    elim c.if-held-i.branch [
      | then-held-i+in_ok-store w ↦ rw w.mem-is (record {
        done = becomes_stored (g.M.Memory.size c.args.mem.now) l.i h.count h.places h.found h.values c.loop-i-test.true c.requires.held
            (λ key now s. subst (λ n. Words n now) l.invariant.framed.size_kept (g.met.M.Memory.words l.mem key now s)) l.invariant.done w.in_ok-store.ensures.stands;
        framed = Framed-then l.invariant.framed (Framed-access w.in_ok-store.ensures.access);
      })
      | else-held-i w ↦ rw w.mem-is (record {
        done = becomes_kept (g.M.Memory.size c.args.mem.now) l.i h.count h.places h.found h.values c.loop-i-test.true w.if-held-i.false c.requires.held l.invariant.done;
        framed = l.invariant.framed;
      })
    ]
