use Rattle.std.proofs.Common.{◌-◌, ◌∙◌, IsTrue, subst, sym, refl}
use Rattle.cx_base.proofs.MemoryLemmas.{Becomes-then, Framed-then}
use Rattle.program_object.proofs.Running.{back_by_one}
use Rattle.program_object.proofs.undo.undo_all.Goals as goal

-- one word more put back leaves one store fewer to be undone
pub loop-turn-preserved : goal.loop-turn-preserved
loop-turn-preserved g c =
    let u = c.args.undo.now in
    let i = c.loop-turn.invariant in
    let e = c.in_ok-put_back.ensures in
    let t = c.loop-turn.turn in
    record {
      done = Becomes-then i.done e.done (λ x y z m n. back_by_one c.args.words u.count t (u.count - 1 - t) u.places u.words x y z c.loop-turn-test.true refl m n);
      size = e.framed.size_kept ∙ i.size;
      writable = subst IsTrue (sym e.framed.writable_kept) i.writable;
      framed = Framed-then i.framed e.framed;
    }
