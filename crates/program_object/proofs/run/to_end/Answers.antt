use Rattle.std.proofs.Common.{◌∙◌, IsTrue, subst, sym}
use Rattle.cx_base.proofs.MemoryLemmas.{Becomes-then, Framed-then}
use Rattle.program_object.specs.Run.{setting}
use Rattle.program_object.proofs.Running.{at_end, on_by_one}
use Rattle.program_object.proofs.run.to_end.Goals as goal

-- a step that ends the run makes what went before it a run to that end
pub returns-in-Some-clause-done : goal.returns-in-Some-clause-done
returns-in-Some-clause-done g c =
    let a = c.args in
    let i = c.loop-turn.invariant in
    let e = c.in_ok-step.ensures in
    let p = setting a.code.now a.constants.now a.words a.request.now a.writes in
    record {
      done = Becomes-then i.done e.done.done (λ x y z m n. at_end p a.fuel c.loop-turn.turn c.in_ok-step.field-0 c.in-Some.end a.machine.now c.loop-turn.machine c.step.new.machine a.undo.now c.loop-turn.undo c.step.new.undo x y z c.loop-turn-test.true m n c.in-Some.is);
      halts = tt;
      framed = Framed-then i.framed e.done.framed;
    }

-- a step that does not end the run leaves one instruction fewer of it
pub loop-turn-preserved : goal.loop-turn-preserved
loop-turn-preserved g c =
    let a = c.args in
    let i = c.loop-turn.invariant in
    let e = c.in_ok-step.ensures in
    let p = setting a.code.now a.constants.now a.words a.request.now a.writes in
    record {
      done = Becomes-then i.done e.done.done (λ x y z m n. on_by_one p a.fuel c.loop-turn.turn c.in_ok-step.field-0 a.machine.now c.loop-turn.machine c.step.new.machine a.undo.now c.loop-turn.undo c.step.new.undo x y z c.loop-turn-test.true m n c.in-None.is);
      kept = λ no. Becomes-then (i.kept no) (e.leaves.kept no) (λ x y z m n. m ∙ n);
      size = e.done.framed.size_kept ∙ i.size;
      writable = λ yes. subst IsTrue (sym e.done.framed.writable_kept) (i.writable yes);
      few = e.leaves.few;
      framed = Framed-then i.framed e.done.framed;
    }
