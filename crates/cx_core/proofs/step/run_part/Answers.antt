use Rattle.std.proofs.Common.{◌≡◌, ℕ, refl, ◌+◌, ◌*◌, ap, sym, subst, ◌∙◌, arith, rules}
use Rattle.std.specs.Result.{IfOk}
use Rattle.cx_base.specs.Memory.{Becomes}
use Rattle.cx_core.specs.Region.{object_part}
use Rattle.cx_core.specs.Step.{OnPart}
use Rattle.cx_core.proofs.StepLemmas.{part_always, part_done}
use Rattle.cx_core.proofs.step.run_part.Goals as goal

pub run_into-requires-clause-lawful : goal.run_into-requires-clause-lawful
unfolding object_part
run_into-requires-clause-lawful g c =
    let len = 8 * c.lines-len.result in
    part_always (g.O.Object.lawful c.args.object.now) 1168 len
    (λ first now s. omega (arith, (g.met.M.Memory.words c.args.mem.now first now s).long, c.requires.region.size, c.lines-len.ensures))
    c.requires.lawful

pub returns : goal.returns
returns g c =
    let start : (n : ℕ) → n ≡ 8 * c.lines-len.result → g.M.Memory.size c.args.mem.now ≡ 1168 + n = λ n e. omega (arith, e, c.requires.region.size, c.lines-len.ensures) in
    let size : g.M.Memory.size c.run_into.new.mem.inner.now ≡ g.M.Memory.size c.args.mem.now = ap (λ f. f.whole) c.run_into.ensures.framed.fixed_kept in
    let same : c.mem-1.given.0 ≡ c.run_into.new.mem.inner.now = search rules in
    record {
      done =
          subst (λ m. IfOk c.run_into.result (λ _. Becomes (g.M.Memory.stands c.args.mem.now) (g.M.Memory.stands m) (OnPart 1168 (λ before now. g.O.Object.step c.args.object.now before c.args.op.now ≡ (now, c.run_into.new.reply))))) (sym same)
          (part_done (g.M.Memory.stands c.args.mem.now) (g.M.Memory.stands c.run_into.new.mem.inner.now) (λ _ before now. g.O.Object.step c.args.object.now before c.args.op.now ≡ (now, c.run_into.new.reply)) c.run_into.result 1168 (8 * c.lines-len.result) c.run_into.new.mem.from c.run_into.new.mem.len (ap (λ f. f.from) c.run_into.ensures.framed.fixed_kept) (ap (λ f. f.len) c.run_into.ensures.framed.fixed_kept)
          (λ first now s. (g.met.M.Memory.words c.run_into.new.mem.inner.now first now s).long ∙ size ∙ start (8 * c.lines-len.result) refl)
          c.run_into.ensures.done);
      halts = search rules;
      framed = search rules;
    }
