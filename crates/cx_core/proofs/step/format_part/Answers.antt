use Rattle.std.proofs.Common.{◌≡◌, ℕ, refl, ◌+◌, ◌*◌, ap, sym, subst, ◌∙◌, arith, rules}
use Rattle.std.specs.Result.{IfOk}
use Rattle.cx_base.specs.Memory.{Becomes}
use Rattle.cx_core.specs.Step.{OnPart}
use Rattle.cx_core.proofs.StepLemmas.{part_done}
use Rattle.cx_core.proofs.step.format_part.Goals as goal

pub returns : goal.returns
returns g c =
    let start : (n : ℕ) → n ≡ 8 * c.lines-len.result → g.M.Memory.size c.args.mem.now ≡ 1168 + n = λ n e. omega (arith, e, c.requires.region.size, c.lines-len.ensures) in
    let size : g.M.Memory.size c.format.new.mem.inner.now ≡ g.M.Memory.size c.args.mem.now = ap (λ f. f.whole) c.format.ensures.framed.fixed_kept in
    let same : c.mem-1.given.0 ≡ c.format.new.mem.inner.now = search rules in
    record {
      done =
          subst (λ m. IfOk c.format.result (λ _. Becomes (g.M.Memory.stands c.args.mem.now) (g.M.Memory.stands m) (OnPart 1168 (λ _ now. now ≡ g.O.Object.opening c.args.object.now)))) (sym same)
          (part_done (g.M.Memory.stands c.args.mem.now) (g.M.Memory.stands c.format.new.mem.inner.now) (λ _ _ now. now ≡ g.O.Object.opening c.args.object.now) c.format.result 1168 (8 * c.lines-len.result) c.format.new.mem.from c.format.new.mem.len (ap (λ f. f.from) c.format.ensures.framed.fixed_kept) (ap (λ f. f.len) c.format.ensures.framed.fixed_kept)
          (λ first now s. (g.met.M.Memory.words c.format.new.mem.inner.now first now s).long ∙ size ∙ start (8 * c.lines-len.result) refl)
          c.format.ensures.done);
      halts = search rules;
      framed = search rules;
    }
