use Rattle.std.proofs.Common.{◌≡◌, ℕ, refl, ◌+◌, ◌*◌, ap, sym, subst, ◌∙◌, arith, rules}
use Rattle.std.proofs.lemmas.Result.{on_ok_weaker}
use Rattle.std.specs.Result.{OnOk}
use Rattle.cx_base.specs.Memory.{Becomes, Reads}
use Rattle.cx_core.specs.Region.{object_part}
use Rattle.cx_core.proofs.StepLemmas.{part_always}
use Rattle.cx_attempts.proofs.Queries.{part_queried}
use Rattle.cx_attempts.proofs.current.query_part.Given.{Over}
use Rattle.cx_attempts.proofs.current.query_part.Goals as goal
use Rattle.cx_attempts.proofs.current.query_part.Goals.{After-query_into}

pub query_into-requires-clause-lawful : goal.query_into-requires-clause-lawful
unfolding object_part
query_into-requires-clause-lawful g c =
    let len = 8 * c.lines-len.result in
    part_always (g.O.Object.lawful c.args.object.now) 1168 len
    (λ first now s. omega (arith, (g.met.M.Memory.words c.args.mem.now first now s).long, c.requires.size, c.lines-len.ensures))
    c.requires.lawful

queried : (g : Over) (c : After-query_into g) →
    Becomes (g.M.Memory.stands c.args.mem.now) (g.M.Memory.stands c.query_into.new.mem.inner.now) ◌≡◌
    × OnOk c.query_into.result (Reads (g.M.Memory.stands c.args.mem.now) (g.M.Memory.stands c.query_into.new.mem.inner.now) (λ region. (g.O.Object.step c.args.object.now (object_part region) c.args.op.now).1 ≡ c.query_into.new.reply))
queried g c =
    let start : (n : ℕ) → n ≡ 8 * c.lines-len.result → g.M.Memory.size c.args.mem.now ≡ 1168 + n = λ n e. omega (arith, e, c.requires.size, c.lines-len.ensures) in
    let size : g.M.Memory.size c.query_into.new.mem.inner.now ≡ g.M.Memory.size c.args.mem.now = ap (λ f. f.whole) c.query_into.ensures.framed.fixed_kept in
    part_queried (g.M.Memory.stands c.args.mem.now) (g.M.Memory.stands c.query_into.new.mem.inner.now) (g.O.Object.step c.args.object.now) c.args.op.now c.query_into.new.reply c.query_into.result (8 * c.lines-len.result) c.query_into.new.mem.from c.query_into.new.mem.len (ap (λ f. f.from) c.query_into.ensures.framed.fixed_kept) (ap (λ f. f.len) c.query_into.ensures.framed.fixed_kept)
    (λ first now s. (g.met.M.Memory.words c.query_into.new.mem.inner.now first now s).long ∙ size ∙ start (8 * c.lines-len.result) refl)
    c.query_into.ensures.kept (on_ok_weaker c.query_into.result (λ reads key part s. (reads.from key part s).1) c.query_into.ensures.done)

pub returns : goal.returns
returns g c =
    let same : c.mem-1.given.0 ≡ c.query_into.new.mem.inner.now = search rules in
    record {
      done = subst (λ m. OnOk c.query_into.result (Reads (g.M.Memory.stands c.args.mem.now) (g.M.Memory.stands m) (λ region. (g.O.Object.step c.args.object.now (object_part region) c.args.op.now).1 ≡ c.query_into.new.reply))) (sym same) (queried g c.before).1;
      kept = subst (λ m. Becomes (g.M.Memory.stands c.args.mem.now) (g.M.Memory.stands m) ◌≡◌) (sym same) (queried g c.before).0;
      halts = search rules;
      framed = search rules;
    }
