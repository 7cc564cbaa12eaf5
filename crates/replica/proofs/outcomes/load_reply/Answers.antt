use Rattle.std.proofs.Common.{arith, ◌∙◌}
use Rattle.std.proofs.lemmas.Result.{on_ok_weaker}
use Rattle.cx_base.proofs.ReadLemmas.{Reads-weaker, Reads-with}
use Rattle.replica.proofs.Reading.{reply_read}
use Rattle.replica.proofs.outcomes.load_reply.Goals as goal

pub returns-clause-read : goal.returns-clause-read
returns-clause-read g c =
    let e = c.load_words.ensures in
    on_ok_weaker c.load_words.result (λ words. Reads-weaker (Reads-with (λ first now s. (g.met.M.Memory.words c.args.mem.now first now s).long) words)
    (λ region read. reply_read c.args.from c.load_words.new.into region (e.length ∙ c.told-reply) (omega (arith, read.0, c.requires.region)) read.1)) e.read
