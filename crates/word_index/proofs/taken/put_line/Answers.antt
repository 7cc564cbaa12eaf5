use Rattle.std.proofs.Common.{rules, ap, ◌∙◌}
use Rattle.cx_base.specs.Memory.{overwritten}
use Rattle.cx_base.proofs.MemoryLemmas.{Becomes-then, Becomes-weaker}
use Rattle.cx_base.proofs.ReadLemmas.{Reads-none, Becomes-from-read}
use Rattle.word_index.proofs.ExactTaking.{filled_by_row}
use Rattle.avl_words.proofs.Memories.{changed}
use Rattle.word_index.proofs.taken.put_line.Goals as goal

pub returns-clause-changes : goal.returns-clause-changes
returns-clause-changes g c =
    changed (Becomes-then (Becomes-from-read (Reads-none _ c.requires.all)) c.in_ok-store_words.ensures.done (λ x y z p e. filled_by_row c.args.line c.start_of-start.result c.args.content.now x y z (search rules) c.start_of-start.ensures.is p e)) (search rules) (search rules)

pub returns-clause-exact : goal.returns-clause-exact
returns-clause-exact g c = Becomes-weaker c.in_ok-store_words.ensures.done (λ first x y s e. e ∙ ap (λ n. overwritten n c.args.content.now x) c.start_of-start.ensures.is)
