use Rattle.std.proofs.Common.{sym, ap, ◌∙◌, rules}
use Rattle.std.specs.Ordering.{nat_cmp}
use Rattle.cx_base.proofs.ReadLemmas.{Reads-none, Reads-load}
use Rattle.word_index.proofs.NodeReads.{key_text}
use Rattle.avl_words.proofs.Memories.{found}
use Rattle.word_index.proofs.nodes.order_of_lengths.Goals as goal

pub returns : goal.returns
returns g c = found (Reads-load (Reads-none _ c.requires.all) c.in_ok-mine.ensures.done
    (λ ws h e pair is. c.cmp.ensures ∙ ap (λ n. nat_cmp n c.args.len) (sym e ∙ (key_text ws c.args.node pair is).long))) (search rules) (search rules) (search rules)
