use Rattle.std.proofs.Common.{subst, sym, ◌∙◌, rules}
use Rattle.cx_base.proofs.ReadLemmas.{Reads-none, Reads-load, Reads-loaded, Reads-then}
use Rattle.avl_words.specs.Lines.{IsWithin}
use Rattle.avl_words.proofs.Memories.{always_said, found, loadable}
use Rattle.avl_words.proofs.links.below.Goals as goal

pub word-requires-clause-memory : goal.word-requires-clause-memory
word-requires-clause-memory g c = loadable (search rules) (λ first now s. (c.requires.memory.all first now s).there)

pub height_of-requires : goal.height_of-requires
height_of-requires g c =
    loadable (search rules) (always_said (Reads-load (Reads-none _ c.requires.memory.all) c.in_ok-root.ensures.done (λ ws h e n. subst (IsWithin ws) e (h.link (λ z. n (sym e ∙ z))))))

pub returns : goal.returns
returns g c = found (Reads-then (Reads-loaded (Reads-none _ c.requires.memory.all) c.in_ok-root.ensures.done) c.in_ok-height.ensures.done (λ ws p q. record { link_is = p.1; high_is = q })) (search rules) (search rules) (search rules)
