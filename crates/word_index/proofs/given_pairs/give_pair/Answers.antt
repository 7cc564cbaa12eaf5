use Rattle.std.proofs.Common.{◌≡◌, rules}
use Rattle.cx_base.specs.Memory.{Becomes}
use Rattle.cx_base.proofs.MemoryLemmas.{Becomes-then, always_after, Becomes-both}
use Rattle.std.proofs.lemmas.Result.{IfOk-weaker}
use Rattle.word_index.proofs.ExactRuns.{pair_runs}
use Rattle.word_index.proofs.PairsGiven.{has_document_text, has_key_text, node_can_be_given, pair_given}
use Rattle.word_index.specs.Changes.{with_line_given}
use Rattle.avl_words.proofs.Memories.{changed, storable}
use Rattle.word_index.proofs.given_pairs.give_pair.Goals as goal

pub give_text-requires-clause-memory : goal.give_text-requires-clause-memory
give_text-requires-clause-memory g c = storable (search rules) (search rules) (λ first now s. has_document_text now c.args.node (c.requires.all first now s))

pub give_text-requires-2-clause-memory : goal.give_text-requires-2-clause-memory
give_text-requires-2-clause-memory g c = storable (search rules) (search rules) (always_after c.requires.all c.in_ok-give_text.ensures.changes.done (λ x y h t. has_key_text x y c.args.node h t))

pub give_back-requires : goal.give_back-requires
give_back-requires g c =
    storable (search rules) (search rules) (always_after c.requires.all (Becomes-both c.in_ok-give_text.ensures.changes.done c.in_ok-give_text-2.ensures.changes.done) (λ x z h t. node_can_be_given x t.0 z c.args.node h t.1 t.2))

pub returns-clause-changes : goal.returns-clause-changes
returns-clause-changes g c =
    changed (IfOk-weaker c.give_back.result (λ _. Becomes (g.M.Memory.stands c.give_text-2.new.mem) (g.M.Memory.stands c.give_back.new.mem) (λ before now. now ≡ with_line_given c.args.node before)) _
    (λ _ b. Becomes-then (Becomes-both c.in_ok-give_text.ensures.changes.done c.in_ok-give_text-2.ensures.changes.done) b (λ x z w t is. pair_given x t.0 z w c.args.node t.1 t.2 is))
    c.give_back.ensures.done) (search rules) (search rules)

pub returns-clause-exact : goal.returns-clause-exact
returns-clause-exact g c =
    IfOk-weaker c.give_back.result (λ _. Becomes (g.M.Memory.stands c.give_text-2.new.mem) (g.M.Memory.stands c.give_back.new.mem) (λ before now. now ≡ with_line_given c.args.node before)) _
    (λ _ b. Becomes-then (Becomes-both c.in_ok-give_text.ensures.exact c.in_ok-give_text-2.ensures.exact) b (λ x z w t is. pair_runs c.args.node x t.0 z w t.1 t.2 is))
    c.give_back.ensures.done
