use Rattle.std.proofs.lemmas.Bool.{false≢true}
use Rattle.index_validation.proofs.LawfulWords.{no_lines_nodes, no_lines_given, lines_all, all_from_lines}
use Rattle.index_validation.proofs.check.lines_are_lawful.Goals as goal

pub returns-then-not-nodes_at : goal.returns-then-not-nodes_at
returns-then-not-nodes_at c = (λ e. absurd (false≢true e), λ a. absurd (no_lines_nodes c.args.words.now c.args.marks.now c.if-not-nodes_at.ensures a))

pub returns-then-not-mark_chain : goal.returns-then-not-mark_chain
returns-then-not-mark_chain c = (λ e. absurd (false≢true e), λ a. absurd (no_lines_given c.args.words.now c.args.marks.now c.nodes_at.new.marks c.if-not-nodes_at.ensures c.if-not-mark_chain.ensures a))

pub returns : goal.returns
returns c =
    let words = c.args.words.now in
    let old = c.args.marks.now in (
      λ e. lines_all words old c.nodes_at.new.marks c.mark_chain.new.marks c.if-not-nodes_at.ensures c.if-not-mark_chain.ensures (c.are_all_marked.ensures.0 e),
      λ a. c.are_all_marked.ensures.1 (all_from_lines words old c.nodes_at.new.marks c.mark_chain.new.marks c.if-not-nodes_at.ensures c.if-not-mark_chain.ensures a),
    )
