use Rattle.std.proofs.Common.{arith, refl, ◌≡◌, ◌↔◌, IsTrue, take, sym, subst}
use Rattle.std.proofs.lemmas.Bool.{false≢true}
use Rattle.std.specs.declared.cmp.Ordering.TheVariants.{Less}
use Rattle.cx_base.specs.Store.{key_cmp}
use Rattle.avl_words.specs.Lines.{word_of}
use Rattle.index_validation.specs.Layout.{IsRevision}
use Rattle.index_validation.specs.Lawful.{head_in, HasPair, NoPair}
use Rattle.index_validation.proofs.Marking.{by_test}
use Rattle.index_validation.proofs.PairChecks.{no_pair_revision, no_pair_document, no_pair_order, pair_there}
use Rattle.index_validation.proofs.node_checks.pair_at.Goals as goal

pub returns-then-not-is_revision : goal.returns-then-not-is_revision
returns-then-not-is_revision c =
    no_pair_revision c.args.words.now c.args.node c.args.last.now c.args.marks.now
    (λ r. false≢true (c.if-not-is_revision.ensures.1 (subst (IsRevision (head_in c.args.words.now)) (sym c.word_at.ensures) r)))

pub is_revision-requires : goal.is_revision-requires
is_revision-requires c = omega (arith, c.requires, c.if-not-mark.ensures.0)

pub returns-then-not-document_of_node : goal.returns-then-not-document_of_node
returns-then-not-document_of_node c =
    no_pair_document c.args.words.now c.args.node c.args.last.now c.args.marks.now c.mark.new.marks c.key_of_node.new.marks _ c.if-not-mark.ensures.1 c.if-not-key_of_node.ensures c.if-not-document_of_node.ensures

pub returns : goal.returns
returns c =
    let words = c.args.words.now in
    let node = c.args.node in
    let last = c.args.last.now in
    let old = c.args.marks.now in
    let key = take (word_of words node 4) c.key_of_node.new.key in
    let end = c.document_of_node.new.marks in
    by_test c.is_above.result (key_cmp last key ≡ Less) (HasPair words node last old end key) (NoPair words node last old)
    (subst (λ n. IsTrue c.is_above.result ↔ (key_cmp last (take n c.key_of_node.new.key) ≡ Less)) c.word_at-len.ensures c.is_above.ensures)
    (pair_there words node last old c.mark.new.marks c.key_of_node.new.marks end key c.if-not-mark.ensures.1 (subst (IsRevision (head_in words)) c.word_at.ensures (c.if-not-is_revision.ensures.0 refl)) c.if-not-key_of_node.ensures c.if-not-document_of_node.ensures)
    (no_pair_order words node last old c.mark.new.marks c.key_of_node.new.marks key c.if-not-key_of_node.ensures)
