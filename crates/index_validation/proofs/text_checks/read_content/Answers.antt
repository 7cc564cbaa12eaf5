use Rattle.std.proofs.Common.{◌≡◌, ◌+◌, ◌*◌, ◌%◌, get_or, arith, ap}
use Rattle.std.proofs.lemmas.List.{length-set}
use Rattle.avl_words.specs.Lines.{word_of}
use Rattle.index_validation.proofs.TextChecks.{content_more}
use Rattle.index_validation.proofs.text_checks.read_content.Goals as goal

pub loop-i-preserved : goal.loop-i-preserved
loop-i-preserved c =
    let l = c.loop-i in
    let b = c.block_behind-line.ensures in
    let words = c.args.words.now in
    let place : 8 * l.line + 1 + l.i % 7 ≡ 8 * l.line + (1 + l.i % 7) = omega arith in
    let read : get_or words (8 * l.line + 1 + l.i % 7) 0 ≡ word_of words l.line (1 + l.i % 7) = ap (λ n. get_or words n 0) place in
    record {
      reads = content_more words c.args.first c.args.count l.content l.i l.line c.block_behind-line.result _ l.invariant.reads c.loop-i-test.true l.invariant.room read b.last b.other;
      blocks = l.invariant.blocks;
      room = rw length-set l.invariant.room;
    }
