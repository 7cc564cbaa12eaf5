use Rattle.std.proofs.Common.{◌≡◌, ◌+◌, ◌/◌, arith, ap, ◌∙◌, length, take, ℕ}
use Rattle.cx_base.specs.Packing.{unpacked}
use Rattle.index_validation.specs.Lawful.{ReadsText, NoText}
use Rattle.index_validation.proofs.Marking.{by_test}
use Rattle.index_validation.proofs.TextChecks.{chain_is_there, IsRead, text_there, no_text}
use Rattle.index_validation.proofs.text_checks.text_at.Goals as goal

pub read_content-requires-clause-chain : goal.read_content-requires-clause-chain
read_content-requires-clause-chain c = chain_is_there c.args.words.now c.args.first c.div_ceil-count.result c.args.marks.now c.mark_chain.new.marks c.if-not-mark_chain.ensures c.requires.there

pub returns : goal.returns
returns c =
    let content = c.read_content.new.content in
    let bytes = c.unpack.new.into in
    let count : ℕ = c.div_ceil-count.result in
    let counted : count ≡ (c.args.len + 55) / 56 = omega (arith, c.div_ceil-count.ensures) in
    let long : length content ≡ length c.args.content.now = c.read_content.auto.content in
    let r : IsRead c.args.words.now c.args.first count c.args.len content bytes = record {
      contents = c.read_content.ensures;
      bytes_are = c.unpack.ensures ∙ ap (λ n. unpacked n content) (omega (arith, long, c.requires.bytes));
      repacks = c.unpacked_packs.ensures;
      counted = counted;
      room = omega (arith, long, counted, c.requires.room);
    } in
    let P = ReadsText c.args.words.now c.args.first c.args.len c.args.least c.args.most c.args.marks.now c.mark_chain.new.marks (take c.args.len bytes) in
    let Q = NoText c.args.words.now c.args.first c.args.len c.args.least c.args.most c.args.marks.now in
    by_test c.is_filled.result _ P Q c.is_filled.ensures
    (text_there c.args.words.now c.args.first count c.args.len c.args.least c.args.most content bytes c.args.marks.now c.mark_chain.new.marks c.if-not-mark_chain.ensures r)
    (no_text c.args.words.now c.args.first count c.args.len c.args.least c.args.most content bytes c.args.marks.now r (omega arith))
