use Rattle.std.proofs.Common.{◌≡◌, ◌+◌, ◌-◌, ◌++◌, length, ap, arith, ◌∙◌}
use Rattle.cx_base.specs.Packing.{packed}
use Rattle.doc_model.specs.Words.{words_in, head_words}
use Rattle.doc_model.proofs.PartPlaces.{written, length-packed, packed_as}
use Rattle.doc_model.proofs.word_parts.write_words.Goals as goal

pub returns : goal.returns
unfolding words_in
returns c =
    let into = c.args.into.now in
    let n = c.args.key_words in
    let head = c.copy_from_slice.new.self in
    let key = c.pack.new.into in
    let document = c.pack-2.new.into in
    let head_is : head ≡ head_words c.args.kind c.args.key.now c.args.document.now c.args.number = c.copy_from_slice.ensures.after in
    let key_is : key ≡ packed n c.args.key.now = packed_as key c.args.key.now _ n c.pack.ensures (omega arith) in
    let document_is : document ≡ packed (length into - (8 + n)) c.args.document.now = packed_as document c.args.document.now _ (length into - (8 + n)) c.pack-2.ensures (omega arith) in
    written into head key document n (ap length head_is) c.requires.room (ap length key_is ∙ length-packed n c.args.key.now)
    ∙ ap (λ t. t ++ (key ++ document)) head_is
    ∙ ap (λ t. head_words c.args.kind c.args.key.now c.args.document.now c.args.number ++ (t ++ document)) key_is
    ∙ ap (λ t. head_words c.args.kind c.args.key.now c.args.document.now c.args.number ++ (packed n c.args.key.now ++ t)) document_is
