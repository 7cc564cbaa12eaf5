use Rattle.std.proofs.Common.{◌≡◌, ◌++◌, length, ap, arith, ◌∙◌}
use Rattle.doc_model.proofs.PartPlaces.{written}
use Rattle.doc_model.proofs.word_parts.write_packed.Goals as goal

pub returns : goal.returns
returns c =
    let into = c.args.into.now in
    let n = length c.args.key.now in
    let head = c.copy_from_slice.new.self in
    let key = c.copy_from_slice-2.new.self in
    let document = c.copy_from_slice-3.new.self in
    let head_is : head ≡ c.args.head.now = c.copy_from_slice.ensures.after in
    let key_is : key ≡ c.args.key.now = c.copy_from_slice-2.ensures.after in
    let document_is : document ≡ c.args.document.now = c.copy_from_slice-3.ensures.after in
    written into head key document n (ap length head_is ∙ c.requires.head) (omega arith) (ap length key_is)
    ∙ ap (λ t. t ++ (key ++ document)) head_is
    ∙ ap (λ t. c.args.head.now ++ (t ++ document)) key_is
    ∙ ap (λ t. c.args.head.now ++ (c.args.key.now ++ t)) document_is
