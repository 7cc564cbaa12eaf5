use Rattle.std.proofs.Common.{true, false, sym, ap, ◌∙◌, rules}
use Rattle.std.proofs.lemmas.List.{take_rest}
use Rattle.doc_model.specs.Revisions.{next_revision}
use Rattle.doc_model.proofs.Puts.{room_in, no_room, is_put, written_in}
use Rattle.doc_model.proofs.table.insert_at.Goals as goal

pub returns-then-not-has_room : goal.returns-then-not-has_room
returns-then-not-has_room c =
    let same = ap (λ s. s.triples) c.table.view_is in
    let room_fails = rw (c.deref.ensures.value, c.deref-2.ensures.value, take_rest, same) at (sym c.if-not-has_room.true ∙ c.has_room.ensures) in
    no_room c.args.lines c.args.table.now c.args.key.now c.args.doc.now
    (room_in c.args.table.now.triples c.args.key.now c.args.doc.now c.args.table.now.last c.args.lines c.args.at false c.requires room_fails)

pub returns : goal.returns
returns c =
    let same = ap (λ s. s.triples) c.table.view_is in
    let room_passes = rw (c.deref.ensures.value, c.deref-2.ensures.value, take_rest, same) at (sym c.if-not-has_room.false ∙ c.has_room.ensures) in
    let given = c.revision_after-revision.ensures ∙ ap (λ s. next_revision s.last) c.table.view_is in
    let room = room_in c.args.table.now.triples c.args.key.now c.args.doc.now c.args.table.now.last c.args.lines c.args.at true c.requires room_passes in
    is_put c.args.lines c.args.table.now c.args.key.now c.args.doc.now false _ room (search rules)
    (ap (λ s. record { last = c.revision_after-revision.result; triples = s }) c.in_ok-insert.ensures.items ∙ written_in c.args.table.now.triples c.args.key.now c.args.doc.now c.args.table.now.last c.args.at c.revision_after-revision.result c.table.inside.pairs.items c.in_ok-of.field-0 c.in_ok-of-2.field-0 c.requires same c.in_ok-of.ensures c.in_ok-of-2.ensures given)
