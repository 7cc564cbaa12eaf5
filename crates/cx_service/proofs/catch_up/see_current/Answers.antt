use Rattle.std.proofs.Common.{[], ap, ◌∙◌}
use Rattle.cx_base.specs.Codes.{root_place_of}
use Rattle.cx_service.proofs.Seeing.{current_keeps, current_seen, current_sets, tells_nothing}
use Rattle.cx_service.proofs.catch_up.see_current.Goals as goal

pub returns-clause-seen : goal.returns-clause-seen
returns-clause-seen g c =
    let r = c.args.shared.now in
    let one = c.in_ok-code.ensures.made in
    let two = c.in_ok-make_durable.ensures.made [] (tells_nothing r g.O.Object.step g.O.Object.only_reads c.args.seat.now c.load_cur.new.seat c.make_durable.new.seat c.in_ok-code.code c.requires one.made r.lines (g.O.Object.lawful r.object) (root_place_of r.callers c.in_ok-code.code)) in
    current_seen r g.O.Object.step g.O.Object.only_reads c.args.seat.now c.load_cur.new.seat c.make_durable.new.seat c.in_ok-code.code c.requires one.made one.found_word.most two.made
    c.root_place.result two.seat one.allowed (c.root_place.ensures ∙ ap (λ n. root_place_of n c.in_ok-code.code) c.callers.ensures.value)

pub returns-clause-keeps : goal.returns-clause-keeps
returns-clause-keeps g c =
    let r = c.args.shared.now in
    let one = c.in_ok-code.ensures.made in
    let two = c.in_ok-make_durable.ensures.made [] (tells_nothing r g.O.Object.step g.O.Object.only_reads c.args.seat.now c.load_cur.new.seat c.make_durable.new.seat c.in_ok-code.code c.requires one.made r.lines (g.O.Object.lawful r.object) (root_place_of r.callers c.in_ok-code.code)) in
    current_keeps r g.O.Object.step g.O.Object.only_reads c.args.seat.now c.load_cur.new.seat c.make_durable.new.seat c.in_ok-code.code c.requires one.made one.found_word.most two.made

pub returns-clause-sets : goal.returns-clause-sets
returns-clause-sets g c =
    let r = c.args.shared.now in
    let one = c.in_ok-code.ensures.made in
    let two = c.in_ok-make_durable.ensures.made [] (tells_nothing r g.O.Object.step g.O.Object.only_reads c.args.seat.now c.load_cur.new.seat c.make_durable.new.seat c.in_ok-code.code c.requires one.made r.lines (g.O.Object.lawful r.object) (root_place_of r.callers c.in_ok-code.code)) in
    current_sets r g.O.Object.step g.O.Object.only_reads c.args.seat.now c.load_cur.new.seat c.make_durable.new.seat c.in_ok-code.code c.requires one.made one.found_word.most two.made
