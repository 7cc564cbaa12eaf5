use Rattle.std.proofs.Common.{◌≡◌, ◌∙◌}
use Rattle.cx_base.specs.Codes.{root_place_of}
use Rattle.cx_attempts.proofs.ReadSteps.{current_loaded, current_loads, is_current}
use Rattle.cx_attempts.proofs.current.test_place.Goals as goal

pub returns-clause-taken : goal.returns-clause-taken
returns-clause-taken g c =
    let t = c.args.shared.now in
    let at : c.root_place-place.result ≡ root_place_of t.callers c.args.seat.now.known.local.seen_cur = cc (c.root_place-place.ensures, c.callers.ensures.value, c.seen_cur.ensures) in
    let is = c.if-found-place.false ∙ at in
    let lines = g.O.Object.line_count t.object in
    let lawful = g.O.Object.lawful t.object in
    let made = current_loads lines t g.O.Object.step g.O.Object.only_reads lawful c.args.hold c.in_ok-found.found c.args.seat.now c.load_word.new.seat c.replica.result c.replica.ensures is c.requires.named.held c.in_ok-found.ensures.made c.in_ok-found.ensures.fits in
    is_current g.O.Object t c.args.hold c.in_ok-found.found c.args.seat.now c.load_word.new.seat made c.requires.named.here is c.requires.named.fresh
    (current_loaded lines t g.O.Object.step g.O.Object.only_reads lawful c.args.hold c.in_ok-found.found c.args.seat.now c.load_word.new.seat made)
