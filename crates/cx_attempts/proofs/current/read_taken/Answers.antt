use Rattle.std.proofs.Common.{◌≡◌, subst, sym}
use Rattle.std.specs.List.{Contains}
use Rattle.cx_base.specs.Codes.{root_place_of}
use Rattle.table_invariant.specs.Fitting.{loaded_of}
use Rattle.cx_attempts.proofs.ReadSteps.{is_read}
use Rattle.cx_attempts.proofs.current.read_taken.Goals as goal

pub query_held-requires-clause-placed : goal.query_held-requires-clause-placed
query_held-requires-clause-placed g c =
    let at : c.root_place-place.result ≡ root_place_of c.args.shared.now.callers c.args.seat.now.known.local.seen_cur = cc (c.root_place-place.ensures, c.callers.ensures.value, c.seen_cur.ensures) in
    record { held = c.requires.current.held; loaded = subst (λ n. Contains (loaded_of c.args.seat.now.known.local.shared) (0, n)) (sym at) c.requires.current.place }

pub returns-clause-read : goal.returns-clause-read
returns-clause-read g c =
    let t = c.args.shared.now in
    let at : c.root_place-place.result ≡ root_place_of t.callers c.args.seat.now.known.local.seen_cur = cc (c.root_place-place.ensures, c.callers.ensures.value, c.seen_cur.ensures) in
    let q = c.in_ok-query_held.ensures in
    is_read g.O.Object t c.args.op.now c.args.hold c.query_held.new.reply c.args.seat.now c.query_held.new.seat c.root_place-place.result q.keeps.rest c.requires.current at q.placed q.reply
