use Rattle.std.proofs.Common.{◌≡◌, ◌∙◌, sym, arith}
use Rattle.cx_program.proofs.Loading.{same_number, written}
use Rattle.cx_program.proofs.asked.Load.read.Goals as goal
use Rattle.cx_program.proofs.asked.Load.read.Goals.{then-clients-eq0-via-then-clients-eq0, then-clients-eq0-via-else-clients-eq0+then-clients-gt-MAX_CLIENTS, then-clients-eq0-via-else-clients-eq0+else-clients-gt-MAX_CLIENTS+then-ops-gt-MAX_OPS}

pub returns-then-clients-eq0-clause-none : goal.returns-then-clients-eq0-clause-none
returns-then-clients-eq0-clause-none c from many each is =
    let write = written from many each c.args.from.now c.args.clients.now c.args.ops.now is in
    let clients : many ≡ c.in_ok-clients.clients =
    same_number c.args.clients.now many c.in_ok-clients.clients (omega (arith, is.within.few)) (omega arith) write.1 (sym c.as_bytes-2.ensures.value ∙ c.in_ok-clients.ensures.some) in
    let ops : each ≡ c.in_ok-ops.ops =
    same_number c.args.ops.now each c.in_ok-ops.ops (omega (arith, is.within.short)) (omega arith) write.2 (sym c.as_bytes-3.ensures.value ∙ c.in_ok-ops.ensures.some) in
    elim c.then-clients-eq0.branch [
      | then-clients-eq0-via-then-clients-eq0 w ↦ absurd (omega (arith, clients, is.within.some))
      | then-clients-eq0-via-else-clients-eq0+then-clients-gt-MAX_CLIENTS w ↦ absurd (omega (arith, clients, is.within.few))
      | then-clients-eq0-via-else-clients-eq0+else-clients-gt-MAX_CLIENTS+then-ops-gt-MAX_OPS w ↦ absurd (omega (arith, ops, is.within.short))
    ]
