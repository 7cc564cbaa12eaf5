use Rattle.std.proofs.Common.{◌≡◌, ◌∙◌, sym, arith}
use Rattle.cx_program.proofs.Loading.{same_number, written_seats}
use Rattle.cx_program.proofs.asked.Seats.read.Goals as goal
use Rattle.cx_program.proofs.asked.Seats.read.Goals.{then-count-eq0-via-then-count-eq0, then-count-eq0-via-else-count-eq0+then-count-gt-MAX_SEATS}

pub returns-then-count-eq0-clause-none : goal.returns-then-count-eq0-clause-none
returns-then-count-eq0-clause-none c seats is =
    let count : seats ≡ c.in_ok-count.count =
    same_number c.args.word.now seats c.in_ok-count.count (omega (arith, is.few)) (omega arith) (written_seats seats c.args.word.now is) (sym c.as_bytes.ensures.value ∙ c.in_ok-count.ensures.some) in
    elim c.then-count-eq0.branch [
      | then-count-eq0-via-then-count-eq0 w ↦ absurd (omega (arith, count, is.some))
      | then-count-eq0-via-else-count-eq0+then-count-gt-MAX_SEATS w ↦ absurd (omega (arith, count, is.few))
    ]
