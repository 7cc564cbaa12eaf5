use Rattle.std.proofs.Common.{◌≡◌, length, map, ap, sym, subst, ◌∙◌, arith}
use Rattle.std.specs.List.{range_with_len}
use Rattle.std.proofs.lemmas.List.FromFn.{length-map-range_with_len}
use Rattle.cx_table.specs.Remains.{AreSeats, opening_seat}
use Rattle.cx_service.proofs.Starting.{all_fresh, each_opened}
use Rattle.cx_service.proofs.service.Service.start.Goals as goal

pub as_callers-requires-clause-room : goal.as_callers-requires-clause-room
as_callers-requires-clause-room g c =
    let f = opening_seat c.in-Ok-make.shared c.args.limits.now in
    let long = ap length c.in-Ok-make.ensures.seats in
    omega (arith, c.in-Ok-make.seats.ok.0, long, length-map-range_with_len f 0 c.args.callers, c.in-Ok.ensures.capacity)

pub as_callers-requires-clause-fresh : goal.as_callers-requires-clause-fresh
as_callers-requires-clause-fresh g c = all_fresh c.in-Ok-make.shared c.args.limits.now c.args.callers c.in-Ok-make.seats.items c.in-Ok-make.ensures.seats

pub returns : goal.returns
returns g c =
    let r = c.in-Ok-make.shared in
    let seats : c.in-Ok-as_callers.callers.items ≡ map (opening_seat r c.args.limits.now) (range_with_len 0 c.args.callers) = c.in-Ok-as_callers.ensures ∙ c.in-Ok-make.ensures.seats in
    let callers = ap (λ x. x.callers) c.in-Ok-make.ensures.table in
    let all = subst (AreSeats r) (sym c.in-Ok-as_callers.ensures) c.in-Ok-make.ensures.all in record {
      right = ((omega (arith, c.if-callers-lt1.false), omega (arith, c.if-callers-gt8.false)), (omega (arith, c.if-lines-lt64.false, c.lines-lines.ensures), omega (arith, c.if-lines-gt16384.false, c.lines-lines.ensures)));
      is = c.in-Ok-make.ensures.table;
      opened = seats;
      each = each_opened r c.args.limits.now c.in-Ok-as_callers.callers.items (seats ∙ ap (λ n. map (opening_seat r c.args.limits.now) (range_with_len 0 n)) (sym callers)) all.of;
      all = all;
    }
