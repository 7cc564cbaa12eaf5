use Rattle.std.proofs.Common.{◌∷◌, ◌++◌, [], List, map, sym, ap, ◌∙◌, arith}
use Rattle.std.proofs.lemmas.List.FromFn.{map-range_with_len_more}
use Rattle.std.specs.List.{range_with_len}
use Rattle.cx_table.specs.Remains.{opening_seat}
use Rattle.table_invariant.specs.Seats.{Seated}
use Rattle.cx_table.proofs.shared.Shared.seated.Goals as goal

pub loop-number-preserved : goal.loop-number-preserved
loop-number-preserved g c =
    let f = opening_seat c.args.self.now c.args.limits.now in
    let k = c.loop-number.number in record {
      table = c.next_seat-seat.ensures.first.0 ∙ c.loop-number.invariant.table;
      left = c.next_seat-seat.ensures.first.1;
      made = c.push_reserved.ensures.items
          ∙ ap (λ (xs : List Seated). xs ++ c.next_seat-seat.result ∷ []) c.loop-number.invariant.made
          ∙ ap (λ (x : Seated). map f (range_with_len 0 k) ++ x ∷ []) c.next_seat-seat.ensures.seat
          ∙ sym (map-range_with_len_more f 0 k k (omega arith));
      room = omega (arith, c.push_reserved.ensures.capacity, c.loop-number.invariant.room);
      long = omega (arith, c.push_reserved.ensures.len, c.loop-number.invariant.long);
    }
