use Rattle.std.proofs.Common.{◌≡◌, ◌+◌, ◌≤◌, ◌++◌, ◌∷◌, [], Global, Vec, length, take, vec_capacity, vec_len, ap, sym, subst, ◌∙◌, arith}
use Rattle.std.proofs.lemmas.List.{append-nil}
use Rattle.std.specs.Option.{option_to_list}
use Rattle.cx_core.specs.declared.local.WonCode.{WonCode}
use Rattle.table_invariant.specs.Seats.{Seated}
use Rattle.caller_cache.specs.declared.summary.CachedLocal.{CachedLocal}
use Rattle.cx_table.specs.Remains.{locals_of}
use Rattle.caller_cache.specs.Wins.{wins_of}
use Rattle.caller_cache.proofs.Chaining.{no_win}
use Rattle.cx_table.proofs.Closing.{wins_more}
use Rattle.cx_table.proofs.gather.note_wins.Goals as goal
use Rattle.cx_table.proofs.gather.note_wins.Goals.{in-Some, in_default}

pub loop-k-preserved : goal.loop-k-preserved
loop-k-preserved c =
    let seats = c.args.seats.now in
    let k = c.loop-k.k in
    let old = c.loop-k.invariant in
    let seat = c.index-seats-k.result in
    let more = wins_more seats k seat c.loop-k-test.true c.index-seats-k.is in
    let on : c.seat.inside.summary.won ≡ seat.known.local.won = ap (λ (m : CachedLocal). m.won) c.seat.invariant.0.is ∙ ap (λ (s : Seated). s.known.local.won) c.seat.view_is in
    let P : Vec WonCode Global → Type 0 = λ v. (length seats ≤ vec_capacity v) × (vec_len v ≤ k + 1) × (v.items ≡ wins_of (locals_of (take (k + 1) seats))) in
    let all : P c.match-seat.wins = elim c.match-seat.branch [
      | in-Some w ↦ (
          let one = ap option_to_list (sym on ∙ w.in-Some.is) in
          subst P (sym w.wins-is) (
            omega (arith, old.room, w.push_reserved.ensures.capacity),
            omega (arith, old.few, w.push_reserved.ensures.len),
            w.push_reserved.ensures.items ∙ ap (λ ws. ws ++ w.in-Some.won ∷ []) old.so_far ∙ ap (λ ws. wins_of (locals_of (take k seats)) ++ ws) (sym one) ∙ sym more,
          ))
      | in_default w ↦ (
          let none = ap option_to_list (no_win seat.known.local.won (λ x is. w.in_default.not-Some x (on ∙ is))) in
          subst P (sym w.wins-is) (
            old.room,
            omega (arith, old.few),
            old.so_far ∙ sym (append-nil (wins_of (locals_of (take k seats)))) ∙ ap (λ ws. wins_of (locals_of (take k seats)) ++ ws) (sym none) ∙ sym more,
          ))
    ] in
    record { room = all.0; few = all.1; so_far = all.2 }
