use Rattle.std.proofs.Common.{◌≡◌, ◌+◌, ◌<◌, ℕ, [], List, length, slice_index, drop, sym, ap, ◌∙◌, arith, rules}
use Rattle.atomic_table.specs.Seated.{TableId}
use Rattle.cx_core.specs.Region.{slot_number}
use Rattle.cx_core.specs.State.{opening_local}
use Rattle.table_invariant.specs.declared.rule.Known.{Known}
use Rattle.std.proofs.lemmas.List.{length-replicate}
use Rattle.caller_cache.specs.Copies.{Copied}
use Rattle.caller_cache.specs.Summaries.{summary_of}
use Rattle.table_invariant.specs.Seats.{Seated, opening_known, opening_view}
use Rattle.table_invariant.proofs.Moves.{cut_rests, one_caller, splits}
use Rattle.caller_cache.proofs.OpeningSeats.{opening_copied, opening_summarised}
use Rattle.cx_table.proofs.shared.Shared.next_seat.Goals as goal

-- two seats that contracts see the same of
abbrev Same : Seated → Seated → Type 0
Same a b = a ≡ b

seated_at : (t u : TableId) (a b m n : ℕ) (k l : Known) → t ≡ u → a ≡ b → m ≡ n → k ≡ l → Same (record { table = t; before = a; region = m; known = k }) (record { table = u; before = b; region = n; known = l })
seated_at t u a b m n k l table before region known i = record { table = table i; before = before i; region = region i; known = known i }

pub split_seat-seat-requires : goal.split_seat-seat-requires
split_seat-seat-requires g c = (
  c.requires.first.0 ∙ sym (ap (λ s. s.table) c.self.view_is),
  omega (arith, c.self.invariant.0.words),
  λ s h me. splits _ s _ c.args.first.now.me.0 h me,
)

pub invariant_of-result : goal.invariant_of-result
invariant_of-result g c =
    let n = c.args.number in
    let place = c.args.self.now.base.place in
    let limits = c.args.limits.now in
    let callers = c.args.self.now.callers in
    let view = c.self.view_is in
    let r = cut_rests callers place limits n c.args.first.now.me.0 c.requires.caller (ap (λ m. m.0) c.requires.first.1) in
    let running = c.self.invariant.0 in
    let eight : n < 8 = omega (arith, running.few, c.requires.caller, ap (λ s. s.callers) view) in
    let at = c.slot_start.result in
    let before : slice_index c.as_slice.result.now at ≡ slot_number n c.self.inside.base.words = ap (λ ws. slice_index ws at) c.as_slice.ensures ∙ ap (slice_index c.self.inside.base.words) c.slot_start.ensures in
    let me = c.split_seat-seat.ensures.4 ∙ ap (λ (v : List Known). (v, [])) r.1 in (
      opening_summarised c.split_seat-seat.result.me c.opening_summary-summary.result (slice_index c.as_slice.result.now at) callers place n limits
          me
          (c.opening_summary-summary.ensures ∙ ap (λ s. summary_of (record (opening_local s.callers s.base.place n) { limit = slice_index limits n })) view)
          (omega (arith, ap (λ s. s.base.place) view, running.base.place_within))
          (omega (arith, before, running.base.numbers n eight, ap (λ s. s.base.place) view)),
      opening_copied c.split_seat-seat.result.me c.args.copy callers place n (length c.args.self.now.base.words) limits me c.requires.copy,
    )

pub returns-clause-first : goal.returns-clause-first
returns-clause-first g c =
    let callers = c.args.self.now.callers in
    let place = c.args.self.now.base.place in
    let limits = c.args.limits.now in
    let r = cut_rests callers place limits c.args.number c.args.first.now.me.0 c.requires.caller (ap (λ m. m.0) c.requires.first.1) in
    (search rules, c.split_seat-seat.ensures.2 ∙ ap (λ (v : List Known). (v, c.args.first.now.me.1)) r.0 ∙ ap (λ m. (drop (c.args.number + 1) (opening_view callers place limits), m.1)) c.requires.first.1)

pub returns-clause-seat : goal.returns-clause-seat
returns-clause-seat g c =
    let callers = c.args.self.now.callers in
    let place = c.args.self.now.base.place in
    let limits = c.args.limits.now in
    let n = c.args.number in
    let r = cut_rests callers place limits n c.args.first.now.me.0 c.requires.caller (ap (λ m. m.0) c.requires.first.1) in
    let one = one_caller c.split_seat-seat.result.me (opening_known callers place limits n) (c.split_seat-seat.ensures.4 ∙ ap (λ (v : List Known). (v, [])) r.1) in
    let table = c.split_seat-seat.ensures.3 ∙ c.requires.first.0 in
    let at = c.slot_start.result in
    let before = ap (λ ws. slice_index ws at) (c.as_slice.ensures ∙ ap (λ s. s.base.words) c.self.view_is) ∙ ap (slice_index c.args.self.now.base.words) c.slot_start.ensures in
    let region = ap (λ (x : Copied). length x.words) c.requires.copy ∙ length-replicate (length c.args.self.now.base.words) 0 in
    seated_at (c.split_seat-seat.result.table_id) c.args.self.now.table _ _ _ _ _ _ table before region one.1
