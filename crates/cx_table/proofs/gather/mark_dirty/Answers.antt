use Rattle.std.proofs.Common.{◌≡◌, ◌+◌, ◌↔◌, Bool, Global, Vec, true, length, ap, subst, sym, ◌∙◌, arith, Some}
use Rattle.std.proofs.lemmas.Option.{same_Some, slice_get-get_or}
use Rattle.std.specs.List.{Contains, slice_get}
use Rattle.cx_core.specs.Rights.{exclusive_on, held_dirty}
use Rattle.table_invariant.specs.Seats.{Seated, known_of}
use Rattle.caller_cache.specs.declared.summary.CachedLocal.{CachedLocal}
use Rattle.cx_table.proofs.Marking.{DirtyTo, dirty_all, dirty_off, dirty_on}
use Rattle.cx_table.proofs.gather.mark_dirty.Goals as goal
use Rattle.cx_table.proofs.gather.mark_dirty.Goals.{in-Some+then-replica-replicas, in-Some+else-replica-replicas, in_default}

pub loop-k-preserved : goal.loop-k-preserved
loop-k-preserved c =
    let seats = c.args.seats.now in
    let seat = c.index-seats-k.result in
    let at : slice_get seats c.loop-k.k ≡ Some seat = slice_get-get_or seats c.loop-k.k seat c.loop-k-test.true ∙ ap Some (sym c.index-seats-k.is) in
    let on : exclusive_on seat.known.local ≡ c.seat.inside.summary.exclusive = sym (ap (λ (m : CachedLocal). m.exclusive) c.seat.invariant.0.is ∙ ap (λ (s : Seated). exclusive_on s.known.local) c.seat.view_is) in
    let n = c.loop-k.k in
    let size : length c.seat.inside.copy.words ≡ c.args.region = ap (λ (s : Seated). s.region) c.seat.view_is ∙ ap (λ (s : Seated). s.region) c.index-seats-k.is ∙ c.requires.regions n seat c.loop-k-test.true in
    elim c.match-seat.branch [
      | in-Some+then-replica-replicas w ↦ (
          let new = w.mark_replica.new.dirty in
          subst (λ (v : Vec Bool Global). DirtyTo seats (n + 1) c.args.replicas c.args.region v.items) (sym w.dirty-is)
          (dirty_on seats n c.args.replicas c.args.region w.in-Some.replica c.loop-k.dirty.items new.items w.marks.result.now seat at (on ∙ w.in-Some.is) w.if-replica-replicas.true
          (ap length w.marks.ensures ∙ c.seat.invariant.1.long ∙ size) (sym new.ok.0 ∙ w.mark_replica.ensures.len ∙ c.loop-k.dirty.ok.0)
          (λ i below. subst (λ (s : Seated). (slice_get w.marks.result.now i ≡ Some true) ↔ Contains (held_dirty s.known.local.exclusive) i) c.seat.view_is
          (subst (λ ds. (slice_get ds i ≡ Some true) ↔ Contains (held_dirty (known_of c.seat.inside.seat.me.0).local.exclusive) i) (sym w.marks.ensures) (c.seat.invariant.1.marks i (omega (arith, size, below)))))
          w.mark_replica.ensures.marked c.loop-k.invariant))
      | in-Some+else-replica-replicas w ↦ (
          let past = w.if-replica-replicas.false in
          subst (λ (v : Vec Bool Global). DirtyTo seats (n + 1) c.args.replicas c.args.region v.items) (sym w.dirty-is)
          (dirty_off seats n c.args.replicas c.args.region c.loop-k.dirty.items seat at
          (λ replica small holds. (let same : w.in-Some.replica ≡ replica = same_Some w.in-Some.replica replica (sym w.in-Some.is ∙ sym on ∙ holds) in omega (arith, past, small, same))) c.loop-k.invariant))
      | in_default w ↦
          subst (λ (v : Vec Bool Global). DirtyTo seats (n + 1) c.args.replicas c.args.region v.items) (sym w.dirty-is)
          (dirty_off seats n c.args.replicas c.args.region c.loop-k.dirty.items seat at (λ replica small holds. w.in_default.not-Some replica (sym on ∙ holds)) c.loop-k.invariant)
    ]

pub returns : goal.returns
returns c = dirty_all c.args.seats.now c.loop-k.k c.args.replicas c.args.region c.loop-k.dirty.items (let end = c.loop-k-test.false in let most = c.loop-k.auto.k-end in omega arith) c.loop-k.invariant
