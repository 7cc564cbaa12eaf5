use Rattle.std.proofs.Common.{◌+◌, ◌++◌, ◌<◌, ◌∙◌, ap, inl, refl, subst, sym}
use Rattle.core_queue.specs.NotedSets.{IsNotedSet}
use Rattle.cx_core.specs.RingEvents.{Protects}
use Rattle.table_invariant.specs.Fitting.{IsSetWithin, has_of}
use Rattle.table_invariant.specs.Running.{IsSeatOf}
use Rattle.table_invariant.specs.Seats.{Seated}
use Rattle.redo_set.specs.Taking.{CountsTaken, sets_read}
use Rattle.redo_replay.specs.Offered.{unchanged_by_offered}
use Rattle.redo_replay.specs.Storing.{set_stores}
use Rattle.table_invariant.proofs.Stepping.{on_same}
use Rattle.redo_replay.proofs.Ready.{leaves_behind, leaves_stored, ready_looked, ready_taken, ready_untaken, stored_since}
use Rattle.redo_replay.proofs.set_replay.replay_offered.Goals as goal

pub take-requires : goal.take-requires
take-requires g c =
    let looked = c.in_ok-cell.ensures.made in
    record {
      may = record {
        of = looked.of;
        linked = subst (λ (s : Seated). c.args.ticket < s.known.local.front) (sym looked.seat) c.requires.may.may.linked;
        shows = looked.shows;
        protected = subst (λ (s : Seated). Protects c.args.ticket s.known.local.protection) (sym looked.seat) c.requires.may.may.protected;
      };
    }

pub returns-in_err-cell-clause-leaves : goal.returns-in_err-cell-clause-leaves
returns-in_err-cell-clause-leaves g c =
    let same = c.in_err-cell.ensures.halted.same in
    record { seat = subst (IsSeatOf c.args.shared.now) (sym same) c.requires.may.may.of; rest = ap (unchanged_by_offered c.args.held.now.replica) same; since = on_same c.args.seat.now c.see_cell.new.seat same }

pub returns-in_err-taken-clause-leaves : goal.returns-in_err-taken-clause-leaves
returns-in_err-taken-clause-leaves g c =
    let looked = c.in_ok-cell.ensures.made in
    leaves_behind c.args.shared.now c.args.held.now.replica _ c.args.seat.now c.see_cell.new.seat c.take.new.seat looked.of looked.seat c.take.ensures.leaves

pub returns-then-not-taken : goal.returns-then-not-taken
returns-then-not-taken g c =
    let t = c.args.shared.now in
    let looked = c.in_ok-cell.ensures.made in
    let mid = c.see_cell.new.seat in
    let kept = subst (CountsTaken mid c.take.new.seat) c.if-not-taken.true c.in_ok-taken.ensures.taken.counted in
    record {
      replayed = ready_untaken g.O.Object t c.args.held.now c.args.ticket mid c.take.new.seat c.take.ensures.leaves kept
          (ready_looked g.O.Object t c.args.held.now c.args.ticket _ c.args.seat.now mid looked.of looked.seat c.requires.ready);
      brought = record { counted = kept ∙ ap (λ (s : Seated). s.known.sets) looked.seat; brought = tt };
      leaves = leaves_behind t c.args.held.now.replica _ c.args.seat.now mid c.take.new.seat looked.of looked.seat c.take.ensures.leaves;
    }

pub store_set-requires : goal.store_set-requires
store_set-requires g c =
    let t = c.args.shared.now in
    let looked = c.in_ok-cell.ensures.made in
    let mid = c.see_cell.new.seat in
    let taken = c.in_ok-taken.ensures.taken.taken in
    let yes = c.if-not-taken.false in
    let ready = ready_taken g.O.Object t c.args.held.now c.args.ticket mid c.take.new.seat c.take.ensures.leaves (taken.fits yes)
    (ready_looked g.O.Object t c.args.held.now c.args.ticket _ c.args.seat.now mid looked.of looked.seat c.requires.ready) in
    let had = inl (taken.noted yes) in
    record {
      ready = record { is_held = ready.is_held; image = ready.image; place = refl };
      next = record {
        had = subst (λ p. (has_of c.take.new.seat.known).set p c.take.new.into) (sym ready.place) had;
        within = subst (λ n. IsSetWithin n c.take.new.into) ready.is_held.sized.region ((taken.fits yes).sets c.args.ticket c.take.new.into c.requires.may.later had);
      };
    }

pub returns-in_err-store_set-clause-leaves : goal.returns-in_err-store_set-clause-leaves
returns-in_err-store_set-clause-leaves g c =
    let t = c.args.shared.now in
    let looked = c.in_ok-cell.ensures.made in
    let e = c.store_set.ensures.leaves in
    leaves_stored t c.args.held.now.replica c.args.seat.now c.take.new.seat c.store_set.new.seat
    (leaves_behind t c.args.held.now.replica _ c.args.seat.now c.see_cell.new.seat c.take.new.seat looked.of looked.seat c.take.ensures.leaves) e.still.of e.rest e.since

pub returns : goal.returns
returns g c =
    let t = c.args.shared.now in
    let looked = c.in_ok-cell.ensures.made in
    let mid = c.see_cell.new.seat in
    let e = c.store_set.ensures.leaves in
    let taken = c.in_ok-taken.ensures.taken.taken in
    let before = ready_taken g.O.Object t c.args.held.now c.args.ticket mid c.take.new.seat c.take.ensures.leaves (taken.fits c.if-not-taken.false)
    (ready_looked g.O.Object t c.args.held.now c.args.ticket _ c.args.seat.now mid looked.of looked.seat c.requires.ready) in
    let stored = c.in_ok-store_set.ensures.stored in
    let counted = subst (CountsTaken mid c.take.new.seat) c.if-not-taken.false c.in_ok-taken.ensures.taken.counted in
    let read = ap (λ (s : Seated). sets_read s.known.sets) e.rest ∙ counted ∙ ap (λ (s : Seated). sets_read s.known.sets + 1) looked.seat in
    let untouched = ap (λ (s : Seated). s.known.accesses) c.take.ensures.leaves.seat ∙ ap (λ (s : Seated). s.known.accesses) looked.seat in
    record {
      replayed = record { is_held = stored.ready.is_held; image = stored.ready.image; place = stored.ready.place ∙ ap (λ n. n + 1) before.place };
      brought = record {
        counted = read;
        brought = record {
          by = record {
            noted = subst (λ ns. IsNotedSet ns c.args.ticket c.take.new.into) (sym (ap (λ (s : Seated). s.known.sets) e.rest)) (taken.noted c.if-not-taken.false);
            read = read;
            accesses = stored.stores ∙ ap (λ ns. ns ++ set_stores c.take.new.into) untouched;
          };
          stores = stored_since g.O.Object t c.args.held.now c.args.ticket _ c.args.seat.now mid c.take.new.seat c.store_set.new.seat c.take.new.into looked.seat c.take.ensures.leaves stored.done;
        };
      };
      leaves = leaves_stored t c.args.held.now.replica c.args.seat.now c.take.new.seat c.store_set.new.seat
          (leaves_behind t c.args.held.now.replica _ c.args.seat.now mid c.take.new.seat looked.of looked.seat c.take.ensures.leaves) e.still.of e.rest e.since;
    }
