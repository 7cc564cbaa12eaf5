use Rattle.std.proofs.Common.{inr, refl, subst, sym, ◌∙◌}
use Rattle.table_invariant.specs.Fitting.{IsKeptSet, IsSetWithin, has_of}
use Rattle.table_invariant.specs.Seats.{Seated}
use Rattle.replica.specs.Replays.{IsReady}
use Rattle.redo_replay.proofs.set_replay.replay_kept.Goals as goal

pub store_set-requires : goal.store_set-requires
store_set-requires g c =
    let into = c.take_kept.new.into in
    let took = c.if-not-take_kept.ensures in
    let ready = subst (λ (s : Seated). IsReady g.O.Object c.args.shared.now c.args.held.now c.args.ticket s) (sym took.same) c.requires.ready in
    let taken = subst (λ (s : Seated). IsKeptSet s.known.kept c.args.ticket into × IsSetWithin s.region into) (sym took.same) (took.taken refl) in
    record {
      ready = record { is_held = ready.is_held; image = ready.image; place = refl };
      next = record {
        had = subst (λ p. (has_of c.take_kept.new.seat.known).set p into) (sym ready.place) (inr (inr taken.0));
        within = subst (λ n. IsSetWithin n into) (ready.is_held.of.region ∙ ready.is_held.sized.region) taken.1;
      };
    }
