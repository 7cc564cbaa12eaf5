use Rattle.std.proofs.Common.{inl, inr, refl, subst, sym}
use Rattle.cx_core.specs.QueueEvents.{cell_of}
use Rattle.table_invariant.specs.Fitting.{has_of}
use Rattle.redo_replay.proofs.set_replay.replay_cell.Goals as goal

pub store_own_set-requires : goal.store_own_set-requires
store_own_set-requires g c =
    let ready = c.requires.ready in
    let offered = c.in-Some.ensures.some in
    record {
      ready = record { is_held = ready.is_held; image = ready.image; place = refl };
      next = record {
        few = offered.0;
        comes = record {
          had = subst (λ p. (has_of c.args.seat.now.known).set p (cell_of c.args.seat.now.known.local c.in-Some.cell).set) (sym ready.place) (inr (inl offered.1));
          within = c.is_within.ensures c.if-not-is_within.false;
        };
      };
    }
