use Rattle.std.proofs.Common.{ap, refl, ◌∙◌}
use Rattle.table_invariant.specs.Fitting.{has_of}
use Rattle.table_invariant.specs.Seats.{Seated}
use Rattle.table_invariant.proofs.Stepping.{on_then}
use Rattle.cx_attempts.proofs.Bringing.{counts_around}
use Rattle.cx_attempts.proofs.Kept.{held_same, shows_same}
use Rattle.cx_attempts.proofs.Working.{still_bringing}
use Rattle.replica.specs.Laws.{image_same}
use Rattle.cx_attempts.proofs.replay.bring_up.Goals as goal

pub settle-requires : goal.settle-requires
settle-requires g c =
    let t = c.args.shared.now in
    let e = c.in_ok-unguard.ensures.keeps in
    let done = c.in_ok-replied.ensures in
    let was = done.replayed.ready in
    let mid = c.replay_to.new.seat in
    let last = c.unguard.new.seat in
    let accesses = ap (λ (s : Seated). s.known.accesses) e.rest in
    let has = ap (λ (s : Seated). has_of s.known) e.rest in
    let number = ap (λ (s : Seated). s.known.local.number) e.rest in
    record {
      may = record {
        ready = record {
          is_held = held_same g.O.Object t mid last c.args.held.now e.seat (ap (λ (s : Seated). s.known.local.exclusive) e.rest) number has accesses was.is_held;
          image = image_same (g.O.Object.line_count t.object) (g.O.Object.lawful t.object) t.base (g.O.Object.step t.object) mid.known last.known has accesses was.image;
          place = refl;
        };
        replied = λ own. shows_same g.O.Object t mid last c.args.held.now has accesses number c.replay_to.new.reply (done.replayed.replied own);
      };
    }

pub returns-clause-counted : goal.returns-clause-counted
returns-clause-counted g c =
    counts_around c.args.scratch.now.taken c.replay_to.new.scratch.taken c.args.seat.now c.args.seat.now c.replay_to.new.seat c.settle.new.seat refl c.in_ok-replied.ensures.counted
    (ap (λ (s : Seated). s.known.sets) c.settle.ensures.keeps.rest ∙ ap (λ (s : Seated). s.known.sets) c.unguard.ensures.keeps.rest)

pub returns-clause-keeps : goal.returns-clause-keeps
returns-clause-keeps g c = record {
  seat = c.settle.ensures.keeps.seat;
  since = on_then c.args.seat.now c.unguard.new.seat c.settle.new.seat (on_then c.args.seat.now c.replay_to.new.seat c.unguard.new.seat c.replay_to.ensures.keeps.since c.unguard.ensures.keeps.since) c.settle.ensures.keeps.since;
  rest = still_bringing c.args.seat.now c.replay_to.new.seat c.unguard.new.seat c.settle.new.seat c.settle.ensures.keeps.rest c.unguard.ensures.keeps.rest c.replay_to.ensures.keeps.rest;
}
