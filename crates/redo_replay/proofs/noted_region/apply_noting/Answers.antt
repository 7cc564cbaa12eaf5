use Rattle.std.proofs.Common.{◌+◌, ◌<◌, ◌≤◌, ◌^◌, refl, sym, subst}
use Rattle.cx_core.proofs.HistoryLemmas.{ObjectLaws}
use Rattle.table_invariant.specs.Offers.{TellsSet}
use Rattle.redo_replay.proofs.GapNotes.{accessed_noting, at_within, ready_noting, replied_noting, tells_noting}
use Rattle.redo_replay.proofs.NotingLaws.{noted_ready, noted_tells}
use Rattle.replica.proofs.Replaying.{can_step}
use Rattle.replica.specs.Replays.{noted_place}
use Rattle.redo_replay.proofs.noted_region.apply_noting.Goals as goal

pub step_noting-done-requires : goal.step_noting-done-requires
step_noting-done-requires g c = record {
  can = record {
    is_held = c.requires.ready.is_held;
    can = can_step g.O.Object c.args.shared.now c.args.held.now _ c.args.seat.now c.requires.ready c.requires.next.small;
    caller = c.requires.next.lawful.caller;
  };
  began = refl;
}

-- not each store was noted
pub returns-then-not-whole-clause-ready : goal.returns-then-not-whole-clause-ready
returns-then-not-whole-clause-ready g c =
    let t = c.args.shared.now in
    let e = c.step_noting-done.ensures in
    let laws : ObjectLaws (g.O.Object.line_count t.object) (g.O.Object.lawful t.object) (g.O.Object.step t.object) = record { keeps = g.met.O.Object.keeps t.object; shape = λ image law. (g.met.O.Object.shape t.object image law).0; replies = g.met.O.Object.replies t.object } in
    noted_ready g.O.Object t c.args.held.now c.args.entry.now c.step_noting-done.new.reply c.step_noting-done.new.set c.args.seat.now c.step_noting-done.new.seat laws
    c.step_noting-done.result.0 c.in_ok-done.field-0 c.in_ok-done.was c.requires.ready c.requires.next e.leaves e.done

pub note_gaps-requires : goal.note_gaps-requires
note_gaps-requires g c =
    let t = c.args.shared.now in
    let e = c.step_noting-done.ensures in
    let laws : ObjectLaws (g.O.Object.line_count t.object) (g.O.Object.lawful t.object) (g.O.Object.step t.object) = record { keeps = g.met.O.Object.keeps t.object; shape = λ image law. (g.met.O.Object.shape t.object image law).0; replies = g.met.O.Object.replies t.object } in
    let mid = c.step_noting-done.new.seat in
    let set = c.step_noting-done.new.set in
    let lawful = g.O.Object.lawful t.object in
    let step = g.O.Object.step t.object in
    let done = noted_ready g.O.Object t c.args.held.now c.args.entry.now c.step_noting-done.new.reply c.step_noting-done.new.set c.args.seat.now c.step_noting-done.new.seat laws
    c.step_noting-done.result.0 c.in_ok-done.field-0 c.in_ok-done.was c.requires.ready c.requires.next e.leaves e.done in
    let tells = noted_tells g.O.Object t c.args.held.now c.args.entry.now c.step_noting-done.new.reply c.step_noting-done.new.set c.args.seat.now c.step_noting-done.new.seat laws
    c.requires.ready done.0 e.leaves (subst (λ n. n ≤ 256) c.len-pairs.ensures.count c.len-pairs.ensures.few) (e.noted (cc)) in
    let here = subst (λ n. TellsSet n lawful t.base step mid.known (noted_place c.args.seat.now) set) (sym c.requires.ready.is_held.sized.lines_are) tells in
    record {
      may = record {
        of = e.leaves.still.of;
        small = subst (λ p. p < 2 ^ 40) (sym c.noted_place-ticket.ensures) c.requires.next.small;
        tells = subst (λ p. TellsSet t.lines lawful t.base step mid.known p set) (sym c.noted_place-ticket.ensures) here;
      };
    }

pub returns-in_err-note_gaps-clause-leaves : goal.returns-in_err-note_gaps-clause-leaves
returns-in_err-note_gaps-clause-leaves g c =
    accessed_noting g.O.Object c.args.shared.now c.args.held.now c.step_noting-done.new.seat c.note_gaps.new.seat c.note_gaps.ensures.leaves c.args.seat.now
    (at_within c.note_gaps.new.seat.known.local c.in_err-note_gaps.ensures.halts) c.step_noting-done.ensures.leaves

pub returns-clause-leaves : goal.returns-clause-leaves
returns-clause-leaves g c =
    accessed_noting g.O.Object c.args.shared.now c.args.held.now c.step_noting-done.new.seat c.note_gaps.new.seat c.note_gaps.ensures.leaves c.args.seat.now
    c.steps_are_within_limit.ensures c.step_noting-done.ensures.leaves

pub returns-clause-ready : goal.returns-clause-ready
returns-clause-ready g c =
    let t = c.args.shared.now in
    let e = c.step_noting-done.ensures in
    let laws : ObjectLaws (g.O.Object.line_count t.object) (g.O.Object.lawful t.object) (g.O.Object.step t.object) = record { keeps = g.met.O.Object.keeps t.object; shape = λ image law. (g.met.O.Object.shape t.object image law).0; replies = g.met.O.Object.replies t.object } in
    let done = noted_ready g.O.Object t c.args.held.now c.args.entry.now c.step_noting-done.new.reply c.step_noting-done.new.set c.args.seat.now c.step_noting-done.new.seat laws
    c.step_noting-done.result.0 c.in_ok-done.field-0 c.in_ok-done.was c.requires.ready c.requires.next e.leaves e.done in (
      ready_noting g.O.Object t c.args.held.now c.step_noting-done.new.seat c.note_gaps.new.seat c.note_gaps.ensures.leaves (noted_place c.args.seat.now + 1) done.0,
      replied_noting g.O.Object t c.args.held.now c.step_noting-done.new.seat c.note_gaps.new.seat c.note_gaps.ensures.leaves c.args.entry.now.caller c.step_noting-done.new.reply done.1,
    )

pub returns-clause-tells : goal.returns-clause-tells
returns-clause-tells g c = λ whole. (
    let t = c.args.shared.now in
    let e = c.step_noting-done.ensures in
    let laws : ObjectLaws (g.O.Object.line_count t.object) (g.O.Object.lawful t.object) (g.O.Object.step t.object) = record { keeps = g.met.O.Object.keeps t.object; shape = λ image law. (g.met.O.Object.shape t.object image law).0; replies = g.met.O.Object.replies t.object } in
    let done = noted_ready g.O.Object t c.args.held.now c.args.entry.now c.step_noting-done.new.reply c.step_noting-done.new.set c.args.seat.now c.step_noting-done.new.seat laws
    c.step_noting-done.result.0 c.in_ok-done.field-0 c.in_ok-done.was c.requires.ready c.requires.next e.leaves e.done in
    tells_noting g.O.Object t c.args.held.now c.step_noting-done.new.seat c.note_gaps.new.seat c.note_gaps.ensures.leaves (noted_place c.args.seat.now) c.step_noting-done.new.set
    c.requires.ready.is_held.sized.lines_are (noted_tells g.O.Object t c.args.held.now c.args.entry.now c.step_noting-done.new.reply c.step_noting-done.new.set c.args.seat.now c.step_noting-done.new.seat laws
    c.requires.ready done.0 e.leaves (subst (λ n. n ≤ 256) c.len-pairs.ensures.count c.len-pairs.ensures.few) (e.noted (cc))))
