use Rattle.std.proofs.Common.{◌≡◌, ◌==◌, true, cond, slice_index, slice_set, ap, sym, ◌∙◌, eq-eqb}
use Rattle.cx_core.specs.Layout.{lock_at}
use Rattle.cx_core.specs.LockEvents.{exclusive_mark, refused_by, taken}
use Rattle.cx_core.specs.State.{Instance, Scene}
use Rattle.core_events.proofs.lock_events.try_exclusive.Goals as goal

pub returns-in_ok-take : goal.returns-in_ok-take
returns-in_ok-take c = record {
  ok = λ step reads history.
      let l = c.args.local.now in
      let ws = c.args.words.now in
      let at = lock_at c.args.callers.number c.args.r in
      let found = slice_index ws at in
      let instance : Instance = record { callers = c.args.callers.number; base = c.args.base.now; step = step; reads = reads } in
      let scene : Scene = record { history = history; words = ws } in
      let none : found ≡ 0 = ap (slice_index ws) (sym c.lock_at-at.ensures) ∙ (c.is_free.ensures).0 c.if-is_free.true in
      let zero : (found == 0) ≡ true = eq-eqb found 0 none in (
        (c.can_try_exclusive.ensures).0 c.if-not-can_try_exclusive.false,
        c.in_ok-take.ensures.ok step reads history ∙ ap (λ b. cond b (taken instance scene c.args.r l) (refused_by c.args.callers.number c.args.r l found)) (sym zero),
        ap (λ n. slice_set ws n exclusive_mark) c.lock_at-at.ensures ∙ ap (λ b. slice_set ws at (cond b exclusive_mark found)) (sym zero),
      );
  err = tt;
}
