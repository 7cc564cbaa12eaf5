use Rattle.std.proofs.Common.{false, ◌≡◌, ◌+◌, ◌*◌, ◌/◌, ◌<◌, ◌≤◌, inl, ap, sym, subst, ◌∙◌, arith, length}
use Rattle.std.proofs.lemmas.Bool.{false≢true}
use Rattle.std.proofs.lemmas.List.{get_or_append_left, length-take-le}
use Rattle.cx_core.specs.Region.{region_words}
use Rattle.table_invariant.specs.declared.rule.Known.{Known}
use Rattle.table_invariant.specs.Seats.{Seated}
use Rattle.line_lanes.specs.Lines.{DiffersInLine}
use Rattle.replica.specs.Copies.{AreSeen, CopiesOn, EndsPart, HoldsBothIn, IsCopiedTo, LoadsAtMost, unchanged_by_copy}
use Rattle.replica.proofs.CopySteps.{at_err, loads_fewer, loads_most, loads_on, short_on}
use Rattle.replica.proofs.LineCopies.{on_same_line, on_stored_line}
use Rattle.replica.proofs.copy.copy_piece.Goals.{then-differs-line+in_ok-store_line, else-differs-line}
use Rattle.replica.proofs.copy.copy_piece.Goals as goal

pub loop-line-init : goal.loop-line-init
loop-line-init g c =
    let now = c.in_ok-load_piece.ensures in
    let none : c.args.from ≡ c.args.from + 0 = omega arith in
    record {
      both = now.leaves.both;
      seen = λ i least below. now.loaded.seen i least (omega (arith, below));
      copied = λ skips region first below kept copied. subst (λ n. IsCopiedTo skips n region first c.load_piece.new.seat.known) none (now.loaded.copied skips region first (omega (arith, below)) (λ i least under. absurd (omega (arith, least, under))) copied);
      counts = loads_most (2 * length c.args.held_words.now) c.args.seat.now.known c.load_piece.new.seat.known now.steps;
      bound = (let most = now.steps.0 in omega (arith, most));
      since = now.leaves.since;
      rest = now.leaves.rest;
    }

pub loop-line-preserved : goal.loop-line-preserved
loop-line-preserved g c =
    let t = c.args.shared.now in
    let was = c.loop-line.invariant in
    let from = c.args.from in
    let line = c.loop-line.line in
    let us = c.load_piece.new.held_words in
    let vs = c.load_piece.new.source_words in
    let n = length us in
    let most = 2 * length c.args.held_words.now in
    let before = c.args.seat.now.known in
    let known = c.loop-line.seat.known in
    let in_line : 8 * line + 8 ≤ n = omega (arith, c.loop-line-test.true) in
    elim c.if-differs-line.branch [
      | then-differs-line+in_ok-store_line w ↦ (
          let after = w.in_ok-store_line.ensures in
          let now = w.seat-is in
          let knows = ap (λ (s : Seated). s.known) now in
          record {
            both = subst (λ (s : Seated). HoldsBothIn g.O.Object t s c.args.held.now c.args.source.now) (sym now) after.leaves.both;
            seen = subst (λ (k : Known). AreSeen from (8 * (line + 1)) n us vs k) (sym knows) (λ i least below. after.stored.seen i (omega (arith, least)) below);
            copied = subst (λ (k : Known). CopiesOn from (from + 8 * (line + 1)) before k) (sym knows) (on_stored_line from line before known w.store_line.new.seat.known was.copied after.stored.copied);
            counts = subst (λ (k : Known). LoadsAtMost most before k) (sym knows) (loads_on most 0 most before known w.store_line.new.seat.known (omega arith) was.counts after.ends.counts);
            bound = (let is = ap (λ (k : Known). k.local.steps) knows in let before = was.bound in let most = after.ends.bound in omega (arith, is, before, most));
            since = (let is = ap (λ (s : Seated). s.known.local.steps) now in let before = was.since in let more = after.leaves.since in omega (arith, is, before, more));
            rest = ap unchanged_by_copy now ∙ after.leaves.rest ∙ was.rest;
          })
      | else-differs-line w ↦ (
          let now = w.seat-is in
          let knows = ap (λ (s : Seated). s.known) now in
          let lines : n / 8 ≤ 8 = omega (arith, c.requires.lines.few) in
          let marked : line < length c.differing.new.out = subst (λ m. line < m) (sym (c.differing.auto.out ∙ length-take-le _ _ lines)) c.loop-line-test.true in
          let none : ¬ DiffersInLine us vs line = λ d. false≢true (sym w.if-differs-line.false ∙ get_or_append_left c.differing.new.out _ false line marked ∙ (c.differing.ensures line marked).1 d) in
          record {
            both = subst (λ (s : Seated). HoldsBothIn g.O.Object t s c.args.held.now c.args.source.now) (sym now) was.both;
            seen = subst (λ (k : Known). AreSeen from (8 * (line + 1)) n us vs k) (sym knows) (λ i least below. was.seen i (omega (arith, least)) below);
            copied = subst (λ (k : Known). CopiesOn from (from + 8 * (line + 1)) before k) (sym knows) (on_same_line us vs from line n before known in_line none was.seen was.copied);
            counts = subst (λ (k : Known). LoadsAtMost most before k) (sym knows) was.counts;
            bound = (let same = ap (λ (k : Known). k.local.steps) knows in let most = was.bound in omega (arith, same, most));
            since = (let is = ap (λ (s : Seated). s.known.local.steps) now in let before = was.since in omega (arith, is, before));
            rest = ap unchanged_by_copy now ∙ was.rest;
          })
    ]

pub returns-clause-copied : goal.returns-clause-copied
returns-clause-copied g c =
    let end : c.args.from + 8 * c.loop-line.line ≡ c.args.from + length c.args.held_words.now = omega (arith, c.loop-line-test.false, c.loop-line.auto.line-end, c.requires.lines.whole) in
    subst (λ m. CopiesOn c.args.from m c.args.seat.now.known c.loop-line.seat.known) end c.loop-line.invariant.copied

pub returns-in_err-load_piece-clause-ends : goal.returns-in_err-load_piece-clause-ends
returns-in_err-load_piece-clause-ends g c =
    let n = length c.args.held_words.now in
    let after = c.in_err-load_piece.ensures in
    let fewer = after.steps.0 in
    at_err _ c.from_residual.result (EndsPart (2 * n) (3 * n) (region_words (g.O.Object.line_count c.args.shared.now.object)) c.args.seat.now c.load_piece.new.seat) c.from_residual.ensures.1
    (λ e. record { counts = inl (loads_fewer (2 * n) c.args.seat.now.known c.load_piece.new.seat.known after.steps); bound = omega (arith, fewer); limit = after.halts })

pub returns-in_err-store_line-clause-ends : goal.returns-in_err-store_line-clause-ends
returns-in_err-store_line-clause-ends g c =
    let n = length c.args.held_words.now in
    let region = region_words (g.O.Object.line_count c.args.shared.now.object) in
    let was = c.loop-line.invariant in
    let after = c.in_err-store_line.ensures.ends in
    let before = was.bound in
    let most = after.bound in
    at_err _ c.from_residual-in_err-store_line.result (EndsPart (2 * n) (3 * n) region c.args.seat.now c.store_line.new.seat) c.from_residual-in_err-store_line.ensures.1 (λ e. record {
      counts = short_on (2 * n) 0 (2 * n) region c.args.seat.now.known c.loop-line.seat.known c.store_line.new.seat.known (omega arith) was.counts after.counts;
      bound = omega (arith, before, most, c.loop-line-test.true);
      limit = after.limit;
    })

pub returns-clause-ends : goal.returns-clause-ends
returns-clause-ends g c =
    let most = c.loop-line.invariant.bound in
    record { counts = c.loop-line.invariant.counts; bound = omega (arith, most, c.loop-line-test.false, c.loop-line.auto.line-end); limit = tt }
