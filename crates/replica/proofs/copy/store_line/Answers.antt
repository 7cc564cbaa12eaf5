use Rattle.std.proofs.Common.{◌≡◌, ◌+◌, ◌<◌, inr, length, refl, ap, sym, subst, ◌∙◌, arith, slice_index}
use Rattle.cx_core.specs.Region.{region_words}
use Rattle.table_invariant.specs.declared.rule.Known.{Known}
use Rattle.table_invariant.specs.Running.{instance_at}
use Rattle.cx_core.specs.declared.kinds.Kind.TheVariants.{StoreWord}
use Rattle.table_invariant.specs.Seats.{IsAtLimit, Seated, known_after}
use Rattle.replica.specs.Copies.{AreSeen, CopiesOn, EndsPart, HoldsBothIn, LoadsAtMost, SomeDiffers, unchanged_by_copy}
use Rattle.replica.proofs.CopySteps.{at_err, loads_on, store_counts}
use Rattle.replica.proofs.LineCopies.{on_over, on_same, seen_behind}
use Rattle.replica.proofs.copy.store_line.Goals.{then-held_words-i+in_ok-store_copied, else-held_words-i}
use Rattle.replica.proofs.copy.store_line.Goals as goal

pub loop-i-preserved : goal.loop-i-preserved
loop-i-preserved g c =
    let t = c.args.shared.now in
    let instance = instance_at t g.O.Object.step g.O.Object.only_reads in
    let was = c.loop-i.invariant in
    let i = c.loop-i.i in
    let us = c.args.held_words.now in
    let vs = c.args.source_words.now in
    let n = length us in
    let start = c.args.from + c.args.first in
    let below : i < n = omega (arith, c.loop-i-test.true, c.loop-i.auto.i-end, c.requires.line.line) in
    let before = c.args.seat.now.known in
    let known = c.loop-i.seat.known in
    elim c.if-held_words-i.branch [
      | then-held_words-i+in_ok-store_copied w ↦ (
          let after = w.in_ok-store_copied.ensures in
          let now = w.seat-is in
          let knows = ap (λ (s : Seated). s.known) now ∙ after.known in
          record {
            both = subst (λ (s : Seated). HoldsBothIn g.O.Object t s c.args.held.now c.args.source.now) (sym now) after.leaves.both;
            seen = subst (λ (k : Known). AreSeen c.args.from (i + 1) n us vs k) (sym knows) (seen_behind instance c.args.held.now.replica us vs c.args.from n i (slice_index vs i) known was.seen);
            copied = subst (λ (k : Known). CopiesOn start (c.args.from + (i + 1)) before k) (sym knows)
                (on_over instance c.args.held.now.replica us vs start c.args.from i n before known (omega arith) below w.if-held_words-i.true was.seen was.copied);
            counts = subst (λ (k : Known). LoadsAtMost 0 before k) (sym knows) (loads_on 0 0 0 before known (known_after instance (StoreWord c.args.held.now.replica (c.args.from + i) (slice_index vs i)) known 0) refl was.counts (store_counts instance c.args.held.now.replica (c.args.from + i) (slice_index vs i) known));
            bound = (let one = ap (λ (k : Known). k.local.steps) knows in let most = was.bound in omega (arith, one, most));
            since = (let is = ap (λ (s : Seated). s.known.local.steps) now in let before = was.since in let more = after.leaves.since in omega (arith, is, before, more));
            rest = ap unchanged_by_copy now ∙ after.leaves.rest ∙ was.rest;
          })
      | else-held_words-i w ↦ (
          let now = w.seat-is in
          let knows = ap (λ (s : Seated). s.known) now in
          record {
            both = subst (λ (s : Seated). HoldsBothIn g.O.Object t s c.args.held.now c.args.source.now) (sym now) was.both;
            seen = subst (λ (k : Known). AreSeen c.args.from (i + 1) n us vs k) (sym knows) (λ k least within. was.seen k (omega (arith, least)) within);
            copied = subst (λ (k : Known). CopiesOn start (c.args.from + (i + 1)) before k) (sym knows) (on_same us vs start c.args.from i n before known below w.if-held_words-i.false was.seen was.copied);
            counts = subst (λ (k : Known). LoadsAtMost 0 before k) (sym knows) was.counts;
            bound = (let same = ap (λ (k : Known). k.local.steps) knows in let most = was.bound in omega (arith, same, most));
            since = (let is = ap (λ (s : Seated). s.known.local.steps) now in let before = was.since in omega (arith, is, before));
            rest = ap unchanged_by_copy now ∙ was.rest;
          })
    ]

pub returns-clause-stored : goal.returns-clause-stored
returns-clause-stored g c =
    let start = c.args.from + c.args.first in
    let end : c.args.from + c.loop-i.i ≡ start + 8 = omega (arith, c.loop-i-test.false, c.loop-i.auto.i-end) in
    record {
      seen = λ i least below. c.loop-i.invariant.seen i (omega (arith, end, least)) below;
      copied = subst (λ m. CopiesOn start m c.args.seat.now.known c.loop-i.seat.known) end c.loop-i.invariant.copied;
    }

pub returns-in_err-store_copied-clause-ends : goal.returns-in_err-store_copied-clause-ends
returns-in_err-store_copied-clause-ends g c =
    let region = region_words (g.O.Object.line_count c.args.shared.now.object) in
    let was = c.loop-i.invariant in
    let i = c.loop-i.i in
    let us = c.args.held_words.now in
    let below : i < length us = omega (arith, c.loop-i-test.true, c.loop-i.auto.i-end, c.requires.line.line) in
    let differs : SomeDiffers region c.loop-i.seat.known = record {
      at = c.args.from + i;
      within = omega (arith, below, c.requires.line.piece.within);
      held = slice_index us i;
      source = slice_index c.args.source_words.now i;
      apart = c.if-held_words-i.true;
      seen = was.seen i (omega arith) below;
    } in
    let halted = c.in_err-store_copied.ensures.halted in
    let same = ap (λ (s : Seated). s.known.local.steps) halted.same in
    let most = was.bound in
    at_err _ c.from_residual.result (EndsPart 0 8 region c.args.seat.now c.store_copied.new.seat) c.from_residual.ensures.1 (λ e. record {
      counts = inr (subst (λ (s : Seated). SomeDiffers region s.known) (sym halted.same) differs);
      bound = omega (arith, same, most, c.loop-i-test.true);
      limit = subst (λ (s : Seated). IsAtLimit s.known.local) (sym halted.same) halted.limit;
    })

pub returns-clause-ends : goal.returns-clause-ends
returns-clause-ends g c =
    let most = c.loop-i.invariant.bound in
    record { counts = c.loop-i.invariant.counts; bound = omega (arith, most, c.loop-i-test.false, c.loop-i.auto.i-end); limit = tt }
