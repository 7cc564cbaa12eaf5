use Rattle.std.proofs.Common.{◌≡◌, ◌+◌, ◌*◌, ◌≤◌, inl, length, take, refl, sym, subst, ◌∙◌, arith}
use Rattle.std.proofs.lemmas.List.{length-take-le}
use Rattle.cx_core.specs.Region.{region_words}
use Rattle.replica.specs.Copies.{EndsCopy, IsCopiedTo, LoadsAtMost, skips_by}
use Rattle.replica.proofs.CopySteps.{at_err, loads_on, short_on}
use Rattle.replica.proofs.LineCopies.{copied_none, of_piece, overwritten, piece_next}
use Rattle.replica.proofs.copy.copy_marked.Goals as goal

pub loop-line-init : goal.loop-line-init
loop-line-init g c = record {
  both = c.requires;
  copied = copied_none (skips_by c.args.all c.args.marks.now) (region_words (g.O.Object.line_count c.args.shared.now.object)) c.args.seat.now.known;
  counts = omega arith;
  bound = omega arith;
  since = omega arith;
  rest = refl;
  within = omega arith;
  begins = inl refl;
  held_long = refl;
  source_long = refl;
}

pub returns-clause-copied : goal.returns-clause-copied
returns-clause-copied g c =
    let t = c.args.shared.now in
    let region = region_words (g.O.Object.line_count t.object) in
    let was = c.loop-line.invariant in
    let known = c.loop-line.seat.known in
    let count = c.lines-lines.ensures.value ∙ c.requires.exclusive.sized.lines_are in
    let all : 8 * c.loop-line.line ≡ region = omega (arith, was.within, c.loop-line-test.false, count) in
    record {
      copied = subst (λ n. IsCopiedTo (skips_by c.args.all c.args.marks.now) n region c.args.seat.now.known known) all was.copied;
      place = sym c.noted_place.ensures;
    }

pub copy_unskipped-requires-clause-piece : goal.copy_unskipped-requires-clause-piece
copy_unskipped-requires-clause-piece g c =
    let was = c.loop-line.invariant in
    let line = c.loop-line.line in
    let some = c.piece_lines-count.result in
    let few = c.piece_lines-count.ensures.few in
    let within : 8 * some ≤ length c.loop-line.held_words = omega (arith, few, was.held_long) in
    of_piece line some (146 + c.lines-lines.result) (length (take (8 * some) c.loop-line.held_words)) c.loop-line-test.true few c.piece_lines-count.ensures.first was.begins (length-take-le (8 * some) c.loop-line.held_words within)

pub loop-line-preserved : goal.loop-line-preserved
loop-line-preserved g c =
    let lines = g.O.Object.line_count c.args.shared.now.object in
    let was = c.loop-line.invariant in
    let line = c.loop-line.line in
    let some = c.piece_lines-count.result in
    let count = c.lines-lines.ensures.value ∙ c.requires.exclusive.sized.lines_are in
    let few = c.piece_lines-count.ensures.few in
    let within : 8 * some ≤ length c.loop-line.held_words = omega (arith, few, was.held_long) in
    let within' : 8 * some ≤ length c.loop-line.source_words = omega (arith, few, was.source_long) in
    let long = length-take-le (8 * some) c.loop-line.held_words within in
    let long' = length-take-le (8 * some) c.loop-line.source_words within' in
    let next : 8 * line + length (take (8 * some) c.loop-line.held_words) ≡ 8 * (line + some) = omega (arith, long) in
    record {
      both = c.copy_unskipped.ensures.leaves.both;
      copied = subst (λ n. IsCopiedTo (skips_by c.args.all c.args.marks.now) n (region_words lines) c.args.seat.now.known c.copy_unskipped.new.seat.known) next
          (c.in_ok-copy_unskipped.ensures.copied (region_words lines) c.args.seat.now.known (omega (arith, long, count, c.piece_lines-count.ensures.left)) was.copied);
      counts = loads_on (16 * line) (2 * length (take (8 * some) c.loop-line.held_words)) (16 * (line + some)) c.args.seat.now.known c.loop-line.seat.known c.copy_unskipped.new.seat.known (omega (arith, long)) was.counts c.in_ok-copy_unskipped.ensures.ends.counts;
      bound = (let before = was.bound in let most = c.copy_unskipped.ensures.ends.bound in omega (arith, before, most, long));
      since = (let before = was.since in let more = c.copy_unskipped.ensures.leaves.since in omega (arith, before, more));
      rest = c.copy_unskipped.ensures.leaves.rest ∙ was.rest;
      within = c.piece_lines-count.ensures.left;
      begins = piece_next line some _ c.piece_lines-count.ensures.first c.piece_lines-count.ensures.more was.begins c.loop-line-test.true;
      held_long = overwritten (8 * some) c.loop-line.held_words c.copy_unskipped.new.held_words within (c.copy_unskipped.auto.held_words ∙ long) ∙ was.held_long;
      source_long = overwritten (8 * some) c.loop-line.source_words c.copy_unskipped.new.source_words within' (c.copy_unskipped.auto.source_words ∙ long') ∙ was.source_long;
    }

pub returns-in_err-copy_unskipped-clause-steps : goal.returns-in_err-copy_unskipped-clause-steps
returns-in_err-copy_unskipped-clause-steps g c =
    let lines = g.O.Object.line_count c.args.shared.now.object in
    let region = region_words lines in
    let some = c.piece_lines-count.result in
    let count = c.lines-lines.ensures.value ∙ c.requires.exclusive.sized.lines_are in
    let within : 8 * some ≤ length c.loop-line.held_words = omega (arith, c.piece_lines-count.ensures.few, c.loop-line.invariant.held_long) in
    let long = length-take-le (8 * some) c.loop-line.held_words within in
    at_err _ c.from_residual.result (EndsCopy (2 * region) region c.args.seat.now.known c.copy_unskipped.new.seat.known) c.from_residual.ensures.1
    (λ e. short_on (16 * c.loop-line.line) (2 * length (take (8 * some) c.loop-line.held_words)) (2 * region) region c.args.seat.now.known c.loop-line.seat.known c.copy_unskipped.new.seat.known
    (omega (arith, long, count, c.piece_lines-count.ensures.left)) c.loop-line.invariant.counts c.in_err-copy_unskipped.ensures.ends.counts)

pub returns-clause-steps : goal.returns-clause-steps
returns-clause-steps g c =
    let lines = g.O.Object.line_count c.args.shared.now.object in
    let count = c.lines-lines.ensures.value ∙ c.requires.exclusive.sized.lines_are in
    let all : 16 * c.loop-line.line ≡ 2 * region_words lines = omega (arith, c.loop-line.invariant.within, c.loop-line-test.false, count) in
    subst (λ n. LoadsAtMost n c.args.seat.now.known c.loop-line.seat.known) all c.loop-line.invariant.counts

pub returns-in_err-copy_unskipped-clause-bound : goal.returns-in_err-copy_unskipped-clause-bound
returns-in_err-copy_unskipped-clause-bound g c =
    let some = c.piece_lines-count.result in
    let count = c.lines-lines.ensures.value ∙ c.requires.exclusive.sized.lines_are in
    let within : 8 * some ≤ length c.loop-line.held_words = omega (arith, c.piece_lines-count.ensures.few, c.loop-line.invariant.held_long) in
    let long = length-take-le (8 * some) c.loop-line.held_words within in
    let before = c.loop-line.invariant.bound in
    let most = c.copy_unskipped.ensures.ends.bound in
    omega (arith, before, most, long, count, c.piece_lines-count.ensures.left)

pub returns-clause-bound : goal.returns-clause-bound
returns-clause-bound g c =
    let count = c.lines-lines.ensures.value ∙ c.requires.exclusive.sized.lines_are in
    let most = c.loop-line.invariant.bound in
    omega (arith, most, c.loop-line.invariant.within, c.loop-line-test.false, count)
