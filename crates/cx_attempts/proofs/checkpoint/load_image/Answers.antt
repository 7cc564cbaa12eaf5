use Rattle.std.proofs.Common.{◌<◌, length, subst, sym, take, arith}
use Rattle.std.proofs.lemmas.Result.{MatchResult-weaker}
use Rattle.table_invariant.specs.Seats.{IsAtLimit}
use Rattle.cx_attempts.specs.Checkpointing.{LoadsImage}
use Rattle.cx_attempts.proofs.Answered.{only_err}
use Rattle.cx_attempts.proofs.Images.{all_loaded, image_loaded, none_loaded, put_words, rest_length}
use Rattle.cx_attempts.proofs.checkpoint.load_image.Goals as goal

pub returns-in_err-into-clause-loaded : goal.returns-in_err-into-clause-loaded
returns-in_err-into-clause-loaded g c =
    let halted = c.in_err-into.ensures.halted in
    only_err _ _ _ c.from_residual.result c.from_residual.ensures.1
    (none_loaded g.O.Object c.args.shared.now c.args.hold.now c.args.seat.now c.load_shared.new.seat c.requires.held halted.same, subst (λ s. IsAtLimit s.known.local) (sym halted.same) halted.limit)

pub returns-clause-loaded : goal.returns-clause-loaded
returns-clause-loaded g c =
    let t = c.args.shared.now in
    let o = g.O.Object in
    let h = c.args.hold.now in
    let first = c.args.seat.now in
    let mid = c.load_shared.new.seat in
    let last = c.load_shared_words.new.seat in
    let v = c.in_ok-into.field-0 in
    let ws = c.load_shared_words.new.into in
    let one = c.in_ok-into.ensures.made in
    let e = c.load_shared_words.ensures in
    let size = c.requires.held.sized.region in
    let some : 0 < length c.args.into.now = omega (arith, c.requires.words, size) in
    MatchResult-weaker c.load_shared_words.result e.loaded
    (λ _ run. subst (λ image. LoadsImage o t h image first last) (sym (put_words c.args.into.now v ws some)) (image_loaded o t h v ws first mid last one run (let count = rest_length c.args.into.now v ws some e.length in omega (arith, count, c.requires.words))))
    (λ _ halted. (all_loaded o t h v (take halted.some.0 ws) first mid last one halted.some.1, halted.limit))
