use Rattle.std.proofs.Common.{of_z, rules, subst, sym, to_z, w32}
use Rattle.githoppu_c.specs.Again.{ContentComesBack}
use Rattle.githoppu_c.specs.Closings.{WritesRemains}
use Rattle.githoppu_c.specs.Contents.{IsContentCallable}
use Rattle.githoppu_c.specs.declared.content.HandleState.{HandleState}
use Rattle.githoppu_c.proofs.TakenUp.{left_image}
use Rattle.githoppu_c.proofs.content.HandleState.image.Goals as goal

-- Where the status of writing an image of a closed service is 0, its words are an image as `IsLeftImage` says.
pub returns-in-Closed-clause-back : goal.returns-in-Closed-clause-back
returns-in-Closed-clause-back g c =
    let o = g.O.Object in
    let kind = g.O.OfC.KIND in
    let replies = g.O.OfC.replies_kept in
    let r = c.in-Closed.remains in
    let choice = c.args.choice in
    let after = c.write_to.new in
    let code = to_z w32 (of_z w32 c.write_to.result) in
    let from = subst (IsContentCallable o replies) c.in-Closed.is c.requires.callable in
    let table = from.0 in
    let closed = from.1 in
    let writes : WritesRemains kind r choice c.args.words.now after.words after.needed code = search rules in
    let whole = c.closed_tables_are_whole.ensures.whole table closed.seats r closed.is.opened closed.is.leaves in
    let law = c.written_images_are_taken_up.ensures in
    subst (λ (s : HandleState _). ContentComesBack o kind replies choice after.words code s) (sym c.in-Closed.is)
    (λ done. left_image o kind replies choice c.args.words.now after.words after.needed code r table closed from.2 writes done
    (law.headed r kind choice after.words g.met.O.OfC.known whole)
    (λ answer. law.taken_up table closed.seats r kind choice after.words answer closed.is.opened closed.is.leaves)
    (λ base. c.written_images_keep_replies.ensures replies table closed.seats r kind choice after.words base closed.is.opened closed.is.leaves))
