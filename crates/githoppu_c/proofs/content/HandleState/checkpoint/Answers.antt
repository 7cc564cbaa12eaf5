use Rattle.std.proofs.Common.{◌∙◌, of_z, rules, subst, sym, to_z, w32}
use Rattle.std.specs.Arc.{arc_value}
use Rattle.githoppu_c.specs.Again.{ContentTakenBack}
use Rattle.githoppu_c.specs.Checkpoints.{TakesAs}
use Rattle.githoppu_c.specs.Contents.{IsContentCallable}
use Rattle.githoppu_c.specs.declared.content.HandleState.{HandleState}
use Rattle.githoppu_c.proofs.Checkpointed.{region_in}
use Rattle.githoppu_c.proofs.content.HandleState.checkpoint.Goals as goal

-- Where the status of taking an image is 0, the base that was taken is read from its words, unless memory runs out.
pub returns-in-Session-clause-back : goal.returns-in-Session-clause-back
returns-in-Session-clause-back g c =
    let o = g.O.Object in
    let kind = g.O.OfC.KIND in
    let before = c.in-Session.session in
    let after = c.take_to.new in
    let code = to_z w32 (of_z w32 c.take_to.result) in
    let opened = (subst (IsContentCallable o g.O.OfC.replies_kept) c.in-Session.is c.requires.callable).0 in
    let takes : TakesAs o kind before after.session c.args.words.now after.words after.needed code = search rules in
    let law = c.taken_images_are_taken_up.ensures in
    let table = arc_value before.service in
    let running = c.take_to.ensures.running in
    subst (λ (s : HandleState _). ContentTakenBack o kind after.words code s) (sym c.in-Session.is)
    (λ done. (
    let has = region_in o kind before after.session after.words opened c.take_to.ensures.opened c.args.words.now after.needed code takes done in
    let head = law.headed table kind has.place has.region after.words g.met.O.OfC.known running has.written in
    record {
      running = running;
      has = has;
      of = record { headed = head.0; kind_is = head.1; lines_are = has.written.head.lines_are ∙ running.lines };
      up = λ answer. law.taken_up table kind has.place has.region after.words answer running has.base has.written;
    }))
