use Rattle.cx_lives.proofs.Recovering.{kept_in}
use Rattle.cx_lives.proofs.Legality.{lived, recorded}
use Rattle.cx_lives.proofs.lived_laws.lives_that_ran_have_lived.Goals as goal

pub returns : goal.returns
returns g c = λ life begun service report flagged remains crashed based is ran lost. (
    let m = g.O.TypedObject.meaning c.args.object.now in
    let keeps = lost.ends.crash.keeps in
    let next = crashed.next in
    let flagged_is_told = c.flags_may_be_set.ensures.is_told m.encoding life report flagged lost.flags.same in
    let ended =
    c.flags_may_be_set.ensures.ended life report flagged lost.flags.same
    (c.told_lives_have_ended.ensures m.encoding life service.base.place remains.trail.history remains.trail.locals report ran.works ran.is_told) in
    let rec_in = recorded based is ran lost flagged_is_told in
    let kept = kept_in lost.ends flagged lost.flags.kept_is lost.flags.items_are in
    lived based is ran lost flagged_is_told (g.O.Object.opening c.args.object.now) (g.met.O.TypedObject.has_meaning c.args.object.now) c.requires ended
    (c.replies_are_the_stores.ensures remains.callers keeps.s begun.store life flagged keeps.law rec_in)
    (c.kept_lives_go_on.ensures remains.callers keeps.s begun.store life flagged next keeps.law rec_in kept)
    (c.kept_bases_begin_the_next_life.ensures remains.callers keeps.s begun life flagged next keeps.law based rec_in kept))
