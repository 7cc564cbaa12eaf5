use Rattle.std.proofs.Common.{◌≡◌, ◌≤◌, ◌+◌, ◌-◌, ◌^◌, length, take, unwrap_or, ap, sym, subst, ◌∙◌, arith}
use Rattle.std.proofs.lemmas.Bool.Decides.{Decides-eqb}
use Rattle.std.proofs.lemmas.List.{length-take-le}
use Rattle.std.proofs.lemmas.Slice.Eq.{slice_eq-Decides}
use Rattle.core_events.specs.Images.{OfCallers}
use Rattle.cx_core.specs.History.{image_from}
use Rattle.cx_core.specs.Merge.{history_of}
use Rattle.cx_core.specs.Region.{place_of}
use Rattle.cx_core.specs.State.{Instance}
use Rattle.core_events.proofs.ImageLemmas.{first_or, full_is, history_callers, history_few, take_callers}
use Rattle.core_events.proofs.images.is_full.Goals as goal

pub image_after-requires-clause-few : goal.image_after-requires-clause-few
image_after-requires-clause-few g c =
    let history = c.deref.result.now in
    let n = c.unwrap_or-place.result - c.args.base.now.place in
    let most : n ≤ length history = omega (arith, c.if-place-base-2.false, c.len.ensures, c.deref.ensures.len) in
    let is = c.deref.ensures.value ∙ c.in_ok-history.ensures in
    let few : c.args.base.now.place + length history ≤ 2 ^ 40 =
    subst (λ es. c.args.base.now.place + length es ≤ 2 ^ 40) (sym is) (history_few c.args.base.now.place c.args.locals.now c.requires.entries c.requires.base.place_within) in
    omega (arith, length-take-le n history most, few, most)

pub image_after-requires-clause-callers : goal.image_after-requires-clause-callers
image_after-requires-clause-callers g c =
    let n = c.unwrap_or-place.result - c.args.base.now.place in
    take_callers n c.deref.result.now (subst OfCallers (sym (c.deref.ensures.value ∙ c.in_ok-history.ensures)) (history_callers c.args.base.now.place c.args.locals.now c.requires.entries))

pub returns : goal.returns
returns g c = λ callers reads.
    let region = c.args.region.now in
    let step = g.O.Object.step c.args.object.now in
    let base = c.args.base.now in
    let instance : Instance = record { callers = callers; base = base; step = step; reads = reads } in
    let history = history_of base.place c.args.locals.now in
    let place : c.unwrap_or-place.result ≡ place_of region = c.unwrap_or-place.ensures ∙ ap (λ o. unwrap_or o 0) (c.copied.ensures ∙ c.first.ensures.value) ∙ first_or region in
    let same = c.deref.ensures.value ∙ c.in_ok-history.ensures in
    let long = ap length same in
    let image : c.as_slice.result.now ≡ image_from step base.words (take (place_of region - base.place) history) =
    c.as_slice.ensures.value ∙ c.in_ok-image.ensures
    ∙ ap (λ es. image_from step base.words (take (c.unwrap_or-place.result - base.place) es)) same
    ∙ ap (λ p. image_from step base.words (take (p - base.place) history)) place in
    let from : base.place ≤ place_of region = omega (arith, place, c.if-place-base.false) in
    let to : place_of region ≤ base.place + length history = omega (arith, place, long, c.if-place-base-2.false, c.len.ensures, c.deref.ensures.len) in
    let e = full_is instance history region c.as_slice.result.now from to image in
    let d = slice_eq-Decides Decides-eqb c.as_slice.result.now region c.eq.result c.eq.ensures in
    ((λ yes. e.0 (d.0 yes)), (λ full. d.1 (e.1 full)))
