use Rattle.std.proofs.Common.{◌≡◌, ◌^◌, ◌<◌, ◌≤◌, ◌⊎◌, ◌∙◌, All, List, ℕ, length, ap, sym, subst, arith}
use Rattle.std.proofs.lemmas.List.FromFn.{length-map-range_with_len}
use Rattle.cx_core.specs.Base.{LawfulBase}
use Rattle.cx_core.specs.Recovered.{upgraded_region}
use Rattle.cx_core.specs.Region.{LawfulResults, object_part, place_of, region_words, slot_number}
use Rattle.cx_core.proofs.Upgrading.{recovered_lawful}
use Rattle.recovery.specs.Images.{image_word, region_start}
use Rattle.recovery.proofs.recovered_base.recover.Goals as goal

pub check_region-requires : goal.check_region-requires
check_region-requires g c =
    let image = c.args.image.now in
    let long : length c.deref.result.now ≡ region_words image.lines =
    ap length c.deref.ensures.value ∙ ap length c.in-Ok.ensures ∙ length-map-range_with_len (image_word image.pairs) (region_start image) (region_words image.lines) in
    omega (arith, long, c.requires.enough)

pub upgraded-requires-clause-size : goal.upgraded-requires-clause-size
upgraded-requires-clause-size g c =
    let image = c.args.image.now in
    let long : length c.in-Ok.words.items ≡ region_words image.lines =
    ap length c.in-Ok.ensures ∙ length-map-range_with_len (image_word image.pairs) (region_start image) (region_words image.lines) in
    omega (arith, long, c.requires.enough)

pub upgraded-requires-clause-lawful : goal.upgraded-requires-clause-lawful
upgraded-requires-clause-lawful g c =
    let o = c.args.object.now in
    subst (λ (ws : List ℕ). g.O.Object.lawful o (object_part ws) ⊎ (g.O.Object.old_format o).lawful (object_part ws)) c.deref.ensures.value c.in_ok-check_region.ensures.checks.body.object

pub returns-clause-lawful : goal.returns-clause-lawful
returns-clause-lawful g c = λ within. (
    let o = c.args.object.now in
    let image = c.args.image.now in
    let old = g.O.Object.old_format o in
    let checks = c.in_ok-check_region.ensures.checks in
    let region : List ℕ = c.in-Ok.words.items in
    let is : c.deref.result.now ≡ region = c.deref.ensures.value in
    let same : c.of.result ≡ upgraded_region old region = c.of.ensures ∙ c.upgraded.ensures in
    let lines : region_words image.lines ≡ region_words (g.O.Object.line_count o) = ap region_words c.requires.of in
    let long = ap length c.in-Ok.ensures ∙ length-map-range_with_len (image_word image.pairs) (region_start image) (region_words image.lines) in
    subst (λ (ws : List ℕ). LawfulBase (g.O.Object.line_count o) (g.O.Object.lawful o) (record { place = c.root_place-place.result; words = ws })) (sym same)
    (recovered_lawful (g.O.Object.line_count o) (g.O.Object.version_number o) (g.O.Object.lawful o) old (g.met.O.Object.takes_over o) (g.met.O.Object.shape o) region c.root_place-place.result
    (record { long = long ∙ lines; fit = subst (All (λ w. w < 2 ^ 64)) is c.check_region.ensures.words.fit })
    (ap place_of (sym is) ∙ checks.at_place)
    c.if-place-gt-PLACE_MOST.false
    (subst LawfulResults is checks.body.results)
    (subst (λ (ws : List ℕ). g.O.Object.lawful o (object_part ws) ⊎ old.lawful (object_part ws)) is checks.body.object)
    (λ caller few. subst (λ (ws : List ℕ). slot_number caller ws ≤ c.root_place-place.result) same (within caller few))))
