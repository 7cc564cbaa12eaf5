-- What is recovered of an image of version 1: its pairs, each with revision 1.
use Rattle.std.proofs.Common.{◌≡◌, ◌∙◌, ◌≤◌, ℕ, List, Some, length, sym, ap, arith}
use Rattle.std.proofs.lemmas.List.FromFn.{length-map-range_with_len}
use Rattle.cx_base.specs.Store.{Store}
use Rattle.cx_core.specs.Recovered.{upgraded_region, version_of}
use Rattle.cx_core.specs.Region.{object_part, region_words}
use Rattle.cx_core.specs.declared.entry.Image.{Image}
use Rattle.doc_model.specs.Revisions.{RevisedStore}
use Rattle.doc_store.specs.ExactStep.{first_format}
use Rattle.doc_text.specs.declared.recovered.Recovered.{Recovered}
use Rattle.index_validation.specs.Layout.{StandsFor}
use Rattle.index_validation.specs.Reading.{revised_in}
use Rattle.recovery.specs.Images.{image_word, region_of, region_start}
use Rattle.word_index.specs.Upgrading.{first_revisions, upgraded_in}
use Rattle.word_index.proofs.Upgrades.{is_migrated}
use Rattle.doc_commands.specs.Documents.{IsRecoveredOf}
use Rattle.doc_commands.proofs.Upgraded.{part_there, upgraded_old}

pub region_long : (image : Image) → 1168 ≤ length (region_of image)
region_long image =
    let long = length-map-range_with_len (image_word image.pairs) (region_start image) (region_words image.lines) in
    omega (arith, long)

pub first_documents : (image : Image) (found : Recovered) (store : Store) → IsRecoveredOf image found → StandsFor (object_part (region_of image)) 1 store
    → found.documents ≡ (first_revisions store).triples
first_documents image found store is stands =
    let region = region_of image in
    let old = first_format image.lines in
    let part : List ℕ = upgraded_in (object_part region) in
    let begins : old.version ≡ Some (version_of region) = ap Some (sym stands.arranged.version_word) in
    let there : object_part (upgraded_region old region) ≡ part = ap object_part (upgraded_old old region begins) ∙ part_there region part (region_long image) in
    let now = (is_migrated (object_part region)).pairs store stands in
    ap (λ (s : RevisedStore). s.triples) (sym is.has_documents.documents.1.revised ∙ ap revised_in there ∙ now.revised)
