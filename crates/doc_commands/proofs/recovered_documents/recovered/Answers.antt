use Rattle.std.proofs.Common.{◌≡◌, ◌≤◌, ℕ, length, subst, sym}
use Rattle.cx_core.specs.declared.entry.Base.{Base}
use Rattle.cx_core.specs.declared.entry.Image.{Image}
use Rattle.doc_store.specs.ExactStep.{IsImageOfStore, first_format}
use Rattle.recovery.specs.Images.{region_of}
use Rattle.recovery.specs.Recovery.{IsRecovered}
use Rattle.doc_commands.proofs.FirstRevisions.{region_long}
use Rattle.doc_commands.proofs.OneAnswer.{answered, part_is_image}
use Rattle.doc_commands.proofs.Upgraded.{recovered_long}
use Rattle.doc_commands.proofs.recovered_documents.recovered.Goals as goal

recovered_here : (image : Image) (base : Base) (lines : ℕ) → lines ≡ image.lines → IsRecovered 2 (IsImageOfStore lines) (first_format lines) image base
    → IsRecovered 2 (IsImageOfStore image.lines) (first_format image.lines) image base
recovered_here image base lines same is = subst (λ (n : ℕ). IsRecovered 2 (IsImageOfStore n) (first_format n) image base) same is

pub found_in-requires-clause-words : goal.found_in-requires-clause-words
found_in-requires-clause-words c =
    let image = c.args.image.now in
    let is = recovered_here image c.in_ok-base.base c.of.result.lines c.of.ensures c.in_ok-base.ensures.recovers in
    subst (λ (b : Base). 1168 ≤ length b.words) (sym is.is) (recovered_long (first_format image.lines) (region_of image) (region_long image))

pub found_in-requires-clause-lawful : goal.found_in-requires-clause-lawful
found_in-requires-clause-lawful c =
    let image = c.args.image.now in
    let is = recovered_here image c.in_ok-base.base c.of.result.lines c.of.ensures c.in_ok-base.ensures.recovers in
    (image.lines, part_is_image image c.in_ok-base.base (region_long image) is)

pub returns : goal.returns
returns c =
    let image = c.args.image.now in
    let is = recovered_here image c.in_ok-base.base c.of.result.lines c.of.ensures c.in_ok-base.ensures.recovers in
    answered image c.in_ok-base.base c.found_in.result (region_long image) is c.found_in.ensures.found c.found_in.ensures.replies
