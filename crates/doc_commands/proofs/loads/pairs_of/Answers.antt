use Rattle.std.proofs.Common.{◌≡◌, ◌∙◌, ap, sym, subst, drop}
use Rattle.std.proofs.lemmas.Result.{IfOk-weaker}
use Rattle.cx_core.specs.Region.{object_part}
use Rattle.doc_store.specs.ExactStep.{IsImageOfStore}
use Rattle.index_validation.specs.Reading.{revised_in}
use Rattle.doc_commands.proofs.loads.pairs_of.Goals as goal

pub documents-requires : goal.documents-requires
unfolding object_part
documents-requires c =
    record { lawful = (1024, subst (IsImageOfStore 1024) (sym (c.split_at.ensures.back ∙ ap (drop 1168) c.as_slice.ensures)) c.requires.object) }

pub returns : goal.returns
unfolding object_part
returns c store stands =
    let part : c.split_at.result.1.now ≡ object_part c.args.base.now.words = c.split_at.ensures.back ∙ ap (drop 1168) c.as_slice.ensures in
    IfOk-weaker c.documents.result (λ pairs. pairs.items ≡ (revised_in c.split_at.result.1.now).triples) (λ pairs. pairs.items ≡ store.triples)
    (λ pairs is. is ∙ (ap (λ w. (revised_in w).triples) part ∙ ap (λ s. s.triples) stands.revised)) c.documents.ensures.pairs
