use Rattle.std.proofs.Common.{sym, ◌∙◌}
use Rattle.doc_model.proofs.WordTexts.{key_from_test, key_passes}
use Rattle.doc_model.proofs.words.is_key.Goals as goal

pub returns-clause-rule : goal.returns-clause-rule
returns-clause-rule c = (λ yes. key_from_test c.args.key.now (sym c.passes_as_key.ensures ∙ yes), λ is. c.passes_as_key.ensures ∙ key_passes c.args.key.now is)
